use Rattle.silt_jobs.proofs.Common.{sym, ◌∙◌, last-from_none}
use Rattle.silt_jobs.proofs.Stops.{stop-three}
use Rattle.silt_jobs.proofs.jobs.stop.stop_of_words.Goals as goal

pub returns : goal.returns
returns c =
    let last = last-from_none c.cut_word-3.result (sym c.is_some.ensures ∙ c.if-is_some.false) c.cut_word-3.ensures.last in
    c.reported_stop.ensures ∙ sym (stop-three c.args.text.now c.in_ok-word.word.now c.in_ok-word.rest.now c.in_ok-k.k.now c.in_ok-k.fill.now c.in_ok-word.ensures.more c.in_ok-k.ensures.more last)
