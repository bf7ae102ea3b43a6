use Rattle.silt_jobs.proofs.Common.{rules, ◌≡◌, refl, set_value_len}
use Rattle.silt_jobs.proofs.SessionEnds.{plain_cores, tending_alike}
use Rattle.silt_jobs.proofs.jobs.sets.answer_cores.Goals as goal

pub answer_tended-requires-clause-alike : goal.answer_tended-requires-clause-alike
answer_tended-requires-clause-alike g c κs within = rw c.in-Ok.ensures.stores (tending_alike c.args.options.merge_at c.args.cores.items c.requires.alike)

pub returns : goal.returns
returns g c =
    let len : c.value_len_of-value_len.result ≡ set_value_len c.args.cores.items = search rules in
    plain_cores g.W.Write.contents g.W.KeepsError.kept_error g.W.KeepsTally.kept_tally c.args.options (g.R.KeepsError.kept_error c.answer_set-cores.new.reader)
    g.D.Disk _ _ _ _ _ _ c.end_session.result c.end_session.ensures c.args.cores.items c.answer_set-cores.result.0.items c.value_len_of-value_len.result
    c.if-options.false len refl refl c.answer_set-cores.ensures
