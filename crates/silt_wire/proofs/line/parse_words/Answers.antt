use Rattle.silt_wire.proofs.Common.{sym, ◌∙◌}
use Rattle.silt_wire.proofs.Cuts.{asked-two, asked-three, asked-four, last-from_none}
use Rattle.silt_wire.proofs.line.parse_words.Goals as goal

pub returns-in_default-cut_word-clause-asked : goal.returns-in_default-cut_word-clause-asked
returns-in_default-cut_word-clause-asked c =
    asked-two c.args.value_len c.args.text.now c.in-Some.word.now c.in-Some.rest.now c.key_event.result
    c.in-Some.ensures.more c.in_default-cut_word.ensures.last c.key_event.ensures

pub returns-in_default-cut_word-2-clause-asked : goal.returns-in_default-cut_word-2-clause-asked
returns-in_default-cut_word-2-clause-asked c =
    asked-three c.args.value_len c.args.text.now c.in-Some.word.now c.in-Some-cut_word.key.now c.in-Some.rest.now c.in-Some-cut_word.rest.now c.value_event.result
    c.in-Some.ensures.more c.in-Some-cut_word.ensures.more c.in_default-cut_word-2.ensures.last c.value_event.ensures.asked

pub returns-clause-asked : goal.returns-clause-asked
returns-clause-asked c =
    let last = last-from_none c.cut_word-4.result (sym c.is_some.ensures ∙ c.if-is_some.false) c.cut_word-4.ensures.last in
    asked-four c.args.value_len c.args.text.now c.in-Some.word.now c.in-Some-cut_word.key.now c.in-Some.rest.now c.in-Some-cut_word-2.value.now
    c.in-Some-cut_word.rest.now c.in-Some-cut_word-2.rest.now c.swap_event.result
    c.in-Some.ensures.more c.in-Some-cut_word.ensures.more c.in-Some-cut_word-2.ensures.more last c.swap_event.ensures.asked
