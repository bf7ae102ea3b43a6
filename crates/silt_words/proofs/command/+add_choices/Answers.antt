use Rattle.clap.specs.Words.{App}
use Rattle.silt_words.specs.Forms.{choice_rule, with_choices}
use Rattle.silt_words.proofs.Matched.{then_adds}
use Rattle.silt_words.proofs.command.+add_choices.Goals as goal

pub returns-in_ok-made-in-Some : goal.returns-in_ok-made-in-Some
returns-in_ok-made-in-Some t c =
    let more = then_adds (choice_rule c.in-Some.first.now) (λ (app : App). with_choices app c.in-Some.others.now) c.in_ok-made-in-Some.field-0 c.choice.result c.arg-added.result c.add_choices.result
    c.choice.ensures.rule c.choice.ensures.local c.arg-added.ensures c.add_choices.ensures in
    rw (c.in_ok-made-in-Some.was, c.in-Some.ensures.cases.0) more
