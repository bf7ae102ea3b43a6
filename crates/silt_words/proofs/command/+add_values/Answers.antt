use Rattle.clap.specs.Words.{App}
use Rattle.silt_words.specs.Commands.{value_rule}
use Rattle.silt_words.specs.Forms.{with_names}
use Rattle.silt_words.proofs.Matched.{then_adds}
use Rattle.silt_words.proofs.command.+add_values.Goals as goal

pub returns-in_ok-made-in-Some : goal.returns-in_ok-made-in-Some
returns-in_ok-made-in-Some t c =
    let more = then_adds (value_rule c.in-Some.name.now.now) (λ (app : App). with_names app c.in-Some.others.now) c.in_ok-made-in-Some.field-0 c.value.result c.arg-added.result c.add_values.result
    c.value.ensures.rule c.value.ensures.local c.arg-added.ensures c.add_values.ensures in
    rw (c.in_ok-made-in-Some.was, c.in-Some.ensures.cases.0) more
