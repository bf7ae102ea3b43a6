use Rattle.std.proofs.Common.{◌≡◌, ◌∙◌, ap, sym, map, List, true, false, true≢false, string_bytes}
use Rattle.clap.specs.Words.{App, Text, fault_of, is_simple, is_simple_and_free, subcommand_of}
use Rattle.silt_words.specs.Commands.{job_met}
use Rattle.silt_words.proofs.Matched.{answered, refused_by, taken}
use Rattle.silt_words.proofs.words.read_words.Goals as goal

pub returns-in-Ok : goal.returns-in-Ok
returns-in-Ok c =
    let is = c.in_ok-command.ensures in
    let words : List Text = map string_bytes c.args.words.now in
    let faultless = ap (λ (app : App). fault_of app words) (sym is) ∙ c.in-Ok.ensures.kinds (ap is_simple_and_free is) in
    let met = (c.in-Ok.ensures.matches (ap is_simple is)).1 ∙ ap (λ (app : App). subcommand_of app words) is in
    rw c.ok_or.ensures.value (answered words c.job_met.result (c.job_met.ensures ∙ ap job_met met ∙ sym (taken words faultless)))

pub returns : goal.returns
returns c =
    let is = c.in_ok-command.ensures in
    let words : List Text = map string_bytes c.args.words.now in
    λ _. refused_by words _ c.in-Err.error is (c.in-Err.ensures.kinds (ap is_simple_and_free is)) (λ memory.
    let bad : true ≡ false = sym (rw (c.kind.ensures ∙ memory) at c.eq.ensures) ∙ c.if-eq.false in absurd (true≢false bad))
