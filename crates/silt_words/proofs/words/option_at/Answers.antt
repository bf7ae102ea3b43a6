use Rattle.std.proofs.Common.{◌∙◌, ap, sym, ℕ, List, Bor, Some, option_map}
use Rattle.clap.specs.Words.{found_of}
use Rattle.silt_wire.specs.Numbers.{number_of}
use Rattle.silt_words.specs.Commands.{number_given}
use Rattle.silt_words.proofs.Matched.{first_is}
use Rattle.silt_words.proofs.words.option_at.Goals as goal

pub returns-in_err-number_of-in-Some : goal.returns-in_err-number_of-in-Some
returns-in_err-number_of-in-Some c =
    c.from_residual.ensures
    ∙ ap (option_map (λ (number : ℕ). Some number)) (sym c.in_err-number_of-in-Some.was ∙ c.number_of.ensures ∙ ap number_of c.as_bytes.ensures.value)
    ∙ ap number_given (ap (option_map (λ (text : Bor (List ℕ)). text.now)) (sym c.in-Some.is) ∙ c.get_str.ensures ∙ first_is (found_of c.args.matches.now) c.args.name.now)

pub returns-in_ok-number_of-in-Some : goal.returns-in_ok-number_of-in-Some
returns-in_ok-number_of-in-Some c =
    ap (option_map (λ (number : ℕ). Some number)) (sym c.in_ok-number_of-in-Some.was ∙ c.number_of.ensures ∙ ap number_of c.as_bytes.ensures.value)
    ∙ ap number_given (ap (option_map (λ (text : Bor (List ℕ)). text.now)) (sym c.in-Some.is) ∙ c.get_str.ensures ∙ first_is (found_of c.args.matches.now) c.args.name.now)

pub returns-in-None : goal.returns-in-None
returns-in-None c = ap number_given (ap (option_map (λ (text : Bor (List ℕ)). text.now)) (sym c.in-None.is) ∙ c.get_str.ensures ∙ first_is (found_of c.args.matches.now) c.args.name.now)
