use Rattle.std.proofs.Common.{◌∙◌, ap, sym, ℕ, List, Bor, option_map, option_and_then}
use Rattle.clap.specs.Words.{found_of}
use Rattle.silt_wire.specs.Numbers.{number_of}
use Rattle.silt_words.proofs.Matched.{first_is}
use Rattle.silt_words.proofs.words.number_at.Goals as goal

pub returns-in_err-get_str : goal.returns-in_err-get_str
returns-in_err-get_str c =
    c.from_residual.ensures
    ∙ ap (option_and_then number_of) (ap (option_map (λ (text : Bor (List ℕ)). text.now)) (sym c.in_err-get_str.was) ∙ c.get_str.ensures ∙ first_is (found_of c.args.matches.now) c.args.name.now)

pub returns : goal.returns
returns c =
    c.number_of.ensures ∙ ap number_of c.as_bytes.ensures.value
    ∙ ap (option_and_then number_of) (ap (option_map (λ (text : Bor (List ℕ)). text.now)) (sym c.in_ok-get_str.was) ∙ c.get_str.ensures ∙ first_is (found_of c.args.matches.now) c.args.name.now)
