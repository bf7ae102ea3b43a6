use Rattle.std.proofs.Common.{◌∙◌, ap, sym, ℕ, Bool, false, List, Bor, Option, option_map, codes}
use Rattle.std.specs.Option.{option_map_or}
use Rattle.std.specs.Str.{bytes_eq}
use Rattle.clap.specs.Words.{found_of}
use Rattle.silt_words.proofs.Matched.{first_is}
use Rattle.silt_words.proofs.words.is_given.Goals as goal

-- whether the text of a flag says that it is given
abbrev is_true : Option (List ℕ) → Bool
is_true text = option_map_or (λ (t : List ℕ). bytes_eq t (codes "true")) text false

pub returns-in-Some : goal.returns-in-Some
returns-in-Some c =
    c.eq.ensures
    ∙ ap is_true (ap (option_map (λ (text : Bor (List ℕ)). text.now)) (sym c.in-Some.is) ∙ c.get_str.ensures ∙ first_is (found_of c.args.matches.now) c.args.name.now)

pub returns-in-None : goal.returns-in-None
returns-in-None c = ap is_true (ap (option_map (λ (text : Bor (List ℕ)). text.now)) (sym c.in-None.is) ∙ c.get_str.ensures ∙ first_is (found_of c.args.matches.now) c.args.name.now)
