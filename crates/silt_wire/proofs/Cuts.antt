-- The words of a line, and what they ask for.
use Rattle.silt_wire.proofs.Common.{◌≡◌, ◌==◌, ◌+◌, ℕ, List, [], ◌∷◌, length, take, drop, Option, Some, None, is_some, false, Result, Err, refl, sym, ap, ◌∙◌, inl, arith, position}
use Rattle.silt_wire.proofs.Common.{fails_before_first, Event, LineFault, ◌≢◌, IfNone}
use Rattle.silt_wire.specs.Lines.{Parses, words_of, bare_event, key_event, value_event, swap_event, event_of}
use Rattle.std.proofs.lemmas.List.Splits.{slice_split_first, slice_split_none, length-slice_split}
use Rattle.silt_wire.specs.declared.line.LineFault.TheVariants.{BadLine}

-- the first word ends at the first space, and the other words come after it
pub words_of-cut : (text : List ℕ) (at : ℕ) → position (λ b. b == 32) text ≡ Some at → words_of text ≡ take at text ∷ words_of (drop (at + 1) text)
words_of-cut text at e = search (arith, slice_split_first)

-- with no space there is one word
pub words_of-whole : (text : List ℕ) → position (λ b. b == 32) text ≡ None → words_of text ≡ text ∷ []
words_of-whole text e = search (arith, slice_split_none, fails_before_first)

-- what one word asks for
pub asked-one : (len : ℕ) (text : List ℕ) (result : Result Event LineFault) → words_of text ≡ text ∷ [] → result ≡ bare_event text → Parses (event_of len (words_of text)) result
unfolding event_of
asked-one len text result words e = inl (e ∙ sym (ap (event_of len) words))

-- what two words ask for
pub asked-two : (len : ℕ) (text word rest : List ℕ) (result : Result Event LineFault) → words_of text ≡ word ∷ words_of rest → words_of rest ≡ rest ∷ []
    → result ≡ key_event word rest → Parses (event_of len (words_of text)) result
unfolding event_of
asked-two len text word rest result words last e = inl (e ∙ sym (ap (event_of len) (words ∙ ap (λ more. word ∷ more) last)))

-- what three words ask for
pub asked-three : (len : ℕ) (text word key rest value : List ℕ) (result : Result Event LineFault) → words_of text ≡ word ∷ words_of rest → words_of rest ≡ key ∷ words_of value
    → words_of value ≡ value ∷ [] → Parses (value_event len word key value) result → Parses (event_of len (words_of text)) result
unfolding event_of
asked-three len text word key rest value result words more last e = search arith

-- what four words ask for
pub asked-four : (len : ℕ) (text word key rest old most new : List ℕ) (result : Result Event LineFault) → words_of text ≡ word ∷ words_of rest
    → words_of rest ≡ key ∷ words_of most → words_of most ≡ old ∷ words_of new → words_of new ≡ new ∷ [] → Parses (swap_event len word key old new) result
    → Parses (event_of len (words_of text)) result
unfolding event_of
asked-four len text word key rest old most new result words more last end e = search arith

-- a line of five words or more is refused
event_of-many : (len : ℕ) (word key old new : List ℕ) (more : List (List ℕ)) → more ≢ [] → event_of len (word ∷ key ∷ old ∷ new ∷ more) ≡ Err BadLine
unfolding event_of
event_of-many len word key old new [] some = absurd (some refl)
event_of-many len word key old new (next ∷ more) some = refl

-- there is at least one word
pub words_of-some : (text : List ℕ) → words_of text ≢ []
words_of-some text e =
    let none : length (words_of text) ≡ 0 = ap length e in
    absurd (omega (arith, length-slice_split (λ b. b == 32) text))

pub asked-many : (len : ℕ) (text word key rest old most new last next : List ℕ) (result : Result Event LineFault) → words_of text ≡ word ∷ words_of rest
    → words_of rest ≡ key ∷ words_of most → words_of most ≡ old ∷ words_of last → words_of last ≡ new ∷ words_of next → result ≡ Err BadLine
    → Parses (event_of len (words_of text)) result
asked-many len text word key rest old most new last next result words more end four e = search (arith, event_of-many, words_of-some)

-- no more space was found
pub last-from_none : {A : Type 0} {P : Type 0} (found : Option A) → is_some found ≡ false → IfNone found P → P
last-from_none (Some x) e h = absurd (cc)
last-from_none None e h = h

-- the words of a text, by its first space
pub ruleset words_of_steps = (words_of-cut, words_of-whole)

-- what a line's words ask for, by their number
pub ruleset asked_steps = (asked-one, asked-many)
