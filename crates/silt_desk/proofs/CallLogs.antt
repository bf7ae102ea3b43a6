-- A log that only grows, one entry more.
use Rattle.silt_desk.proofs.Common.{◌≡◌, ◌+◌, ◌<◌, ◌≤◌, ◌==◌, Bool, true, false, ◌++◌, length, refl, sym, subst, arith, length-append, None, rules, IsPrefix, AddsEntry, CountsLog}
use Rattle.std.proofs.Common.{ℕ, List, [], ◌∷◌}
use Rattle.std.proofs.lemmas.List.{append-nil}
use Rattle.std.proofs.lemmas.Bool.Decides.{nat_tests}
use prog.Atomic.{either}
use Rattle.logbook.specs.Pages.{Cell, cell, no_nib, step, Moves, Goes}

-- of two beginnings of one list the shorter begins the longer
pub prefix_shorter : {A : Type 0} (xs ys zs : List A) → IsPrefix xs zs → IsPrefix ys zs → length xs ≤ length ys → IsPrefix xs ys
prefix_shorter (x ∷ xs) (y ∷ ys) (z ∷ zs) p q le = search (arith, prefix_shorter xs ys zs (p.0, cc (p.1)) (q.0, cc (q.1)))
prefix_shorter xs ys zs p q le = search (rules, arith)

-- a beginning as long as the whole is the whole
pub prefix_whole : {A : Type 0} (xs ys : List A) → IsPrefix xs ys → length ys ≤ length xs → xs ≡ ys
prefix_whole [] [] p le = refl
prefix_whole (x ∷ xs) (y ∷ ys) p le = search (arith, prefix_whole xs ys (p.0, cc (p.1)))
prefix_whole xs ys p le = search rules

-- ---- the step that appends an entry

abbrev pub shown : {E : Type 0} → List E → List E
shown log = []

abbrev pub moved : {E : Type 0} → List E → List E → ℕ → Type 0
moved xs ys n = Unit {0}

pub adds_goes : {E : Type 0} (log v : List E) (e : E) (old : ℕ) → length v ≡ old → IsPrefix v log
    → (b : Bool) → (length log == old) ≡ b
    → Goes CountsLog (shown {E = E}) (moved {E = E}) 0 (v, (no_nib, None)) (λ n. either (n == old) (old + 1) n)
    (AddsEntry (step 0 old (old + 1) e) (v, (no_nib, None))) ((length log, true) ∷ (0, true) ∷ []) log
adds_goes log v e old len pre true is =
    let here : length log ≡ old = grind (arith, nat_tests) in
    let same : v ≡ log = prefix_whole v log pre (omega arith) in
    let n : either (length log == old) (old + 1) (length log) ≡ length (log ++ e ∷ []) = rw is (omega (arith, length-append log (e ∷ []))) in search arith
adds_goes log v e old len pre false is =
    let all : log ++ [] ≡ log = append-nil log in
    search (arith, either)

-- whatever the book is, the exchange adds the entry to all that was seen, or finds that the history is longer
pub adds_moves : {E : Type 0} (v : List E) (e : E) (old : ℕ) → length v ≡ old
    → Moves CountsLog (shown {E = E}) (moved {E = E}) 0 (v, (no_nib, None)) (λ n. either (n == old) (old + 1) n) (AddsEntry (step 0 old (old + 1) e) (v, (no_nib, None)))
adds_moves {E} v e old len cs log kept pre away =
    let P : List Cell → Type 0 = λ c. (0 < length c) × ((cell c 0).1 ≡ true)
    × Goes CountsLog (shown {E = E}) (moved {E = E}) 0 (v, (no_nib, None)) (λ n. either (n == old) (old + 1) n) (AddsEntry (step 0 old (old + 1) e) (v, (no_nib, None))) c log in
    subst P (sym kept.words) (omega arith, refl, adds_goes log v e old len pre (length log == old) refl)
