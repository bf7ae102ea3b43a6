-- Rows whose keys rise.
use Rattle.silt_sorted_store.proofs.Common.{◌≡◌, ℕ, zero, suc, ◌+◌, ◌-◌, ◌<◌, true, List, [], length, get_or, refl, inl, inr, sym, ap, ◌∙◌, arith, cases_order, StoredRow, keys_of}
use Rattle.silt_sorted_store.proofs.Common.{passes_where_nothing, RisingLaw}
use Rattle.std.specs.Ordering.{nat_cmp, is_lt}
use Rattle.std.specs.Cmp.Lexicographic.{slice_cmp}
use Rattle.std.specs.declared.cmp.Ordering.{Ordering}
use Rattle.std.specs.declared.cmp.Ordering.TheVariants.{Less, Equal, Greater}
use Rattle.std.proofs.lemmas.Cmp.{nat_list_cmp_total, tied_itself}
use Rattle.silt_sorted_store.specs.Findings.{entry_findings, sorted_findings}
use Rattle.silt_sorted_store.proofs.Ranges.{none_of_each}

-- the key at a place
abbrev pub key_at : List StoredRow → ℕ → List ℕ
key_at rows place = get_or (keys_of rows) place []

-- what the test of an order means
pub is_less : (o : Ordering) → is_lt o ≡ true → o ≡ Less
is_less Less is = refl
is_less Equal is = absurd (cc)
is_less Greater is = absurd (cc)

-- a key is not less than itself
pub not_below_itself : (a b : List ℕ) → a ≡ b → slice_cmp nat_cmp a b ≡ Less → ⊥
not_below_itself a b same below =
    let tied : slice_cmp nat_cmp a b ≡ Equal = ap (slice_cmp nat_cmp a) (sym same) ∙ tied_itself nat_list_cmp_total a in
    absurd (cc)

-- if there is no finding, each key is greater than the one before it
pub next_above : (rows : List StoredRow) (place : ℕ) → sorted_findings rows ≡ [] → place + 1 < length rows → slice_cmp nat_cmp (key_at rows place) (key_at rows (place + 1)) ≡ Less
unfolding sorted_findings
next_above rows place none inside =
    let before : place + 1 - 1 ≡ place = omega arith in
    let found = none_of_each (entry_findings rows) 1 (length rows - 1) none (place + 1) (omega arith) (omega arith) in
    search (arith, is_less, passes_where_nothing)

-- and above all before it
rising : (rows : List StoredRow) (low gap : ℕ) → sorted_findings rows ≡ [] → low + gap + 1 < length rows → slice_cmp nat_cmp (key_at rows low) (key_at rows (low + gap + 1)) ≡ Less
rising rows low zero none inside =
    let here : low + 0 ≡ low = omega arith in
    search (arith, next_above)
rising rows low (suc gap) none inside =
    let here : low + suc gap ≡ low + gap + 1 = omega arith in
    nat_list_cmp_total.trans (key_at rows low) (key_at rows (low + suc gap)) (key_at rows (low + suc gap + 1)) (search (arith, rising rows low gap none)) (next_above rows _ none inside)

-- a lower place has a lower key
pub lower_below : (rows : List StoredRow) (low high : ℕ) → sorted_findings rows ≡ [] → low < high → high < length rows → slice_cmp nat_cmp (key_at rows low) (key_at rows high) ≡ Less
lower_below rows low high none lower inside =
    let here : low + (high - low - 1) + 1 ≡ high = omega arith in
    ap (λ (p : ℕ). slice_cmp nat_cmp (key_at rows low) (key_at rows p)) (sym here) ∙ rising rows low (high - low - 1) none (omega arith)

-- a key has one place
pub one_place : (rows : List StoredRow) (place other : ℕ) → sorted_findings rows ≡ [] → place < length rows → other < length rows → key_at rows place ≡ key_at rows other → place ≡ other
one_place rows place other none inside_place inside_other same = elim (cases_order place other) [
  | inl one ↦ one
  | inr (inl lower) ↦ absurd (not_below_itself _ _ same (lower_below rows place other none lower inside_other))
  | inr (inr higher) ↦ absurd (not_below_itself _ _ (sym same) (lower_below rows other place none higher inside_place))
]

-- rows without a finding rise
pub rising_law : RisingLaw
rising_law rows none = search (arith, lower_below, one_place)
