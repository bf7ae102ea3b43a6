-- The places that a disk in memory marks as pending.
use Rattle.silt_device.proofs.Common.{◌≡◌, ℕ, ◌+◌, ◌-◌, ◌≤◌, ◌<◌, ◌||◌, Bool, true, false, List, length, slice_range, get_or, sym, ◌∙◌, ap, inl, inr, arith, cases_lt, cases_Bool, length-between}
use Rattle.silt_device.proofs.Common.{get_or-between, nat_tests, splice, within, ext_get_or, torn_splice, splice_byte}
use Rattle.silt_device.specs.Marks.{LieWithin}

-- at each unmarked place the shown byte is settled
abbrev pub Agrees : List ℕ → List ℕ → List Bool → Type 0
Agrees shown settled pending = (place : ℕ) → get_or pending place false ≡ false → get_or shown place 0 ≡ get_or settled place 0

-- a place outside the range and not before it is after it
outside_range : (at count place : ℕ) → within at count place ≡ false → (place < at → ⊥) → at + count ≤ place
outside_range at count place outside high = grind (arith, nat_tests)

-- if `a or b` is false, both are false
or_false : (a b : Bool) → (a || b) ≡ false → (a ≡ false) × (b ≡ false)
or_false a b is = grind arith

-- after a write that marks its range
pub agrees_written : (at : ℕ) (bytes shown written settled : List ℕ) (pending marked : List Bool) → at + length bytes ≤ length shown → written ≡ splice at bytes shown
    → ((place : ℕ) → get_or marked place false ≡ (get_or pending place false || within at (length bytes) place)) → Agrees shown settled pending → Agrees written settled marked
agrees_written at bytes shown written settled pending marked fits is marks agrees place unmarked =
    let torn = rw (← is) at (torn_splice at bytes shown fits) in
    search (arith, or_false, cases_lt, outside_range, torn.before, torn.after)

-- the same for lists that equal these
pub agrees_at : {shown written : List ℕ} (settled : List ℕ) {pending marked : List Bool} → shown ≡ written → pending ≡ marked → Agrees written settled marked → Agrees shown settled pending
agrees_at settled same_shown same_pending agrees = rw (same_shown, same_pending) agrees

-- ---- the range that contains the marked places

-- a place before a range is not in it
before_range : (at count place : ℕ) → place < at → within at count place ≡ false
before_range at count place low = grind (arith, nat_tests)

-- nor is one after it
after_range : (at count place : ℕ) → at + count ≤ place → within at count place ≡ false
after_range at count place high = grind (arith, nat_tests)

-- outside of the range the shown bytes are settled
agrees_outside : (from to : ℕ) (shown settled : List ℕ) (pending : List Bool) → LieWithin from to pending → Agrees shown settled pending
    → (place : ℕ) → within from (to - from) place ≡ false → get_or shown place 0 ≡ get_or settled place 0
agrees_outside from to shown settled pending lie agrees place outside = search (arith, cases_Bool, lie.low, lie.high)

-- so settling that range settles everything
pub settled_all : (from to : ℕ) (settled shown : List ℕ) (pending : List Bool) → length shown ≡ length settled → length pending ≡ length shown
    → LieWithin from to pending → Agrees shown settled pending → splice from (slice_range shown from to) settled ≡ shown
settled_all from to settled shown pending sizes pending_size lie agrees =
    let bytes = slice_range shown from to in
    let fits : to ≤ length shown = omega (arith, lie.fits, pending_size) in
    let order = lie.order in
    let count : length bytes ≡ to - from = length-between shown from to fits in
    let in_settled : from + length bytes ≤ length settled = omega (arith, count, sizes, order, fits) in
    let torn = torn_splice from bytes settled in_settled in
    let others = agrees_outside from to shown settled pending lie agrees in
    ext_get_or 0 (splice from bytes settled) shown (torn.size ∙ sym sizes) (λ place inside. elim (cases_lt place from) [
      | inl low ↦ torn.before place low ∙ sym (others place (before_range from (to - from) place low))
      | inr high ↦ elim (cases_lt place to) [
        | inl near ↦
            ap (λ (n : ℕ). get_or (splice from bytes settled) n 0) (omega arith)
            ∙ splice_byte from bytes settled (place - from) in_settled (omega (arith, count))
            ∙ get_or-between shown from to (place - from) 0 (omega arith)
            ∙ ap (λ (n : ℕ). get_or shown n 0) (omega arith)
        | inr far ↦ torn.after place (omega (arith, count, order)) ∙ sym (others place (after_range from (to - from) place (omega (arith, order))))
      ]
    ])
