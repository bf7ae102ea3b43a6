-- The entries of a sorted region after a change of the disk.
use Rattle.silt_sorted_store.proofs.Common.{◌≡◌, ℕ, ◌+◌, ◌*◌, ◌<◌, ◌≤◌, IsTrue, List, [], ◌∷◌, ◌++◌, length, slice_range, inl, inr, sym, subst, ap, ◌∙◌, arith, map-range_with_len_more}
use Rattle.silt_sorted_store.proofs.Common.{LiesOutside, Torn, Shape, device_size, entries_len, entry_len, sorted_at, torn_slice_after, torn_slice_before, next_region, regions_apart}
use Rattle.silt_sorted_store.proofs.Common.{sorted_entry_at, entries_bytes, entry_row, DigestElsewhereLaw, EntriesElsewhereLaw, IndexedElsewhereLaw, IsIndexOf, sha1}
use Rattle.silt_sorted_store.specs.State.{sorted_rows}
use Rattle.silt_log.proofs.Bodies.{map_range_same}
use Rattle.silt_sorted_store.proofs.Entries.{part_inside}

-- the entries of a sorted region lie within the device
pub entries_inside : (s : Shape) (region : ℕ) → region < 2 → sorted_at s region + s.sorted_capacity * entry_len s ≤ device_size s
entries_inside s region below = let apart = regions_apart s in omega (arith, apart.sorted region 2 below, apart.device)

-- the bytes of an entry
abbrev pub entry_bytes : Shape → ℕ → List ℕ → ℕ → List ℕ
entry_bytes s region image place = slice_range image (sorted_entry_at s region place) (sorted_entry_at s region place + entry_len s)

-- a change outside the entries of a sorted region leaves each entry
pub entries_outside : (s : Shape) (region n at count : ℕ) (old new : List ℕ) → sorted_at s region + s.sorted_capacity * entry_len s ≤ length old
    → n ≤ s.sorted_capacity → LiesOutside (sorted_at s region) (entries_len s) at count
    → Torn at count old new → sorted_rows s region n new ≡ sorted_rows s region n old
unfolding sorted_rows
entries_outside s region n at count old new fits most outside torn =
    map_range_same (λ (p : ℕ). entry_row (entry_bytes s region new p)) (λ (p : ℕ). entry_row (entry_bytes s region old p)) 0 n (λ place low high.
    let inside = part_inside (sorted_at s region) (entry_len s) s.sorted_capacity place (length old) fits (omega arith) in
    elim outside [
      | inl before ↦ ap entry_row (torn_slice_after at count old new torn (sorted_entry_at s region place) (sorted_entry_at s region place + entry_len s) (omega (arith, before)) inside)
      | inr behind ↦
          let ends = part_inside (sorted_at s region) (entry_len s) s.sorted_capacity place at behind (omega arith) in
          ap entry_row (torn_slice_before at count old new torn (sorted_entry_at s region place) (sorted_entry_at s region place + entry_len s) ends inside)
    ])

-- a change of one entry leaves those before it
pub entries_before : (s : Shape) (region n : ℕ) (old new : List ℕ) → sorted_at s region + s.sorted_capacity * entry_len s ≤ length old → n ≤ s.sorted_capacity
    → Torn (sorted_entry_at s region n) (entry_len s) old new → sorted_rows s region n new ≡ sorted_rows s region n old
unfolding sorted_rows
entries_before s region n old new fits most torn = map_range_same (λ (p : ℕ). entry_row (entry_bytes s region new p)) (λ (p : ℕ). entry_row (entry_bytes s region old p)) 0 n (λ place low high.
    let inside = part_inside (sorted_at s region) (entry_len s) s.sorted_capacity place (length old) fits (omega arith) in
    ap entry_row (torn_slice_before (sorted_entry_at s region n) (entry_len s) old new torn (sorted_entry_at s region place)
    (sorted_entry_at s region place + entry_len s) (omega (arith, next_region place n (entry_len s) (omega arith))) inside))

-- one entry more
pub entry_more : (s : Shape) (region n : ℕ) (image : List ℕ) → sorted_rows s region (n + 1) image ≡ sorted_rows s region n image ++ entry_row (entry_bytes s region image n) ∷ []
unfolding sorted_rows
entry_more s region n image = map-range_with_len_more (λ (p : ℕ). entry_row (entry_bytes s region image p)) 0 n n (omega arith)

-- entries stay, after a change outside them
pub entries_elsewhere : EntriesElsewhereLaw
entries_elsewhere store old new at count held fits outside changes honest =
    let was : IsTrue old.honest = sym changes.honest ∙ honest in
    let ends = entries_inside store.shape store.region held.region in
    entries_outside store.shape store.region store.count at count old.shown new.shown (omega (arith, ends)) held.room outside (changes.shown was)

-- an index of entries is still theirs after a change outside them
pub indexed_elsewhere : IndexedElsewhereLaw
indexed_elsewhere store index old new at count held fits outside changes indexed = λ honest.
    subst (λ rows. IsIndexOf rows index) (sym (entries_elsewhere store old new at count held fits outside changes honest)) (indexed (sym changes.honest ∙ honest))

-- a digest of entries is still theirs after a change outside them
pub digest_elsewhere : DigestElsewhereLaw
digest_elsewhere store digest old new at count held fits outside changes digested = λ honest.
    digested (sym changes.honest ∙ honest) ∙ ap (λ rows. sha1 (entries_bytes rows)) (sym (entries_elsewhere store old new at count held fits outside changes honest))
