-- Stored tags and their meaning.
use Rattle.silt_hash_store.proofs.Common.{◌≡◌, ℕ, zero, suc, ◌+◌, ◌-◌, ◌*◌, ◌≤◌, ◌<◌, eqb, Bool, true, false, ◌||◌, List, ◌∷◌, length, get_or, map, replicate, slice_set, slice_range, Option}
use Rattle.silt_hash_store.proofs.Common.{Some, None, refl, sym, ap, ◌∙◌, arith, cond-false, eq-eqb, ne_eqb, get_or-map, map-set, get_or-between, list_any_at, get_or-range_with_len}
use Rattle.silt_hash_store.proofs.Common.{range_with_len, is_tag, slot_tag, tag_seen}
use Rattle.silt_hash_store.specs.Slots.{bucket_has_tag}

-- slots without a tag
pub none_seen : (n : ℕ) → map tag_seen (replicate n 65535) ≡ replicate n None
none_seen zero = refl
none_seen (suc n) = ap (λ xs. None ∷ xs) (none_seen n)

-- a tag is less than the number that means none
pub tag_stored : (tag : ℕ) → tag < 65535 → tag_seen tag ≡ Some tag
tag_stored tag below = cond-false _ _ _ (ne_eqb tag 65535 (λ same. absurd (omega arith)))

-- a number is this tag
tag_same : (number tag : ℕ) → tag < 65535 → is_tag tag (tag_seen number) ≡ eqb number tag
tag_same number tag below = grind arith

-- and so for the number of a slot
tag_at : (numbers : List ℕ) (slot tag : ℕ) → slot < length numbers → tag < 65535 → is_tag tag (slot_tag (map tag_seen numbers) slot) ≡ eqb (get_or numbers slot 0) tag
tag_at numbers slot tag there below = ap (is_tag tag) (get_or-map tag_seen numbers slot 0 None there) ∙ tag_same (get_or numbers slot 0) tag below

-- four tests, from the left or from the right
four : (a b c d : Bool) → (((a || b) || c) || d) ≡ (a || (b || (c || (d || false))))
four true b c d = refl
four false true c d = refl
four false false true d = refl
four false false false true = refl
four false false false false = refl

-- four numbers in a row are those of the slots of a bucket
pub has_tag_in : (numbers : List ℕ) (bucket tag : ℕ) → 4 * bucket + 4 ≤ length numbers → tag < 65535 → let part = slice_range numbers (4 * bucket) (4 * bucket + 4) in
    (((eqb (get_or part 0 0) tag || eqb (get_or part 1 0) tag) || eqb (get_or part 2 0) tag) || eqb (get_or part 3 0) tag) ≡ bucket_has_tag (map tag_seen numbers) bucket tag
unfolding bucket_has_tag
has_tag_in numbers bucket tag there below =
    rw (at 0 (omega arith), at 1 (omega arith), at 2 (omega arith), at 3 (omega arith)) (four (tagged 0) (tagged 1) (tagged 2) (tagged 3))
  where
    tagged : ℕ → Bool
    tagged i = is_tag tag (slot_tag (map tag_seen numbers) (4 * bucket + i))

    at : (i : ℕ) → i < 4 → eqb (get_or (slice_range numbers (4 * bucket) (4 * bucket + 4)) i 0) tag ≡ is_tag tag (slot_tag (map tag_seen numbers) (4 * bucket + i))
    at i small = ap (λ n. eqb n tag) (get_or-between numbers (4 * bucket) (4 * bucket + 4) i 0 (omega arith)) ∙ sym (tag_at numbers (4 * bucket + i) tag (omega arith) below)

-- if no slot of a bucket has a tag, then none has it
pub lacks_tag : (tags : List (Option ℕ)) (bucket tag slot : ℕ) → bucket_has_tag tags bucket tag ≡ false → 4 * bucket ≤ slot → slot < 4 * bucket + 4 → slot_tag tags slot ≡ Some tag → ⊥
unfolding bucket_has_tag
lacks_tag tags bucket tag slot lacks low high tagged =
    let i : ℕ = slot - 4 * bucket in
    let here : get_or (range_with_len 0 4) i 0 ≡ i = get_or-range_with_len 0 4 i 0 (omega arith) ∙ (omega arith) in
    let same : is_tag tag (slot_tag tags (4 * bucket + get_or (range_with_len 0 4) i 0)) ≡ true =
    ap (λ n. is_tag tag (slot_tag tags (4 * bucket + n))) here ∙ ap (λ n. is_tag tag (slot_tag tags n)) (omega arith) ∙ ap (is_tag tag) tagged ∙ eq-eqb tag tag refl in
    let has = list_any_at (λ (k : ℕ). is_tag tag (slot_tag tags (4 * bucket + k))) (range_with_len 0 4) i 0 (omega arith) same in
    absurd (cc)

-- a slot that gets a tag
pub tag_set : (numbers : List ℕ) (slot tag : ℕ) → tag < 65535 → map tag_seen (slice_set numbers slot tag) ≡ slice_set (map tag_seen numbers) slot (Some tag)
tag_set numbers slot tag below = map-set tag_seen numbers slot tag ∙ ap (slice_set (map tag_seen numbers) slot) (tag_stored tag below)
