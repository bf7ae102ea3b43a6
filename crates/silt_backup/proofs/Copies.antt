-- When the rows of two images are the same.
use Rattle.silt_backup.proofs.Common.{◌≡◌, ◌⊎◌, ℕ, zero, suc, ◌+◌, ◌*◌, ◌-◌, ◌≤◌, ◌<◌, Bool, true, false, List, [], ◌∷◌, ◌++◌, length, take, drop, map, slice_get, slice_range, flat_map, Some, inl}
use Rattle.silt_backup.proofs.Common.{inr, refl, sym, ap, ◌∙◌, arith, bytes_eq, drop-drop, length-append, length-take, take-take, take-append-drop, sha1, cases_Bool, not_from_Decides, drop-take}
use Rattle.silt_backup.proofs.Common.{bytes_eq-Decides, take-append_seam, drop-append_seam, Collision, Shape, bodies_at, device_size, entry_len, commits_at, hash_at, hash_size, log_size, row_len}
use Rattle.silt_backup.proofs.Common.{sorted_at, sorted_size, StoredRow, entries_bytes, entry_row, put_bytes, row_bytes, row_of, rows_bytes, Part}
use Rattle.std.specs.List.{prefix_len, range_with_len}
use Rattle.std.proofs.Math.Nat.{mul-le-mul_right}
use Rattle.std.proofs.lemmas.List.Edits.{length-between}
use Rattle.std.proofs.lemmas.List.Sums.{prefix_len-le-length}
use Rattle.silt_disk.proofs.Regions.{next_region, up_least}
use Rattle.silt_frame.proofs.RowBytes.{put_bytes_of, row_bytes_of}
use Rattle.silt_frame.specs.Commit.{is_open}
use Rattle.silt_hash_store.specs.Slots.{hash_part, hash_rows}
use Rattle.silt_log.proofs.Bodies.{body_before, map_range_same}
use Rattle.silt_log.specs.Rows.{body_row, commit_bytes, log_rows, open_count, row_at, rows_from}
use Rattle.silt_sorted_store.specs.State.{sorted_rows}

-- ---- the logs

-- a part of a range
part_of : (base n from to : ℕ) (image : List ℕ) → base ≤ from → from ≤ to → to ≤ base + n
    → slice_range image from to ≡ take (to - from) (drop (from - base) (slice_range image base (base + n)))
part_of base n from to image low order high =
    let a : ℕ = from - base in
    let m : ℕ = n - a in
    let from_is : base + a ≡ from = omega arith in
    let n_is : base + n - base ≡ a + m = omega arith in
    let short : to - from ≤ m = omega arith in
    let rest : drop a (take (a + m) (drop base image)) ≡ take m (drop from image) =
    drop-take a m (drop base image) ∙ ap (take m) (drop-drop a base image ∙ ap (λ k. drop k image) from_is) in
    sym (ap (λ k. take (to - from) (drop a (take k (drop base image)))) n_is ∙ ap (take (to - from)) rest ∙ take-take (to - from) m (drop from image) short)

-- images that are equal in a range are equal in each part of it
same_within : (base n from to : ℕ) (x y : List ℕ) → slice_range x base (base + n) ≡ slice_range y base (base + n) → base ≤ from → from ≤ to → to ≤ base + n
    → slice_range x from to ≡ slice_range y from to
same_within base n from to x y same low order high =
    part_of base n from to x low order high ∙ ap (λ (l : List ℕ). take (to - from) (drop (from - base) l)) same ∙ sym (part_of base n from to y low order high)

-- equal bytes of a log region are equal rows
pub log_rows_equal : (s : Shape) (region : ℕ) (x y : List ℕ)
    → slice_range x (commits_at s region) (commits_at s region + log_size s) ≡ slice_range y (commits_at s region) (commits_at s region + log_size s)
    → log_rows s region x ≡ log_rows s region y
unfolding log_rows rows_from row_at open_count
log_rows_equal s region x y same =
    let base : ℕ = commits_at s region in
    let n : ℕ = log_size s in
    let commits_end : base + s.log_capacity ≤ base + n = omega (arith, up_least s.log_capacity) in
    let bodies_end : bodies_at s region + s.log_capacity * row_len s ≤ base + n = omega (arith, up_least (s.log_capacity * row_len s)) in
    let bytes : commit_bytes base s.log_capacity x ≡ commit_bytes base s.log_capacity y = same_within base n base (base + s.log_capacity) x y same (omega arith) (omega arith) commits_end in
    let counted : ℕ = prefix_len is_open (commit_bytes base s.log_capacity y) in
    let width : length (commit_bytes base s.log_capacity y) ≤ s.log_capacity = omega (arith, length-take (base + s.log_capacity - base) (drop base y)) in
    let most : counted ≤ s.log_capacity = omega (arith, prefix_len-le-length is_open (commit_bytes base s.log_capacity y), width) in
    ap (λ (l : List ℕ). map (body_row (bodies_at s region) (row_len s) x) (range_with_len 0 (prefix_len is_open l))) bytes
    ∙ map_range_same (body_row (bodies_at s region) (row_len s) x) (body_row (bodies_at s region) (row_len s) y) 0 counted
    (λ place low high.
    let inside : bodies_at s region + place * row_len s + row_len s ≤ bodies_at s region + s.log_capacity * row_len s =
    body_before (bodies_at s region) (row_len s) place s.log_capacity (omega (arith, most, high)) in
    ap row_of (same_within base n (bodies_at s region + place * row_len s) (bodies_at s region + place * row_len s + row_len s) x y same
    (omega arith) (omega arith) (omega (arith, inside, bodies_end))))

-- ---- rows from bytes

-- Rows are decoded from pieces of bytes. The bytes of the rows are the pieces, if these have their whole length.
module _ (dec : List ℕ → StoredRow) (enc : StoredRow → List ℕ) (len : ℕ) (most : (b : List ℕ) → length b ≤ len → length (enc (dec b)) ≤ len)
    (back : (b : List ℕ) → length (enc (dec b)) ≡ len → enc (dec b) ≡ b) (whole : (b : List ℕ) → length b ≡ len → enc (dec b) ≡ b) where
  bytes_most : (f : ℕ → List ℕ) (from n : ℕ) → ((p : ℕ) → length (f p) ≤ len) → length (flat_map enc (map (λ p. dec (f p)) (range_with_len from n))) ≤ n * len
  bytes_most f from zero short = omega arith
  bytes_most f from (suc n) short =
      let first = most (f from) (short from) in
      let rest = bytes_most f (from + 1) n short in
      let both = length-append (enc (dec (f from))) (flat_map enc (map (λ p. dec (f p)) (range_with_len (from + 1) n))) in
      omega (arith, first, rest, both)

  bytes_are : (g : ℕ → List ℕ) (from n : ℕ) → ((p : ℕ) → from ≤ p → p < from + n → length (g p) ≡ len) → length (flat_map enc (map (λ p. dec (g p)) (range_with_len from n))) ≡ n * len
  bytes_are g from zero long = omega arith
  bytes_are g from (suc n) long =
      let here : length (g from) ≡ len = long from (omega arith) (omega arith) in
      let first : length (enc (dec (g from))) ≡ len = ap length (whole (g from) here) ∙ here in
      let rest = bytes_are g (from + 1) n (λ p low high. long p (omega (arith, low)) (omega (arith, high))) in
      let both = length-append (enc (dec (g from))) (flat_map enc (map (λ p. dec (g p)) (range_with_len (from + 1) n))) in
      omega (arith, first, rest, both)

  -- equal bytes of rows are equal rows, if the pieces of the second ones have their whole length
  pub rows_equal : (f g : ℕ → List ℕ) (from n : ℕ) → ((p : ℕ) → length (f p) ≤ len) → ((p : ℕ) → from ≤ p → p < from + n → length (g p) ≡ len)
      → flat_map enc (map (λ p. dec (f p)) (range_with_len from n)) ≡ flat_map enc (map (λ p. dec (g p)) (range_with_len from n))
      → map (λ p. dec (f p)) (range_with_len from n) ≡ map (λ p. dec (g p)) (range_with_len from n)
  rows_equal f g from zero short long same = refl
  rows_equal f g from (suc n) short long same =
      let a : List ℕ = enc (dec (f from)) in
      let b : List ℕ = enc (dec (g from)) in
      let more : List ℕ = flat_map enc (map (λ p. dec (f p)) (range_with_len (from + 1) n)) in
      let others : List ℕ = flat_map enc (map (λ p. dec (g p)) (range_with_len (from + 1) n)) in
      let later : (p : ℕ) → from + 1 ≤ p → p < from + 1 + n → length (g p) ≡ len = λ p low high. long p (omega (arith, low)) (omega (arith, high)) in
      let here : length (g from) ≡ len = long from (omega arith) (omega arith) in
      let b_is : b ≡ g from = whole (g from) here in
      let b_len : length b ≡ len = ap length b_is ∙ here in
      let others_len : length others ≡ n * len = bytes_are g (from + 1) n later in
      let a_most : length a ≤ len = most (f from) (short from) in
      let more_most : length more ≤ n * len = bytes_most f (from + 1) n short in
      let joined : length a + length more ≡ length b + length others = sym (length-append a more) ∙ ap length same ∙ length-append b others in
      let a_len : length a ≡ len = omega (arith, a_most, more_most, joined, b_len, others_len) in
      let firsts : a ≡ b =
      sym (take-append_seam a more) ∙ ap (take (length a)) same ∙ ap (λ k. take k (b ++ others)) (a_len ∙ sym b_len) ∙ take-append_seam b others in
      let rests : more ≡ others =
      sym (drop-append_seam a more) ∙ ap (drop (length a)) same ∙ ap (λ k. drop k (b ++ others)) (a_len ∙ sym b_len) ∙ drop-append_seam b others in
      let piece : f from ≡ g from = sym (back (f from) a_len) ∙ firsts ∙ b_is in
      ap (λ (l : List ℕ). dec l ∷ map (λ p. dec (f p)) (range_with_len (from + 1) n)) piece
      ∙ ap (λ (rows : List StoredRow). dec (g from) ∷ rows) (rows_equal f g (from + 1) n short later rests)

  -- the rows of a range
  abbrev rows_in : ℕ → ℕ → List ℕ → List StoredRow
  rows_in base n x = map (λ p. dec (slice_range x (base + p * len) (base + p * len + len))) (range_with_len 0 n)

  -- equal bytes of them are equal rows, if the range lies within the second image
  pub range_equal : (base n : ℕ) (x y : List ℕ) → base + n * len ≤ length y → flat_map enc (rows_in base n x) ≡ flat_map enc (rows_in base n y) → rows_in base n x ≡ rows_in base n y
  range_equal base n x y fits same =
      rows_equal (λ p. slice_range x (base + p * len) (base + p * len + len)) (λ p. slice_range y (base + p * len) (base + p * len + len)) 0 n
      (λ p. omega (arith, length-take (base + p * len + len - (base + p * len)) (drop (base + p * len) x)))
      (λ p low high.
      let inside : base + p * len + len ≤ base + n * len = body_before base len p n (omega (arith, high)) in
      length-between y (base + p * len) (base + p * len + len) (omega (arith, inside, fits)) ∙ omega arith) same

-- the bytes of a row from some bytes are these, but for none
row_back : (b : List ℕ) → 21 ≤ length (row_bytes (row_of b)) → row_bytes (row_of b) ≡ b
row_back [] long = absurd (omega (arith, long))
row_back (kind ∷ rest) long = ap (λ (l : List ℕ). kind ∷ l) (take-append-drop 20 rest)

row_most : (len : ℕ) (b : List ℕ) → 21 ≤ len → length b ≤ len → length (row_bytes (row_of b)) ≤ len
row_most len [] least short = omega (arith, least)
row_most len (kind ∷ rest) least short =
    let is : row_bytes (row_of (kind ∷ rest)) ≡ kind ∷ rest = ap (λ (l : List ℕ). kind ∷ l) (take-append-drop 20 rest) in
    omega (arith, short, ap length is)

-- ---- the stores with digests

-- two byte strings of one digest are equal, or they are a collision
same_or_collide : (a b : List ℕ) → sha1 a ≡ sha1 b → (a ≡ b) ⊎ Collision
same_or_collide a b same = elim (cases_Bool (bytes_eq a b)) [
  | inl is ↦ inl ((bytes_eq-Decides a b).0 is)
  | inr is ↦ inr (a, b, not_from_Decides (bytes_eq a b) (bytes_eq-Decides a b) is, same)
]

-- the end of a region, over plain numbers
module _ (logs hashes log_len hash_len sorted_len : ℕ) where
  hash_end : (region : ℕ) → region < hashes → 12288 + logs * log_len + region * hash_len + hash_len ≤ 12288 + logs * log_len + hashes * hash_len + 2 * sorted_len
  hash_end region below = omega (arith, next_region region hashes hash_len below)

  sorted_end : (region : ℕ) → region < 2 → 12288 + logs * log_len + hashes * hash_len + region * sorted_len + sorted_len ≤ 12288 + logs * log_len + hashes * hash_len + 2 * sorted_len
  sorted_end region below = omega (arith, next_region region 2 sorted_len below)

-- hash stores of one digest have the same rows, if the second image has their whole region
hash_equal : (s : Shape) (region : ℕ) (x y : List ℕ) → device_size s ≤ length y → region < s.hashes → sha1 (rows_bytes (hash_rows s region x)) ≡ sha1 (rows_bytes (hash_rows s region y))
    → (hash_rows s region x ≡ hash_rows s region y) ⊎ Collision
unfolding hash_rows
hash_equal s region x y fits there same =
    let end : hash_at s region + hash_size s ≤ device_size s = hash_end s.logs s.hashes (log_size s) (hash_size s) (sorted_size s) region there in
    let slots : hash_at s region + 4 * s.buckets * row_len s ≤ hash_at s region + hash_size s = omega (arith, up_least (4 * s.buckets * row_len s)) in
    elim (same_or_collide (rows_bytes (hash_rows s region x)) (rows_bytes (hash_rows s region y)) same) [
      | inl is ↦
          inl (range_equal row_of row_bytes (row_len s) (λ b below. row_most (row_len s) b (omega arith) below) (λ b is. row_back b (omega (arith, is)))
          (λ b is. row_bytes_of b (omega (arith, is))) (hash_at s region) (4 * s.buckets) x y (omega (arith, slots, end, fits)) is)
      | inr collision ↦ inr collision
    ]

-- so do some hash stores
pub hashes_equal : (s : Shape) (ids : List ℕ) (x y : List ℕ) → device_size s ≤ length y → ((place region : ℕ) → slice_get ids place ≡ Some region → region < s.hashes)
    → ((place region : ℕ) → slice_get ids place ≡ Some region → sha1 (rows_bytes (hash_rows s region x)) ≡ sha1 (rows_bytes (hash_rows s region y)))
    → (map (hash_part s x) ids ≡ map (hash_part s y) ids) ⊎ Collision
hashes_equal s [] x y fits there same = inl refl
hashes_equal s (id ∷ ids) x y fits there same =
    elim (hash_equal s id x y fits (there 0 id refl) (same 0 id refl)) [
      | inr collision ↦ inr collision
      | inl first ↦
          elim (hashes_equal s ids x y fits (λ place region is. there (suc place) region is) (λ place region is. same (suc place) region is)) [
            | inr collision ↦ inr collision
            | inl rest ↦
                inl (ap (λ (rows : List StoredRow). record { region = id; rows = rows } ∷ map (hash_part s x) ids) first
                ∙ ap (λ (parts : List Part). hash_part s y id ∷ parts) rest)
          ]
    ]

-- sorted stores of one digest have the same entries, if the second image has their whole region
pub entries_equal : (s : Shape) (region count : ℕ) (x y : List ℕ) → device_size s ≤ length y → region < 2 → count ≤ s.sorted_capacity
    → sha1 (entries_bytes (sorted_rows s region count x)) ≡ sha1 (entries_bytes (sorted_rows s region count y))
    → (sorted_rows s region count x ≡ sorted_rows s region count y) ⊎ Collision
unfolding sorted_rows
entries_equal s region count x y fits there room same =
    let end : sorted_at s region + sorted_size s ≤ device_size s = sorted_end s.logs s.hashes (log_size s) (hash_size s) (sorted_size s) region there in
    let entries : sorted_at s region + s.sorted_capacity * entry_len s ≤ sorted_at s region + sorted_size s = omega (arith, up_least (s.sorted_capacity * entry_len s)) in
    let few : count * entry_len s ≤ s.sorted_capacity * entry_len s = mul-le-mul_right (entry_len s) room in
    elim (same_or_collide (entries_bytes (sorted_rows s region count x)) (entries_bytes (sorted_rows s region count y)) same) [
      | inl is ↦
          inl (range_equal entry_row put_bytes (entry_len s) (λ b below. omega (arith, below, ap length (put_bytes_of b))) (λ b is. put_bytes_of b) (λ b is. put_bytes_of b)
          (sorted_at s region) count x y (omega (arith, few, entries, end, fits)) is)
      | inr collision ↦ inr collision
    ]
