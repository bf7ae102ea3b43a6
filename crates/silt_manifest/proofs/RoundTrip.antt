-- What is written of a body is what is read.
use Rattle.silt_manifest.proofs.Common.{◌≡◌, ℕ, suc, ◌+◌, ◌-◌, ◌*◌, ◌%◌, ◌^◌, ◌<◌, ◌≤◌, true, nat_lt, List, [], ◌∷◌, ◌++◌, length, map, replicate, refl, sym, ap, ◌∙◌, arith, append_assoc}
use Rattle.silt_manifest.proofs.Common.{append-nil, length-append, range_with_len, and_parts, ltb-true, big_bytes, number_at, id_bytes, ids_bytes, ids_at, FitsSlot, body_bytes, long_bit, Body}
use Rattle.silt_manifest.proofs.Common.{zero, list_all, drop_at, take_at, length-replicate, BodyLaw}
use Rattle.byteorder.specs.Numbers.{big_number-reads_back, length-bytes_high_first}

-- a number behind some bytes
pub number_behind : (n i x : ℕ) (pre post : List ℕ) → length pre ≡ i → x < 256 ^ n → number_at n i (pre ++ (big_bytes n x ++ post)) ≡ x
number_behind n i x pre post e fits =
    let size : i + n - i ≡ n = omega arith in
    let long : length (big_bytes n x) ≡ n = length-bytes_high_first n x in
    cc (drop_at pre (big_bytes n x ++ post) i e, take_at (big_bytes n x) post n long, append-nil (big_bytes n x), big_number-reads_back n x [] fits)

-- the same numbers, one place on
pub range_on : {X : Type 0} (f : ℕ → X) (a n : ℕ) → map f (range_with_len (a + 1) n) ≡ map (λ k. f (k + 1)) (range_with_len a n)
range_on f a zero = refl
range_on f a (suc n) = ap (λ xs. f (a + 1) ∷ xs) (range_on f (a + 1) n)

-- two functions that agree give the same list
pub map_same : {X : Type 0} (f g : ℕ → X) (ns : List ℕ) → ((n : ℕ) → f n ≡ g n) → map f ns ≡ map g ns
map_same f g [] same = refl
map_same f g (n ∷ ns) same = let head = same n in let rest = map_same f g ns same in cc

-- numbers one after the other
pub ids_behind : (ns : List ℕ) (i : ℕ) (pre post : List ℕ) → length pre ≡ i → list_all (λ n. nat_lt n (256 ^ 4)) ns ≡ true
    → map (λ k. number_at 4 (i + 4 * k) (pre ++ (id_bytes ns ++ post))) (range_with_len 0 (length ns)) ≡ ns
ids_behind [] i pre post e small = refl
ids_behind (n ∷ ns) i pre post e small =
    let parts = and_parts (nat_lt n (256 ^ 4)) (list_all (λ n. nat_lt n (256 ^ 4)) ns) small in
    let bytes = pre ++ ((big_bytes 4 n ++ id_bytes ns) ++ post) in
    let one : bytes ≡ pre ++ (big_bytes 4 n ++ (id_bytes ns ++ post)) = ap (λ s. pre ++ s) (append_assoc (big_bytes 4 n) (id_bytes ns) post) in
    let two : bytes ≡ (pre ++ big_bytes 4 n) ++ (id_bytes ns ++ post) = one ∙ sym (append_assoc pre (big_bytes 4 n) (id_bytes ns ++ post)) in
    let place : i + 4 * 0 ≡ i = omega arith in
    let head : number_at 4 (i + 4 * 0) bytes ≡ n = cc (number_behind 4 i n pre (id_bytes ns ++ post) e (ltb-true n (256 ^ 4) parts.0)) in
    let moved : (k : ℕ) → number_at 4 (i + 4 * (k + 1)) bytes ≡ number_at 4 (i + 4 + 4 * k) ((pre ++ big_bytes 4 n) ++ (id_bytes ns ++ post)) =
    λ k. let same : i + 4 * (k + 1) ≡ i + 4 + 4 * k = omega arith in cc in
    let rest = ids_behind ns (i + 4) (pre ++ big_bytes 4 n) post (omega (arith, length-append pre (big_bytes 4 n))) parts.1 in
    cc (range_on (λ k. number_at 4 (i + 4 * k) bytes) 0 (length ns), map_same _ _ (range_with_len 0 (length ns)) moved)

-- as many as the count
pub ids_at_behind : (room : ℕ) (ns : List ℕ) (i : ℕ) (pre post : List ℕ) → length pre ≡ i → length ns < 256 ^ 4
    → list_all (λ n. nat_lt n (256 ^ 4)) ns ≡ true → ids_at i (pre ++ (ids_bytes room ns ++ post)) ≡ ns
ids_at_behind room ns i pre post e short small =
    let pad = replicate (4 * (room - length ns)) 0 in
    let flat : ids_bytes room ns ++ post ≡ big_bytes 4 (length ns) ++ (id_bytes ns ++ (pad ++ post)) =
    append_assoc (big_bytes 4 (length ns) ++ id_bytes ns) pad post ∙ append_assoc (big_bytes 4 (length ns)) (id_bytes ns) (pad ++ post) in
    let count = number_behind 4 i (length ns) pre (id_bytes ns ++ (pad ++ post)) e short in
    let all = ids_behind ns (i + 4) (pre ++ big_bytes 4 (length ns)) (pad ++ post) (omega (arith, length-append pre (big_bytes 4 (length ns)))) small in
    rw (flat, count, ← append_assoc pre (big_bytes 4 (length ns)) (id_bytes ns ++ (pad ++ post))) all

-- four bytes for each number
pub length_id_bytes : (ns : List ℕ) → length (id_bytes ns) ≡ 4 * length ns
length_id_bytes [] = refl
length_id_bytes (n ∷ ns) = let rest = length_id_bytes ns in omega arith

-- the room is filled
pub length_ids_bytes : (room : ℕ) (ns : List ℕ) → length ns ≤ room → length (ids_bytes room ns) ≡ 4 + 4 * room
length_ids_bytes room ns fits = grind (arith, length-append, length_id_bytes, length-replicate)

-- parts that are joined from the left
regroup : (a b c d e : List ℕ) → (((a ++ b) ++ c) ++ d) ++ e ≡ a ++ (b ++ (c ++ (d ++ e)))
regroup a b c d e = simp append_assoc

-- the bytes of the slot before the frozen logs
front : ℕ → Body → List ℕ
front commit b = commit ∷ big_bytes 8 (b.generation + long_bit) ++ big_bytes 4 b.active

-- the parts of the slot from there on
parts_of : Body → List ℕ → List ℕ
parts_of b rest = ids_bytes 7 b.frozen ++ (ids_bytes 16 b.hashed ++ (big_bytes 4 b.sorted ++ (big_bytes 4 b.sorted_count ++ rest)))

-- a slot is its front and these parts
slot_parts : (commit : ℕ) (b : Body) (rest : List ℕ) → commit ∷ body_bytes b ++ rest ≡ front commit b ++ parts_of b rest
unfolding front parts_of
slot_parts commit b rest = ap (λ t. front commit b ++ t) (regroup (ids_bytes 7 b.frozen) (ids_bytes 16 b.hashed) (big_bytes 4 b.sorted) (big_bytes 4 b.sorted_count) rest)

-- the field of the generation of a slot
pub generation_field : (b : Body) (commit : ℕ) (rest : List ℕ) → FitsSlot b → number_at 8 1 (commit ∷ body_bytes b ++ rest) ≡ b.generation + long_bit
generation_field b commit rest fits = big_number-reads_back 8 (b.generation + long_bit) [] (let h = fits.generation in omega arith)

-- a generation without the highest bit
without_bit : (n : ℕ) → n < long_bit → (n + long_bit) % long_bit ≡ n
without_bit n below = omega arith

-- a body reads back
pub body_law : BodyLaw
unfolding front parts_of
body_law b commit rest fits =
    let slot = commit ∷ body_bytes b ++ rest in
    let F = ids_bytes 7 b.frozen in
    let H = ids_bytes 16 b.hashed in
    let S = big_bytes 4 b.sorted in
    let C = big_bytes 4 b.sorted_count in
    let whole = slot_parts commit b rest in
    let to_hashed = append_assoc (front commit b) F (H ++ (S ++ (C ++ rest))) in
    let to_sorted = append_assoc (front commit b ++ F) H (S ++ (C ++ rest)) in
    let to_count = append_assoc ((front commit b ++ F) ++ H) S (C ++ rest) in
    let len_f : length (front commit b ++ F) ≡ 45 = omega (arith, length-append (front commit b) F, length_ids_bytes 7 b.frozen fits.frozen_count) in
    let len_h : length ((front commit b ++ F) ++ H) ≡ 113 = omega (arith, length-append (front commit b ++ F) H, length_ids_bytes 16 b.hashed fits.hashed_count, len_f) in
    let len_s : length (((front commit b ++ F) ++ H) ++ S) ≡ 117 = omega (arith, length-append ((front commit b ++ F) ++ H) S) in
    let generation : number_at 8 1 slot % long_bit ≡ b.generation = cc (generation_field b commit rest fits, without_bit b.generation fits.generation) in
    let active : number_at 4 9 slot ≡ b.active = big_number-reads_back 4 b.active [] fits.active in
    let frozen : ids_at 13 slot ≡ b.frozen = cc (ids_at_behind 7 b.frozen 13 (front commit b) (H ++ (S ++ (C ++ rest))) refl (let h = fits.frozen_count in omega arith) fits.frozen) in
    let hashed : ids_at 45 slot ≡ b.hashed = cc (ids_at_behind 16 b.hashed 45 (front commit b ++ F) (S ++ (C ++ rest)) len_f (let h = fits.hashed_count in omega arith) fits.hashed) in
    let sorted : number_at 4 113 slot ≡ b.sorted = cc (number_behind 4 113 b.sorted ((front commit b ++ F) ++ H) (C ++ rest) len_h fits.sorted) in
    let count : number_at 4 117 slot ≡ b.sorted_count = cc (number_behind 4 117 b.sorted_count (((front commit b ++ F) ++ H) ++ S) rest len_s fits.sorted_count) in
    rw (generation, active, frozen, hashed, sorted, count) refl

-- 120 bytes
length_body_bytes : (b : Body) → length b.frozen ≤ 7 → length b.hashed ≤ 16 → length (body_bytes b) ≡ 120
length_body_bytes b frozen hashed = grind (arith, length-append, length_ids_bytes)

-- the same if its numbers fit
pub fitting_length : (b : Body) → FitsSlot b → length (body_bytes b) ≡ 120
fitting_length b fits = length_body_bytes b fits.frozen_count fits.hashed_count
