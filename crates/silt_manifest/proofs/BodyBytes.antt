-- The bytes of a body, part by part.
use Rattle.silt_manifest.proofs.Common.{◌≡◌, ℕ, ◌+◌, ◌-◌, ◌*◌, ◌<◌, ◌≤◌, List, [], ◌∷◌, ◌++◌, length, take, replicate, get_or, refl, arith, append_assoc, append-nil, take_more, take_all}
use Rattle.silt_manifest.proofs.Common.{big_bytes, number_at, id_bytes, ids_bytes, ids_at, length-map-range_with_len}
use Rattle.silt_manifest.specs.IdList.{IsIdList, count_back, numbers_back}

-- as many ids as their count
pub length_ids_at : (i : ℕ) (bytes : List ℕ) → length (ids_at i bytes) ≡ number_at 4 i bytes
length_ids_at i bytes = length-map-range_with_len (λ k. number_at 4 (i + 4 + 4 * k) bytes) 0 (number_at 4 i bytes)

-- the array of a list of ids that is seen as this value
pub array_of : (numbers : List ℕ) (count : ℕ) (value : List ℕ) → take count numbers ≡ value → IsIdList numbers count → (value ++ replicate (16 - length value) 0 ≡ numbers) × (length value ≡ count)
array_of numbers count value is filled = rw (← is) (numbers_back numbers count filled, count_back numbers count filled)

-- the bytes of ids that are joined
id_bytes-append : (xs ys : List ℕ) → id_bytes (xs ++ ys) ≡ id_bytes xs ++ id_bytes ys
id_bytes-append [] ys = refl
id_bytes-append (x ∷ xs) ys = grind (arith, id_bytes-append xs ys, append_assoc)

-- one more id is in its place
pub more_ids : (bytes new front ids : List ℕ) (at k x : ℕ) → take (at + 4 + 4 * k) bytes ≡ front ++ id_bytes (take k ids)
    → take (at + 4 + 4 * k + 4) new ≡ take (at + 4 + 4 * k) bytes ++ big_bytes 4 x → x ≡ get_or ids k 0 → k < length ids → take (at + 4 + 4 * (k + 1)) new ≡ front ++ id_bytes (take (k + 1) ids)
more_ids bytes new front ids at k x so_far put is inside =
    let place : at + 4 + 4 * (k + 1) ≡ at + 4 + 4 * k + 4 = omega arith in
    cc (take_more ids k 0 inside, id_bytes-append (take k ids) (x ∷ []), append-nil (big_bytes 4 x), append_assoc front (id_bytes (take k ids)) (big_bytes 4 x))

-- the zeros follow the ids
pub all_ids : (bytes new front ids : List ℕ) (at room : ℕ) → length ids ≤ room → take (at + 4 + 4 * length ids) bytes ≡ (front ++ big_bytes 4 (length ids))
    ++ id_bytes (take (length ids) ids) → take (at + 4 + 4 * length ids + 4 * (room - length ids)) new ≡ take (at + 4 + 4 * length ids) bytes
    ++ replicate (4 * (room - length ids)) 0 → take (at + (4 + 4 * room)) new ≡ front ++ ids_bytes room ids
all_ids bytes new front ids at room fits so_far put = grind (arith, take_all, append_assoc)

-- six parts, each put behind those before it
pub six_parts : (b1 b2 b3 b4 b5 b6 G A F H S C : List ℕ) → length b6 ≡ 120 → take 8 b1 ≡ G → take 12 b2 ≡ take 8 b1 ++ A → take 44 b3 ≡ take 12 b2
    ++ F → take 112 b4 ≡ take 44 b3 ++ H → take 116 b5 ≡ take 112 b4 ++ S → take 120 b6 ≡ take 116 b5 ++ C → b6 ≡ G ++ A ++ F ++ H ++ S ++ C
six_parts b1 b2 b3 b4 b5 b6 G A F H S C long g a f h s c = cc (take_all 120 b6 (omega arith))
