-- When the digests of a record are those of the stores.
use Rattle.silt_engine.proofs.Common.{◌≡◌, ◌<◌, ℕ, ◌-◌, IsTrue, List, [], ◌∷◌, suc, length, map, take, get_or, replicate, Some, refl, ap, sym, ◌∙◌, arith, All, get_or-map, length-map, take-map}
use Rattle.silt_engine.proofs.Common.{get_or_from_slice_get, slice_get_within, Content, Shape, StoredRow, Digest, hash_part, HashState, IsHashStore, AreDigestsOf, entries_digest, part_digest}
use Rattle.silt_engine.proofs.Common.{Stores, Part, Body, IndexedState, EngineState, hash_region_of, Stands, shown_stores, digest_of, merged_digests, no_digest, own_digests, padded, ◌≤◌, ◌+◌, Bool}
use Rattle.silt_engine.proofs.Common.{◌++◌, Option, None, append_assoc, option_to_list, length-take, get_or_append_left, map_more, converted_digests, slice_set, set-append_seam}
use Rattle.silt_image.specs.Meaning.{with_new_log}
use Rattle.silt_image.specs.Stores.{stores_named}
use Rattle.silt_engine.specs.Replacements.{with_converted, with_merged}
use Rattle.std.proofs.Common.{is_some, length-append}
use Rattle.std.specs.Int.{from_bool}

-- the bytes of a digest
abbrev pub bytes_of : Digest → List ℕ
bytes_of digest = digest.0

-- digests in the order of the hash stores, and that of the entries, are those of the stores
pub are_said : (ds : List Digest) (sorted : Digest) (t : Stores) → map part_digest t.hashes ≡ map bytes_of ds → sorted.0 ≡ entries_digest t.entries
    → AreDigestsOf (Some (record { hashed = padded ds; sorted = sorted })) t
are_said ds sorted t same entries =
    let blank : Digest = record { 0 = [] } in
    let long : length ds ≡ length t.hashes = cc (length-map ds bytes_of, length-map t.hashes part_digest) in
    record {
      hashed = λ place part here digest is.
          let inside : place < length t.hashes = slice_get_within t.hashes place part here in
          let its : place < length ds = omega (arith, inside, long) in
          let said : (get_or (padded ds) place blank).0 ≡ digest = (let e : Some (get_or (padded ds) place blank).0 ≡ Some digest = is in cc) in
          cc (
            get_or_append_left ds (replicate (16 - length ds) no_digest) blank place its,
            get_or-map bytes_of ds place blank [] its,
            get_or-map part_digest t.hashes place part [] inside,
            get_or_from_slice_get t.hashes place part part here,
          );
      sorted = search arith;
    }

-- ---- the stores that are shown

-- the digests of hash stores are those of their slots
stores_said : (content : Content) (shape : Shape) (stores : List HashState) → IsTrue content.honest → All (λ (store : HashState). store.shape ≡ shape) stores → All (IsHashStore content) stores
    → map part_digest (map (hash_part shape content.shown) (map hash_region_of stores)) ≡ map bytes_of (map digest_of stores)
stores_said content shape [] honest shapes stand = refl
stores_said content shape (store ∷ stores) honest shapes stand =
    let first : part_digest (hash_part shape content.shown store.region) ≡ store.digest = cc (shapes 0 store (omega arith), (stand 0 store (omega arith)).digested honest) in
    let rest = stores_said _ shape stores honest (λ k blank below. shapes (suc k) blank (omega arith)) (λ k blank below. stand (suc k) blank (omega arith)) in
    cc

module _ (content : Content) (s : EngineState) (stands : Stands content s) (honest : IsTrue content.honest) where
  pub hashes_said : map part_digest (shown_stores content s).hashes ≡ map bytes_of (map digest_of s.hashes)
  unfolding stores_named
  hashes_said = cc (stands.whole.hash_regions, stores_said content s.manifest.shape s.hashes honest (λ k d inside. (stands.whole.hashed k d inside).has_shape) stands.hashed)

  entries_said : s.digest ≡ entries_digest (shown_stores content s).entries
  unfolding stores_named
  entries_said = cc (stands.digested honest, stands.whole.sorted)

  -- there are as many
  pub shown_count : length (shown_stores content s).hashes ≡ length s.hashes
  shown_count = sym (length-map (shown_stores content s).hashes part_digest) ∙ ap length hashes_said ∙ length-map (map digest_of s.hashes) bytes_of ∙ length-map s.hashes digest_of

  own_said : AreDigestsOf (Some (own_digests s)) (shown_stores content s)
  own_said = are_said _ _ _ hashes_said entries_said

  -- with a new log too
  pub frozen_said : (body : Body) → AreDigestsOf (Some (own_digests s)) (with_new_log body (shown_stores content s))
  unfolding with_new_log own_said
  frozen_said body = record { hashed = own_said.hashed; sorted = own_said.sorted }

  -- with a hash store in front of the others
  pub converted_said : (body : Body) (part : Part) (digest : List ℕ) → digest ≡ part_digest part → AreDigestsOf (Some (converted_digests s digest)) (with_converted body part (shown_stores content s))
  unfolding with_converted
  converted_said body part digest is = are_said (record { 0 = digest } ∷ map digest_of s.hashes) _ _ (search (arith, hashes_said)) entries_said

  -- without the oldest hash stores, and with other entries
  pub merged_said : (body : Body) (count : ℕ) (entries : List StoredRow) (store : IndexedState) → store.digest ≡ entries_digest entries
      → AreDigestsOf (Some (merged_digests s count store.digest))
      (with_merged body (take (length (shown_stores content s).hashes - count) (shown_stores content s).hashes) entries (shown_stores content s))
  unfolding with_merged
  merged_said body count entries store is =
      let newer : ℕ = length s.hashes - count in
      are_said _ _ _ (ap (λ (n : ℕ). map part_digest (take (n - count) (shown_stores content s).hashes)) shown_count
      ∙ sym (take-map part_digest newer (shown_stores content s).hashes)
      ∙ ap (take newer) hashes_said
      ∙ take-map bytes_of newer (map digest_of s.hashes)
      ∙ ap (map bytes_of) (take-map digest_of newer s.hashes)) is

-- ---- digests in their places, one after the other

-- one digest more
padded_more : (ds : List Digest) (d : Digest) → length ds < 16 → slice_set (padded ds) (length ds) d ≡ padded (ds ++ d ∷ [])
padded_more ds d room =
    let left : ℕ = 16 - length (ds ++ d ∷ []) in
    let one_less : 16 - length ds ≡ suc left = omega (arith, room, length-append ds (d ∷ [])) in
    cc (set-append_seam ds no_digest (replicate left no_digest) d, append_assoc ds (d ∷ []) (replicate left no_digest))

-- how many come first
pub in_front : (first : Option Digest) (is : Bool) (newer : ℕ) → newer ≡ from_bool is → is ≡ is_some first → newer ≡ length (option_to_list first)
in_front None is newer counted same = counted ∙ ap from_bool same
in_front (Some digest) is newer counted same = counted ∙ ap from_bool same

-- the digest of one store more
pub one_more : (front : List Digest) (stores : List HashState) (index newer : ℕ) (store : HashState) (digest : Digest) (hashed : List Digest) → length front + length stores ≤ 16
    → newer ≡ length front → index < length stores → store ≡ get_or stores index store → digest.0 ≡ store.digest → hashed ≡ padded (front ++ map digest_of (take index stores))
    → slice_set hashed (newer + index) digest ≡ padded (front ++ map digest_of (take (index + 1) stores))
one_more front stores index newer store digest hashed room counted inside here its was =
    let before : List Digest = map digest_of (take index stores) in
    let place : newer + index ≡ length (front ++ before) = omega (arith, counted, inside, length-append front before, length-map (take index stores) digest_of, length-take index stores) in
    let is : digest ≡ digest_of (get_or stores index store) = ap (λ (bytes : List ℕ). let d : Digest = record { 0 = bytes } in d) its ∙ ap digest_of here in
    cc (padded_more (front ++ before) digest (omega (arith, place, counted, inside, room)), append_assoc front before (digest ∷ []), map_more digest_of stores index store inside)
