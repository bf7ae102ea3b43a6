-- Findings in hash stores that are read one after the other.
use Rattle.silt_recovery.proofs.Common.{◌≡◌, ◌<◌, ℕ, ◌+◌, Bool, true, false, IsTrue, List, [], ◌∷◌, ◌++◌, length, map, take, drop, get_or, sum_by, Option, Some, Ok, refl, ap, sym, ◌∙◌, subst}
use Rattle.silt_recovery.proofs.Common.{arith, map-append, sum_by-cons, Content, Shape, HashState, IsHashStore, digest_findings, image_verdict, put_count, image_digests, image_stores, Finding}
use Rattle.silt_recovery.proofs.Common.{Place, finding_if, Body, Digests, AreReadHashes, AreSoundHashes, HasFirstSlot, AreSoundLogs, put_rows, length-take-le, drop_more, length-map}
use Rattle.silt_recovery.proofs.Common.{take-append-drop, take_more, All-push, sum_by_push, flat_map-append, charge_of, part_digest, said_hash, known_rows, oldest_first, Part, Hash, HashDigest}
use Rattle.silt_recovery.proofs.Common.{count_law, first_slot_law, places_append, hash_region_of, HasFirstInRegion, IsReadHash, region_findings, region_puts, region_rows}
use Rattle.silt_hash_store.specs.Rebuild.{IsFirstUnsound}
use Rattle.silt_image.specs.Meaning.{rows_of}
use Rattle.silt_hash_store.specs.Slots.{hash_part}
use Rattle.silt_image.specs.Stores.{stores_named}
use Rattle.silt_event.specs.declared.damage.Finding.TheVariants.{Damaged}
use Rattle.silt_recovery.proofs.EntrySearches.{charge_of_entries}
use Rattle.silt_recovery.proofs.Firsts.{first_of_front}
use Rattle.silt_recovery.proofs.Searches.{charge_of_logs}

-- ---- in one hash store

module _ (content : Content) (shape : Shape) (region : ℕ) (said : Option (List ℕ)) where
  -- the first slot in which something is found
  pub damaged_slot : (slot : ℕ) → IsFirstUnsound content shape region slot → HasFirstInRegion shape said content.shown region (Damaged (Hash region slot))
  damaged_slot slot found = search (arith, first_of_front)

  module _ (store : HashState) (has_shape : store.shape ≡ shape) (has_region : store.region ≡ region) (stands : IsHashStore content store) where
    -- its digest is that of what is shown
    digest_shown : IsTrue content.honest → store.digest ≡ part_digest (hash_part shape content.shown region)
    digest_shown h = search arith

    module _ (test : Bool) (tests : (place : Place) → digest_findings place said store.digest ≡ finding_if test (Damaged place)) where
      -- the manifest has another digest
      pub other_digest : test ≡ true → IsTrue content.honest → HasFirstInRegion shape said content.shown region (Damaged (HashDigest region))
      other_digest is h = search arith

      -- the manifest has this digest, or none
      pub sound_hash : test ≡ false → IsTrue content.honest → region_findings shape said content.shown region ≡ []
      sound_hash is h = search arith

-- ---- in several

-- some hash stores and the next one behind them
one_more_sound : (shape : Shape) (said : Option Digests) (image some : List ℕ) (region place : ℕ) → length some ≡ place
    → AreSoundHashes shape said image some → region_findings shape (said_hash said place) image region ≡ []
    → AreSoundHashes shape said image (some ++ region ∷ [])
one_more_sound shape said image some region place counted first second = search (arith, length-map, map-append, places_append, flat_map-append)

-- the first finding in the hash stores that the current record names is the verdict, if nothing is found in the logs
pub slot_verdict : (shape : Shape) (body : Body) (image : List ℕ) (finding : Finding) → image_stores image ≡ Ok (stores_named shape body image) → AreSoundLogs shape image (body.active ∷ body.frozen)
    → HasFirstSlot shape (image_digests image) image body.hashed finding → image_verdict image ≡ Some finding
unfolding stores_named
slot_verdict shape body image finding stores logs found =
    first_slot_law image (stores_named shape body image) (map (hash_part shape image) found.before) (map (hash_part shape image) found.after) (hash_part shape
    image found.region) finding stores logs (search (arith, map-append)) found.sound (search (arith, length-map))

-- ---- the puts

-- the puts in the rows of some hash stores
charge_of_hashes : (shape : Shape) (image regions : List ℕ) → put_count (oldest_first (map known_rows (map (hash_part shape image) regions))) ≡ sum_by (region_puts shape image) regions
charge_of_hashes shape image [] = refl
charge_of_hashes shape image (region ∷ regions) = search (arith, charge_of_hashes shape image regions, count_law, sum_by-cons)

-- how many rows of known kinds a hash store has
abbrev pub known_count : Part → ℕ
known_count part = length (known_rows part)

-- the rows of known kinds of some hash stores
pub rows_of_hashes : (shape : Shape) (image regions : List ℕ) → sum_by (region_rows shape image) regions ≡ sum_by known_count (map (hash_part shape image) regions)
rows_of_hashes shape image [] = refl
rows_of_hashes shape image (region ∷ regions) = search (arith, rows_of_hashes shape image regions, sum_by-cons)

-- the charge is the sorted entries and the puts in the hash stores and the logs
pub charge_of_named : (shape : Shape) (body : Body) (image : List ℕ)
    → charge_of (stores_named shape body image) ≡ body.sorted_count + (sum_by (region_puts shape image) body.hashed + put_rows shape image (body.active ∷ body.frozen))
unfolding rows_of stores_named
charge_of_named shape body image = search (arith, count_law, charge_of_entries, charge_of_hashes, charge_of_logs)

-- ---- the hash stores so far, and one more

-- a hash store that was read has the puts that are shown
puts_read : (content : Content) (shape : Shape) (store : HashState) (region : ℕ) → store.region ≡ region → IsReadHash content shape store
    → IsTrue content.honest → store.puts ≡ region_puts shape content.shown region
puts_read content shape store region has_region own h = search arith

module _ (content : Content) (shape : Shape) (said : Option Digests) (regions : List ℕ) (i : ℕ) (stores : List HashState) (puts rows : ℕ)
    (before : i < length regions) (read : AreReadHashes content shape said (take i regions) stores puts rows) where
  -- this many are read
  so_many : length (take i regions) ≡ i
  so_many = length-take-le i regions (omega (arith, before))

  module _ (digest : Option (List ℕ)) (is_said : digest ≡ said_hash said i) where
    -- one hash store more
    pub one_more_hash : (store : HashState) (more_puts more_rows : ℕ) → store.region ≡ get_or regions i 0 → IsReadHash content shape store
        → (IsTrue content.honest → region_findings shape digest content.shown (get_or regions i 0) ≡ []) → more_puts ≡ store.puts
        → (IsTrue content.honest → more_rows ≡ region_rows shape content.shown (get_or regions i 0))
        → AreReadHashes content shape said (take (i + 1) regions) (stores ++ store ∷ []) (puts + more_puts) (rows + more_rows)
    one_more_hash store more_puts more_rows has_region own sound are_puts counted =
        let region : ℕ = get_or regions i 0 in
        let charged : IsTrue content.honest → more_puts ≡ region_puts shape content.shown region = λ h. are_puts ∙ puts_read _ shape store region has_region own h in
        let next = take_more regions i 0 before in
        rw next (record {
          has_regions = map-append hash_region_of stores (store ∷ []) ∙ ap (λ (ids : List ℕ). ids ++ store.region ∷ []) read.has_regions ∙ ap (λ (id : ℕ). take i regions ++ id ∷ []) has_region;
          each = All-push (IsReadHash content shape) stores store read.each own;
          sound = λ h. one_more_sound shape said content.shown (take i regions) region i so_many (read.sound h) (subst (λ (d : Option (List ℕ)). region_findings shape
              d content.shown region ≡ []) is_said (sound h));
          charged = λ h. ap (λ (n : ℕ). n + more_puts) (read.charged h) ∙ ap (λ (n : ℕ). sum_by (region_puts shape content.shown) (take i regions) + n) (charged h) ∙
              sym (sum_by_push (region_puts shape content.shown) (take i regions) region);
          counted = λ h. ap (λ (n : ℕ). n + more_rows) (read.counted h) ∙ ap (λ (n : ℕ). sum_by (region_rows shape content.shown) (take i regions) + n) (counted h) ∙
              sym (sum_by_push (region_rows shape content.shown) (take i regions) region);
        })

    -- a finding in the next hash store
    pub next_slot_finding : (finding : Finding) → (IsTrue content.honest → HasFirstInRegion shape digest content.shown (get_or regions i 0) finding) → IsTrue content.honest
        → HasFirstSlot shape said content.shown regions finding
    next_slot_finding finding found h = record {
      before = take i regions;
      region = get_or regions i 0;
      after = drop (i + 1) regions;
      all = search (arith, drop_more, take-append-drop);
      sound = read.sound h;
      first = search (arith, so_many);
    }
