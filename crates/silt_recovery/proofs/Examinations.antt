-- What an examination holds, or why it is refused.
use Rattle.silt_recovery.proofs.Common.{◌≡◌, ◌≤◌, ◌<◌, ◌+◌, ℕ, true, IsTrue, List, [], ◌∷◌, ◌++◌, All, length, sum_by, Option, Ok, refl, ap, sym, ◌∙◌, subst, arith, sum_by-cons, Content, Rests}
use Rattle.silt_recovery.proofs.Common.{size, Shape, InLimits, device_size, HashState, IsHashStore, put_count, Stores, image_digests, image_stores, Finding, log_rows, LogStoreState, Body, Digests}
use Rattle.silt_recovery.proofs.Common.{SortedState, HasFirstEntry, AreReadHashes, AreSoundHashes, HasFirstSlot, AreReadLogs, AreSoundLogs, HasFirstFinding, IsReadLog, put_rows, Holds, IsFound}
use Rattle.silt_recovery.proofs.Common.{flat_map, None, enumerate_from, append-nil, All-cons, All-nil, All-weaker, AreDigestsOf, IsSound, charge_of, said_entry_findings, said_hash_findings}
use Rattle.silt_recovery.proofs.Common.{Charge, charge_found_law, ManifestState, IsCurrent, HasDigest, IsHeldSorted, IsHashOf, IsSettled, sorted_named, AreSoundEntries, IsReadHash}
use Rattle.std.proofs.lemmas.Bool.{and_parts, ltb-true}
use Rattle.silt_image.specs.Stores.{stores_named}
use Rattle.silt_event.specs.declared.damage.Finding.TheVariants.{Damaged}
use Rattle.silt_image.proofs.Sound.{none_found, said_law}
use Rattle.silt_log_store.specs.Findings.{log_findings}
use Rattle.silt_manifest.specs.Body.{all_below, is_well_formed}
use Rattle.silt_manifest.proofs.SoundBodies.{sound_parts}
use Rattle.silt_sorted_store.specs.Index.{HasIndex}
use Rattle.silt_trie.specs.Marks.{MarkedCode}
use Rattle.silt_recovery.proofs.EntrySearches.{entry_verdict}
use Rattle.silt_recovery.proofs.HashSearches.{charge_of_named, known_count, rows_of_hashes, slot_verdict}
use Rattle.silt_recovery.proofs.Searches.{found_within, log_verdict, sound_both}

-- the stores in the words of the six numbers and the body
pub named_so : (content : Content) (manifest : ManifestState) (shape : Shape) (body : Body) → shape ≡ manifest.shape → body ≡ manifest.current
    → (IsTrue content.honest → image_stores content.shown ≡ Ok (stores_named manifest.shape manifest.current content.shown))
    → IsTrue content.honest → image_stores content.shown ≡ Ok (stores_named shape body content.shown)
named_so content manifest shape body same_shape same_body named h = search arith

-- nothing is found in the stores, and the manifest's digests are theirs
all_found : (said : Option Digests) (s : Stores) → flat_map (log_findings s.shape) s.logs ≡ []
    → flat_map (said_hash_findings s.shape said) (enumerate_from 0 s.hashes) ≡ [] → said_entry_findings said s.entries ≡ []
    → charge_of s ≤ s.shape.sorted_capacity → IsSound s × AreDigestsOf said s
all_found said s logs hashes entries charge = (said_law said s).0 (search (arith, none_found))

-- the digests in the words of the manifest
pub says_so : (content : Content) (manifest : ManifestState) (said : Option Digests) → said ≡ manifest.digests
    → (IsTrue content.honest → image_digests content.shown ≡ manifest.digests) → IsTrue content.honest → image_digests content.shown ≡ said
says_so content manifest said same says h = says h ∙ sym same

module _ (content : Content) (shape : Shape) (body : Body) (named : IsTrue content.honest → image_stores content.shown ≡ Ok (stores_named shape body content.shown)) where
  -- the stores in the words of the manifest
  same_stores : (manifest : ManifestState) → shape ≡ manifest.shape → body ≡ manifest.current → stores_named shape body content.shown ≡ stores_named manifest.shape manifest.current content.shown
  same_stores manifest same_shape same_body = ap (λ (s : Shape). stores_named s body content.shown) same_shape ∙ ap (λ (b : Body). stores_named manifest.shape b content.shown) same_body

  -- the first finding is in the active log
  pub active_refused : (finding : Finding) → (IsTrue content.honest → HasFirstFinding shape content.shown (body.active ∷ []) finding) → IsTrue content.honest → IsFound content.shown finding
  active_refused finding found h =
      log_verdict shape body content.shown finding (named h) (found_within shape content.shown [] (body.active ∷ []) body.frozen finding refl (found h))

  module _ (sound : IsTrue content.honest → AreSoundLogs shape content.shown (body.active ∷ [])) where
    -- or in a frozen one
    pub frozen_refused : (regions : List ℕ) → regions ≡ body.frozen → (finding : Finding)
        → (IsTrue content.honest → HasFirstFinding shape content.shown regions finding) → IsTrue content.honest → IsFound content.shown finding
    frozen_refused regions are finding found h =
        let all : (body.active ∷ []) ++ regions ++ [] ≡ body.active ∷ body.frozen = cc (append-nil (body.active ∷ regions)) in
        log_verdict shape body _ _ (named h) (rw all at (found_within shape content.shown (body.active ∷ []) regions [] finding (sound h) (found h)))

    module _ (regions : List ℕ) (frozen_are : regions ≡ body.frozen) (frozen : List LogStoreState) (older : ℕ) (read : AreReadLogs content shape regions frozen older) (said : Option Digests)
        (says : IsTrue content.honest → image_digests content.shown ≡ said) where
      -- nothing is found in any log
      all_sound : IsTrue content.honest → AreSoundLogs shape content.shown (body.active ∷ body.frozen)
      all_sound h = search (arith, sound_both)

      -- or in a hash store
      pub hashed_refused : (ids : List ℕ) → ids ≡ body.hashed → (finding : Finding) → (IsTrue content.honest → HasFirstSlot shape said content.shown ids finding)
          → IsTrue content.honest → IsFound content.shown finding
      hashed_refused ids named_ids finding found h = search (arith, slot_verdict, all_sound)

      module _ (ids : List ℕ) (named_ids : ids ≡ body.hashed) (hashes : List HashState) (hash_puts hash_rows : ℕ) (hashed : AreReadHashes content shape said ids hashes hash_puts hash_rows) where
        -- nothing is found in any hash store
        hashes_sound : IsTrue content.honest → AreSoundHashes shape said content.shown body.hashed
        hashes_sound h = subst (λ (all : List ℕ). AreSoundHashes shape said content.shown all) named_ids (hashed.sound h)

        -- in the words of the image
        image_sound : IsTrue content.honest → AreSoundHashes shape (image_digests content.shown) content.shown body.hashed
        image_sound h = subst (λ (d : Option Digests). AreSoundHashes shape d content.shown body.hashed) (sym (says h)) (hashes_sound h)

        -- or in an entry
        pub entry_refused : (finding : Finding) → (IsTrue content.honest → HasFirstEntry shape said content.shown body.sorted body.sorted_count finding)
            → IsTrue content.honest → IsFound content.shown finding
        entry_refused finding found h = search (arith, entry_verdict, all_sound, image_sound)

        -- the rows that were counted are all
        pub rows_counted : (manifest : ManifestState) → shape ≡ manifest.shape → body ≡ manifest.current → IsTrue content.honest
            → hash_rows ≡ sum_by known_count (stores_named manifest.shape manifest.current content.shown).hashes
        unfolding stores_named
        rows_counted manifest same_shape same_body h =
            cc (hashed.counted h, rows_of_hashes shape content.shown body.hashed, same_stores manifest same_shape same_body)

        module _ (sorted : SortedState) (are : sorted ≡ sorted_named shape body) (held_sorted : IsHeldSorted sorted)
            (entries_sound : IsTrue content.honest → AreSoundEntries shape said content.shown body.sorted body.sorted_count)
            (newest : ℕ) (counted : IsTrue content.honest → newest ≡ put_count (log_rows shape body.active content.shown)) where
          -- the puts that were counted are all
          charge_is : IsTrue content.honest → newest + older + hash_puts + sorted.count ≡ charge_of (stores_named shape body content.shown)
          charge_is h =
              let puts : ℕ → ℕ = λ (region : ℕ). put_count (log_rows shape region content.shown) in
              let in_logs : newest + older ≡ put_rows shape content.shown (body.active ∷ body.frozen) =
              ap (λ (n : ℕ). n + older) (counted h) ∙ ap (λ (n : ℕ). puts body.active + n) (read.counted h ∙ ap (put_rows shape content.shown) frozen_are)
              ∙ sym (sum_by-cons puts body.active body.frozen) in
              search (arith, charge_of_named)

          -- too many puts
          pub charge_refused : shape.sorted_capacity < newest + older + hash_puts + sorted.count → IsTrue content.honest → IsFound content.shown (Damaged Charge)
          unfolding stores_named
          charge_refused many h =
              charge_found_law content.shown (stores_named shape body content.shown) (named h) (all_sound h) (image_sound h) (rw (← (says h)) at (entries_sound
              h)) (rw (charge_is h) at many)

          -- nothing is found, and the manifest's digests are those of the stores
          nothing_found : newest + older + hash_puts + sorted.count ≤ shape.sorted_capacity → IsTrue content.honest
              → IsSound (stores_named shape body content.shown) × AreDigestsOf said (stores_named shape body content.shown)
          unfolding stores_named
          nothing_found most h = all_found said (stores_named shape body content.shown) (all_sound h) (hashes_sound h) (entries_sound h)
              (subst (λ (n : ℕ). n ≤ shape.sorted_capacity) (charge_is h) most)

          module _ (manifest : ManifestState) (same_shape : shape ≡ manifest.shape) (same_body : body ≡ manifest.current) (same_said : said ≡ manifest.digests) where
            -- what is held
            pub held : (active : LogStoreState) (index : MarkedCode) (digest : List ℕ) (charge : ℕ) → InLimits shape
                → size content ≡ device_size manifest.shape → manifest.prepared ≡ None → (Rests content → IsCurrent manifest content)
                → IsReadLog content shape active → active.log.region ≡ body.active → HasIndex content sorted index
                → HasDigest content sorted digest → charge ≡ newest + older + hash_puts + sorted.count → charge ≤ shape.sorted_capacity
                → Holds content (record
                { manifest = manifest; active = active; frozen = frozen; hashes = hashes; sorted = sorted; index = index; digest = digest; converting = None; merging = None; charge = charge })
            held active index digest charge limits sized idle is_current own region located digested total most = record {
              limits = subst InLimits same_shape limits;
              has_size = sized;
              whole = record {
                has_shape = own.has_shape ∙ same_shape;
                active_region = region ∙ ap (λ (b : Body). b.active) same_body;
                frozen_regions = read.has_regions ∙ frozen_are ∙ ap (λ (b : Body). b.frozen) same_body;
                settled = All-weaker (IsReadLog content shape) (IsSettled manifest.shape) (λ store is. record { has_shape = is.has_shape ∙ same_shape; settled = is.settled }) frozen read.each;
                hash_regions = hashed.has_regions ∙ named_ids ∙ ap (λ (b : Body). b.hashed) same_body;
                hashed = All-weaker (IsReadHash content shape) (IsHashOf manifest.shape) (λ store is. record { has_shape = is.hash.has_shape ∙ same_shape; held = is.hash.held }) hashes hashed.each;
                sorted = are ∙ ap (λ (s : Shape). sorted_named s body) same_shape ∙ ap (sorted_named manifest.shape) same_body;
                held = held_sorted;
                under_way = tt;
                merging = tt;
                most = subst (λ (s : Shape). charge ≤ s.sorted_capacity) same_shape most;
              };
              idle = idle;
              none_converted = refl;
              none_merged = refl;
              current = is_current;
              active = subst (λ (s : Shape). IsReadLog content s active) same_shape own;
              frozen = subst (λ (s : Shape). All (IsReadLog content s) frozen) same_shape read.each;
              hashed = All-weaker (IsReadHash content shape) (IsHashStore content) (λ store is. is.stands) hashes hashed.each;
              located = located;
              digested = digested;
              named = λ h. named h ∙ ap Ok (same_stores manifest same_shape same_body);
              says = λ h. says h ∙ same_said;
              sound = λ h. subst IsSound (same_stores manifest same_shape same_body) (nothing_found (subst (λ (n : ℕ). n ≤ shape.sorted_capacity) total most) h).0;
              said = λ h. subst (λ (d : Option Digests). AreDigestsOf d (stores_named manifest.shape manifest.current content.shown)) same_said (subst
                  (AreDigestsOf said) (same_stores manifest same_shape same_body) (nothing_found (subst (λ (n : ℕ). n ≤ shape.sorted_capacity) total most) h).1);
              counted = λ h. total ∙ charge_is h ∙ ap charge_of (same_stores manifest same_shape same_body);
            }

-- regions that exist, by a test
all_exist : (n : ℕ) (ids : List ℕ) → all_below n ids ≡ true → All (λ (id : ℕ). id < n) ids
all_exist n [] is = All-nil (λ (id : ℕ). id < n)
all_exist n (id ∷ ids) is = search (arith, all_exist n ids, and_parts, All-cons, ltb-true)

-- the logs, the hash stores and the entries of a body that is well formed exist, and are no more than a device can have
pub record HasRegions (shape : Shape) (body : Body) : Type 0 where
  pub active : body.active < shape.logs
  pub few : length body.frozen ≤ 7
  pub frozen : All (λ (region : ℕ). region < shape.logs) body.frozen
  pub few_hashed : length body.hashed ≤ 16
  pub hashed : All (λ (region : ℕ). region < shape.hashes) body.hashed
  pub sorted : body.sorted < 2
  pub room : body.sorted_count ≤ shape.sorted_capacity

pub named_regions : (shape : Shape) (slot : ℕ) (body : Body) → InLimits shape → is_well_formed shape slot body ≡ true → HasRegions shape body
named_regions shape slot body limits sound =
    let parts = sound_parts shape slot body sound in
    record {
      active = parts.active;
      few = omega (arith, parts.frozen_count, limits.logs_most);
      frozen = all_exist shape.logs body.frozen parts.frozen;
      few_hashed = omega (arith, parts.hashed_count, limits.hashes_most);
      hashed = all_exist shape.hashes body.hashed parts.hashed;
      sorted = parts.sorted;
      room = parts.sorted_count;
    }

-- the same of a body and of numbers that are named in another way
pub regions_so : (manifest : ManifestState) (slot : ℕ) (shape : Shape) (body : Body) → shape ≡ manifest.shape → body ≡ manifest.current
    → InLimits shape → is_well_formed manifest.shape slot manifest.current ≡ true → HasRegions shape body
regions_so manifest slot shape body same_shape same_body limits sound = search (arith, named_regions)
