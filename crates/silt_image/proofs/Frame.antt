-- Which bytes of an image count, and what a change leaves of its stores.
use Rattle.silt_image.proofs.Common.{◌≢◌, zero, suc, ◌+◌, ◌%◌, ◌≤◌, ◌<◌, ◌⊎◌, ◌==◌, inl, inr, true, false, slice_range, sym, ap, ◌∙◌, arith, list_any, range_with_len, and_parts, or_parts, eq-eqb}
use Rattle.silt_image.proofs.Common.{ne_eqb, length-between, Shape, device_size, StoredRow, is_well_formed, Body, SlotRecord, Damage, header_of, header_shape, log_part, Stores, stores_of_current}
use Rattle.silt_image.proofs.Common.{stores_shaped, Finding, ◌≡◌, ℕ, ◌*◌, List, [], ◌∷◌, length, map, Contains, Result, Ok, Err, refl, prefix_len, ltb-true, eqb-false, cases_eq, cases_order}
use Rattle.silt_image.proofs.Common.{ext_get_or, get_or-between, row_len, entry_len, slot_at, log_size, hash_size, sorted_size, commits_at, bodies_at, hash_at, sorted_at, next_region, up_least}
use Rattle.silt_image.proofs.Common.{row_of, entry_row, all_below, shape_found}
use Rattle.silt_manifest.specs.Current.{manifest_found, open_record, record_behind}
use Rattle.silt_image.specs.Meaning.{with_part_rows, image_charge, image_fits, image_map, image_rows, image_stands, image_verdict, with_log_rows, with_new_log}
use Rattle.silt_image.specs.Laws.{HasStores, Agree, FrameLaw, FreeHashLaw, FreeSortedLaw, FreezeLaw, FreezesActive, LogRegionLaw, ManifestLaw, MeaningLaw, SameRegions, SameWithin}
use Rattle.silt_disk.specs.Disk.{Torn}
use Rattle.silt_disk.proofs.Images.{torn_slice_before}
use Rattle.silt_frame.specs.Commit.{is_open}
use Rattle.silt_log.specs.Rows.{body_row, commit_bytes, log_rows, open_count, row_at, rows_from}
use Rattle.silt_log.proofs.Bodies.{map_range_same, body_before}
use Rattle.silt_log.proofs.Counts.{count_most}
use Rattle.silt_manifest.proofs.SoundBodies.{sound_parts}
use Rattle.silt_image.specs.Stores.{image_digests, image_stores, stores_named}
use Rattle.silt_hash_store.specs.Slots.{hash_part, hash_rows}
use Rattle.silt_sorted_store.specs.State.{sorted_rows}
use Rattle.silt_image.proofs.Named.{record_with, stores_law, current_sound, shape_parts}
use Rattle.silt_image.proofs.Rows.{keeps_rows, takes_rows}

-- ---- ranges

-- a part of a range in which both images have the same bytes
same_part : (at count from to : ℕ) (before after : List ℕ) → length after ≡ length before → to ≤ length before → at ≤ from
    → to ≤ at + count → SameWithin at count before after → slice_range after from to ≡ slice_range before from to
same_part at count from to before after size fits low high same =
    let in_after : to ≤ length after = omega (arith, size) in
    ext_get_or 0 (slice_range after from to) (slice_range before from to) (length-between after from to in_after ∙ sym (length-between before from to fits)) (λ place inside.
    let near : from + place < to = omega (arith, inside, length-between after from to in_after) in
    get_or-between after from to place 0 near ∙ same.same (from + place) (omega arith) (omega arith) ∙ sym (get_or-between before from to place 0 near))

-- a change outside a range leaves its bytes
pub torn_same : (at count from len : ℕ) (before after : List ℕ) → Torn at count before after → (from + len ≤ at) ⊎ (at + count ≤ from) → SameWithin from len before after
torn_same at count from len before after torn apart = search (arith, torn.before, torn.after)

-- ---- the regions

-- the ranges of two regions of one size lie apart
pub pieces_apart : (base i j size : ℕ) → i ≢ j → (base + i * size + size ≤ base + j * size) ⊎ (base + j * size + size ≤ base + i * size)
pieces_apart base i j size different = search (arith, cases_order, next_region)

-- the end of the regions, over plain numbers
module _ (logs hashes log_len hash_len sorted_len : ℕ) where
  log_end : (region : ℕ) → region < logs → 12288 + region * log_len + log_len ≤ 12288 + logs * log_len
  log_end region below = omega (arith, next_region region logs log_len below)

  hash_end : (region : ℕ) → region < hashes → 12288 + logs * log_len + region * hash_len + hash_len ≤ 12288 + logs * log_len + hashes * hash_len
  hash_end region below = omega (arith, next_region region hashes hash_len below)

  sorted_end : (region : ℕ) → region < 2 → 12288 + logs * log_len + hashes * hash_len + region * sorted_len + sorted_len ≤ 12288 + logs * log_len + hashes * hash_len + 2 * sorted_len
  sorted_end region below = omega (arith, next_region region 2 sorted_len below)

  log_fits : (region : ℕ) → region < logs → 12288 + region * log_len + log_len ≤ 12288 + logs * log_len + hashes * hash_len + 2 * sorted_len
  log_fits region below = omega (arith, log_end region below)

  hash_fits : (region : ℕ) → region < hashes → 12288 + logs * log_len + region * hash_len + hash_len ≤ 12288 + logs * log_len + hashes * hash_len + 2 * sorted_len
  hash_fits region below = omega (arith, hash_end region below)

  log_before_hash : (region other : ℕ) → region < logs → 12288 + region * log_len + log_len ≤ 12288 + logs * log_len + other * hash_len
  log_before_hash region other below = omega (arith, log_end region below)

  log_before_sorted : (region other : ℕ) → region < logs → 12288 + region * log_len + log_len ≤ 12288 + logs * log_len + hashes * hash_len + other * sorted_len
  log_before_sorted region other below = omega (arith, log_end region below)

  hash_before_sorted : (region other : ℕ) → region < hashes → 12288 + logs * log_len + region * hash_len + hash_len ≤ 12288 + logs * log_len + hashes * hash_len + other * sorted_len
  hash_before_sorted region other below = omega (arith, hash_end region below)

-- ---- the rows of a region

-- the bytes of a log region decide its rows
pub log_rows_same : (s : Shape) (region : ℕ) (before after : List ℕ) → length after ≡ length before → commits_at s region + log_size s ≤ length before
    → SameWithin (commits_at s region) (log_size s) before after → log_rows s region after ≡ log_rows s region before
unfolding log_rows rows_from row_at open_count
log_rows_same s region before after size fits same =
    let commits_end : commits_at s region + s.log_capacity ≤ commits_at s region + log_size s = omega (arith, up_least s.log_capacity) in
    let bodies_end : bodies_at s region + s.log_capacity * row_len s ≤ commits_at s region + log_size s = omega (arith, up_least (s.log_capacity * row_len s)) in
    let commits_fit : commits_at s region + s.log_capacity ≤ length before = omega (arith, commits_end, fits) in
    let bytes : commit_bytes (commits_at s region) s.log_capacity after ≡ commit_bytes (commits_at s region) s.log_capacity before =
    same_part (commits_at s region) (log_size s) (commits_at s region) (commits_at s region + s.log_capacity) before after size commits_fit (omega arith) commits_end same in
    let counted : ℕ = prefix_len is_open (commit_bytes (commits_at s region) s.log_capacity before) in
    let most : counted ≤ s.log_capacity = count_most (commits_at s region) s.log_capacity before commits_fit in
    ap (λ (l : List ℕ). map (body_row (bodies_at s region) (row_len s) after) (range_with_len 0 (prefix_len is_open l))) bytes
    ∙ map_range_same (body_row (bodies_at s region) (row_len s) after) (body_row (bodies_at s region) (row_len s) before) 0 counted (λ place low high.
    let inside : bodies_at s region + place * row_len s + row_len s ≤ bodies_at s region + s.log_capacity * row_len s =
    body_before (bodies_at s region) (row_len s) place s.log_capacity (omega (arith, most, high)) in
    ap row_of (same_part (commits_at s region) (log_size s) (bodies_at s region + place * row_len s) (bodies_at s region + place * row_len s + row_len s) before after size
    (omega (arith, inside, bodies_end, fits)) (omega arith) (omega (arith, inside, bodies_end)) same))

-- and those of a hash region
pub hash_rows_same : (s : Shape) (region : ℕ) (before after : List ℕ) → length after ≡ length before → hash_at s region + hash_size s ≤ length before
    → SameWithin (hash_at s region) (hash_size s) before after → hash_rows s region after ≡ hash_rows s region before
unfolding hash_rows
hash_rows_same s region before after size fits same =
    let slots_end : hash_at s region + 4 * s.buckets * row_len s ≤ hash_at s region + hash_size s = omega (arith, up_least (4 * s.buckets * row_len s)) in
    map_range_same (body_row (hash_at s region) (row_len s) after) (body_row (hash_at s region) (row_len s) before) 0 (4 * s.buckets) (λ place low high.
    let inside : hash_at s region + place * row_len s + row_len s ≤ hash_at s region + 4 * s.buckets * row_len s =
    body_before (hash_at s region) (row_len s) place (4 * s.buckets) (omega (arith, high)) in
    ap row_of (same_part (hash_at s region) (hash_size s) (hash_at s region + place * row_len s) (hash_at s region + place * row_len s + row_len s) before after size
    (omega (arith, inside, slots_end, fits)) (omega arith) (omega (arith, inside, slots_end)) same))

-- and the entries of a sorted region
pub sorted_rows_same : (s : Shape) (region count : ℕ) (before after : List ℕ) → length after ≡ length before → count ≤ s.sorted_capacity
    → sorted_at s region + sorted_size s ≤ length before → SameWithin (sorted_at s region) (sorted_size s) before after → sorted_rows s region count after ≡ sorted_rows s region count before
unfolding sorted_rows
sorted_rows_same s region count before after size room fits same =
    let at : ℕ = sorted_at s region in
    let len : ℕ = entry_len s in
    let entries_end : at + s.sorted_capacity * len ≤ at + sorted_size s = omega (arith, up_least (s.sorted_capacity * entry_len s)) in
    map_range_same (λ place. entry_row (slice_range after (at + place * len) (at + place * len + len))) (λ place. entry_row (slice_range before (at + place *
    len) (at + place * len + len))) 0 count (λ place low high.
    let inside : at + place * len + len ≤ at + s.sorted_capacity * len = body_before at len place s.sorted_capacity (omega (arith, room, high)) in
    ap entry_row (same_part at (sorted_size s) (at + place * len) (at + place * len + len) before after size
    (omega (arith, inside, entries_end, fits)) (omega arith) (omega (arith, inside, entries_end)) same))

-- ---- the stores that a body names

-- two functions that agree on each element of a list make one list of it
pub map_same : {X Y : Type 0} (f g : X → Y) (xs : List X) → ((x : X) → Contains xs x → f x ≡ g x) → map f xs ≡ map g xs
map_same f g [] same = refl
map_same f g (x ∷ xs) same =
    let first : f x ≡ g x = same x (0, omega arith, refl) in
    let others : map f xs ≡ map g xs = map_same f g xs (λ y (k, below, here). same y (suc k, omega arith, here)) in
    cc

-- an element of a list of numbers below a bound
pub below_from : (n : ℕ) (ids : List ℕ) (id : ℕ) → all_below n ids ≡ true → Contains ids id → id < n
below_from n [] id all (k, inside, here) = absurd (omega arith)
below_from n (first ∷ ids) id all (zero, inside, here) = search (arith, and_parts, ltb-true)
below_from n (first ∷ ids) id all (suc k, inside, here) = search (arith, below_from n ids id, and_parts)

-- the regions that a well-formed body names are there
pub record NamesRegions (s : Shape) (b : Body) : Type 0 where
  pub logs : (region : ℕ) → Contains (b.active ∷ b.frozen) region → region < s.logs
  pub hashes : (region : ℕ) → Contains b.hashed region → region < s.hashes
  pub sorted : b.sorted < 2
  pub sorted_count : b.sorted_count ≤ s.sorted_capacity

-- an element of a list with a first element
first_or_later : (first : ℕ) (ids : List ℕ) (id : ℕ) → Contains (first ∷ ids) id → (first ≡ id) ⊎ Contains ids id
first_or_later first ids id (zero, inside, here) = inl here
first_or_later first ids id (suc k, inside, here) = inr (k, omega arith, here)

pub names_regions : (s : Shape) (slot : ℕ) (b : Body) → is_well_formed s slot b ≡ true → NamesRegions s b
names_regions s slot b sound =
    let parts = sound_parts s slot b sound in
    record {
      logs = λ region named. elim (first_or_later b.active b.frozen region named) [
        | inl is ↦ omega (arith, is, parts.active)
        | inr frozen ↦ below_from s.logs b.frozen region parts.frozen frozen
      ];
      hashes = λ region named. below_from s.hashes b.hashed region parts.hashed named;
      sorted = parts.sorted;
      sorted_count = parts.sorted_count;
    }

-- the same hash stores
hashes_same : (s : Shape) (ids : List ℕ) (before after : List ℕ) → length after ≡ length before → device_size s ≤ length before → ((region : ℕ) → Contains ids region → region < s.hashes)
    → ((region : ℕ) → Contains ids region → SameWithin (hash_at s region) (hash_size s) before after) → map (hash_part s after) ids ≡ map (hash_part s before) ids
hashes_same s ids before after size fits there same = map_same (hash_part s after) (hash_part s before) ids (λ region named.
    let inside : hash_at s region + hash_size s ≤ device_size s = hash_fits s.logs s.hashes (log_size s) (hash_size s) (sorted_size s) region (there region named) in
    ap (λ (rows : List StoredRow). record { region = region; rows = rows }) (hash_rows_same s region before after size (omega (arith, inside, fits)) (same region named)))

-- the same entries
entries_same : (s : Shape) (region count : ℕ) (before after : List ℕ) → length after ≡ length before → device_size s ≤ length before → region < 2
    → count ≤ s.sorted_capacity → SameWithin (sorted_at s region) (sorted_size s) before after → sorted_rows s region count after ≡ sorted_rows s region count before
entries_same s region count before after size fits there room same = search (arith, sorted_end, sorted_rows_same)

-- the same rows of a log
log_same : (s : Shape) (region : ℕ) (before after : List ℕ) → length after ≡ length before → device_size s ≤ length before
    → region < s.logs → SameWithin (commits_at s region) (log_size s) before after → log_rows s region after ≡ log_rows s region before
log_same s region before after size fits there same = search (arith, log_fits, log_rows_same)

-- stores of one shape and body whose parts are the same
named_from : (s : Shape) (b : Body) (before after : List ℕ) → map (log_part s after) (b.active ∷ b.frozen) ≡ map (log_part s before) (b.active ∷ b.frozen)
    → map (hash_part s after) b.hashed ≡ map (hash_part s before) b.hashed
    → sorted_rows s b.sorted b.sorted_count after ≡ sorted_rows s b.sorted b.sorted_count before → stores_named s b after ≡ stores_named s b before
unfolding stores_named
named_from s b before after logs hashes entries = cc

-- the named regions decide the stores
pub stores_named_same : (s : Shape) (b : Body) (before after : List ℕ) → NamesRegions s b → length after ≡ length before
    → device_size s ≤ length before → SameRegions s b before after → stores_named s b after ≡ stores_named s b before
stores_named_same s b before after there size fits same =
    named_from s b before after (map_same (log_part s after) (log_part s before) (b.active ∷ b.frozen) (λ region named. ap (λ (rows : List StoredRow).
    record { region = region; rows = rows }) (log_same s region before after size fits (there.logs region named) (same.logs region named)))) (hashes_same s
    b.hashed before after size fits there.hashes same.hashes) (search (arith, entries_same))

-- ---- the manifest

-- one header, and two slots with the same records
same_manifest : (s : Shape) (before after : List ℕ) → header_of after ≡ header_of before → open_record after 0 ≡ open_record before 0
    → open_record after 1 ≡ open_record before 1 → manifest_found s after ≡ manifest_found s before
same_manifest s before after header first second = cc

-- a change after the slots leaves their records
manifest_before : (s : Shape) (at count : ℕ) (before after : List ℕ) → 12288 ≤ at → 12288 ≤ length before → header_of after ≡ header_of before
    → Torn at count before after → manifest_found s after ≡ manifest_found s before
manifest_before s at count before after low long header torn =
    same_manifest s before after header (ap record_behind (torn_slice_before at count before after torn (slot_at 0) (slot_at 0 + 461) (omega arith) (omega
    arith))) (ap record_behind (torn_slice_before at count before after torn (slot_at 1) (slot_at 1 + 461) (omega arith) (omega arith)))

-- ---- the frame

-- what the images agree on, of the stores that were named
frame_regions : (before after : List ℕ) (shape : Shape) (body : Body) → Agree before after → image_stores before ≡ Ok (stores_named shape body before) → SameRegions shape body before after
unfolding stores_named
frame_regions before after shape body agree stores = agree.regions (stores_named shape body before) stores

-- the stores of an image, from its shape and its body
frame_of_current : (shape : Shape) (before after : List ℕ) → Agree before after → shape_found (length before) (header_of before) ≡ Ok shape
    → stores_of_current shape after (manifest_found shape before) ≡ stores_of_current shape before (manifest_found shape before)
unfolding image_stores
frame_of_current shape before after agree has_shape = go _ refl
  where
    go : (r : Result SlotRecord Damage) → manifest_found shape before ≡ r → stores_of_current shape after r ≡ stores_of_current shape before r
    go (Err damaged) has = refl
    go (Ok found) has =
        let body : Body = found.body in
        let stores : image_stores before ≡ Ok (stores_named shape body before) = cc in
        let shaped = shape_parts _ _ shape has_shape in
        let same = frame_regions before after shape body agree stores in
        ap Ok (stores_named_same shape body before after (names_regions shape _ body (current_sound shape before found has)) agree.size (omega (arith, shaped.size)) same)

frame_shaped : (before after : List ℕ) → Agree before after → (r : Result Shape Finding) → shape_found (length before) (header_of before) ≡ r → stores_shaped after r ≡ stores_shaped before r
frame_shaped before after agree (Err finding) has = refl
frame_shaped before after agree (Ok shape) has =
    ap (stores_of_current shape after) (same_manifest shape before after agree.header agree.first_slot agree.second_slot) ∙ frame_of_current shape before after agree has

-- images that agree on all that counts have the same stores
frame_stores : (before after : List ℕ) → Agree before after → image_stores after ≡ image_stores before
unfolding image_stores
frame_stores before after agree = cc (agree.size, agree.header, frame_shaped before after agree (shape_found (length before) (header_of before)) refl)

-- and have the same digests in their manifests
frame_digests : (before after : List ℕ) → Agree before after → image_digests after ≡ image_digests before
unfolding image_digests
frame_digests before after agree = cc (agree.header, same_manifest (header_shape (header_of before)) before after agree.header agree.first_slot agree.second_slot)

pub frame_law : FrameLaw
frame_law before after agree = (frame_stores before after agree, frame_digests before after agree)

-- images with the same stores and the same digests in their manifests have the same meaning
pub meaning_law : MeaningLaw
unfolding image_verdict image_stands image_fits image_rows image_map image_charge
meaning_law before after same said = search arith

-- ---- changes

-- after the manifest slots: the header and the current body stay
pub stores_after : (at count : ℕ) (before after : List ℕ) (s other : Stores) → HasStores s before → 12288 ≤ at → Torn at count before after
    → other.shape ≡ s.shape → other.body ≡ s.body → other ≡ stores_named s.shape s.body after → image_stores after ≡ Ok other
stores_after at count before after s other has low torn shape body named =
    let shaped = shape_parts _ _ _ has.shape in
    let long : 12288 ≤ length before = omega (arith, shaped.size) in
    let header = torn_slice_before at count before after torn 0 37 (omega arith) (omega arith) in
    (stores_law after other).1 (record {
      shape = cc (torn.size, has.shape);
      digests = has.digests;
      current = cc (manifest_before s.shape at count before after low long header torn, has.current);
      named = cc;
    })

-- the regions of an image with stores
stores_regions : (image : List ℕ) (s : Stores) → HasStores s image → NamesRegions s.shape s.body
stores_regions image s has = names_regions s.shape (s.body.generation % 2) s.body (current_sound s.shape image (record_with has.digests s.body) has.current)

-- one log, with the rows that it has now
log_after : (s : Shape) (region id : ℕ) (before after : List ℕ) → Torn (commits_at s region) (log_size s) before after
    → device_size s ≤ length before → id < s.logs → with_part_rows region (log_rows s region after) (log_part s before id) ≡ log_part s after id
log_after s region id before after torn fits there = elim (cases_eq id region) [
  | inl is ↦ cc (takes_rows region (log_rows s region after) (log_part s before id) (eq-eqb id region is))
  | inr other ↦
      keeps_rows region (log_rows s region after) (log_part s before id) (ne_eqb id region other)
      ∙ ap (λ (rows : List StoredRow). record { region = id; rows = rows }) (sym (log_same s id before after torn.size fits there
      (torn_same (commits_at s region) (log_size s) (commits_at s id) (log_size s) before after torn (pieces_apart 12288 id region (log_size s) other))))
]

-- the logs, with the rows that they have now
logs_after : (s : Shape) (region : ℕ) (ids : List ℕ) (before after : List ℕ) → Torn (commits_at s region) (log_size s) before after → device_size s ≤ length before
    → ((id : ℕ) → Contains ids id → id < s.logs) → map (with_part_rows region (log_rows s region after)) (map (log_part s before) ids) ≡ map (log_part s after) ids
logs_after s region [] before after torn fits there = refl
logs_after s region (id ∷ ids) before after torn fits there =
    let first = log_after s region id before after torn fits (there id (0, omega arith, refl)) in
    let rest = logs_after s region ids before after torn fits (λ other (k, below, here). there other (suc k, omega arith, here)) in
    cc

-- the named stores, with the rows that a log has now
log_changed : (s : Shape) (b : Body) (region : ℕ) (before after : List ℕ) → NamesRegions s b → Torn (commits_at s region) (log_size s) before after → device_size s ≤ length before → region < s.logs
    → with_log_rows region (log_rows s region after) (stores_named s b before) ≡ stores_named s b after
unfolding with_log_rows stores_named
log_changed s b region before after there torn fits below =
    let logs = logs_after s region (b.active ∷ b.frozen) before after torn fits there.logs in
    let hashes : map (hash_part s before) b.hashed ≡ map (hash_part s after) b.hashed = sym (hashes_same s b.hashed before after torn.size fits there.hashes (λ id named.
    torn_same (commits_at s region) (log_size s) (hash_at s id) (hash_size s) before after torn (inr (log_before_hash s.logs s.hashes (log_size s) (hash_size s) (sorted_size s) region id below)))) in
    let entries : sorted_rows s b.sorted b.sorted_count before ≡ sorted_rows s b.sorted b.sorted_count after = sym (entries_same s b.sorted b.sorted_count
    before after torn.size fits there.sorted there.sorted_count (torn_same (commits_at s region) (log_size s) (sorted_at s b.sorted) (sorted_size s) before
    after torn (inr (log_before_sorted s.logs s.hashes (log_size s) (hash_size s) (sorted_size s) region b.sorted below)))) in
    cc

-- a change in a log region changes the rows of that log alone
pub log_region_law : LogRegionLaw
unfolding with_log_rows
log_region_law before after s region e below torn =
    let has = (stores_law before s).0 e in
    let shaped = shape_parts _ _ _ has.shape in
    let rows : List StoredRow = log_rows s.shape region after in
    let changed : with_log_rows region rows s ≡ stores_named s.shape s.body after =
    ap (with_log_rows region rows) has.named ∙ log_changed _ s.body region before after (stores_regions before s has) torn (omega (arith, shaped.size)) below in
    stores_after _ _ before after s _ has (omega arith) torn refl refl changed

-- stores that a change leaves
unchanged : (at count : ℕ) (before after : List ℕ) (s : Stores) → image_stores before ≡ Ok s → 12288 ≤ at → Torn at count before after
    → SameRegions s.shape s.body before after → image_stores after ≡ Ok s
unchanged at count before after s e low torn same =
    let has = (stores_law before s).0 e in
    let shaped = shape_parts (length before) (header_of before) s.shape has.shape in
    stores_after at count before after s s has low torn refl refl
    (has.named ∙ sym (stores_named_same s.shape s.body before after (stores_regions before s has) torn.size (omega (arith, shaped.size)) same))

-- a number that a list does not have is none of its elements
other_than : (region : ℕ) (ids : List ℕ) (id : ℕ) → list_any (λ other. other == region) ids ≡ false → Contains ids id → id ≢ region
other_than region [] id none (k, inside, here) is = absurd (omega arith)
other_than region (first ∷ ids) id none (zero, inside, here) is = search (arith, or_parts, eqb-false)
other_than region (first ∷ ids) id none (suc k, inside, here) is = search (arith, other_than region ids id, or_parts)

-- a change in a hash region that the body does not name changes nothing
pub free_hash_law : FreeHashLaw
free_hash_law before after s region e below free torn =
    let has = (stores_law before s).0 e in
    let there = stores_regions before s has in
    let sh = s.shape in
    unchanged (hash_at sh region) (hash_size sh) before after s e (omega arith) torn (record {
      logs = λ id named. torn_same (hash_at sh region) (hash_size sh) (commits_at sh id) (log_size sh) before after torn (inl (search (arith, log_before_hash, there.logs)));
      hashes = search (arith, torn_same, pieces_apart, other_than);
      sorted = torn_same (hash_at sh region) (hash_size sh) (sorted_at sh s.body.sorted) (sorted_size sh) before after torn (inr (search (arith, hash_before_sorted)));
    })

-- nor does one in the sorted region that the body does not name
pub free_sorted_law : FreeSortedLaw
free_sorted_law before after s region e below other torn =
    let has = (stores_law before s).0 e in
    let there = stores_regions before s has in
    let sh = s.shape in
    unchanged _ _ before after s e (omega arith) torn (record {
      logs = λ id named. torn_same _ _ _ _ before after torn (inl (log_before_sorted _ _ _ _ _ id region (there.logs id named)));
      hashes = λ id named. torn_same _ _ _ _ before after torn (inl (hash_before_sorted _ _ _ _ _ id region (there.hashes id named)));
      sorted = torn_same _ _ _ _ before after torn (pieces_apart _ _ region _ (λ is. other (sym is)));
    })

-- after a change in a manifest slot the stores are those that the new current body names
pub manifest_law : ManifestLaw
unfolding stores_named
manifest_law before after s slot found e below torn is_current =
    let body : Body = found.body in
    let has = (stores_law before s).0 e in
    let sh = s.shape in
    let shaped = shape_parts (length before) (header_of before) sh has.shape in
    let header : header_of after ≡ header_of before = torn_slice_before (slot_at slot) 4096 before after torn 0 37 (omega arith) (omega (arith, shaped.size)) in
    let there = names_regions sh (body.generation % 2) body (current_sound sh after found is_current) in
    let same : SameRegions sh body before after = search (arith, torn_same) in
    (stores_law after (stores_named sh body before)).1 (record {
      shape = cc (torn.size, has.shape);
      digests = found.digests;
      current = is_current;
      named = sym (stores_named_same sh body before after there torn.size (omega (arith, shaped.size)) same);
    })

-- the stores of a next body, over those of the body before it
freeze_named : (sh : Shape) (old next : Body) (image : List ℕ) → FreezesActive old next → log_rows sh next.active image ≡ []
    → stores_named sh next image ≡ with_new_log next (stores_named sh old image)
unfolding stores_named with_new_log
freeze_named sh old next image freezes none = cc (freezes.frozen, freezes.hashed, freezes.sorted, freezes.sorted_count)

-- a body that freezes the active log names the stores with a new log in front
pub freeze_law : FreezeLaw
freeze_law image s next e freezes none = freeze_named s.shape s.body next image freezes none ∙ ap (with_new_log next) (sym ((stores_law image s).0 e).named)
