-- What a change in one place of the disk leaves of the logs, the hash stores, the entries, the conversion and the merge in other places.
use Rattle.silt_engine.proofs.Common.{◌≡◌, ◌≢◌, ◌≤◌, ◌<◌, ℕ, ◌+◌, ◌*◌, ◌-◌, ◌%◌, ◌==◌, true, false, IsTrue, List, suc, length, map, get_or, Option, Some, None, inl, inr, ap, sym, ◌∙◌, subst, arith}
use Rattle.silt_engine.proofs.Common.{All, Contains, IfSome, list_any, get_or-map, length-map, All-drop, list_any_at, ChangesWithin, Content, LiesOutside, size, Shape, device_size, entries_len}
use Rattle.silt_engine.proofs.Common.{commits_at, hash_at, log_len, log_size, row_len, slot_at, slots_len, sorted_at, regions_apart, up_least, first_rows, row_at, InBounds, LogState, all_rows}
use Rattle.silt_engine.proofs.Common.{log_inside, log_rows_elsewhere, IsIndexed, LogStoreState, ConversionState, HasWritten, HashState, IsHashStore, pieces_apart, whole_law, is_well_formed, Body}
use Rattle.silt_engine.proofs.Common.{HasMerged, MergeState, oldest_stores, SortedState, digest_elsewhere, indexed_elsewhere, IsHashOf, IsMerging, IsUnderWay, EngineState, hash_region_of}
use Rattle.silt_engine.proofs.Common.{oldest_log, region_of, HasGathered, IsDigested, IsFrozen, IsLocated, Stands, shown_stores, entries_behind_log, length-map-range_with_len, next_region}
use Rattle.silt_engine.proofs.Common.{hash_elsewhere, IsWhole, names_regions, apart_of, merged_elsewhere}
use Rattle.silt_log.specs.Rows.{log_rows, open_count, rows_from}
use Rattle.silt_log.proofs.Counts.{count_most}
use Rattle.silt_conversion.proofs.Elsewhere.{written_elsewhere}
use Rattle.silt_engine.proofs.Facts.{shown_named}
use Rattle.silt_engine.proofs.Named.{named_body, named_shape}

-- a disk that obeys the crash model after a change did so before it, and the other way round
pub honest_old : {at count : ℕ} {old new : Content} → ChangesWithin at count old new → IsTrue new.honest → IsTrue old.honest
honest_old changes h = subst IsTrue changes.honest h

pub honest_new : {at count : ℕ} {old new : Content} → ChangesWithin at count old new → IsTrue old.honest → IsTrue new.honest
honest_new changes h = subst IsTrue (sym changes.honest) h

-- ---- places

-- another log region lies outside
pub outside_other : (shape : Shape) (region other : ℕ) → region ≢ other → LiesOutside (commits_at shape region) (log_len shape) (commits_at shape other) (log_size shape)
outside_other shape region other differ =
    elim (pieces_apart 12288 region other (log_size shape) differ) [
      | inl before ↦ inr (omega (arith, before, up_least (shape.log_capacity * row_len shape)))
      | inr behind ↦ inl behind
    ]

-- a manifest slot lies outside each log region
pub outside_slot : (shape : Shape) (region slot : ℕ) → slot < 2 → LiesOutside (commits_at shape region) (log_len shape) (slot_at slot) 4096
outside_slot shape region slot below = inl (omega (arith, below))

-- a log region lies before the slots of each hash store
log_ends : (size logs region rest : ℕ) → region < logs → 12288 + region * size + size ≤ 12288 + logs * size + rest
log_ends size logs region rest below = omega (arith, next_region region logs size below)

pub slots_behind_log : (shape : Shape) (region hash : ℕ) → region < shape.logs → LiesOutside (hash_at shape hash) (slots_len shape) (commits_at shape region) (log_size shape)
slots_behind_log shape region hash below = inl (log_ends _ _ region _ below)

-- and so does a manifest slot
pub slots_behind_manifest : (shape : Shape) (hash slot : ℕ) → slot < 2 → LiesOutside (hash_at shape hash) (slots_len shape) (slot_at slot) 4096
slots_behind_manifest shape hash slot below = inl (omega (arith, below))

-- entries lie behind the manifest
pub entries_behind_manifest : (shape : Shape) (sorted slot : ℕ) → slot < 2 → LiesOutside (sorted_at shape sorted) (entries_len shape) (slot_at slot) 4096
entries_behind_manifest shape sorted slot below = inl (omega (arith, below))

-- ---- frozen logs

-- there are as many rows as commit bytes before the first closed one
pub length-log_rows : (shape : Shape) (region : ℕ) (image : List ℕ) → length (log_rows shape region image) ≡ open_count shape region image
unfolding log_rows rows_from
length-log_rows shape region image = length-map-range_with_len (row_at shape region image) 0 (open_count shape region image)

-- a log with the rows before the first closed commit byte
pub scanned_all : (content : Content) (log : LogState) → log.used ≡ open_count log.shape log.region content.shown → all_rows content log ≡ log_rows log.shape log.region content.shown
unfolding log_rows
scanned_all content log counted = ap (λ (n : ℕ). first_rows log.shape log.region content.shown n) counted

-- the table of a log's keys and the number of its puts depend on its rows alone
pub indexed_same : (old new : Content) (store : LogStoreState) → (IsTrue new.honest → IsTrue old.honest)
    → (IsTrue new.honest → all_rows new store.log ≡ all_rows old store.log) → IsIndexed old store → IsIndexed new store
indexed_same old new store back same indexed = search (arith, back)

-- a change outside a frozen log's region leaves the log
pub frozen_elsewhere : (old new : Content) (store : LogStoreState) (at count : ℕ) → size old ≡ device_size store.log.shape → ChangesWithin at count old new
    → (IsTrue old.honest → (store.log.region < store.log.shape.logs) × LiesOutside (commits_at store.log.shape store.log.region) (log_len store.log.shape) at count)
    → IsFrozen old store → IsFrozen new store
frozen_elsewhere old new store at count sized changes lies frozen =
    let s : Shape = store.log.shape in
    let r : ℕ = store.log.region in
    let back : IsTrue new.honest → IsTrue old.honest = λ h. subst IsTrue changes.honest h in
    let same : IsTrue new.honest → log_rows s r new.shown ≡ log_rows s r old.shown =
    λ h. log_rows_elsewhere s r at count old.shown new.shown (lies (back h)).0 (omega (arith, sized)) (lies (back h)).1 (changes.shown (back h)) in
    let counted : IsTrue new.honest → store.log.used ≡ open_count s r new.shown = λ h. frozen.rows (back h) ∙ sym (length-log_rows s r _) ∙ ap length (sym (same h)) ∙ length-log_rows s r _ in
    record { rows = counted; indexed = search (arith, indexed_same, scanned_all, frozen.rows) }

-- ---- the regions of frozen logs

-- a number that no element of a list is
pub not_among : (ids : List ℕ) (x id : ℕ) → list_any (λ other. other == x) ids ≡ false → Contains ids id → id ≢ x
not_among ids x id none (k, inside, here) e = search (arith, list_any_at)

-- the body names the region of each frozen log
pub frozen_named : (s : EngineState) → map region_of s.frozen ≡ s.manifest.current.frozen → (k : ℕ) (d : LogStoreState)
    → k < length s.frozen → Contains s.manifest.current.frozen (region_of (get_or s.frozen k d))
frozen_named s are k d inside = (
  k,
  omega (arith, inside, length-map s.frozen region_of, ap length are),
  cc (get_or-map region_of s.frozen k d (region_of (get_or s.frozen k d)) inside),
)

module _ (content : Content) (s : EngineState) (stands : Stands content s) (honest : IsTrue content.honest) where
  -- the current record is well formed
  pub current_sound : is_well_formed s.manifest.shape (s.manifest.current.generation % 2) s.manifest.current ≡ true
  current_sound =
      let whole : IsWhole (shown_stores content s) content.shown = whole_law content.shown (shown_stores content s) (shown_named _ s stands honest) in
      search (arith, named_shape, named_body)

  -- each region that it names is there
  pub named_below : (region : ℕ) → Contains s.manifest.current.frozen region → region < s.manifest.shape.logs
  named_below region (k, inside, here) =
      (names_regions s.manifest.shape (s.manifest.current.generation % 2) s.manifest.current current_sound).logs region (suc k, omega (arith, inside), here)

  -- also each hash region
  pub hash_below : (region : ℕ) → Contains s.manifest.current.hashed region → region < s.manifest.shape.hashes
  hash_below region named = (names_regions s.manifest.shape (s.manifest.current.generation % 2) s.manifest.current current_sound).hashes region named

  -- and the frozen ones are not the active one
  pub not_active : (region : ℕ) → Contains s.manifest.current.frozen region → region ≢ s.manifest.current.active
  not_active region there = not_among s.manifest.current.frozen s.manifest.current.active region (apart_of s.manifest.shape (s.manifest.current.generation % 2) s.manifest.current current_sound) there

-- ---- hash stores

-- the body names the region of each hash store
pub hash_named : (s : EngineState) → map hash_region_of s.hashes ≡ s.manifest.current.hashed → (k : ℕ) (d : HashState) → k < length s.hashes
    → Contains s.manifest.current.hashed (hash_region_of (get_or s.hashes k d))
hash_named s are k d inside = (
  k,
  omega (arith, inside, length-map s.hashes hash_region_of, ap length are),
  cc (get_or-map hash_region_of s.hashes k d (hash_region_of (get_or s.hashes k d)) inside),
)

-- ---- the conversion

-- no more commit bytes are counted than there are
pub open_most : (shape : Shape) (region : ℕ) (image : List ℕ) → commits_at shape region + shape.log_capacity ≤ length image → open_count shape region image ≤ shape.log_capacity
unfolding open_count
open_most shape region image fits = count_most (commits_at shape region) shape.log_capacity image fits

-- a change outside a frozen log and the slots of its conversion leaves what this has written
pub log_written_elsewhere : (old new : Content) (store : LogStoreState) (conversion : ConversionState) (at count : ℕ)
    → device_size store.log.shape ≤ size old → conversion.region < conversion.shape.hashes
    → conversion.next ≤ 4 * conversion.shape.buckets → IsFrozen old store → ChangesWithin at count old new
    → (IsTrue old.honest → (store.log.region < store.log.shape.logs) × LiesOutside (commits_at store.log.shape store.log.region) (log_len store.log.shape) at count
    × LiesOutside (hash_at conversion.shape conversion.region) (slots_len conversion.shape) at count)
    → HasWritten old store conversion → HasWritten new store conversion
log_written_elsewhere old new store conversion at count fits there most frozen changes lies is =
    let plain : LogStoreState = record store { log = record store.log { settled = store.log.used; stale = false } } in
    let plainly : HasWritten old plain conversion = search arith in
    let inside : IsTrue old.honest → commits_at store.log.shape store.log.region + store.log.shape.log_capacity ≤ size old = search (arith, log_inside, regions_apart) in
    let bounds : IsTrue old.honest → InBounds plain.log = search (arith, open_most, frozen.rows) in
    let stays : IsTrue old.honest → HasWritten new plain conversion =
    λ h. written_elsewhere plain conversion old new at count (bounds h) there most (rw (← is.shape) at fits) (lies h).1 (lies h).2 changes plainly in
    record {
      shape = is.shape;
      due = λ h. (stays (subst IsTrue changes.honest h)).due h;
      tagged = is.tagged;
      charged = λ h. (stays (subst IsTrue changes.honest h)).charged h;
      hashed = λ h. (stays (subst IsTrue changes.honest h)).hashed h;
    }

-- ---- a place apart from all but the active log

-- what holds of each value holds of one that is there
pub on_some : {A : Type 0} (P : A → Type 0) (o : Option A) → ((x : A) → P x) → IfSome o P
on_some P None each = tt
on_some P (Some x) each = each x

-- outside the regions of the frozen logs, the slots of the hash stores and the entries of the sorted store
pub record IsApart (shape : Shape) (body : Body) (at count : ℕ) : Type 0 where
  pub frozen : (region : ℕ) → Contains body.frozen region → LiesOutside (commits_at shape region) (log_len shape) at count
  pub hashed : (region : ℕ) → Contains body.hashed region → LiesOutside (hash_at shape region) (slots_len shape) at count
  pub sorted : LiesOutside (sorted_at shape body.sorted) (entries_len shape) at count

-- outside the slots of a conversion
abbrev pub IsPastSlots : Shape → ℕ → ℕ → ConversionState → Type 0
IsPastSlots shape at count conversion = LiesOutside (hash_at shape conversion.region) (slots_len shape) at count

abbrev pub IsOutsideConversion : EngineState → ℕ → ℕ → Type 0
IsOutsideConversion s at count = IfSome s.converting (IsPastSlots s.manifest.shape at count)

-- outside the entries of a merge
abbrev pub IsPastEntries : Shape → ℕ → ℕ → MergeState → Type 0
IsPastEntries shape at count merge = LiesOutside (sorted_at shape merge.region) (entries_len shape) at count

abbrev pub IsOutsideMerge : EngineState → ℕ → ℕ → Type 0
IsOutsideMerge s at count = IfSome s.merging (IsPastEntries s.manifest.shape at count)

-- the region of a log that is there lies before the slots of a conversion
pub region_before_conversion : (s : EngineState) (region : ℕ) → region < s.manifest.shape.logs → IsOutsideConversion s (commits_at s.manifest.shape region) (log_size s.manifest.shape)
region_before_conversion s region below = search (arith, on_some, slots_behind_log)

-- and before the entries of a merge
pub region_before_merge : (s : EngineState) (region : ℕ) → region < s.manifest.shape.logs → IsOutsideMerge s (commits_at s.manifest.shape region) (log_size s.manifest.shape)
region_before_merge s region below = search (arith, on_some, entries_behind_log)

-- a change in such a place leaves what is not in the active log
module _ (old new : Content) (s : EngineState) (at count : ℕ) (stands : Stands old s) (changes : ChangesWithin at count old new)
    (apart : IsTrue old.honest → IsApart s.manifest.shape s.manifest.current at count) where
  -- the frozen logs
  pub all_frozen_elsewhere : All (IsFrozen new) s.frozen
  all_frozen_elsewhere k d inside =
      let store : LogStoreState = get_or s.frozen k d in
      let is_shape : store.log.shape ≡ s.manifest.shape = (stands.whole.settled k d inside).has_shape in
      let named = frozen_named s stands.whole.frozen_regions k d inside in
      frozen_elsewhere old new store at count (stands.has_size ∙ ap device_size (sym is_shape)) changes (λ h. (
        rw (← is_shape) at (named_below old s stands h store.log.region named),
        rw (← is_shape) at ((apart h).frozen store.log.region named),
      )) (stands.frozen k d inside)

  -- the hash stores
  pub all_hashed_elsewhere : All (IsHashStore new) s.hashes
  all_hashed_elsewhere k d inside =
      let store : HashState = get_or s.hashes k d in
      let is : IsHashOf s.manifest.shape store = stands.whole.hashed k d inside in
      let fits : device_size store.shape ≤ size old = rw is.has_shape (omega (arith, stands.has_size)) in
      let stays : IsTrue old.honest → IsHashStore new store = λ h. hash_elsewhere store old new at count is.held fits (rw (← is.has_shape) at ((apart h).hashed
      store.region (hash_named s stands.whole.hash_regions k d inside))) changes (stands.hashed k d inside) in
      search (arith, honest_old changes)

  -- what a conversion has written, if its slots are apart too
  pub written_all_elsewhere : (o : Option ConversionState) → (IsTrue old.honest → IfSome o (IsPastSlots s.manifest.shape at count))
      → IfSome o (IsUnderWay s) → IfSome o (HasWritten old (oldest_log s)) → IfSome o (HasWritten new (oldest_log s))
  written_all_elsewhere None outside under_way is = tt
  written_all_elsewhere (Some conversion) outside under_way is =
      let way : IsUnderWay s conversion = under_way in
      let inside : length s.frozen - 1 < length s.frozen = omega (arith, way.some_frozen) in
      let log : LogStoreState = oldest_log s in
      let is_shape : log.log.shape ≡ s.manifest.shape = (stands.whole.settled (length s.frozen - 1) s.active inside).has_shape in
      let named = frozen_named s stands.whole.frozen_regions _ _ inside in
      log_written_elsewhere old new log _ at count (rw is_shape (omega (arith, stands.has_size))) (rw (← way.has_shape) at way.there) (rw (← way.has_shape) at
      way.most) (stands.frozen (length s.frozen - 1) s.active inside) changes (λ h. (
        rw (← is_shape) at (named_below old s stands h log.log.region named),
        rw (← is_shape) at ((apart h).frozen log.log.region named),
        rw (← way.has_shape) at (outside h),
      )) is

  -- the entries, where the manifest names them
  sorted_inside : device_size s.sorted.shape ≤ size old
  sorted_inside = rw stands.whole.sorted (omega (arith, stands.has_size))

  sorted_outside : IsTrue old.honest → LiesOutside (sorted_at s.sorted.shape s.sorted.region) (entries_len s.sorted.shape) at count
  sorted_outside h = subst (λ (t : SortedState). LiesOutside (sorted_at t.shape t.region) (entries_len t.shape) at count) (sym stands.whole.sorted) (apart h).sorted

  -- their index and their digest
  pub located_elsewhere : IsLocated new s
  located_elsewhere h = indexed_elsewhere s.sorted s.index old new at count stands.whole.held sorted_inside (sorted_outside (honest_old changes h)) changes stands.located h

  pub digested_elsewhere : IsDigested new s
  digested_elsewhere h = digest_elsewhere s.sorted s.digest old new at count stands.whole.held sorted_inside (sorted_outside (honest_old changes h)) changes stands.digested h

  -- what a merge has gathered and written, if its entries are apart too
  pub merged_all_elsewhere : (o : Option MergeState) → (IsTrue old.honest → IfSome o (IsPastEntries s.manifest.shape at count))
      → IfSome o (IsMerging s) → IfSome o (HasGathered old s) → IfSome o (HasGathered new s)
  merged_all_elsewhere None outside merging is = tt
  merged_all_elsewhere (Some merge) outside merging is =
      let way : IsMerging s merge = merging in
      let is_shape : s.sorted.shape ≡ s.manifest.shape = ap (λ (t : SortedState). t.shape) stands.whole.sorted in
      let taken : List HashState = oldest_stores merge.stores s.hashes in
      let slots : IsTrue old.honest → All (λ (store : HashState). LiesOutside (hash_at s.sorted.shape store.region) (slots_len s.sorted.shape) at count) taken = λ h. All-drop (λ (store :
      HashState). LiesOutside (hash_at s.sorted.shape store.region) (slots_len s.sorted.shape) at count) (length s.hashes - merge.stores) s.hashes (λ k d inside. rw (← is_shape) at ((apart
      h).hashed (get_or s.hashes k d).region (hash_named s stands.whole.hash_regions k d inside))) in
      let stays : IsTrue old.honest → HasMerged new taken s.sorted merge = λ h. merged_elsewhere taken s.sorted merge old new at count stands.whole.held
      way.held sorted_inside (rw (← is_shape) at (outside h)) (sorted_outside h) (slots h) changes is.0 in (
        record { shape = is.0.shape; counted = is.0.counted; apart = is.0.apart; hashed = λ h. (stays (honest_old changes h)).hashed h; merged = λ h. (stays (honest_old changes h)).merged h },
        is.1,
        λ h. is.2 (honest_old changes h),
      )
