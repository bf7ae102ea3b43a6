-- What holds at the exits of an opening.
use Rattle.silt_recovery.proofs.Common.{◌≡◌, ◌≤◌, ◌<◌, ℕ, ◌+◌, ◌*◌, inl, inr, false, IsTrue, List, [], ◌∷◌, ◌++◌, All, length, map, Option, Ok, refl, ap, sym, ◌∙◌, subst, arith, Content}
use Rattle.silt_recovery.proofs.Common.{LeavesOnly, ChangesWithin, Torn, size, Shape, InLimits, device_size, commits_at, slot_at, HashState, IsHashStore, StoredRow, put_count, log_part, Stores}
use Rattle.silt_recovery.proofs.Common.{image_digests, image_stores, LogStoreState, Digests, SortedState, EngineState, region_of, IsReadLog, Holds, IsFound, IsRefusedLook, OpenError, ◌-◌}
use Rattle.silt_recovery.proofs.Common.{slice_index_or, None, IfSome, append-nil, Settles, Stays, hash_at, log_size, row_len, shape_of, IsWhole, AreDigestsOf, IsGood, IsSound, StandsFor, rows_of}
use Rattle.silt_recovery.proofs.Common.{with_log_rows, rows_law, stands_law, first_rows, open_count, LogState, InBounds, all_rows, waiting_rows, none_waiting, current_record_elsewhere}
use Rattle.silt_recovery.proofs.Common.{IsCurrentIn, IsCurrent, current_record, AreWhole, IsHashOf, IsMerging, IsUnderWay, oldest_log, IsUnwritten, IsUnwrittenUnlessFailed, LeavesNoOther, TakesUp}
use Rattle.silt_disk.proofs.Images.{left_at_rest, left_after_failed_sync, shown_left, within_wider}
use Rattle.std.proofs.lemmas.List.FromFn.{length-map-range_with_len}
use Rattle.std.proofs.Math.Nat.{one-le-mul}
use Rattle.silt_disk.proofs.Regions.{next_region, up_least}
use Rattle.silt_conversion.specs.Conversion.{ConversionState, HasWritten}
use Rattle.silt_hash_store.proofs.Elsewhere.{hash_elsewhere}
use Rattle.silt_image.specs.Meaning.{image_map}
use Rattle.silt_event.specs.Rows.{map_of_rows}
use Rattle.silt_image.specs.Stores.{stores_named}
use Rattle.silt_image.proofs.Frame.{log_region_law}
use Rattle.silt_image.proofs.Named.{digests_law, stores_law, whole_law}
use Rattle.silt_image.proofs.Rows.{own_rows_law}
use Rattle.silt_log.specs.Rows.{log_rows, rows_from}
use Rattle.silt_log_store.specs.Calls.{SealsStore}
use Rattle.silt_merge.specs.State.{MergeState}
use Rattle.silt_standing.specs.Standing.{HasGathered, IsDigested, IsFrozen, IsLocated, Stands, base_map, shown_stores}
use Rattle.silt_sorted_store.proofs.Elsewhere.{digest_elsewhere, indexed_elsewhere}
use Rattle.silt_recovery.proofs.Manifests.{record_that_is_current}
use Rattle.silt_recovery.proofs.Shown.{held_good}

-- ---- where nothing was written

-- after a failed sync
pub unsettled : (old new : Content) → Stays old new → LeavesNoOther old new
unsettled old new stays = record { each = λ honest image left. inl (left_after_failed_sync stays (sym stays.honest ∙ honest) image left) }

-- after a sync the disk shows what it showed, and that is its one crash image
pub settled_only : (old new : Content) → Settles old new → IsUnwritten old new
settled_only old new settles = search arith

-- so it is refused, if it is
pub unwritten : {F : Type 0} (old new : Content) (error : OpenError F) → Settles old new → IsUnwrittenUnlessFailed old new error
unwritten old new error settles = search arith

-- and each image might have been left before
pub settled_image : (old new : Content) → Settles old new → LeavesNoOther old new
settled_image old new settles = record { each = λ honest image left. inl ((settled_only old new settles).left.each honest image left) }

-- why a look was refused is why the opening is
pub looked_up : {F : Type 0} (W : F → Type 0) (old new : Content) (error : OpenError F) → Settles old new
    → IsRefusedLook (λ finding. IsTrue new.honest → IsFound new.shown finding) W error → IsRefusedLook (λ finding. IsTrue old.honest → IsFound old.shown finding) W error
looked_up W old new error settles refused = search arith

-- ---- the rows of a log

-- as many rows as commit bytes before the first closed one
pub row_count : (shape : Shape) (region : ℕ) (image : List ℕ) → length (log_rows shape region image) ≡ open_count shape region image
unfolding log_rows rows_from
row_count shape region image = length-map-range_with_len _ 0 (open_count shape region image)

-- all rows of a log that was scanned are those
scanned_rows : (content : Content) (log : LogState) → log.used ≡ open_count log.shape log.region content.shown → all_rows content log ≡ log_rows log.shape log.region content.shown
unfolding log_rows
scanned_rows content log used = ap (first_rows log.shape log.region content.shown) used

-- a log that was read still matches the disk while its rows stay
frozen_stands : (between new : Content) (shape : Shape) (store : LogStoreState) → new.honest ≡ between.honest → IsReadLog between shape store
    → (IsTrue between.honest → log_rows shape store.log.region new.shown ≡ log_rows shape store.log.region between.shown) → IsFrozen new store
frozen_stands between new shape store honest read stays =
    let was : IsTrue new.honest → IsTrue between.honest = λ h. sym honest ∙ h in
    let rows : IsTrue between.honest → log_rows store.log.shape store.log.region new.shown ≡ log_rows store.log.shape store.log.region between.shown =
    search arith in
    let used : IsTrue between.honest → store.log.used ≡ open_count store.log.shape store.log.region new.shown = λ h.
    (read.scanned h).used ∙ sym (row_count store.log.shape store.log.region between.shown) ∙ sym (ap length (rows h)) ∙ row_count store.log.shape store.log.region new.shown in
    search (arith, scanned_rows)

-- stores with equal logs have equal rows in each
same_rows : (shape : Shape) (a b : List ℕ) (stores : List LogStoreState) → map (log_part shape a) (map region_of stores) ≡ map (log_part shape b) (map region_of stores)
    → All (λ (store : LogStoreState). log_rows shape store.log.region a ≡ log_rows shape store.log.region b) stores
same_rows shape a b [] same = search arith
same_rows shape a b (store ∷ stores) same = search (arith, same_rows shape a b stores)

-- what a seal changes lies in its log's region
sealed_within : (log : LogState) (old new : Content) → InLimits log.shape → InBounds log
    → ChangesWithin (commits_at log.shape log.region + log.used + 1) (log.shape.log_capacity - (log.used + 1)) old new
    → ChangesWithin (commits_at log.shape log.region) (log_size log.shape) old new
sealed_within log old new limits bounds changes =
    let bodies : 1 ≤ log.shape.log_capacity * row_len log.shape = one-le-mul limits.log_capacity_least (omega arith) in
    within_wider (commits_at log.shape log.region) (log_size log.shape) (omega arith)
    (omega (arith, bounds.room, limits.log_capacity_least, bodies, up_least log.shape.log_capacity, up_least (log.shape.log_capacity * row_len log.shape))) changes

-- a hash store still matches the disk if only a log region changes
hash_stands : (between new : Content) (shape : Shape) (log : ℕ) (store : HashState) → log < shape.logs → device_size shape ≤ size between
    → ChangesWithin (commits_at shape log) (log_size shape) between new → IsHashOf shape store
    → IsHashStore between store → IsHashStore new store
hash_stands between new shape log store exists fits changes is stands =
    let behind : log * log_size shape + log_size shape ≤ shape.logs * log_size shape = next_region log shape.logs (log_size shape) exists in
    let before : commits_at shape log + log_size shape ≤ hash_at shape store.region = omega (arith, behind) in
    hash_elsewhere store between new (commits_at shape log) (log_size shape) is.held (subst (λ (x : Shape). device_size x ≤ size between) (sym is.has_shape) fits)
    (inl (subst (λ (x : Shape). commits_at shape log + log_size shape ≤ hash_at x store.region) (sym is.has_shape) before)) changes stands

-- the index of entries is theirs while a log region alone is changed
index_stands : (between new : Content) (s : EngineState) (log : ℕ) → log < s.manifest.shape.logs → device_size s.manifest.shape ≤ size between
    → ChangesWithin (commits_at s.manifest.shape log) (log_size s.manifest.shape) between new
    → AreWhole s → IsLocated between s → IsLocated new s
index_stands between new s log exists fits changes whole located =
    let is_shape : s.manifest.shape ≡ s.sorted.shape = ap (λ (t : SortedState). t.shape) (sym whole.sorted) in
    indexed_elsewhere s.sorted s.index between new (commits_at s.manifest.shape log) (log_size s.manifest.shape) whole.held (subst (λ (x : Shape). device_size x ≤ size between) is_shape fits)
    (search arith) changes located

-- and so is their digest
digest_stands : (between new : Content) (s : EngineState) (log : ℕ) → log < s.manifest.shape.logs → device_size s.manifest.shape ≤ size between
    → ChangesWithin (commits_at s.manifest.shape log) (log_size s.manifest.shape) between new
    → AreWhole s → IsDigested between s → IsDigested new s
digest_stands between new s log exists fits changes whole digested =
    let is_shape : s.manifest.shape ≡ s.sorted.shape = ap (λ (t : SortedState). t.shape) (sym whole.sorted) in
    digest_elsewhere s.sorted s.digest between new (commits_at s.manifest.shape log) (log_size s.manifest.shape) whole.held (subst (λ (x : Shape). device_size x ≤ size between) is_shape fits)
    (search arith) changes digested

-- if no conversion is in progress, nothing is required of one
none_converts : (s : EngineState) → s.converting ≡ None → IfSome s.converting (IsUnderWay s)
none_converts s none = subst (λ (converting : Option ConversionState). IfSome converting (IsUnderWay s)) (sym none) tt

none_written : (content : Content) (s : EngineState) → s.converting ≡ None → IfSome s.converting (HasWritten content (oldest_log s))
none_written content s none = subst (λ (converting : Option ConversionState). IfSome converting (HasWritten content (oldest_log s))) (sym none) tt

-- and if no merge is in progress, nothing is required of one
none_merges : (s : EngineState) → s.merging ≡ None → IfSome s.merging (IsMerging s)
none_merges s none = subst (λ (merging : Option MergeState). IfSome merging (IsMerging s)) (sym none) tt

none_gathered : (content : Content) (s : EngineState) → s.merging ≡ None → IfSome s.merging (HasGathered content s)
none_gathered content s none = subst (λ (merging : Option MergeState). IfSome merging (HasGathered content s)) (sym none) tt

-- ---- where the active log was sealed

module _ (old between new : Content) (s : EngineState) (settles : Settles old between) (holds : Holds between s)
    (seals_within : ChangesWithin (commits_at s.active.log.shape s.active.log.region + s.active.log.used + 1) (s.active.log.shape.log_capacity - (s.active.log.used + 1)) between new)
    (images : LeavesOnly new (λ image. log_rows s.active.log.shape s.active.log.region image ≡ log_rows s.active.log.shape s.active.log.region between.shown)) where
  changes : ChangesWithin (commits_at s.active.log.shape s.active.log.region) (log_size s.active.log.shape) between new
  changes = sealed_within s.active.log between new (subst InLimits (sym holds.whole.has_shape) holds.limits) holds.active.bounds seals_within

  was : IsTrue new.honest → IsTrue between.honest
  was h = sym changes.honest ∙ h

  here : IsTrue old.honest → IsTrue between.honest
  here h = settles.honest ∙ h

  -- the change and the rows, in the manifest's words
  changed : ChangesWithin (commits_at s.manifest.shape s.manifest.current.active) (log_size s.manifest.shape) between new
  changed = rw (holds.whole.has_shape, holds.whole.active_region) at changes

  stays : LeavesOnly new (λ image. log_rows s.manifest.shape s.manifest.current.active image ≡ log_rows s.manifest.shape s.manifest.current.active between.shown)
  stays = rw (holds.whole.has_shape, holds.whole.active_region) at images

  exists : s.manifest.current.active < s.manifest.shape.logs
  exists = search arith

  whole : IsTrue between.honest → IsWhole (shown_stores between s) between.shown
  whole h = whole_law between.shown (shown_stores between s) (holds.named h)

  -- the active log with its own rows
  own_rows : IsTrue between.honest → with_log_rows s.manifest.current.active (log_rows s.manifest.shape s.manifest.current.active between.shown) (shown_stores between s) ≡ shown_stores between s
  unfolding stores_named
  own_rows h = own_rows_law (shown_stores between s) (log_rows s.manifest.shape s.manifest.current.active between.shown) (whole h).active

  -- each possible crash image has the stores that were shown
  same_stores : LeavesOnly new (λ image. image_stores image ≡ Ok (shown_stores between s))
  unfolding stores_named
  same_stores = record {
    each = λ honest image left.
        let h : IsTrue between.honest = was honest in
        let from = changed.left h image left in
        let is : from.0 ≡ between.shown = left_at_rest settles.rests h from.0 from.1 in
        let torn : Torn (commits_at s.manifest.shape s.manifest.current.active) (log_size s.manifest.shape) between.shown image = rw is at from.2 in
        cc (log_region_law between.shown image (shown_stores between s) s.manifest.current.active (holds.named h) exists torn, stays.each honest image left, own_rows h);
  }

  -- and so is what is shown
  shown_same : IsTrue between.honest → shown_stores new s ≡ shown_stores between s
  unfolding stores_named
  shown_same h = sym ((stores_law new.shown (shown_stores between s)).0 (same_stores.each (changes.honest ∙ h) new.shown (shown_left new))).named

  -- the same record is current in each possible crash image
  stays_current_in : IsCurrent s.manifest new
  stays_current_in =
      let least : slot_at 1 + 4096 ≤ size between = omega (arith, holds.has_size) in
      current_record_elsewhere _ _ _ _ new least (inr (omega arith)) changed (holds.current settles.rests)

  -- so it has the same digests
  said_in : (image : List ℕ) → image_stores image ≡ Ok (shown_stores between s) → IsCurrentIn s.manifest image → image_digests image ≡ s.manifest.digests
  unfolding stores_named
  said_in image stores was_current = digests_law image (shown_stores between s) (current_record s.manifest) stores (record_that_is_current s.manifest.shape image s.manifest refl was_current)

  same_said : LeavesOnly new (λ image. image_digests image ≡ s.manifest.digests)
  same_said = record { each = λ honest image left. said_in image (same_stores.each honest image left) (stays_current_in.each honest image left) }

  -- each image represents what was shown
  stands_for : IsTrue old.honest → (image : List ℕ) → image_stores image ≡ Ok (shown_stores between s) → image_digests image ≡ s.manifest.digests
      → StandsFor (shape_of old.shown) (image_map old.shown) image
  unfolding stores_named image_map
  stands_for o image stores says =
      let h : IsTrue between.honest = here o in
      let stands : StandsFor s.manifest.shape (map_of_rows (rows_of (shown_stores between s))) image =
      stands_law image (shown_stores between s) stores (holds.sound h) (subst (λ (d : Option Digests). AreDigestsOf d (shown_stores between s)) (sym says) (holds.said h)) in
      let has_shape : s.manifest.shape ≡ shape_of old.shown = sym (whole h).has_shape ∙ ap shape_of (settles.shown o) in
      search (arith, rows_law)

  pub sealed_images : LeavesNoOther old new
  sealed_images = record { each = λ honest image left. inr (stands_for (sym settles.honest ∙ was honest) image (same_stores.each honest image left) (same_said.each honest image left)) }

  module _ (after : LogStoreState) (sizes : size new ≡ size between) (long_as : size between ≡ size old) (seals : SealsStore between new s.active after) where
    same_log : after.log ≡ record s.active.log { stale = false }
    same_log = seals.log.log

    frozen_rows : IsTrue between.honest → All (λ (store : LogStoreState). log_rows s.manifest.shape store.log.region new.shown ≡ log_rows s.manifest.shape store.log.region between.shown) s.frozen
    unfolding stores_named
    frozen_rows h = search (arith, shown_same, same_rows)

    settled : after.log.settled ≡ after.log.used
    settled = ap (λ (l : LogState). l.settled) same_log ∙ holds.active.settled ∙ sym (ap (λ (l : LogState). l.used) same_log)

    -- the rows of the active log
    active_rows : IsTrue between.honest → all_rows new after.log ≡ log_rows s.manifest.shape s.manifest.current.active between.shown
    active_rows h = cc (seals.all h, scanned_rows between s.active.log (holds.active.scanned h).used, holds.whole.has_shape, holds.whole.active_region)

    has_region : after.log.region ≡ s.manifest.current.active
    has_region = ap (λ (l : LogState). l.region) same_log ∙ holds.whole.active_region

    -- nothing is found in the stores with all rows of the active log
    all_sound : IsTrue between.honest → IsSound (with_log_rows after.log.region (all_rows new after.log) (shown_stores new s))
    all_sound h = subst IsSound (sym (
        ap (λ (x : Stores). with_log_rows after.log.region (all_rows new after.log) x) (shown_same h)
        ∙ ap (λ (rows : List StoredRow). with_log_rows after.log.region rows (shown_stores between s)) (active_rows h)
        ∙ ap (λ (n : ℕ). with_log_rows n (log_rows s.manifest.shape s.manifest.current.active between.shown) (shown_stores between s)) has_region
        ∙ own_rows h
        )) (holds.sound h)

    all_counted : IsTrue between.honest → s.charge ≡ put_count (rows_of (shown_stores new s) ++ waiting_rows new after.log)
    all_counted h = cc (holds.counted h, shown_same h, append-nil (rows_of (shown_stores new s)), none_waiting new after.log settled)

    stands : Stands new (record s { active = after })
    stands =
        let sealed = seals.stands holds.active.indexed in
        record {
          has_size = sizes ∙ holds.has_size;
          whole = search (arith, same_log, none_converts, none_merges);
          idle = holds.idle;
          current = stays_current_in;
          active = sealed.log;
          indexed = sealed.index;
          frozen = λ k d inside. frozen_stands between new s.manifest.shape (slice_index_or s.frozen k d) changes.honest (holds.frozen k d inside) (λ h. frozen_rows h k d inside);
          hashed = λ k d inside. hash_stands between new s.manifest.shape s.manifest.current.active (slice_index_or s.hashes k d)
              exists (omega (arith, holds.has_size)) changed (holds.whole.hashed k d inside) (holds.hashed k d inside);
          located = index_stands between new s s.manifest.current.active exists (omega (arith, holds.has_size)) changed holds.whole holds.located;
          digested = digest_stands between new s s.manifest.current.active exists (omega (arith, holds.has_size)) changed holds.whole holds.digested;
          written = none_written new (record s { active = after }) holds.none_converted;
          merged = none_gathered new (record s { active = after }) holds.none_merged;
          named = record { each = λ honest image left. same_stores.each honest image left ∙ ap Ok (sym (shown_same (was honest))) };
          sound = λ h. all_sound (was h);
          said = λ h. rw (← (shown_same (was h))) at (holds.said (was h));
          counted = λ h. all_counted (was h);
        }

    -- the store is opened
    pub taken_up : TakesUp old new (record s { active = after })
    unfolding base_map stores_named image_map
    taken_up = record {
      disk = record { size = sizes ∙ long_as; honest = changes.honest ∙ settles.honest };
      stands = stands;
      quiet = record { settled = settled; none_wait = ap (map _) (none_waiting new after.log settled) };
      good = λ o. subst IsGood (settles.shown o) (held_good between s holds (here o));
      none_converted = holds.none_converted;
      none_merged = holds.none_merged;
      has_shape = λ o. sym (whole (here o)).has_shape ∙ ap shape_of (settles.shown o);
      has_map = λ o. cc (shown_same (here o), rows_law between.shown (shown_stores between s) (holds.named (here o)), settles.shown o);
    }
