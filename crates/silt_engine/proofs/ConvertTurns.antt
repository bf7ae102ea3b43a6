-- The end of a conversion: the record that names the hash store, and the stores once it is current.
use Rattle.silt_engine.proofs.Common.{inr, ◌≡◌, ℕ, ◌-◌, IsTrue, List, [], ◌∷◌, ◌++◌, length, map, get_or, Option, Some, None, refl, ap, sym, ◌∙◌, subst, arith, IfSome, take-map, All-cons, All-take}
use Rattle.silt_engine.proofs.Common.{IsBucketCount, Content, LeavesOnly, Rests, Torn, size, Shape, device_size, slot_at, left_at_rest, log_rows, StoredRow, all_rows, KeepsRows, log_rows_elsewhere}
use Rattle.silt_engine.proofs.Common.{part_rows, IsFrozenStore, bucket_count_is, ManifestState, spare_slot, Body, Digests, Stores, stores_named, AreDigestsOf, IsSound, with_log_rows, command_of}
use Rattle.silt_engine.proofs.Common.{whole_law, ConversionState, HasWritten, IsDigestOf, converted_rows, hash_rows, IsHashStore, IsHeldHash, MergeState, AreWhole, IsHashOf, IsMerging, IsSettled}
use Rattle.silt_engine.proofs.Common.{IsUnderWay, EngineState, oldest_log, region_of, HasGathered, IsFrozen, Stands, full_image, shown_stores, Advances, MayBecomeCurrent, BecomesCurrent}
use Rattle.silt_engine.proofs.Common.{EndsConversion, MayReplace, converted_body, oldest_replaced, oldest_rows, store_of, Part, HasOldest, store_stands, oldest_stores_law, AreConverted, Finishes}
use Rattle.silt_engine.proofs.Common.{HasConvertedRows, get_or-append_seam}
use Rattle.silt_engine.proofs.Named.{named_shape}
use Rattle.silt_engine.proofs.Facts.{shown_named}
use Rattle.silt_engine.proofs.Elsewhere.{frozen_named, indexed_same, named_below, outside_slot, scanned_all, honest_old}
use Rattle.silt_engine.proofs.Standing.{Fits, shown_are}
use Rattle.silt_engine.proofs.Wholes.{merging_in}
use Rattle.silt_engine.proofs.Counting.{may_end}
use Rattle.silt_engine.proofs.Turns.{active_stays, digested_stays, frozen_stays, hashed_stays, located_stays, merged_stays, slot_below, waiting_stays, written_stays}
use Rattle.silt_engine.proofs.NextBodies.{now_named, succeeds}
use Rattle.silt_engine.proofs.ConvertStores.{converted_named, oldest_named}
use Rattle.silt_engine.proofs.Said.{converted_said}
use Rattle.silt_engine.proofs.ConvertDone.{ending_counted, ending_digest, ending_full_sound, ending_map, ending_slots, ending_sound, ending_stores, oldest_frozen, oldest_shape, oldest_stands}
use Rattle.silt_engine.proofs.ConvertDone.{table_of, way, oldest, oldest_full, some_ids, ids, last_inside}
use Rattle.silt_engine.proofs.MergeDone.{full_is}
use Rattle.std.proofs.lemmas.List.{length-append}
use Rattle.silt_image.specs.Meaning.{with_log_rows}
use Rattle.silt_image.specs.Stores.{stores_named}
use Rattle.silt_engine.specs.Replacements.{with_converted}

-- ---- the oldest log

-- the last of a list
last_is : {X : Type 0} (xs : List X) (x d : X) → get_or (xs ++ x ∷ []) (length (xs ++ x ∷ []) - 1) d ≡ x
last_is xs x d =
    let long : length (xs ++ x ∷ []) - 1 ≡ length xs = omega (arith, length-append xs (x ∷ [])) in
    cc (get_or-append_seam xs x [] d)

-- a part with no rows
abbrev pub no_part : Part
no_part = record { region = 0; rows = [] }

-- the oldest log of stores has rows of one kind alone
one_oldest : (rows other : List StoredRow) (t : Stores) → HasOldest rows t → HasOldest other t → rows ≡ other
one_oldest rows other t has also = sym (last rows has) ∙ last other also
  where
    last : (r : List StoredRow) → HasOldest r t → part_rows (get_or t.logs (length t.logs - 1) no_part) ≡ r
    last r is = cc (is.logs, last_is is.newer (record { region = is.region; rows = r }) no_part)

-- its rows in the full image are those that a disk with the same stores shows, if it obeys the crash model
pub oldest_same : (first old : Content) (s : EngineState) (stood : Stands first s) (stands : Stands old s) (conversion : ConversionState)
    → s.converting ≡ Some conversion → IsTrue first.honest → IsTrue old.honest
    → shown_stores old s ≡ shown_stores first s → oldest_rows s.manifest.shape s.manifest.current (full_image first s) ≡ all_rows old (oldest_log s).log
oldest_same first old s stood stands conversion was was_honest h same =
    let named = oldest_named s.manifest.shape s.manifest.current s.manifest.current.active (full_image first s) (some_ids first s stood (way first s stood conversion was).some_frozen) in
    let full : HasOldest (oldest_rows s.manifest.shape s.manifest.current (full_image first s)) (with_log_rows s.manifest.current.active (all_rows first s.active.log) (shown_stores first s)) =
    subst (HasOldest (oldest_rows s.manifest.shape s.manifest.current (full_image first s))) (full_is first s stood was_honest) named in
    one_oldest (oldest_rows s.manifest.shape s.manifest.current (full_image first s)) (all_rows first (oldest_log s).log) _ full (oldest_full first s stood conversion was was_honest)
    ∙ one_oldest (all_rows first (oldest_log s).log) (all_rows old (oldest_log s).log) (shown_stores first s) (oldest first s stood conversion was was_honest)
    (rw same at (oldest old s stands conversion was h))

-- ---- the hash store in front

-- ---- the body that names the hash store

module _ (old : Content) (s : EngineState) (body : Body) (digests : Digests) (stands : Stands old s) (rests : Rests old) (ends : EndsConversion s body digests) where
  under_way : IsUnderWay s ends.conversion
  under_way = way old s stands ends.conversion ends.was

  -- the stores under it
  abbrev converted_stores : Stores
  converted_stores = ending_stores old s stands _ ends.was

  -- it names them in each possible crash image, since nothing is pending
  names : LeavesOnly old (λ image. stores_named s.manifest.shape body image ≡ converted_stores)
  names = record {
    each = λ h image left. cc (
      left_at_rest rests h image left,
      ends.is,
      converted_named s.manifest.shape s.manifest.current ends.conversion.region _ old.shown (some_ids old s stands under_way.some_frozen) (ending_slots old s
          stands ends.conversion ends.was ends.done h),
    );
  }

  -- the digests are theirs
  said : IsTrue old.honest → AreDigestsOf (Some digests) converted_stores
  said h = subst (λ (d : Digests). AreDigestsOf (Some d) converted_stores) (sym ends.digests_are) (search (arith, converted_said, ending_digest))

  pub converted_may_become_current : MayBecomeCurrent old s body digests
  unfolding with_converted
  converted_may_become_current = record {
    follows = λ sound. may_end s body digests sound stands.whole ends;
    stores = converted_stores;
    has_shape = named_shape _ _ _;
    has_body = sym ends.is;
    names = names;
    sound = ending_sound old s stands _ ends.was;
    said = said;
    same_map = ending_map old s stands _ ends.was;
    waiting = inr (ap (λ (b : Body). b.active) ends.is);
  }

  -- ---- once it is_current

  module _ (new : Content) (sizes : size new ≡ size old) (m : ManifestState) (now : BecomesCurrent old new s body digests m) where
    current_is : m.current ≡ converted_body s.manifest.current ends.conversion.region
    current_is = now.has_body ∙ ends.is

    whole : (digest : List ℕ) → IsHeldHash (store_of ends.conversion digest) → AreWhole (oldest_replaced s m ends.conversion digest)
    whole digest held = record {
      has_shape = stands.whole.has_shape ∙ sym now.has_shape;
      active_region = cc (stands.whole.active_region, current_is);
      frozen_regions = cc (take-map region_of (length s.frozen - 1) s.frozen, stands.whole.frozen_regions, ids old s stands under_way.some_frozen, current_is);
      settled = rw (← now.has_shape) at (All-take (IsSettled s.manifest.shape) (length s.frozen - 1) s.frozen stands.whole.settled);
      hash_regions = cc (stands.whole.hash_regions, current_is);
      hashed = rw (← now.has_shape) at (All-cons (IsHashOf s.manifest.shape) (store_of ends.conversion digest) s.hashes (record { has_shape = under_way.has_shape; held = held }) stands.whole.hashed);
      sorted = cc (stands.whole.sorted, now.has_shape, current_is);
      held = stands.whole.held;
      under_way = tt;
      merging = merging_in s _ _ now.has_shape refl (omega arith) stands.whole.merging;
      most = rw now.has_shape (omega (arith, stands.whole.most));
    }

    pub may_replace : MayReplace s m
    may_replace = record { conversion = ends.conversion; was = ends.was; done = ends.done; whole = whole }

    -- the active log is as it was
    keeps : KeepsRows old new s.active.log s.active.log
    keeps = active_stays old new s stands sizes now.changes

    -- and so is what the conversion wrote
    slots_stay : HasWritten new (oldest_log s) ends.conversion
    slots_stay = rw ends.was at (written_stays old new s stands sizes now.changes)

    -- the rows of the oldest log are in each possible crash image as they were
    log_rows_stay : IsTrue new.honest → (first image : List ℕ) → length first ≡ size old → Torn (slot_at (spare_slot s.manifest)) 4096 first image
        → log_rows (oldest_log s).log.shape (oldest_log s).log.region image ≡ log_rows (oldest_log s).log.shape (oldest_log s).log.region first
    log_rows_stay h first image long torn =
        let there_is = named_below old s stands (honest_old now.changes h) (oldest_log s).log.region (search (arith, frozen_named, last_inside)) in
        let fits : device_size (oldest_log s).log.shape ≡ length first = ap device_size (oldest_shape old s stands under_way.some_frozen) ∙ sym stands.has_size ∙ sym long in
        log_rows_elsewhere (oldest_log s).log.shape (oldest_log s).log.region (slot_at (spare_slot s.manifest)) 4096 first image
        (rw (← (oldest_shape old s stands under_way.some_frozen)) at there_is) (omega (arith, fits))
        (search (arith, outside_slot, slot_below)) torn

    oldest_stays : IsFrozenStore new (oldest_log s)
    oldest_stays =
        let is : IsFrozen new (oldest_log s) = frozen_stays old new s stands sizes now.changes (length s.frozen - 1) s.active (last_inside old s stands under_way.some_frozen) in
        let was : IsFrozen old (oldest_log s) = oldest_frozen old s stands under_way.some_frozen in
        let log_stands : IsFrozenStore old (oldest_log s) = oldest_stands old s stands under_way.some_frozen in
        record {
          images = record {
            each = λ h image left.
                let from = now.changes.left (honest_old now.changes h) image left in
                log_rows_stay h from.0 image (from.1.size ∙ sym old.sizes) from.2
                ∙ log_stands.images.each (honest_old now.changes h) from.0 from.1
                ∙ scanned_all old (oldest_log s).log (was.rows (honest_old now.changes h))
                ∙ sym (log_rows_stay h old.shown new.shown refl (now.changes.shown (honest_old now.changes h)))
                ∙ sym (scanned_all new (oldest_log s).log (is.rows h));
          };
          index = is.indexed;
        }

    -- there are as many buckets as the device has
    count : IsTrue new.honest → IsBucketCount ends.conversion.shape.buckets
    count h =
        let limits = (whole_law old.shown (shown_stores old s) (shown_named old s stands (honest_old now.changes h))).limits in
        rw (named_shape s.manifest.shape s.manifest.current old.shown ∙ sym under_way.has_shape) at (bucket_count_is (shown_stores old s).shape.buckets limits.buckets)

    -- ---- with the digest of what was written

    module _ (digest : List ℕ) (digested : IsDigestOf ends.conversion.hasher digest) where
      -- the stores in memory afterwards
      abbrev after : EngineState
      after = oldest_replaced s m ends.conversion digest

      -- the new hash store matches the disk
      store_is : IsHashStore new (store_of ends.conversion digest)
      store_is = record {
        sound = λ h. (store_stands new _ _ digest (count h) ends.done digested oldest_stays slots_stay).sound h;
        tagged = λ h. (store_stands new _ _ digest (count h) ends.done digested oldest_stays slots_stay).tagged h;
        counted = λ h. (store_stands new _ _ digest (count h) ends.done digested oldest_stays slots_stay).counted h;
        digested = λ h. (store_stands new _ _ digest (count h) ends.done digested oldest_stays slots_stay).digested h;
      }

      -- a merge has gathered and written what it had: its stores are the oldest ones still
      gathered_stays : IfSome s.merging (HasGathered new after)
      gathered_stays = in_front _ stands.whole.merging (merged_stays old new s stands sizes now.changes)
        where
          in_front : (o : Option MergeState) → IfSome o (IsMerging s) → IfSome o (HasGathered new s) → IfSome o (HasGathered new after)
          in_front None merging merged = tt
          in_front (Some merge) merging merged =
              let way : IsMerging s merge = merging in
              let same = sym (oldest_stores_law (store_of ends.conversion digest ∷ []) s.hashes merge.stores way.most) in (
                rw same at merged.0,
                rw same at merged.1,
                merged.2,
              )

      fits : AreWhole (oldest_replaced s m ends.conversion digest) → Fits new after converted_stores
      unfolding converted_may_become_current
      fits is_whole = record {
        has_size = sizes ∙ stands.has_size ∙ ap device_size (sym now.has_shape);
        whole = is_whole;
        idle = now.idle;
        current = now.current;
        active = record { log = keeps.stands; index = indexed_same old new _ (honest_old now.changes) (λ h. keeps.all (honest_old now.changes h)) stands.indexed };
        frozen = All-take (IsFrozen new) (length s.frozen - 1) s.frozen (frozen_stays old new s stands sizes now.changes);
        hashed = All-cons (IsHashStore new) (store_of ends.conversion digest) s.hashes store_is (hashed_stays old new s stands sizes now.changes);
        located = located_stays old new s stands sizes now.changes;
        digested = digested_stays old new s stands sizes now.changes;
        written = tt;
        merged = gathered_stays;
        same_shape = converted_may_become_current.has_shape ∙ sym now.has_shape;
        same_body = converted_may_become_current.has_body ∙ sym now.has_body;
        named = now_named old new s body _ stands converted_may_become_current sizes m now;
        sound = λ h. subst (λ (n : ℕ). IsSound (with_log_rows n (all_rows new s.active.log) converted_stores)) (ap (λ (b : Body). b.active) (sym current_is)) (subst (λ (rows : List
            StoredRow). IsSound (with_log_rows s.manifest.current.active rows converted_stores)) (sym (keeps.all (honest_old now.changes h)))
            (ending_full_sound old s stands _ ends.was (honest_old now.changes h)));
        said = λ h. rw (← now.has_digests) at (converted_may_become_current.said (honest_old now.changes h));
        counted = λ h. cc (
          ending_counted old s stands ends.conversion ends.was ends.done (honest_old now.changes h) (s.charge - ((oldest_log s).puts - ends.conversion.puts)) refl,
          waiting_stays old new s stands sizes now.changes (honest_old now.changes h),
        );
      }

      -- and still stand
      pub converted_advances : (finished : EngineState) → AreWhole finished → finished ≡ oldest_replaced s m ends.conversion digest → Advances [] old new s finished
      unfolding converted_may_become_current
      converted_advances finished is_whole is =
          let whole_after : AreWhole (oldest_replaced s m ends.conversion digest) = subst AreWhole is is_whole in
          rw (← is) at (succeeds old new s body digests stands converted_may_become_current sizes m now after (fits whole_after) now.has_shape (λ h. ap (map command_of)
          (waiting_stays old new s stands sizes now.changes h)))

      -- its slots have the rows that are due
      slots_now : AreWhole (oldest_replaced s m ends.conversion digest) → IsTrue old.honest
          → hash_rows s.manifest.shape ends.conversion.region (full_image new after) ≡ converted_rows s.manifest.shape (oldest_log s).table (all_rows old (oldest_log s).log)
      unfolding converted_may_become_current stores_named with_log_rows with_converted
      slots_now is_whole h =
          let here : IsTrue new.honest = subst IsTrue (sym now.changes.honest) h in
          let stand : Stands new after = (converted_advances after is_whole refl).stands in
          let fit : Fits new after converted_stores = fits is_whole in
          let front : Stores → List StoredRow = λ t. part_rows (get_or t.hashes 0 no_part) in
          ap (λ (sh : Shape). hash_rows sh ends.conversion.region (full_image new after)) (sym now.has_shape)
          ∙ ap (λ (b : Body). front (stores_named m.shape b (full_image new after))) (sym current_is)
          ∙ ap front (full_is new after stand here)
          ∙ ap (λ (t : Stores). front (with_log_rows m.current.active (all_rows new s.active.log) t)) (shown_are new after converted_stores fit.same_shape fit.same_body fit.named here)
          ∙ ap (λ (sh : Shape). converted_rows sh (oldest_log s).table (all_rows old (oldest_log s).log)) (named_shape s.manifest.shape s.manifest.current old.shown)

      -- which are the last rows of the log's keys, as the full image had them on a disk that shows the same stores
      pub has_converted_rows : (first : Content) (finished : EngineState) → AreWhole finished → finished ≡ oldest_replaced s m ends.conversion digest → Stands first s → IsTrue first.honest
          → IsTrue old.honest → shown_stores old s ≡ shown_stores first s → HasConvertedRows first new s finished
      has_converted_rows first finished is_whole is stood was_honest h same =
          let rows : List StoredRow = oldest_rows s.manifest.shape s.manifest.current (full_image first s) in
          let log_rows_are : rows ≡ all_rows old (oldest_log s).log = oldest_same first old s stood stands ends.conversion ends.was was_honest h same in
          let table_shape : (shown_stores old s).shape ≡ s.manifest.shape = named_shape s.manifest.shape s.manifest.current old.shown in
          let converted : AreConverted s.manifest.shape rows (hash_rows s.manifest.shape ends.conversion.region (full_image new finished)) = record {
            table = (oldest_log s).table;
            indexed = cc ((table_of old s stands ends.conversion ends.was h).indexed);
            are = cc (slots_now (subst AreWhole is is_whole) h);
          } in
          search arith

      -- the conversion is finished
      pub converted_finishes : (finished : EngineState) → finished ≡ oldest_replaced s m ends.conversion digest → Finishes s finished
      converted_finishes finished is = search (arith, current_is)
