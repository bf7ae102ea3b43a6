-- The end of a merge: the record that names its sorted store, and the stores once it is current.
use Rattle.silt_engine.proofs.Common.{inr, ◌≡◌, ℕ, ◌-◌, IsTrue, List, [], ◌++◌, length, map, take, Option, Some, refl, ap, sym, ◌∙◌, subst, arith, IfSome, take-map, All-take, Content, LeavesOnly}
use Rattle.silt_engine.proofs.Common.{Rests, size, Shape, device_size, slot_at, left_at_rest, StoredRow, put_count, all_rows, KeepsRows, ManifestState, spare_slot, Body, Digests, Stores}
use Rattle.silt_engine.proofs.Common.{stores_named, AreDigestsOf, IsSound, entries_digest, rows_of, with_log_rows, command_of, ConversionState, IsHashStore, merged_rows, IndexedState, SortedState}
use Rattle.silt_engine.proofs.Common.{entries_of, sorted_rows, digest_elsewhere, indexed_elsewhere, AreWhole, IsHashOf, IsMerging, IsUnderWay, EngineState, hash_region_of, IsDigested, IsLocated}
use Rattle.silt_engine.proofs.Common.{Stands, shown_stores, Advances, MayBecomeCurrent, BecomesCurrent, EndsMerge, MayStandFor, merge_sources, merged_body, sorted_replaced, IsHeldSorted, EndsMerged}
use Rattle.silt_engine.proofs.Common.{HasMergedEntries}
use Rattle.silt_engine.specs.Merge as spec
use Rattle.silt_engine.proofs.Named.{named_shape}
use Rattle.silt_engine.proofs.Elsewhere.{entries_behind_manifest, indexed_same, honest_old}
use Rattle.silt_engine.proofs.Standing.{Fits, shown_are}
use Rattle.silt_engine.proofs.Counting.{hash_count, none_of_first, may_end_merge}
use Rattle.silt_engine.proofs.Turns.{active_stays, frozen_stays, hashed_stays, slot_below, waiting_stays, written_stays}
use Rattle.silt_engine.proofs.NextBodies.{now_named, succeeds}
use Rattle.silt_engine.proofs.MergeStores.{merged_named, sources_with}
use Rattle.silt_engine.proofs.Said.{merged_said}
use Rattle.silt_engine.proofs.MergeDone.{all_compared, entries_are, full_is, merged_counted, merged_full_sound, merged_map, merged_sound, merged_stores, way}
use Rattle.silt_engine.specs.Replacements.{with_merged}
use Rattle.silt_image.specs.Meaning.{with_log_rows}

-- a conversion is in progress in stores with fewer hash stores
under_way_fewer : (s t : EngineState) (count : ℕ) (o : Option ConversionState) → t.manifest.shape ≡ s.manifest.shape
    → t.manifest.current.hashed ≡ take count s.manifest.current.hashed → t.frozen ≡ s.frozen → IfSome o (IsUnderWay s) → IfSome o (IsUnderWay t)
under_way_fewer s t count o same_shape fewer same_frozen is = search (arith, none_of_first)

-- ---- the body that names the new sorted store

module _ (old : Content) (s : EngineState) (body : Body) (digests : Digests) (store : IndexedState) (stands : Stands old s) (rests : Rests old) (ends : EndsMerge s body digests store) where
  under_way : IsMerging s ends.merge
  under_way = way old s ends.merge stands ends.was ends.done

  -- the stores under it
  abbrev now_stores : Stores
  now_stores = merged_stores old s _ stands ends.was ends.done body

  -- it names them in each possible crash image, since nothing is pending
  names : LeavesOnly old (λ image. stores_named s.manifest.shape body image ≡ now_stores)
  names = record { each = search (arith, left_at_rest, merged_named) }

  -- the digests are theirs
  said : IsTrue old.honest → AreDigestsOf (Some digests) now_stores
  said h =
      subst (λ (d : Digests). AreDigestsOf (Some d) now_stores) (sym ends.digests_are) (merged_said old s stands h body ends.merge.stores _ store (ends.digested old stands h
      ∙ ap (λ (t : SortedState). entries_digest (entries_of old t)) ends.entries
      ∙ ap (λ (sh : Shape). entries_digest (sorted_rows sh ends.merge.region ends.merge.written old.shown)) under_way.has_shape))

  pub merged_may_become_current : MayBecomeCurrent old s body digests
  unfolding with_merged
  merged_may_become_current = record {
    follows = λ sound. may_end_merge s body _ store sound stands.whole ends;
    stores = now_stores;
    has_shape = named_shape _ _ _;
    has_body = refl;
    names = names;
    sound = merged_sound old s _ stands ends.was ends.done body;
    said = said;
    same_map = merged_map old s ends.merge stands ends.was ends.done body;
    waiting = inr (ap (λ (b : Body). b.active) ends.is);
  }

  -- ---- once it is_current

  module _ (new : Content) (sizes : size new ≡ size old) (m : ManifestState) (now : BecomesCurrent old new s body digests m) where
    -- the stores in memory afterwards
    abbrev after : EngineState
    after = sorted_replaced s m ends.merge.stores store

    current_is : m.current ≡ merged_body s.manifest.current ends.merge.stores ends.merge.region ends.merge.written
    current_is = now.has_body ∙ ends.is

    -- they are those that the body names
    pub merged_whole : AreWhole (sorted_replaced s m ends.merge.stores store)
    merged_whole = record {
      has_shape = stands.whole.has_shape ∙ sym now.has_shape;
      active_region = cc (stands.whole.active_region, current_is);
      frozen_regions = cc (stands.whole.frozen_regions, current_is);
      settled = rw (← now.has_shape) at stands.whole.settled;
      hash_regions = cc (take-map hash_region_of (length s.hashes - ends.merge.stores) s.hashes, stands.whole.hash_regions, hash_count s stands.whole, current_is);
      hashed = rw (← now.has_shape) at (All-take (IsHashOf s.manifest.shape) (length s.hashes - ends.merge.stores) s.hashes stands.whole.hashed);
      sorted = cc (ends.entries, under_way.has_shape, now.has_shape, current_is);
      held = subst IsHeldSorted (sym ends.entries) (record { region = under_way.held.there; room = under_way.held.room });
      under_way = under_way_fewer s after _ _ now.has_shape (ap (λ (b : Body). b.hashed) current_is) refl stands.whole.under_way;
      merging = tt;
      most = rw now.has_shape (omega (arith, stands.whole.most));
    }

    pub may_stand_for : MayStandFor s m store
    may_stand_for = record { merge = ends.merge; was = ends.was; entries = ends.entries; sealed = ends.sealed; most = under_way.most; whole = merged_whole }

    -- the active log is as it was
    keeps : KeepsRows old new s.active.log s.active.log
    keeps = active_stays old new s stands sizes now.changes

    -- the index of the new entries is theirs still
    store_shape : store.sorted.shape ≡ s.manifest.shape
    store_shape = ap (λ (t : SortedState). t.shape) ends.entries ∙ under_way.has_shape

    located : IsLocated new after
    located = indexed_elsewhere store.sorted store.index old new (slot_at (spare_slot s.manifest)) 4096 merged_whole.held (rw store_shape
        (omega (arith, stands.has_size))) (entries_behind_manifest _ _ _ (slot_below old new s stands sizes now.changes)) now.changes (ends.located old stands)

    -- and so is the digest
    digested : IsDigested new after
    digested = digest_elsewhere store.sorted store.digest old new (slot_at (spare_slot s.manifest)) 4096 merged_whole.held (rw store_shape
        (omega (arith, stands.has_size))) (entries_behind_manifest _ _ _ (slot_below old new s stands sizes now.changes)) now.changes (ends.digested old stands)

    fits : Fits new after now_stores
    unfolding merged_may_become_current
    fits = record {
      has_size = sizes ∙ stands.has_size ∙ ap device_size (sym now.has_shape);
      whole = merged_whole;
      idle = now.idle;
      current = now.current;
      active = record { log = keeps.stands; index = indexed_same old new _ (honest_old now.changes) (λ h. keeps.all (honest_old now.changes h)) stands.indexed };
      frozen = frozen_stays old new s stands sizes now.changes;
      hashed = All-take (IsHashStore new) (length s.hashes - ends.merge.stores) s.hashes (hashed_stays old new s stands sizes now.changes);
      located = located;
      digested = digested;
      written = written_stays old new s stands sizes now.changes;
      merged = tt;
      same_shape = merged_may_become_current.has_shape ∙ sym now.has_shape;
      same_body = merged_may_become_current.has_body ∙ sym now.has_body;
      named = now_named old new s body _ stands merged_may_become_current sizes m now;
      sound = λ h. subst (λ (n : ℕ). IsSound (with_log_rows n (all_rows new s.active.log) now_stores)) (ap (λ (b : Body). b.active) (sym current_is)) (subst (λ (rows : List StoredRow).
          IsSound (with_log_rows s.manifest.current.active rows now_stores)) (sym (keeps.all (honest_old now.changes h)))
          (merged_full_sound old s _ stands ends.was ends.done body (honest_old now.changes h)));
      said = λ h. rw (← now.has_digests) at (merged_may_become_current.said (honest_old now.changes h));
      counted = λ h. merged_counted old s _ stands ends.was ends.done body (honest_old now.changes h) _ (search arith)
          ∙ ap (λ (rows : List StoredRow). put_count (rows_of now_stores ++ rows)) (sym (waiting_stays old new s stands sizes now.changes (honest_old now.changes h)));
    }

    -- and still stand
    goes : Advances [] old new s (sorted_replaced s m ends.merge.stores store)
    unfolding merged_may_become_current
    goes = succeeds old new s body _ stands merged_may_become_current sizes m now after fits now.has_shape (λ h. ap (map command_of) (waiting_stays old new s stands sizes now.changes h))

    pub merged_advances : (finished : EngineState) → finished ≡ sorted_replaced s m ends.merge.stores store → Advances [] old new s finished
    merged_advances finished is = rw (← is) at goes

    -- the merge is ended
    pub ends_merged : (finished : EngineState) → finished ≡ sorted_replaced s m ends.merge.stores store → EndsMerged s finished
    ends_merged finished is = search (arith, current_is, all_compared)

    -- its entries are the newest rows that are puts, of what it took on a disk that shows the same stores
    entries_now : IsTrue old.honest → (spec.full_stores new after).entries ≡ merged_rows (merge_sources ends.merge.stores (shown_stores old s))
    unfolding merged_may_become_current with_log_rows with_merged
    entries_now h =
        let here : IsTrue new.honest = subst IsTrue (sym now.changes.honest) h in
        ap (λ (t : Stores). t.entries) (full_is new after goes.stands here)
        ∙ ap (λ (t : Stores). t.entries) (shown_are new after _ fits.same_shape fits.same_body fits.named here)
        ∙ entries_are old s ends.merge stands ends.was ends.done h

    pub has_merged_entries : (first : Content) (finished : EngineState) → finished ≡ sorted_replaced s m ends.merge.stores store
        → Stands first s → IsTrue first.honest → IsTrue old.honest → shown_stores old s ≡ shown_stores first s → HasMergedEntries first new s finished
    has_merged_entries first finished is stood was_honest h same = search (arith, entries_now, sources_with, full_is)
