-- A freeze: the record that names the new log, and the stores once it is current.
use Rattle.silt_engine.proofs.Common.{inl, ◌≡◌, ℕ, IsTrue, List, [], refl, ap, sym, ◌∙◌, subst, arith, All-cons, Content, LeavesOnly, size, Shape, device_size, slot_at, shown_left, first_rows}
use Rattle.silt_engine.proofs.Common.{log_rows, StoredRow, all_rows, all_count, none_waiting, IsLogStore, LogStoreState, ManifestState, spare_slot, Body, Digests, Stores, stores_named, HasActive}
use Rattle.silt_engine.proofs.Common.{IsSound, rows_of, with_log_rows, map_of_rows, whole_law, NextLog, AreWhole, IsSettled, EngineState, IsFrozen, Stands, shown_stores, Advances, IsQuiet}
use Rattle.silt_engine.proofs.Common.{own_digests, HasFrozen, IsEmptied, names_region, MayBecomeCurrent, BecomesCurrent, IsNextLog, freeze_law, new_active_law, new_log_law, frozen_law}
use Rattle.silt_engine.proofs.Common.{active_replaced, ChangesOnlyActive}
use Rattle.silt_log.specs.Rows.{rows_from}
use Rattle.silt_image.specs.Meaning.{with_new_log}
use Rattle.silt_engine.proofs.Named.{named_body, named_shape, own_rows}
use Rattle.silt_engine.proofs.Facts.{base_is, shown_named, shown_sound}
use Rattle.silt_engine.proofs.Elsewhere.{length-log_rows, outside_slot, honest_old}
use Rattle.silt_engine.proofs.Standing.{Fits}
use Rattle.silt_engine.proofs.Wholes.{merging_in, oldest_behind, under_way_in, written_in}
use Rattle.silt_engine.proofs.NextBodies.{now_named, succeeds}
use Rattle.silt_engine.proofs.Turns.{digested_stays, frozen_stays, hashed_stays, located_stays, merged_stays, written_stays}
use Rattle.silt_engine.proofs.Counting.{may_follow}
use Rattle.silt_engine.proofs.Flushes.{quiet}
use Rattle.silt_engine.proofs.Freezes.{store_elsewhere}
use Rattle.silt_engine.proofs.Said.{frozen_said}

-- an active log on which nothing waits has the rows of a frozen one
settled_frozen : (content : Content) (store : LogStoreState) → IsLogStore content store → store.log.settled ≡ store.log.used → IsFrozen content store
settled_frozen content store is settled = record {
  rows = λ h.
      let rows : log_rows store.log.shape store.log.region content.shown ≡ all_rows content store.log = search (arith, shown_left, is.log.images.each) in
      cc (all_count content store.log, length-log_rows store.log.shape store.log.region content.shown);
  indexed = is.index;
}

-- ---- the body that names the new log

module _ (old : Content) (s : EngineState) (next : NextLog) (digests : Digests) (stands : Stands old s) (is_quiet : IsQuiet old s)
    (emptied : IsEmptied old s next) (digests_are : digests ≡ own_digests s) where
  store_shape : next.store.log.shape ≡ s.manifest.shape
  store_shape = ap (λ (t : LogStoreState). t.log.shape) emptied.follows.store

  store_region : next.store.log.region ≡ next.body.active
  store_region = ap (λ (t : LogStoreState). t.log.region) emptied.follows.store ∙ ap (λ (b : Body). b.active) (sym emptied.follows.body)

  t_shape : (shown_stores old s).shape ≡ s.manifest.shape
  t_shape = named_shape _ _ _

  t_body : (shown_stores old s).body ≡ s.manifest.current
  t_body = named_body _ _ _

  -- the stores under it
  abbrev frozen_stores : Stores
  frozen_stores = with_new_log next.body (shown_stores old s)

  frozen_rows : rows_of frozen_stores ≡ rows_of (shown_stores old s)
  frozen_rows = new_log_law (shown_stores old s) next.body

  -- it names them in each image
  names : LeavesOnly old (λ image. stores_named s.manifest.shape next.body image ≡ frozen_stores)
  names = record {
    each = λ h image left. ap (λ (sh : Shape). stores_named sh next.body image) (sym t_shape)
        ∙ freeze_law image (shown_stores old s) next.body (stands.named.each h image left) (search (arith, t_body))
        (ap (λ (sh : Shape). log_rows sh next.body.active image) t_shape ∙ ap (λ (n : ℕ). log_rows s.manifest.shape n image) (sym store_region) ∙ emptied.images.each h image left);
  }

  pub frozen_may_become_current : MayBecomeCurrent old s next.body digests
  unfolding with_new_log
  frozen_may_become_current = record {
    follows = λ sound. may_follow s next sound emptied.follows;
    stores = frozen_stores;
    has_shape = t_shape;
    has_body = refl;
    names = names;
    sound = λ h. frozen_law (shown_stores old s) next.body (shown_sound old s stands h);
    said = λ h. rw (← digests_are) at (frozen_said old s stands h next.body);
    same_map = λ h. ap map_of_rows frozen_rows ∙ sym (base_is old s);
    waiting = inl is_quiet;
  }

  -- ---- once it is_current

  module _ (new : Content) (sizes : size new ≡ size old) (m : ManifestState) (now : BecomesCurrent old new s next.body digests m) where
    -- the stores in memory afterwards
    abbrev after : EngineState
    after = active_replaced s m next.store

    pub frozen_whole : AreWhole (active_replaced s m next.store)
    frozen_whole = record {
      has_shape = store_shape ∙ sym now.has_shape;
      active_region = store_region ∙ ap (λ (b : Body). b.active) (sym now.has_body);
      frozen_regions = cc (stands.whole.active_region, stands.whole.frozen_regions, emptied.follows.body, now.has_body);
      settled = rw (← now.has_shape) at (All-cons (IsSettled s.manifest.shape) s.active s.frozen (record { has_shape = stands.whole.has_shape; settled = is_quiet.settled }) stands.whole.settled);
      hash_regions = cc (stands.whole.hash_regions, emptied.follows.body, now.has_body);
      hashed = rw (← now.has_shape) at stands.whole.hashed;
      sorted = cc (stands.whole.sorted, now.has_shape, emptied.follows.body, now.has_body);
      held = stands.whole.held;
      under_way = under_way_in s after _ now.has_shape (cc (now.has_body, emptied.follows.body)) (omega arith) stands.whole.under_way;
      merging = merging_in s after _ now.has_shape refl (omega arith) stands.whole.merging;
      most = rw (← now.has_shape) at stands.whole.most;
    }

    -- the new log has no rows
    none_used : next.store.log.settled ≡ next.store.log.used
    none_used = ap (λ (t : LogStoreState). t.log.settled) emptied.follows.store ∙ sym (ap (λ (t : LogStoreState). t.log.used) emptied.follows.store)

    new_rows : all_rows new next.store.log ≡ []
    unfolding rows_from
    new_rows = ap (λ (n : ℕ). first_rows next.store.log.shape next.store.log.region new.shown n) (ap (λ (t : LogStoreState). t.log.used) emptied.follows.store)

    now_active : IsTrue old.honest → HasActive [] frozen_stores
    now_active h = new_active_law (shown_stores old s) next.body (
        (whole_law old.shown (shown_stores old s) (shown_named old s stands h)).names next.body.active
        ∙ ap (λ (b : Body). names_region b next.body.active) t_body
        ∙ ap (λ (b : Body). names_region s.manifest.current b.active) emptied.follows.body
        ∙ emptied.follows.lowest.free
        )

    old_active : IsLogStore new s.active
    old_active = store_elsewhere old new s.active (slot_at (spare_slot s.manifest)) 4096 (record { log = stands.active; index = stands.indexed })
        (stands.has_size ∙ ap device_size (sym stands.whole.has_shape)) sizes (outside_slot s.active.log.shape s.active.log.region (spare_slot s.manifest) (omega arith)) now.changes

    next_active : IsLogStore new next.store
    next_active = store_elsewhere old new next.store (slot_at (spare_slot s.manifest)) 4096 emptied.stands
        (stands.has_size ∙ ap device_size (sym store_shape)) sizes (outside_slot next.store.log.shape next.store.log.region (spare_slot s.manifest) (omega arith)) now.changes

    fits : Fits new after frozen_stores
    unfolding with_new_log frozen_may_become_current
    fits = record {
      has_size = sizes ∙ stands.has_size ∙ ap device_size (sym now.has_shape);
      whole = frozen_whole;
      idle = now.idle;
      current = now.current;
      active = next_active;
      frozen = All-cons (IsFrozen new) s.active s.frozen (settled_frozen new _ old_active is_quiet.settled) (frozen_stays old new s stands sizes now.changes);
      hashed = hashed_stays old new s stands sizes now.changes;
      located = located_stays old new s stands sizes now.changes;
      digested = digested_stays old new s stands sizes now.changes;
      written = written_in new s _ _ (oldest_behind s.active s.frozen next.store s.active) stands.whole.under_way (written_stays old new s stands sizes now.changes);
      merged = merged_stays old new s stands sizes now.changes;
      same_shape = frozen_may_become_current.has_shape ∙ sym now.has_shape;
      same_body = frozen_may_become_current.has_body ∙ sym now.has_body;
      named = now_named old new s _ _ stands frozen_may_become_current sizes m now;
      sound = λ h.
          let own : with_log_rows m.current.active [] frozen_stores ≡ frozen_stores = search (arith, own_rows, frozen_may_become_current, now_active, honest_old now.changes) in
          subst (λ (rows : List StoredRow). IsSound (with_log_rows m.current.active rows frozen_stores)) (sym new_rows)
          (subst IsSound (sym own) (frozen_may_become_current.sound (honest_old now.changes h)));
      said = λ h. rw (← now.has_digests) at (frozen_may_become_current.said (honest_old now.changes h));
      counted = λ h. cc (stands.counted (honest_old now.changes h), none_waiting old s.active.log is_quiet.settled, none_waiting new next.store.log none_used, frozen_rows);
    }

    pub frozen_advances : Advances [] old new s (active_replaced s m next.store)
    unfolding frozen_may_become_current
    frozen_advances = succeeds old new s _ _ stands frozen_may_become_current sizes m now after fits now.has_shape
        (λ h. cc (none_waiting new next.store.log none_used, none_waiting old s.active.log is_quiet.settled))

    pub has_frozen : HasFrozen next new s (active_replaced s m next.store)
    has_frozen = record {
      quiet = quiet new after none_used;
      active = refl;
      current = now.has_body;
      frozen = omega arith;
      hashes = refl;
      sorted = refl;
      index = refl;
      digest = refl;
      converting = refl;
      merging = refl;
      charge = refl;
    }

-- ---- the steps of a freeze, one after another

-- the next log of stores with the same manifest and as many frozen logs
pub next_for : (s t : EngineState) (next : NextLog) → t.manifest ≡ s.manifest → t.frozen ≡ s.frozen → IsNextLog s next → IsNextLog t next
next_for s t next manifest frozen is = search arith

-- the first log of later stores
pub frozen_from : (next : NextLog) (content : Content) (first before after : EngineState) → ChangesOnlyActive first before
    → before.charge ≡ first.charge → HasFrozen next content before after → HasFrozen next content first after
frozen_from next content first before last behind charge has = search arith
