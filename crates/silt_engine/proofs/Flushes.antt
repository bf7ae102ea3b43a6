-- The waiting rows settled, and some of them.
use Rattle.silt_engine.proofs.Common.{◌≡◌, ◌+◌, ◌-◌, nat_lt, false, IsTrue, List, [], ◌++◌, map, take, drop, Ok, refl, ap, sym, ◌∙◌, arith, map-append, take-append-drop, ChangesWithin, Content}
use Rattle.silt_engine.proofs.Common.{LeavesOnly, size, commits_at, log_size, log_rows, StoredRow, LogState, all_rows, settled_rows, waiting_rows, none_waiting, LogStoreState, Stores, image_stores}
use Rattle.silt_engine.proofs.Common.{rows_of, with_log_rows, command_of, EngineState, Stands, full_image, shown_stores, waiting_commands, Advances, Breaks, Remaps, IsQuiet, ltb-false}
use Rattle.silt_engine.proofs.Common.{commits_in_region, OpensSomeOfStore, OpensStore, again_law}
use Rattle.std.proofs.lemmas.List.{append-nil}
use Rattle.silt_engine.proofs.Named.{map_with_more, named_body, named_shape, rows_with_more, said_with_rows, sound_some, with_body, with_shape}
use Rattle.silt_engine.proofs.Facts.{active_is, all_sound, base_is, full_map, has_active, map_with_rows, rows_split, stands_with_rows, torn_active}
use Rattle.silt_engine.proofs.Standing.{Fits, digested_stays, fits_stand, frozen_stay, full_with, hashed_stay, located_stays, merged_stays, named_with, current_record_stays, shown_are}
use Rattle.silt_engine.proofs.Standing.{written_stays}
use Rattle.silt_engine.proofs.Appends.{with_active}
use Rattle.silt_engine.proofs.Wholes.{whole_with_active, written_with_active}
use Rattle.silt_engine.proofs.Elsewhere.{honest_old, honest_new}

-- nothing waits if all rows are settled
pub quiet : (content : Content) (s : EngineState) → s.active.log.settled ≡ s.active.log.used → IsQuiet content s
quiet content s settled = record { settled = settled; none_wait = ap (map command_of) (none_waiting content s.active.log settled) }

module _ (old new : Content) (s : EngineState) (after : LogStoreState) (stands : Stands old s) (sizes : size new ≡ size old)
    (changes : ChangesWithin (commits_at s.active.log.shape s.active.log.region + s.active.log.settled) (s.active.log.used - s.active.log.settled) old new) where
  changed : ChangesWithin (commits_at s.active.log.shape s.active.log.region) (log_size s.active.log.shape) old new
  changed = commits_in_region s.active.log.shape _ _ _ old new (omega (arith, stands.active.bounds.order, stands.active.bounds.room)) changes

  -- ---- all of them

  module _ (opens : OpensStore old new s.active after) where
    -- the stores with all rows settled
    now : Stores
    now = with_log_rows s.manifest.current.active (settled_rows old s.active.log ++ waiting_rows old s.active.log) (shown_stores old s)

    now_is : now ≡ with_log_rows s.manifest.current.active (settled_rows old s.active.log ++ waiting_rows old s.active.log) (shown_stores old s)
    unfolding now
    now_is = refl

    same_shape : now.shape ≡ s.manifest.shape
    same_shape = ap (λ (t : Stores). t.shape) now_is ∙ with_shape _ _ _ ∙ named_shape _ _ _

    same_body : now.body ≡ s.manifest.current
    same_body = ap (λ (t : Stores). t.body) now_is ∙ with_body _ _ _ ∙ named_body _ _ _

    shape_same : after.log.shape ≡ s.active.log.shape
    shape_same = ap (λ (l : LogState). l.shape) opens.log.log

    region_same : after.log.region ≡ s.active.log.region
    region_same = ap (λ (l : LogState). l.region) opens.log.log

    settled_all : after.log.settled ≡ after.log.used
    settled_all = cc (opens.log.log)

    -- in each image the log has all rows
    images : LeavesOnly new (λ image. log_rows s.active.log.shape s.active.log.region image ≡ settled_rows old s.active.log ++ waiting_rows old s.active.log)
    images = record { each = λ h image left. cc (shape_same, region_same, opens.stands.log.images.each h image left, opens.log.settled (honest_old changes h), rows_split old s stands) }

    named : LeavesOnly new (λ image. image_stores image ≡ Ok now)
    named = record { each = λ h image left. (named_with old new s stands sizes changed _ images).each h image left ∙ ap Ok (sym now_is) }

    -- all rows of the stores
    now_rows : IsTrue old.honest → rows_of now ≡ rows_of (shown_stores old s) ++ waiting_rows old s.active.log
    now_rows h = ap rows_of now_is ∙ rows_with_more _ _ _ [] (active_is old s stands) (has_active old s stands h) _

    none : waiting_rows new after.log ≡ []
    none = none_waiting new after.log settled_all

    fits : Fits new (with_active s after s.charge) now
    fits = record {
      has_size = sizes ∙ stands.has_size;
      whole = whole_with_active s after _ stands.whole shape_same region_same stands.whole.most;
      idle = stands.idle;
      current = current_record_stays old new s stands sizes changed;
      active = opens.stands;
      frozen = frozen_stay old new s stands sizes changed;
      hashed = hashed_stay old new s stands sizes changed;
      located = located_stays old new s stands sizes changed;
      digested = digested_stays old new s stands sizes changed;
      written = written_with_active new s after s.charge stands.whole (written_stays old new s stands sizes changed);
      merged = merged_stays old new s stands sizes changed;
      same_shape = same_shape;
      same_body = same_body;
      named = named;
      sound = λ h. rw (
        ← (opens.log.all (honest_old changes h) ∙ rows_split old s stands),
        ← (again_law (shown_stores old s) s.manifest.current.active (settled_rows old s.active.log ++ waiting_rows old s.active.log) (all_rows new after.log)),
        ← now_is,
      ) at (all_sound old s stands (honest_old changes h));
      said = λ h. rw (← now_is) at (said_with_rows _ s.manifest.current.active (settled_rows old s.active.log ++ waiting_rows old s.active.log) _ (stands.said (honest_old changes h)));
      counted = λ h. cc (stands.counted (honest_old changes h), now_rows (honest_old changes h), append-nil (rows_of now), none);
    }

    pub flushed : Advances [] old new s (with_active s after s.charge)
    flushed = record {
      stands = fits_stand new _ now fits;
      shape = refl;
      moves = λ h. record {
        moved = waiting_commands old s;
        rest = ap (λ (rows : List StoredRow). waiting_commands old s ++ map command_of rows) none;
        base = cc (
          base_is new (with_active s after s.charge),
          shown_are new (with_active s after s.charge) now same_shape same_body named (honest_new changes h),
          now_is,
          map_with_more (shown_stores old s) s.manifest.current.active (settled_rows old s.active.log) [] (active_is old s stands) (has_active old s stands h) (waiting_rows old s.active.log),
          base_is old s,
        );
      };
    }

    pub flushed_quiet : IsQuiet new (with_active s after s.charge)
    flushed_quiet = quiet new _ settled_all

  -- ---- some of them

  module _ (opens : OpensSomeOfStore old new s.active after) where
    -- each possible crash image has a beginning of the waiting rows
    pub flush_breaks : Breaks old new s
    flush_breaks = record {
      each = λ h image left.
          let o : IsTrue old.honest = honest_old changes h in
          let has = opens.log.images.each h image left in
          let waiting : List StoredRow = waiting_rows old s.active.log in
          let some : List StoredRow = take has.0 waiting in
          let from = changed.left o image left in
          let is = torn_active old s stands from.0 image _ (stands.named.each o from.0 from.1) from.2 has.2 in
          record {
            kept = map command_of some;
            begins = record { rest = map command_of (drop has.0 waiting); is = sym (map-append command_of some (drop has.0 waiting)) ∙ ap (map command_of) (take-append-drop has.0 waiting) };
            stands = stands_with_rows old s stands o image some is ((current_record_stays old new s stands sizes changed).each h image left).current (sound_some
                _ _ _ _ (active_is old s stands) (has_active old s stands o) has.0 (all_sound old s stands o));
          };
    }

    -- the full image has all rows
    pub flush_failed_map : Remaps [] old new s (with_active s after s.charge)
    flush_failed_map h =
        let same : after.log ≡ s.active.log = opens.log.log in
        let is = full_with old new s stands sizes changed (honest_new changes h) _ _ refl refl stands.active.bounds (opens.log.full h ∙ rows_split old s stands) in
        cc (map_with_rows old s stands h (full_image new s) (waiting_rows old s.active.log) is, full_map old s stands h)

-- nor if no row waits
pub quiet_when : (content : Content) (s : EngineState) → Stands content s → nat_lt s.active.log.settled s.active.log.used ≡ false → IsQuiet content s
quiet_when content s stands none = quiet _ s (omega (arith, ltb-false s.active.log.settled s.active.log.used none, stands.active.bounds.order))
