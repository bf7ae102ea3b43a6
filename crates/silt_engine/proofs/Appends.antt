-- A row more in the active log, and none.
use Rattle.silt_engine.proofs.Common.{◌≡◌, ◌≤◌, ◌<◌, ℕ, ◌+◌, true, IsTrue, List, [], ◌∷◌, ◌++◌, map, Some, Ok, refl, ap, sym, ◌∙◌, subst, arith, append_assoc, map-append, ChangesWithin, Content}
use Rattle.silt_engine.proofs.Common.{LeavesOnly, size, Shape, commits_at, log_size, row_len, Key, Kind, Put, Delete, body_at, log_rows, has_known_kind, stored_row, StoredRow, keys_of, put_count}
use Rattle.silt_engine.proofs.Common.{puts_of, LogState, all_rows, settled_rows, waiting_rows, all_are_settled_and_waiting, IsLogStore, LogStoreState, Slots, index_of_keys, Stores, image_stores}
use Rattle.silt_engine.proofs.Common.{IsSound, rows_of, with_log_rows, command_of, map_of_rows, count_law, AreWhole, EngineState, Stands, shown_stores, waiting_commands, Advances, SameDisk, inl}
use Rattle.silt_engine.proofs.Common.{inr, Ghosts, Command, map_after, all_count, NextLog, base_map, MovesIntoBase, HasFrozen, IsNextLog, append_cancel_right, body_in_region, KeepsStore, TakesRow}
use Rattle.silt_engine.proofs.Common.{CanTake, FailsTake, IsFullFor, taken_law, WaitsAlone, WaitsBehind, CannotTake}
use Rattle.std.proofs.Common.{is_some, rules}
use Rattle.std.proofs.lemmas.List.{append-nil}
use Rattle.silt_log_store.specs.Findings.{fits_table}
use Rattle.silt_engine.proofs.Named.{named_body, named_shape, own_rows, rows_with_more}
use Rattle.silt_engine.proofs.Facts.{active_is, base_is, has_active, rows_split}
use Rattle.silt_engine.proofs.Standing.{Fits, after_same, digested_stays, fits_stand, frozen_stay, hashed_stay, located_stays, merged_stays, named_with, current_record_stays, shown_are}
use Rattle.silt_engine.proofs.Standing.{written_stays}
use Rattle.silt_engine.proofs.Wholes.{whole_with_active, written_with_active}
use Rattle.silt_log_store.specs.declared.log_store.TakeError.{TakeError}
use Rattle.silt_log_store.specs.declared.log_store.TakeError.TheVariants.{Full}
use Rattle.silt_engine.specs.RowWrite.{HasPlace, NeedsNext, TakeCause, TurnsFor}
use Rattle.silt_engine.proofs.Chains.{honest_after}
use Rattle.silt_engine.proofs.Exits.{broke_off}
use Rattle.silt_engine.proofs.Elsewhere.{honest_old, honest_new}

-- the stores with another active log and another charge
abbrev pub with_active : EngineState → LogStoreState → ℕ → EngineState
with_active s after charge = record s { active = after; charge = charge }

module _ (old new : Content) (s : EngineState) (after : LogStoreState) (more : List StoredRow) (charge : ℕ)
    (stands : Stands old s) (sizes : size new ≡ size old) (changes : ChangesWithin (commits_at s.active.log.shape s.active.log.region) (log_size s.active.log.shape) old new)
    (same_shape : after.log.shape ≡ s.active.log.shape) (same_region : after.log.region ≡ s.active.log.region) (is : IsLogStore new after)
    (images : LeavesOnly new (λ image. log_rows s.active.log.shape s.active.log.region image ≡ settled_rows old s.active.log))
    (settled : IsTrue old.honest → settled_rows new after.log ≡ settled_rows old s.active.log) (all : IsTrue old.honest → all_rows new after.log ≡ all_rows old s.active.log ++ more)
    (sound : IsTrue old.honest → IsSound (with_log_rows s.manifest.current.active (all_rows old s.active.log ++ more) (shown_stores old s)))
    (counted : charge ≡ s.charge + put_count more) (most : charge ≤ s.manifest.shape.sorted_capacity) where
  -- the rows wait behind the others
  pub waits : IsTrue old.honest → waiting_rows new after.log ≡ waiting_rows old s.active.log ++ more
  waits h = after_same (settled_rows old s.active.log) _ _ (
      cc (settled h, all_are_settled_and_waiting new after.log is.log.bounds.order, all h, rows_split old s stands, append_assoc (settled_rows old s.active.log) (waiting_rows old s.active.log) more)
      )

  -- each possible crash image has the stores that were shown
  named : LeavesOnly new (λ image. image_stores image ≡ Ok (shown_stores old s))
  named = record {
    each = λ h image left. (named_with old new s stands sizes changes _ images).each h image left
        ∙ ap Ok (own_rows (shown_stores old s) s.manifest.current.active (settled_rows old s.active.log) [] (active_is old s stands) (has_active old s stands (honest_old changes h)));
  }

  whole : AreWhole (with_active s after charge)
  whole = whole_with_active s after charge stands.whole same_shape same_region most

  pub fits_extended : Fits new (with_active s after charge) (shown_stores old s)
  fits_extended = record {
    has_size = sizes ∙ stands.has_size;
    whole = whole;
    idle = stands.idle;
    current = current_record_stays old new s stands sizes changes;
    active = is;
    frozen = frozen_stay old new s stands sizes changes;
    hashed = hashed_stay old new s stands sizes changes;
    located = located_stays old new s stands sizes changes;
    digested = digested_stays old new s stands sizes changes;
    written = written_with_active new s after charge stands.whole (written_stays old new s stands sizes changes);
    merged = merged_stays old new s stands sizes changes;
    same_shape = named_shape _ _ _;
    same_body = named_body _ _ _;
    named = named;
    sound = λ h. rw (← (all (honest_old changes h))) at (sound (honest_old changes h));
    said = λ h. stands.said (honest_old changes h);
    counted = λ h. cc (
      stands.counted (honest_old changes h),
      count_law (rows_of (shown_stores old s) ++ waiting_rows old s.active.log) more,
      append_assoc (rows_of (shown_stores old s)) (waiting_rows old s.active.log) more,
      waits (honest_old changes h),
    );
  }

  -- the stores advance by the commands of the rows
  pub extended : Advances (map command_of more) old new s (with_active s after charge)
  extended = record {
    stands = fits_stand new (with_active s after charge) (shown_stores old s) fits_extended;
    shape = refl;
    moves = λ h. record {
      moved = [];
      rest = ap (map command_of) (waits h) ∙ map-append command_of (waiting_rows old s.active.log) more;
      base =
          base_is new (with_active s after charge)
          ∙ ap (λ (t : Stores). map_of_rows (rows_of t)) (shown_are new (with_active s after charge) (shown_stores old s) (named_shape s.manifest.shape s.manifest.current old.shown)
          (named_body s.manifest.shape s.manifest.current old.shown) named (honest_new changes h))
          ∙ sym (base_is old s);
    };
  }

-- ---- a row

-- a row that is written is of a known kind
pub known_stored : (kind : Kind) (key : Key) (value : List ℕ) → has_known_kind (stored_row kind key value) ≡ true
known_stored Put key value = refl
known_stored Delete key value = refl

-- and a put counts
pub counted_stored : (kind : Kind) (key : Key) (value : List ℕ) → put_count (stored_row kind key value ∷ []) ≡ puts_of kind
counted_stored Put key value = refl
counted_stored Delete key value = refl

-- a table that is there fits
table_fits : (shape : Shape) (rows : List StoredRow) (table : Slots) → index_of_keys shape.buckets (keys_of rows) ≡ Some table → IsTrue (fits_table shape rows)
unfolding fits_table
table_fits shape rows table is = ap is_some is

module _ (old new : Content) (s : EngineState) (after : LogStoreState) (kind : Kind) (key : Key) (value : List ℕ) (charge : ℕ)
    (stands : Stands old s) (sizes : size new ≡ size old) (room : s.active.log.used < s.active.log.shape.log_capacity)
    (changes : ChangesWithin (body_at s.active.log.shape s.active.log.region s.active.log.used) (row_len s.active.log.shape) old new)
    (images : LeavesOnly new (λ image. log_rows s.active.log.shape s.active.log.region image ≡ settled_rows old s.active.log)) where
  changed : ChangesWithin (commits_at s.active.log.shape s.active.log.region) (log_size s.active.log.shape) old new
  changed = body_in_region s.active.log.shape s.active.log.region s.active.log.used old new room changes

  pub same_disk : SameDisk old new
  same_disk = record { size = sizes; honest = changes.honest }

  -- the row was taken
  module _ (takes : TakesRow kind key value old new s.active after) (counted : charge ≡ s.charge + puts_of kind) (most : s.charge + puts_of kind ≤ s.manifest.shape.sorted_capacity) where
    shape_same : after.log.shape ≡ s.active.log.shape
    shape_same = ap (λ (l : LogState). l.shape) takes.log.log

    region_same : after.log.region ≡ s.active.log.region
    region_same = ap (λ (l : LogState). l.region) takes.log.log

    -- nothing is found with the row
    pub row_sound : IsTrue old.honest → IsSound (with_log_rows s.manifest.current.active (all_rows old s.active.log ++ stored_row kind key value ∷ []) (shown_stores old s))
    row_sound h =
        let t : Stores = shown_stores old s in
        let rows : List StoredRow = all_rows old s.active.log in
        let one : List StoredRow = stored_row kind key value ∷ [] in
        let is_shape : t.shape ≡ s.manifest.shape = named_shape s.manifest.shape s.manifest.current old.shown in
        let table : IsTrue (fits_table after.log.shape (rows ++ one)) = table_fits after.log.shape (rows ++ one) after.table
        (cc (takes.log.all h, takes.stands.index.indexed (honest_new changes h))) in
        let fits : IsTrue (fits_table t.shape (rows ++ one)) = rw ((shape_same ∙ stands.whole.has_shape ∙ sym is_shape)) at table in
        let sound : IsSound (with_log_rows s.manifest.current.active rows t) = subst (λ (n : ℕ). IsSound (with_log_rows n rows t)) stands.whole.active_region (stands.sound h) in
        let all_of : rows_of (with_log_rows s.manifest.current.active (rows ++ one) t) ≡ (rows_of t ++ waiting_rows old s.active.log) ++ one =
        cc (
          rows_split old s stands,
          append_assoc (settled_rows old s.active.log) (waiting_rows old s.active.log) one,
          rows_with_more t _ _ [] (active_is old s stands) (has_active old s stands h) _,
          append_assoc (rows_of t) (waiting_rows old s.active.log) one,
        )
        in
        let charged : put_count (rows_of (with_log_rows s.manifest.current.active (rows ++ one) t)) ≡ s.charge + puts_of kind =
        cc (count_law (rows_of t ++ waiting_rows old s.active.log) one, stands.counted h, counted_stored kind key value) in
        taken_law t s.manifest.current.active rows (stored_row kind key value) sound (known_stored kind key value) fits (omega (arith, charged, ap (λ (sh : Shape). sh.sorted_capacity) is_shape, most))

    pub appended : Advances (command_of (stored_row kind key value) ∷ []) old new s (with_active s after charge)
    appended = extended old new s after _ charge stands sizes changed shape_same region_same takes.stands images takes.log.settled takes.log.all row_sound
        (cc (counted_stored kind key value)) (omega (arith, counted, most))

    pub appended_waits : IsTrue old.honest → waiting_commands new (with_active s after charge) ≡ waiting_commands old s ++ command_of (stored_row kind key value) ∷ []
    appended_waits h =
        ap (map command_of) (waits old new s after _ charge stands sizes changed shape_same region_same takes.stands images takes.log.settled takes.log.all row_sound
        (cc (counted_stored kind key value)) (omega (arith, counted, most)) h)
        ∙ map-append command_of (waiting_rows old s.active.log) (stored_row kind key value ∷ [])

  -- the row was not taken
  module _ (keeps : KeepsStore old new s.active after) where
    pub not_appended : Advances [] old new s (with_active s after s.charge)
    not_appended = extended old new s after [] s.charge stands sizes changed (ap (λ (l : LogState). l.shape) keeps.log.log) (ap (λ (l : LogState). l.region) keeps.log.log) keeps.stands
        images keeps.log.settled (λ h. keeps.log.all h ∙ sym (append-nil (all_rows old s.active.log))) (λ h. subst (λ (rows : List StoredRow). IsSound (with_log_rows s.manifest.current.active
        rows (shown_stores old s))) (sym (append-nil (all_rows old s.active.log))) (subst (λ (n : ℕ). IsSound (with_log_rows n (all_rows old s.active.log) (shown_stores old s)))
        stands.whole.active_region (stands.sound h))) (let none : put_count [] ≡ 0 = refl in omega (arith, none)) stands.whole.most

-- ---- a row that is taken by the active log or the next one, and one that is not

-- what waits if none of it went into the base
pub waits_behind : (command : Command) (old new : Content) (before after : EngineState) → MovesIntoBase (command ∷ []) old new before after
    → waiting_commands new after ≡ waiting_commands old before ++ command ∷ []
    → WaitsBehind command (base_map old before) (base_map new after) (waiting_commands old before) (waiting_commands new after)
waits_behind command old new before after moves waits =
    let none : moves.moved ≡ [] = append_cancel_right moves.moved [] (waiting_commands new after) (moves.rest ∙ sym waits) in
    record { waiting = waits; base = moves.base ∙ ap (map_after (base_map old before)) none }

-- what waits if all that waited went into the base
pub waits_alone : (command : Command) (old new : Content) (before after : EngineState) → MovesIntoBase (command ∷ []) old new before after
    → waiting_commands new after ≡ command ∷ [] → WaitsAlone command (base_map old before) (base_map new after) (waiting_commands old before) (waiting_commands new after)
waits_alone command old new before after moves waits = search (arith, append_cancel_right)

-- the record that is current after the next log took the row, and what waits then
pub turns_for : (command : Command) (old middle_content new : Content) (before middle after : EngineState) (next : NextLog) (key : List ℕ) → SameDisk old middle_content
    → NeedsNext old before key → (is : IsNextLog before next) → HasFrozen next middle_content before middle → after.manifest ≡ middle.manifest → Advances (command ∷ []) old new before after
    → (IsTrue middle_content.honest → waiting_commands new after ≡ waiting_commands middle_content middle ++ command ∷ []) → TurnsFor old new before after key command
turns_for command old middle_content new before middle after next key disk needs is frozen same goes waits = record {
  needs = needs;
  region = is.region;
  lowest = is.lowest;
  current = ap (λ m. m.current) same ∙ frozen.current ∙ is.body;
  waits = λ h. waits_alone _ old new before after (goes.moves h) (cc (waits (honest_after old middle_content disk h), frozen.quiet.none_wait));
}

-- the active log cannot take a row if its store is full for the key
cannot_take : (content : Content) (s : EngineState) (key : List ℕ) → Stands content s → IsFullFor content s.active key → CannotTake s.manifest.shape (all_rows content s.active.log) key
cannot_take content s key stands full = search (rules, arith, all_count, stands.whole.has_shape)

-- the active log had a place for a row that its store took
pub has_place : (content : Content) (s : EngineState) (key : List ℕ) → Stands content s → CanTake content s.active key → HasPlace content s key
has_place content s key stands can honest cannot =
    let rows : List StoredRow = all_rows content s.active.log in
    let full : IsFullFor content s.active key = rw (← stands.whole.has_shape, all_count content s.active.log) at cannot in
    absurd (elim full [
      | inl none ↦ omega (arith, none, can.room)
      | inr gone ↦ let is = can.placed honest in let not_is = ap is_some gone in cc
    ])

-- why the active log did not take a row
module _ {D F : Type 0} (facts : Ghosts D F) (old new : D) (s : EngineState) (after : LogStoreState) (kind : Kind) (key : Key) (value : List ℕ) where
  pub not_taken : Stands (facts.content old) s → size (facts.content new) ≡ size (facts.content old)
      → ChangesWithin (body_at s.active.log.shape s.active.log.region s.active.log.used) (row_len s.active.log.shape) (facts.content old) (facts.content new)
      → LeavesOnly (facts.content new) (λ image. log_rows s.active.log.shape s.active.log.region image ≡ settled_rows (facts.content old) s.active.log)
      → after ≡ s.active → (error : TakeError F) → FailsTake facts old new s.active after key.0 error → TakeCause facts old new s (with_active s after s.charge) key.0 error
  not_taken stands sizes changes images same Full fails = ((ap (λ (l : LogStoreState). with_active s l s.charge) same, fails.0), λ h. cannot_take _ s key.0 stands (fails.1 h))
  not_taken stands sizes changes images same error fails = search (rules, arith, broke_off, not_appended)
