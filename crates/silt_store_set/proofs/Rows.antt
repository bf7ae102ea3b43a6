-- What a put or a delete does, from what taking its row does.
use Rattle.silt_store_set.proofs.Common.{◌≡◌, ◌≢◌, ◌<◌, ◌≤◌, ℕ, ◌*◌, Option, ◌+◌, ◌^◌, inl, inr, false, IsTrue, List, [], ◌∷◌, length, refl, ap, sym, ◌∙◌, subst, arith, length-map, Makes}
use Rattle.silt_store_set.proofs.Common.{MakesAtMost, Ghosts, Key, Command, command_of, StoredRow, all_rows, Body, SameDisk, Stands, full_image, waiting_commands, EngineState, region_of}
use Rattle.silt_store_set.proofs.Common.{meaning, Put, Delete, Refusal, Spent, Accepted, Refused, is_failed, basis_of, progress_due, Idle, Shape, CoreState, Cause, convert_due, convert_work}
use Rattle.silt_store_set.proofs.Common.{written_of, Does, MakesRow, most_syncs, most_writes, some_wait, stored_row, CannotTake, WorksBy, Err, Ok, Result, Device, NoMemory, NoRoom, InLimits}
use Rattle.silt_store_set.proofs.Common.{AreAllInUse, Freezes, HasFreeLog, IsStuck, MayWrite, NoRowCause, Takes, row_event}
use Rattle.silt_frame.specs.declared.key.Kind.{Kind}
use Rattle.silt_log.specs.Rows.{log_rows}
use Rattle.silt_engine.specs.Calls.{HasNoFreeLog as AllInUse}
use Rattle.silt_engine.specs.NextLog.{IsLowestFree, next_body}
use Rattle.silt_engine.specs.RowWrite.{CountsRow, NeedsNext, WriteCause, WritesKey}
use Rattle.silt_engine.specs.declared.row_write.WriteError.{WriteError}
use Rattle.silt_engine.specs.declared.row_write.WriteError.TheVariants.{Read, Write}
use Rattle.silt_store_set.proofs.Waits.{waits_same}
use Rattle.silt_store_set.proofs.Calls.{seen, seen_failed, advanced, broke, refused}
use Rattle.silt_frame.specs.declared.key.Kind.TheVariants as kind
use Rattle.silt_engine.specs.declared.row_write.WriteError.TheVariants as error
use Rattle.silt_engine.specs.Costs as engine

-- a store that may write is not failed
pub may_working : {D : Type 0} (k : Kind) (core : CoreState D) → MayWrite k core → core.failed ≡ false
may_working kind.Put core may = may.may_count.working
may_working kind.Delete core may = may.working

-- and its next command still has a number
pub may_count : {D : Type 0} (k : Kind) (core : CoreState D) → MayWrite k core → core.count + 1 < 2 ^ 63
may_count kind.Put core may = omega (arith, may.may_count.count)
may_count kind.Delete core may = omega (arith, may.count)

-- the manifest record is the next one, with the lowest free region
freezes : (logs : ℕ) (old new : Body) (region : ℕ) → IsLowestFree logs old region → new ≡ next_body old region → Freezes logs old new
freezes logs old new region lowest is = search arith

-- with a frozen log a step of conversion is due, or waits for a hash region
not_idle : (frozen hashes regions slots : ℕ) (written : Option ℕ) → 1 ≤ frozen → progress_due frozen hashes regions slots written ≢ Idle
not_idle frozen hashes regions slots written some = search arith

-- there are at least two logs
pub least_logs : (shape : Shape) → InLimits shape → 2 ≤ shape.logs
least_logs shape limits = limits.logs_least

module _ {D F : Type 0} (facts : Ghosts D F) (disk : D) (stores : EngineState) (count : ℕ) (stands : Stands (facts.content disk) stores) where
  -- the store before
  abbrev before : CoreState D
  before = seen facts disk stores count

  -- the rows of the active log are the same in memory and in the full image
  rows_are : IsTrue (facts.content disk).honest → all_rows (facts.content disk) stores.active.log ≡ log_rows stores.manifest.shape
      stores.manifest.current.active (full_image (facts.content disk) stores)
  rows_are h = sym ((meaning (facts.content disk) stores stands).rows h)

  stopped : (next : CoreState D) (key : List ℕ) → NeedsNext (facts.content disk) stores key → IsStuck facts before next key
  stopped next key needs = λ h. subst (λ (rows : List StoredRow). CannotTake stores.manifest.shape rows key) (rows_are h) (needs h)

  -- memory has as many frozen logs as the manifest record names
  frozen_count : length stores.frozen ≡ length stores.manifest.current.frozen
  frozen_count = sym (length-map stores.frozen region_of) ∙ ap length stands.whole.frozen_regions

  all_in_use : AllInUse stores → AreAllInUse before
  all_in_use all = ap (λ (n : ℕ). n + 1) (sym frozen_count) ∙ all

  has_free : (AllInUse stores → ⊥) → HasFreeLog before
  has_free free = λ all. free (ap (λ (n : ℕ). n + 1) frozen_count ∙ all)

  takes : (new : D) (after : EngineState) (next : ℕ) (key : List ℕ) (command : Command) → SameDisk (facts.content disk) (facts.content new) → Stands (facts.content new) after
      → WritesKey (facts.content disk) (facts.content new) stores after key command → Takes facts before (seen facts new after next) key command
  takes new after next key command same stood (inl stays) = inl (
    (stays.current, λ h cannot. stays.has_place h (subst (λ (rows : List StoredRow). CannotTake stores.manifest.shape rows key) (sym (rows_are h)) cannot)),
    λ h. record {
      waiting = (stays.waits h).waiting;
      base = (meaning (facts.content new) after stood).shown (same.honest ∙ h) ∙ (stays.waits h).base ∙ sym ((meaning (facts.content disk) stores stands).shown h);
    },
  )
  takes new after next key command same stood (inr turns) = inr (
    (
      freezes stores.manifest.shape.logs stores.manifest.current after.manifest.current turns.region turns.lowest turns.current,
      stopped (seen facts new after next) key turns.needs,
    ),
    λ h. record {
      waiting = (turns.waits h).waiting;
      base = cc ((meaning (facts.content new) after stood).shown (same.honest ∙ h), (turns.waits h).base, (meaning (facts.content disk) stores stands).shown h);
    },
  )

  -- ---- what was made

  -- memory and the contracts' view say alike whether a command waits
  waits_as_seen : engine.row_waits stores ≡ some_wait (waiting_commands (facts.content disk) stores)
  waits_as_seen = waits_same (facts.content disk) stores stands.active.bounds

  row_made : (new : D) (after : EngineState) (next : ℕ) → engine.RowMakes facts disk new stores after → MakesRow facts before (seen facts new after next)
  row_made new after next made = (made.0, λ changed. subst (λ (n : ℕ). Makes facts.writes facts.syncs (n + 6) (2 * n + 4) disk new) waits_as_seen (made.1 changed))

  row_most : (new : D) (k : Kind) (key : Key) (value : List ℕ) → MakesAtMost facts.writes facts.syncs (engine.freeze_writes stores) (engine.freeze_syncs stores) disk new
      → MakesAtMost facts.writes facts.syncs (most_writes before (row_event k key value)) (most_syncs before (row_event k key value)) disk new
  row_most new k key value most = search (arith, waits_as_seen)

  -- ---- the row was taken

  -- what the call of the stores in memory does
  abbrev Works : {T : Type 0} → D → EngineState → Kind → Key → List ℕ → Result T (WriteError F) → Type 0
  Works new after k key value result = WorksBy facts (λ _. engine.RowMakes facts disk new stores after) (command_of (stored_row k key value) ∷ [])
      (engine.freeze_writes stores) (engine.freeze_syncs stores) disk new stores after result

  pub row_taken : {T : Type 0} (v : T) (new : D) (after : EngineState) (k : Kind) (key : Key) (value : List ℕ) → MayWrite k before → Works new after k key value (Ok v)
      → WritesKey (facts.content disk) (facts.content new) stores after key.0 (command_of (stored_row k key value)) → CountsRow stores after k
      → Does facts before (seen facts new after (count + 1)) (row_event k key value) (Accepted (count + 1))
  row_taken v new after kind.Put key value may works taken row =
      advanced facts _ _ _ _ disk new stores after stands v works count (count + 1) (Put key value) (Accepted (count + 1)) (refl, refl) refl refl refl
      (may, (takes new after (count + 1) key.0 _ works.same works.advances.stands taken, works.failures)) (λ m to e. e) (λ none. absurd (cc)) (λ _. row.converting)
      (λ _. row.merging) (λ _. tt) (row_made new after (count + 1) works.made)
  row_taken v new after kind.Delete key value may works taken row =
      advanced facts _ _ _ _ disk new stores after stands v works count (count + 1) (Delete key) (Accepted (count + 1)) (refl, refl) refl refl refl
      (may, (takes new after (count + 1) key.0 _ works.same works.advances.stands taken, works.failures)) (λ m to e. e) (λ none. absurd (cc)) (λ _. row.converting)
      (λ _. row.merging) (λ _. tt) (row_made new after (count + 1) works.made)

  -- ---- the row was not taken

  -- the reply to an error
  abbrev refusal_of : WriteError F → Refusal F
  refusal_of (Read fault) = Device fault
  refusal_of (Write fault) = Device fault
  refusal_of error.NoRoom = NoRoom
  refusal_of error.Spent = Spent
  refusal_of error.NoMemory = NoMemory

  no_row : (next : CoreState D) (k : Kind) (key : Key) (value : List ℕ) (e : WriteError F) → MayWrite k before → NoRowCause facts before next key.0 (refusal_of e)
      → Cause facts before next (row_event k key value) (Refused (refusal_of e))
  no_row next kind.Put key value error.Spent may why = (refl, inr (may, why))
  no_row next kind.Put key value e may why = (may, why)
  no_row next kind.Delete key value error.Spent may why = (refl, inr (may, why))
  no_row next kind.Delete key value e may why = (may, why)

  -- nothing was changed
  kept : (new : D) (after : EngineState) (k : Kind) (key : Key) (value : List ℕ) (e : WriteError F) → MayWrite k before → (after ≡ stores) × (new ≡ disk)
      → NoRowCause facts before before key.0 (refusal_of e) → is_failed (Refused (refusal_of e)) ≡ false → Does facts before (seen facts new after count) (row_event k key
      value) (Refused (refusal_of e))
  kept new after k key value e may same why other = rw (same.0, same.1) (refused facts disk stores count (row_event k key value) (refusal_of e) stands other (no_row before k key value e may why))

  -- if all logs are in use, there is a frozen one
  frozen_due : 2 ≤ stores.manifest.shape.logs → AllInUse stores → convert_due before ≢ Idle
  frozen_due least all = not_idle (length stores.manifest.current.frozen) (length stores.manifest.current.hashed) stores.manifest.shape.hashes (4 * stores.manifest.shape.buckets)
      (written_of (convert_work stores.converting)) (omega (arith, all, least, frozen_count))

  -- the store that an error leaves
  abbrev left_by : D → EngineState → WriteError F → CoreState D
  left_by new after (Write fault) = seen_failed facts (basis_of (facts.content disk) stores) new after count
  left_by new after e = seen facts new after count

  pub row_refused : {T : Type 0} (new : D) (after : EngineState) (k : Kind) (key : Key) (value : List ℕ) (e : WriteError F) → 2 ≤ stores.manifest.shape.logs → MayWrite k before
      → Works {T = T} new after k key value (Err e) → WriteCause facts disk new stores after key.0 e → Does facts before (left_by new after e) (row_event k key value) (Refused (refusal_of e))
  row_refused new after k key value (Write fault) least may works off =
      broke facts _ _ _ _ disk new stores after stands (Write fault) count (row_event k key value) fault works off
      (λ fails. no_row (left_by new after (Write fault)) k key value (Write fault) may (inr fails)) (row_most new k key value works.made)
  row_refused new after k key value (Read fault) least may works err = kept new after k key value (Read fault) may err.0 (inl (record { given = err.1; working = refl; same = refl })) refl
  row_refused new after k key value error.NoRoom least may works err = kept new after k key value error.NoRoom may err.0 (stopped before key.0 err.1, all_in_use err.2, frozen_due least err.2) refl
  row_refused new after k key value error.Spent least may works err = kept new after k key value error.Spent may err.0 (stopped before key.0 err.1, has_free err.2, err.3) refl
  row_refused new after k key value error.NoMemory least may works err = kept new after k key value error.NoMemory may err.0 (stopped before key.0 err.1, has_free err.2, err.3) refl
