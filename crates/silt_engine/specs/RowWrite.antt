-- A put or a delete as a whole, and why it is refused.
use Rattle.std.specs.Prelude.{◌≡◌, ◌⊎◌, ◌+◌, ◌++◌, ◌∷◌, [], ℕ, IsTrue, List}
use Rattle.silt_disk.specs.Disk.{Content, GaveAny}
use Rattle.silt_disk.specs.declared.disk.Disk.{Ghosts}
use Rattle.silt_event.specs.Commands.{Command, WaitsAlone, WaitsBehind}
use Rattle.silt_frame.specs.declared.key.Kind.{Kind}
use Rattle.silt_frame.specs.Rows.{puts_of}
use Rattle.silt_log.specs.State.{all_rows}
use Rattle.silt_log_store.specs.declared.log_store.TakeError.{TakeError}
use Rattle.silt_log_store.specs.declared.log_store.TakeError.TheVariants as take_error
use Rattle.silt_engine.specs.declared.row_write.WriteError.{WriteError}
use Rattle.silt_engine.specs.declared.row_write.WriteError.TheVariants.{Read, Write, NoRoom, Spent, NoMemory}
use Rattle.silt_standing.specs.State.{EngineState}
use Rattle.silt_standing.specs.Standing.{base_map, waiting_commands}
use Rattle.silt_engine.specs.Calls.{BreaksOff, CannotTake, HasNoFreeLog, IsLastGeneration, ChangesOnlyActive}
use Rattle.silt_engine.specs.NextLog.{IsLowestFree, next_body}

-- the active log cannot take a row of this key
abbrev pub NeedsNext : Content → EngineState → List ℕ → Type 0
NeedsNext content s key = IsTrue content.honest → CannotTake s.manifest.shape (all_rows content s.active.log) key

-- the active log can take a row of this key
abbrev pub HasPlace : Content → EngineState → List ℕ → Type 0
HasPlace content s key = IsTrue content.honest → CannotTake s.manifest.shape (all_rows content s.active.log) key → ⊥

-- the active log took a row of this kind and key, which does this command: it waits behind the others, and a put is charged
pub record JoinsActive (old new : Content) (before after : EngineState) (kind : Kind) (key : List ℕ) (command : Command) : Type 0 where
  pub place : HasPlace old before key
  pub waits : IsTrue old.honest → waiting_commands new after ≡ waiting_commands old before ++ command ∷ []
  pub others : ChangesOnlyActive before after
  pub charge : after.charge ≡ before.charge + puts_of kind

-- a row of this kind was taken: a put is charged, and background work in progress stays
pub record CountsRow (before after : EngineState) (kind : Kind) : Type 0 where
  pub charge : after.charge ≡ before.charge + puts_of kind
  pub converting : after.converting ≡ before.converting
  pub merging : after.merging ≡ before.merging

-- the active log took a row of this key, under the same body
pub record StaysFor (old new : Content) (before after : EngineState) (key : List ℕ) (command : Command) : Type 0 where
  pub has_place : HasPlace old before key
  pub current : after.manifest.current ≡ before.manifest.current
  pub waits : IsTrue old.honest → WaitsBehind command (base_map old before) (base_map new after) (waiting_commands old before) (waiting_commands new after)

-- the active log was frozen for a row of this key: the next record is current, with the lowest free region
pub record TurnsFor (old new : Content) (before after : EngineState) (key : List ℕ) (command : Command) : Type 0 where
  pub needs : NeedsNext old before key
  pub region : ℕ
  pub lowest : IsLowestFree before.manifest.shape.logs before.manifest.current region
  pub current : after.manifest.current ≡ next_body before.manifest.current region
  pub waits : IsTrue old.honest → WaitsAlone command (base_map old before) (base_map new after) (waiting_commands old before) (waiting_commands new after)

-- a row of this key, which does this command, was taken: by the log that was active or by the next one
abbrev pub WritesKey : Content → Content → EngineState → EngineState → List ℕ → Command → Type 0
WritesKey old new before after key command = StaysFor old new before after key command ⊎ TurnsFor old new before after key command

module _ {D F : Type 0} (facts : Ghosts D F) (old new : D) (before after : EngineState) (key : List ℕ) where
  -- nothing was changed
  abbrev pub Unchanged : Type 0
  Unchanged = (after ≡ before) × (new ≡ old)

  -- why the active log did not take a row of this key, and what was changed
  abbrev pub TakeCause : TakeError F → Type 0
  TakeCause take_error.Full = Unchanged × NeedsNext (facts.content old) before key
  TakeCause (take_error.Read fault) = Unchanged × GaveAny facts.gave old fault
  TakeCause (take_error.Write fault) = BreaksOff facts old new before after fault

  -- why a row of this key was not taken, and what was changed
  abbrev pub WriteCause : WriteError F → Type 0
  WriteCause (Read fault) = Unchanged × GaveAny facts.gave old fault
  WriteCause (Write fault) = BreaksOff facts old new before after fault
  WriteCause NoRoom = Unchanged × NeedsNext (facts.content old) before key × HasNoFreeLog before
  WriteCause Spent = Unchanged × NeedsNext (facts.content old) before key × (HasNoFreeLog before → ⊥) × IsLastGeneration before
  WriteCause NoMemory = Unchanged × NeedsNext (facts.content old) before key × (HasNoFreeLog before → ⊥) × (IsLastGeneration before → ⊥)
