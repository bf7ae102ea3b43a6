-- What a trace sees of a store. Nothing of it names the device's type.
use Rattle.std.specs.Prelude.{◌≡◌, ◌≤◌, ℕ, ◌+◌, ◌*◌, if◌then◌else◌, Bool, true, false, IsTrue, List, [], ◌∷◌, ◌++◌, length, map}
use Rattle.silt_disk.specs.Disk.{Content, LeavesOnly, MakesAtMost}
use Rattle.silt_disk.specs.Layout.{Shape}
use Rattle.silt_disk.specs.declared.disk.Disk.{Ghosts}
use Rattle.silt_event.specs.Commands.{Command, Map, map_after}
use Rattle.silt_image.specs.Meaning.{StandsFor}
use Rattle.silt_engine.specs.Calls.{HoldsPrefix}
use Rattle.silt_engine.specs.Costs.{step_syncs, step_writes}
use Rattle.silt_store_set.specs.CoreState.{CoreState, map_of}
use Rattle.silt_event.specs.Events.{Step, Counts, PlainReply, accepted_command, is_fault}
use Rattle.silt_event.specs.declared.event.Event.{Event}
use Rattle.silt_event.specs.declared.refusal.Refusal.TheVariants.{Failed}
use Rattle.silt_event.specs.declared.progress.Progress.TheVariants.{Finished}
use Rattle.silt_event.specs.declared.reply.Reply.TheVariants.{Accepted, Acknowledged, Progress, Refused}
use Rattle.silt_desk.specs.History.{accepted_by}

-- A store as a trace sees it: its device's content, its shape, the map that gets read, the map of the settled commands, the waiting
-- commands (both of a failed store as its failing call began), the count of accepted commands, whether it failed, the generation of its
-- manifest, and how many writes and syncs its device was asked for, modulo 2^64.
pub record SeenStore : Type 0 where
  pub content : Content
  pub shape : Shape
  pub map : Map
  pub base : Map
  pub waiting : List Command
  pub count : ℕ
  pub failed : Bool
  pub generation : ℕ
  pub writes : ℕ
  pub syncs : ℕ

-- a trace's view of a store
abbrev pub seen : {D F : Type 0} → Ghosts D F → CoreState D → SeenStore
seen facts core = record {
  content = facts.content core.disk;
  shape = core.shape;
  map = map_of core;
  base = core.base;
  waiting = core.waiting;
  count = core.count;
  failed = core.failed;
  generation = core.body.generation;
  writes = facts.writes core.disk;
  syncs = facts.syncs core.disk;
}

-- ---- what calls cost

-- the writes of a call with this reply, at most, if no log is frozen for it and no call of the device fails: two of a row, one of a flush
abbrev pub writes_by : PlainReply → ℕ
writes_by (Accepted n) = 2
writes_by (Acknowledged n) = 1
writes_by (Progress progress) = step_writes progress
writes_by reply = 0

-- its syncs, at most
abbrev pub syncs_by : PlainReply → ℕ
syncs_by (Acknowledged n) = 2
syncs_by (Progress progress) = step_syncs progress
syncs_by reply = 0

-- how many conversions and merges it finishes: one or none
abbrev pub finished_by : PlainReply → ℕ
finished_by (Progress Finished) = 1
finished_by reply = 0

-- the sum of a number of each reply
abbrev pub total_by : (PlainReply → ℕ) → List PlainReply → ℕ
total_by number [] = 0
total_by number (reply ∷ replies) = number reply + total_by number replies

-- 1 if a store failed, and 0 if not
abbrev pub failing : Bool → ℕ
failing failed = if failed then 1 else 0

-- What calls with these replies cost. Each frozen log takes five writes and six syncs more at most, and the call by which the store fails
-- seven and six. There are no more frozen logs than accepted commands, and each of them, as each finished conversion and merge, is a
-- generation of the manifest.
pub record Spends (old new : SeenStore) (replies : List PlainReply) : Type 0 where
  pub freezes : ℕ
  pub fails : ℕ
  pub few : freezes ≤ total_by accepted_by replies
  pub once : failing old.failed + fails ≡ failing new.failed
  pub turns : new.failed ≡ false → new.generation ≡ old.generation + freezes + total_by finished_by replies
  pub made : MakesAtMost (λ (s : SeenStore). s.writes) (λ (s : SeenStore). s.syncs) (total_by writes_by replies + 5 * freezes + 7 * fails)
      (total_by syncs_by replies + 6 * freezes + 6 * fails) old new

-- commands that were accepted under these numbers, and a flush behind them
abbrev pub batch_replies : List ℕ → ℕ → List PlainReply
batch_replies numbers settled = map (λ (n : ℕ). Accepted n) numbers ++ Acknowledged settled ∷ []

-- such a batch, no command of which froze a log, costs two writes for each command, and one write and two syncs
abbrev pub BatchCostLaw : Type 0
BatchCostLaw =
    (old new : SeenStore) (numbers : List ℕ) (settled : ℕ) → Spends old new (batch_replies numbers settled) → new.failed ≡ false → new.generation ≡ old.generation
    → MakesAtMost (λ (s : SeenStore). s.writes) (λ (s : SeenStore). s.syncs) (2 * length numbers + 1) 2 old new

-- ---- a step

-- some first part of the waiting commands, with these commands behind them, went into the base
pub record MovesSeen (old new : SeenStore) (adds : List Command) : Type 0 where
  pub moved : List Command
  pub rest : moved ++ new.waiting ≡ old.waiting ++ adds
  pub base : new.base ≡ map_after old.base moved

-- after an acknowledging reply no command waits
abbrev pub NoneWaits : SeenStore → PlainReply → Type 0
NoneWaits store (Acknowledged n) = store.waiting ≡ []
NoneWaits store reply = Unit {0}

-- one call takes the store from old to new with the reply of a plain map, and a crash keeps what this call settled
pub record SeenStep (old new : SeenStore) (event : Event) (reply : PlainReply) : Type 0 where
  pub honest : new.content.honest ≡ old.content.honest
  pub shape : new.shape ≡ old.shape
  pub counts : Counts old.count reply new.count
  pub adds : new.count ≡ old.count + length (accepted_command event reply)
  pub step : IsTrue old.content.honest → Step old.map event reply new.map
  -- a failed store replies Failed and stays as it is
  pub failed : old.failed ≡ true → (new ≡ old) × (reply ≡ Refused Failed)
  -- a store fails only by a fault of its device
  pub faulted : old.failed ≡ false → new.failed ≡ true → IsTrue (is_fault reply)
  pub moves : new.failed ≡ false → IsTrue old.content.honest → MovesSeen old new (accepted_command event reply)
  pub settles : IsTrue old.content.honest → NoneWaits new reply
  -- each possible crash image represents the base, or, if the call failed, the old base after a first part of the waiting commands
  pub safe : new.failed ≡ false → LeavesOnly new.content (StandsFor new.shape new.base)
  pub crash : old.failed ≡ false → new.failed ≡ true → LeavesOnly new.content (HoldsPrefix old.shape old.base old.waiting)
  pub keeps_basis : old.failed ≡ false → new.failed ≡ true → (new.base ≡ old.base) × (new.waiting ≡ old.waiting)
  pub spends : Spends old new (reply ∷ [])
