-- What a kept trace holds, as contracts see it.
use Rattle.std.specs.Prelude.{◌≡◌, ◌≤◌, ℕ, ◌+◌, List, ◌∷◌, [], ◌++◌, length, IsTrue}
use Rattle.std.specs.BTreeMap.{is_at}
use Rattle.std.specs.Map.{lookup}
use Rattle.std.specs.FinMap.{get}
use Rattle.silt_frame.specs.declared.key.Key.{Key}
use Rattle.silt_disk.specs.Disk.{LeavesOnly}
use Rattle.silt_disk.specs.Layout.{Shape}
use Rattle.silt_event.specs.Commands.{Command, Map, map_after}
use Rattle.silt_event.specs.Events.{acknowledged_after}
use Rattle.silt_image.specs.Meaning.{StandsFor}
use Rattle.silt_store_set.specs.CoreState.{KeepsFrom}
use Rattle.silt_frame.specs.Rows.{key_cmp}
use Rattle.silt_desk.specs.declared.call.RecordedCall.{RecordedCall}
use Rattle.silt_desk.specs.History.{Replays, commands_of, called_events, replies_of}
use Rattle.silt_desk.specs.Seeing.{SeenStore, Spends}

pub record Keeping : Type 0 where
  -- the entries of the store when the history began
  pub opening : List (Key × List ℕ)
  -- how many commands were accepted by then
  pub count : ℕ
  pub calls : List RecordedCall
  -- how many calls there is room for
  pub most : ℕ

-- these are the entries of the map
abbrev pub ListsMap : List (Key × List ℕ) → Map → Type 0
ListsMap entries map = (key : Key) → lookup (is_at (key_cmp key)) entries ≡ get map key.0

-- the history with one call more
abbrev pub with_call : Keeping → RecordedCall → Keeping
with_call kept c = record { opening = kept.opening; count = kept.count; calls = kept.calls ++ c ∷ []; most = kept.most }

-- recorded calls, and how many commands were accepted before them
pub record Past : Type 0 where
  pub count : ℕ
  pub calls : List RecordedCall

-- the calls of a kept trace
abbrev pub past_of : Keeping → Past
past_of kept = record { count = kept.count; calls = kept.calls }

-- one call more
abbrev pub then_call : Past → RecordedCall → Past
then_call past c = record { count = past.count; calls = past.calls ++ c ∷ [] }

-- The image represents the base after what a crash may keep of the recorded calls: a first part of these waiting commands and of those
-- accepted since, with each acknowledged one.
abbrev pub StandsRecorded : Past → Shape → Map → List Command → List ℕ → Type 0
StandsRecorded past shape base waiting image =
    (cs : List Command) × KeepsFrom waiting past.count (called_events past.calls) (replies_of past.calls) cs × StandsFor shape (map_after base cs) image

-- since the history began, the commands that went into the base hold each acknowledged one, and the rest wait
pub record HasSettled (past : Past) (base : Map) (waiting : List Command) (store : SeenStore) : Type 0 where
  pub moved : List Command
  pub rest : moved ++ store.waiting ≡ waiting ++ commands_of past.calls
  pub has_base : store.base ≡ map_after base moved
  pub counted : store.count ≡ past.count + length (commands_of past.calls)
  pub acknowledged : (settled : ℕ) → settled + length waiting ≡ past.count → acknowledged_after settled (replies_of past.calls) ≤ settled + length moved

-- The recorded calls say what a crash keeps of the store, failed or not: the opening map was this base with these commands waiting, no more
-- than were accepted.
pub record SurvivesFrom (past : Past) (opening base : Map) (waiting : List Command) (store : SeenStore) : Type 0 where
  pub opens : IsTrue store.content.honest → opening ≡ map_after base waiting
  pub few : IsTrue store.content.honest → length waiting ≤ past.count
  pub settled : IsTrue store.content.honest → HasSettled past base waiting store
  pub left : LeavesOnly store.content (StandsRecorded past store.shape base waiting)

-- the same of some base and some waiting commands
pub record Survives (past : Past) (opening : Map) (store : SeenStore) : Type 0 where
  pub base : Map
  pub waiting : List Command
  pub from : SurvivesFrom past opening base waiting store

-- The recorded calls are a history of one thread, from the opening entries and count to the store's map and count, and a crash keeps only
-- what they allow.
pub record IsHistory (kept : Keeping) (store : SeenStore) : Type 0 where
  pub map : Map
  pub entries : IsTrue store.content.honest → ListsMap kept.opening map
  pub replays : IsTrue store.content.honest → Replays kept.count map kept.calls store.count store.map
  pub survives : Survives (past_of kept) map store

-- These calls lead from the first store to this one: they are a history of one thread, from its count and map to those of this one, a
-- crash keeps only what they allow, and the device was asked for no more than they cost.
pub record LeadsTo (first : SeenStore) (calls : List RecordedCall) (store : SeenStore) : Type 0 where
  pub honest : store.content.honest ≡ first.content.honest
  pub shape : store.shape ≡ first.shape
  pub replays : IsTrue store.content.honest → Replays first.count first.map calls store.count store.map
  pub survives : SurvivesFrom (record { count = first.count; calls = calls }) first.map first.base first.waiting store
  pub spends : Spends first store (replies_of calls)
