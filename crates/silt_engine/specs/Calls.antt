-- What the calls of the stores do.
use Rattle.std.specs.Prelude.{◌≡◌, ◌+◌, ◌^◌, ◌-◌, ◌⊎◌, ℕ, IsTrue, List, [], ◌∷◌, ◌++◌, length, Some, None, Result, OnOk, MatchResult}
use Rattle.std.specs.FinMap.{get}
use Rattle.silt_cuckoo.specs.Index.{index_of_keys}
use Rattle.silt_disk.specs.Disk.{Content, CountsFault, LeavesOnly, Makes, MakesAtMost}
use Rattle.silt_disk.specs.Layout.{Shape}
use Rattle.silt_disk.specs.declared.disk.Disk.{Ghosts}
use Rattle.silt_event.specs.Commands.{Command, Map, map_after, Begins}
use Rattle.silt_image.specs.Meaning.{StandsFor, image_map}
use Rattle.silt_frame.specs.Rows.{keys_of, StoredRow}
use Rattle.silt_standing.specs.State.{EngineState}
use Rattle.silt_standing.specs.Standing.{SameDisk, Stands, base_map, current_map, full_image, waiting_commands}

-- in memory nothing has changed but the active log and the charge
pub record ChangesOnlyActive (before after : EngineState) : Type 0 where
  pub manifest : after.manifest ≡ before.manifest
  pub frozen : after.frozen ≡ before.frozen
  pub hashes : after.hashes ≡ before.hashes
  pub sorted : after.sorted ≡ before.sorted
  pub index : after.index ≡ before.index
  pub digest : after.digest ≡ before.digest
  pub converting : after.converting ≡ before.converting
  pub merging : after.merging ≡ before.merging

-- a beginning of what waited, and these commands behind it, went into the base
pub record MovesIntoBase (adds : List Command) (old new : Content) (before after : EngineState) : Type 0 where
  pub moved : List Command
  pub rest : moved ++ waiting_commands new after ≡ waiting_commands old before ++ adds
  pub base : base_map new after ≡ map_after (base_map old before) moved

-- the stores still stand, and the commands that waited, followed by these, wait or are in the base
pub record Advances (adds : List Command) (old new : Content) (before after : EngineState) : Type 0 where
  pub stands : Stands new after
  pub shape : after.manifest.shape ≡ before.manifest.shape
  pub moves : IsTrue old.honest → MovesIntoBase adds old new before after

-- an image represents the base after a prefix of the commands that waited
pub record HoldsPrefix (shape : Shape) (base : Map) (waiting : List Command) (image : List ℕ) : Type 0 where
  pub kept : List Command
  pub begins : Begins kept waiting
  pub stands : StandsFor shape (map_after base kept) image

-- each possible crash image represents the base after a prefix of what waited
abbrev pub Breaks : Content → Content → EngineState → Type 0
Breaks old new s = LeavesOnly new (HoldsPrefix s.manifest.shape (base_map old s) (waiting_commands old s))

-- with the commit bytes of the waiting rows open, what is shown represents the earlier map after these commands
abbrev pub Remaps : List Command → Content → Content → EngineState → EngineState → Type 0
Remaps adds old new before after = IsTrue old.honest → image_map (full_image new after) ≡ map_after (image_map (full_image old before)) adds

-- What a call that writes and adds these commands does: what holds of every result, and what holds after Ok. `MadeOk` says how many writes
-- and syncs each Ok stands for. The cause of an error is in a clause of its own.
pub record WorksBy {D F T E : Type 0} (facts : Ghosts D F) (MadeOk : T → Type 0) (adds : List Command) (w s : ℕ) (old new : D) (before after : EngineState)
    (result : Result T E) : Type 0 where
  -- the disk keeps its length, and whether it obeys the crash model
  pub same : SameDisk (facts.content old) (facts.content new)
  -- the shape of the stores is kept
  pub shape : after.manifest.shape ≡ before.manifest.shape
  -- after Ok no write and no sync has failed
  pub failures : OnOk result (facts.failures new ≡ facts.failures old)
  -- after Ok the stores still stand, and the commands that waited, followed by the added ones, wait or are in the base
  pub advances : OnOk result (Advances adds (facts.content old) (facts.content new) before after)
  -- after Ok the full image represents the earlier map after the added commands
  pub map : OnOk result (Remaps adds (facts.content old) (facts.content new) before after)
  -- after Ok it has made as many writes and syncs as the Ok says, and after an error at most w and s
  pub made : MatchResult result MadeOk (λ _. MakesAtMost facts.writes facts.syncs w s old new)

-- The same if each Ok stands for exactly w writes and s syncs.
abbrev pub Works : {D F T E : Type 0} → Ghosts D F → List Command → (w s : ℕ) → D → D → EngineState → EngineState → Result T E → Type 0
Works facts adds w s old new before after result = WorksBy facts (λ _. Makes facts.writes facts.syncs w s old new) adds w s old new before after result

-- What a call leaves whose write or sync failed with this fault.
pub record BreaksOff {D F : Type 0} (facts : Ghosts D F) (old new : D) (before after : EngineState) (fault : F) : Type 0 where
  -- one more write or sync has failed, and the disk gave the fault for it
  pub counted : CountsFault facts.failures facts.gave old new fault
  -- each possible crash image represents the base after a prefix of what waited
  pub breaks : Breaks (facts.content old) (facts.content new) before
  -- the full image represents the earlier map
  pub map : Remaps [] (facts.content old) (facts.content new) before after

-- a lookup of a key: its value, or none
abbrev pub Finds : Content → EngineState → List ℕ → List ℕ → Type 0
Finds content s key value = IsTrue content.honest → get (current_map content s) key ≡ Some value

-- a lookup finds no value of the key
abbrev pub FindsNone : Content → EngineState → List ℕ → Type 0
FindsNone content s key = IsTrue content.honest → get (current_map content s) key ≡ None

-- a log with these rows cannot take a row of this key: it is full, or the keys with this one have no table
abbrev pub CannotTake : Shape → List StoredRow → List ℕ → Type 0
CannotTake shape rows key = (length rows ≡ shape.log_capacity) ⊎ (index_of_keys shape.buckets (keys_of rows ++ key ∷ []) ≡ None)

-- every log region is in use
abbrev pub HasNoFreeLog : EngineState → Type 0
HasNoFreeLog s = length s.frozen + 1 ≡ s.manifest.shape.logs

-- the current record has the last generation
abbrev pub IsLastGeneration : EngineState → Type 0
IsLastGeneration s = s.manifest.current.generation ≡ 2 ^ 63 - 1
