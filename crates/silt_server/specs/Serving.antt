-- What a server writes and leaves.
use Rattle.std.specs.Prelude.{◌≡◌, ◌⊎◌, ℕ, All, List, [], length, ◌++◌, ◌%◌, ◌^◌, Option, Some, Result, Ok, codes, slice_get, sum}
use Rattle.std.specs.List.{AllZip}
use Rattle.std.specs.Option.{option_map}
use Rattle.logbook.specs.Pages.{Book}
use Rattle.std.specs.Io.KnownBytes.{Appends}
use Rattle.silt_disk.specs.Disk.{Content}
use Rattle.silt_disk.specs.Layout.{Shape}
use Rattle.silt_disk.specs.declared.disk.Disk.{Ghosts}
use Rattle.silt_event.specs.declared.refusal.Refusal.{Refusal}
use Rattle.silt_event.specs.declared.refusal.Refusal.TheVariants.{NoMemory}
use Rattle.silt_store_set.specs.CoreInvariant.{LeavesBegun}
use Rattle.silt_store_set.specs.CoreState.{CoreState, EntriesCause}
use Rattle.silt_desk.specs.Anchors.{AnchoredState, HasPast, LeadsFrom}
use Rattle.silt_desk.specs.CallLogs.{CallsSeen}
use Rattle.silt_desk.specs.History.{count_accepted}
use Rattle.silt_desk.specs.Seeing.{SeenStore, seen}
use Rattle.silt_desk.specs.Servings.{LeavesCalls}
use Rattle.silt_desk.specs.Traces.{IsHistory, Keeping, LeadsTo}
use Rattle.silt_desk.specs.declared.call.RecordedCall.{RecordedCall}
use Rattle.silt_server.specs.Texts.{calls_text, listening_text, refused_text}

-- what is written before the first connection is accepted
abbrev pub head_text : ℕ → List ℕ
head_text port = codes "opened\n" ++ listening_text port

-- it was written with the listener's port
abbrev pub WritesHead : (ℕ → Type 0) → Option (List ℕ) → Option (List ℕ) → Type 0
WritesHead has_port before after = (port : ℕ) × has_port port × Appends before after (head_text port)

-- that the network failed
abbrev pub network_text : List ℕ
network_text = codes "network fault\n"

-- the line for out of memory
abbrev pub no_memory_text : List ℕ
no_memory_text = refused_text {F = Unit {0}} NoMemory

-- ---- a server that served to its end

-- the number of calls that the trace counts was written, as it is modulo 2^64
abbrev pub PrintsCalls : {T : Type 0} → (T → ℕ → ℕ → Type 0) → T → Option (List ℕ) → Option (List ℕ) → Type 0
PrintsCalls counts trace before after = (calls : ℕ) × (accepted : ℕ) × counts trace calls accepted × Appends before after (calls_text (calls % 2 ^ 64))

-- the head was written with the listener's port, and behind it the number of calls that the trace counts
abbrev pub PrintsServed : {T : Type 0} → (ℕ → Type 0) → (T → ℕ → ℕ → Type 0) → T → Option (List ℕ) → Option (List ℕ) → Type 0
PrintsServed has_port counts trace before after =
    (port : ℕ) × has_port port × (calls : ℕ) × (accepted : ℕ) × counts trace calls accepted × Appends before after (head_text port ++ calls_text (calls % 2 ^ 64))

-- the head with the listener's port and a number of calls are written, and each possible crash image of the disk represents one map after
-- some first part of one list of commands
abbrev pub ServesAt : (ℕ → Type 0) → Content → Option (List ℕ) → Option (List ℕ) → Type 0
ServesAt has_port content before after =
    (port : ℕ) × has_port port × (calls : ℕ) × Appends before after (head_text port ++ calls_text calls) × ((shape : Shape) × LeavesBegun content shape)

-- the same at some port
abbrev pub IsServed : Content → Option (List ℕ) → Option (List ℕ) → Type 0
IsServed content before after = ServesAt (λ port. Unit {0}) content before after

-- this many calls are kept, and this many of them are accepted commands
abbrev pub counts_kept : Keeping → ℕ → ℕ → Type 0
counts_kept kept calls accepted = (length kept.calls ≡ calls) × (count_accepted kept.calls ≡ accepted)

-- calls were kept that are a history of the store on the disk, and their number was written behind the head
abbrev pub ServesKept : {D F : Type 0} → Ghosts D F → (ℕ → Type 0) → D → Option (List ℕ) → Option (List ℕ) → Type 0
ServesKept {D} facts has_port disk before after =
    (core : CoreState D) × (kept : Keeping) × (core.disk ≡ disk) × IsHistory kept (seen facts core) × PrintsServed has_port counts_kept kept before after

-- Some calls lead from the store that was opened to one on this disk, and their number was written behind the head.
abbrev pub ServesCalls : {D F : Type 0} → Ghosts D F → (ℕ → Type 0) → CoreState D → D → Option (List ℕ) → Option (List ℕ) → Type 0
ServesCalls {D} facts has_port first disk before after =
    (last : CoreState D) × (calls : List RecordedCall) × (last.disk ≡ disk) × LeadsTo (seen facts first) calls (seen facts last)
    × ((port : ℕ) × has_port port × Appends before after (head_text port ++ calls_text (length calls % 2 ^ 64)))

-- A store was served with a trace of its calls, to the end if the status is 0: the trace agrees with the store on this disk, it counts calls
-- that lead there from the store that was opened, and the number that it counts was written behind the head.
pub record IsTraced {D F T E : Type 0} (facts : Ghosts D F) (agrees : T → SeenStore → Type 0) (counts : T → ℕ → ℕ → Type 0) (has_port : ℕ → Type 0)
    (first : CoreState D) (disk : D) (status : Result ℕ E) (before after : Option (List ℕ)) : Type 0 where
  pub last : CoreState D
  pub state : AnchoredState T
  pub is : last.disk ≡ disk
  pub agreed : agrees state.trace (seen facts last)
  pub past : HasPast (Some (seen facts first)) counts state (seen facts last)
  pub printed : status ≡ Ok 0 → PrintsServed has_port counts state.trace before after

-- ---- a server of a set

-- the store of the shard of this number among these
abbrev pub seen_at : {D F : Type 0} → Ghosts D F → List (CoreState D) → ℕ → Option SeenStore
seen_at facts cores shard = option_map (seen facts) (slice_get cores shard)

-- the names of a log's shard are those of this store and of the log, which has no calls
abbrev pub IsNamedFor : {D F : Type 0} → Ghosts D F → (ℕ → Option SeenStore) → (ℕ → Book) → CoreState D → CallsSeen → Type 0
IsNamedFor facts first calls core log = (first log.shard ≡ Some (seen facts core)) × (log.book ≡ calls log.shard) × (log.calls ≡ [])

-- each log is of the shard at its place, and has no calls
abbrev pub AreNewLogs : List CallsSeen → Type 0
AreNewLogs logs = (i : ℕ) (log : CallsSeen) → slice_get logs i ≡ Some log → (log.shard ≡ i) × (log.calls ≡ [])

-- each trace is of the shard at its place
abbrev pub AreInPlace : {T : Type 0} → List (AnchoredState T) → Type 0
AreInPlace {T} traces = (i : ℕ) (trace : AnchoredState T) → slice_get traces i ≡ Some trace → trace.shard ≡ i

-- calls that a trace counts lead from the store that is named for its shard to this one, whose disk is this
abbrev pub IsLedFrom : {D F T : Type 0} → Ghosts D F → (ℕ → Option SeenStore) → (T → ℕ → ℕ → Type 0) → CoreState D → AnchoredState T → D → Type 0
IsLedFrom facts first counts last state disk = (last.disk ≡ disk) × HasPast (first state.shard) counts state (seen facts last)

-- some calls lead from the store that is named, if one is, to a store with this disk
abbrev pub LeavesFrom : {D F : Type 0} → Ghosts D F → Option SeenStore → D → Type 0
LeavesFrom {D} facts named disk = (last : CoreState D) × (calls : List RecordedCall) × (last.disk ≡ disk) × LeadsFrom named calls (seen facts last)

-- the same of each disk, from the store that is named for the shard at its place
abbrev pub EachFrom : {D F : Type 0} → Ghosts D F → (ℕ → Option SeenStore) → List D → Type 0
EachFrom {D} facts first disks = (i : ℕ) (disk : D) → slice_get disks i ≡ Some disk → LeavesFrom facts (first i) disk

-- each disk is left by calls that lead there from the opened store of its shard; or there are no disks
abbrev pub LeavesEach : {D F : Type 0} → Ghosts D F → List (CoreState D) → List D → Type 0
LeavesEach facts cores disks = (disks ≡ []) ⊎ AllZip (LeavesCalls facts) cores disks

-- these are the numbers of the calls that the traces count
abbrev pub CountsEach : {T : Type 0} → (T → ℕ → ℕ → Type 0) → List T → List ℕ → Type 0
CountsEach counts traces calls = AllZip (λ trace n. (accepted : ℕ) × counts trace n accepted) traces calls

-- their sum was written, as it is modulo 2^64
abbrev pub PrintsAllCalls : {T : Type 0} → (T → ℕ → ℕ → Type 0) → List T → Option (List ℕ) → Option (List ℕ) → Type 0
PrintsAllCalls counts traces before after = (calls : List ℕ) × CountsEach counts traces calls × Appends before after (calls_text (sum calls % 2 ^ 64))

-- the head was written with the listener's port, and behind it the number of calls that all the traces count
abbrev pub PrintsAllServed : {T : Type 0} → (ℕ → Type 0) → (T → ℕ → ℕ → Type 0) → List T → Option (List ℕ) → Option (List ℕ) → Type 0
PrintsAllServed has_port counts traces before after =
    (port : ℕ) × has_port port × (calls : List ℕ) × CountsEach counts traces calls × Appends before after (head_text port ++ calls_text (sum calls % 2 ^ 64))

-- The head with the listener's port and a number of calls are written. There is a disk for each of so many shards, and each possible crash
-- image of each represents one map after some first part of one list of commands.
abbrev pub ServesSetAt : {D F : Type 0} → (ℕ → Type 0) → Ghosts D F → ℕ → List D → Option (List ℕ) → Option (List ℕ) → Type 0
ServesSetAt has_port facts shards disks before after =
    (port : ℕ) × has_port port × (calls : ℕ) × Appends before after (head_text port ++ calls_text calls)
    × (length disks ≡ shards) × All (λ disk. (shape : Shape) × LeavesBegun (facts.content disk) shape) disks

-- ---- a server that did not serve to its end

-- out of memory, or a failed network, before the head was written or after it
abbrev pub BreaksServing : (ℕ → Type 0) → Option (List ℕ) → Option (List ℕ) → Type 0
BreaksServing has_port before after =
    Appends before after no_memory_text
    ⊎ (Appends before after (codes "opened\n" ++ network_text)
    ⊎ ((port : ℕ) × has_port port × (Appends before after (head_text port ++ no_memory_text) ⊎ Appends before after (head_text port ++ network_text))))

module _ {D F : Type 0} (facts : Ghosts D F) where
  -- the disk is as this store had it, and it was written that the store's entries could not be kept, for their cause
  abbrev pub PrintsEntries : CoreState D → D → Option (List ℕ) → Option (List ℕ) → Type 0
  PrintsEntries core disk before after = (core.disk ≡ disk) × ((refusal : Refusal F) × EntriesCause facts core refusal × Appends before after (refused_text refusal))

  -- it was written why this store is not served to the end
  abbrev pub PrintsNotServed : (ℕ → Type 0) → CoreState D → D → Option (List ℕ) → Option (List ℕ) → Type 0
  PrintsNotServed has_port core disk before after = PrintsEntries core disk before after ⊎ BreaksServing has_port before after
