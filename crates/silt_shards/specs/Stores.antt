-- What a set of stores is: one map, key by key; and what a crash keeps of each of its shards.
use Rattle.std.specs.Prelude.{◌≡◌, ℕ, All, IsTrue, false, List, [], ◌∷◌, length, map, slice_get, option_and_then, Option, Some}
use Rattle.std.specs.FinMap.{get}
use Rattle.std.specs.List.{AllZip}
use Rattle.silt_disk.specs.Disk.{LeavesOnly, Restarts}
use Rattle.silt_disk.specs.declared.disk.Disk.{Ghosts}
use Rattle.silt_event.specs.Commands.{Command, Map, map_after}
use Rattle.silt_event.specs.Events.{AnswersEach, FailsAfterFault, Keeps, Legal, PlainReply, Step, plain}
use Rattle.silt_event.specs.declared.event.Event.{Event}
use Rattle.silt_event.specs.declared.event.Event.TheVariants.{Convert, Merge}
use Rattle.silt_event.specs.declared.reply.Reply.{Reply}
use Rattle.silt_event.specs.declared.reply.Reply.TheVariants.{NotServed}
use Rattle.silt_frame.specs.declared.key.Key.{Key}
use Rattle.silt_image.specs.Meaning.{StandsFor}
use Rattle.silt_store_set.specs.CoreState.{CoreState, DoesPlain, Opens, Runs, StandsKept, map_of}
use Rattle.silt_store_set.specs.Living.{StartsFrom}
use Rattle.silt_shards.specs.Routing.{routed, shard_of}
use Rattle.silt_shards.specs.SetLaws.{AreParts}
use Rattle.silt_shards.specs.Sets.{SetDoes}

-- ---- one map

-- the value of a key in a set: what its own shard has
abbrev pub value_in : {D : Type 0} → List (CoreState D) → Key → Option (List ℕ)
value_in cores key = option_and_then (λ core. get (map_of core) key.0) (slice_get cores (shard_of (length cores) key))

-- the set is this map: each key has the value that it has in the set
abbrev pub IsMapOf : {D : Type 0} → List (CoreState D) → Map → Type 0
IsMapOf cores values = (key : Key) → get values key.0 ≡ value_in cores key

-- each set is a map
abbrev pub HasMapLaw : Type 0 → Type 0
HasMapLaw D = (cores : List (CoreState D)) → (values : Map) × IsMapOf cores values

-- the reply of a set that is this map, and the map after it: a step of background work is not served, and else it is a map's reply
abbrev pub SetStep : Map → Event → PlainReply → Map → Type 0
SetStep values Convert reply to = (reply ≡ NotServed) × (to ≡ values)
SetStep values Merge reply to = (reply ≡ NotServed) × (to ≡ values)
SetStep values event reply to = Step values event reply to

-- the replies to events, in order, are those of one map
abbrev pub SetSteps : Map → List Event → List PlainReply → Map → Type 0
SetSteps values [] [] to = to ≡ values
SetSteps values (event ∷ events) (reply ∷ replies) to = (between : Map) × SetStep values event reply between × SetSteps between events replies to
SetSteps values events replies to = ⊥

module _ {D F : Type 0} (facts : Ghosts D F) where
  -- the disks of all shards are honest (they obey the crash model)
  abbrev pub AreHonest : List (CoreState D) → Type 0
  AreHonest cores = All (λ core. IsTrue (facts.content core.disk).honest) cores

  -- a set of stores does events, one after the other, with these replies
  abbrev pub SetRuns : List (CoreState D) → List Event → List PlainReply → List (CoreState D) → Type 0
  SetRuns old events replies new = AnswersEach (SetDoes (DoesPlain facts)) old events replies new

  -- if all disks are honest, the replies of a set are those of one map
  abbrev pub SetMapLaw : Type 0
  SetMapLaw =
      (old new : List (CoreState D)) (events : List Event) (replies : List PlainReply) (values : Map) → AreHonest old → IsMapOf old values
      → SetRuns old events replies new → (to : Map) × IsMapOf new to × SetSteps values events replies to

  -- ---- each shard

  -- what a run of a set is for one shard: a run of its store over its own events, with replies that are parts of the set's
  pub record ShardRuns (count shard : ℕ) (old new : CoreState D) (events : List Event) (replies : List PlainReply) : Type 0 where
    pub own : List (Reply F)
    pub runs : Runs facts old (routed count shard events) own new
    pub parts : AreParts count shard events replies (map plain own)
    -- the replies are those of the shard's map
    pub legal : IsTrue (facts.content old.disk).honest → Legal old.count (map_of old) (routed count shard events) own new.count (map_of new)
    -- a crash keeps a first part of what the shard has accepted, with each acknowledged command
    pub kept : old.failed ≡ false → LeavesOnly (facts.content old.disk) (StandsFor old.shape old.base)
        → LeavesOnly (facts.content new.disk) (StandsKept old (routed count shard events) own)

  -- a run of a set of stores is a run of each shard's store
  abbrev pub ShardRunsLaw : Type 0
  ShardRunsLaw =
      (old new : List (CoreState D)) (events : List Event) (replies : List PlainReply) → SetRuns old events replies new
      → (shard : ℕ) (before : CoreState D) → slice_get old shard ≡ Some before
      → (after : CoreState D) × (slice_get new shard ≡ Some after) × ShardRuns (length old) shard before after events replies

  -- ---- lives

  -- one life of a set: stores open on these disks, do the events with these replies, and a crash leaves the next disks
  pub record LivesOnce (disks : List D) (events : List Event) (replies : List PlainReply) (left : List D) : Type 0 where
    pub first : List (CoreState D)
    pub last : List (CoreState D)
    pub opens : AllZip (λ disk core. Opens facts (facts.content disk) core) disks first
    pub runs : SetRuns first events replies last
    pub stops : AllZip (λ (core : CoreState D) disk. Restarts (facts.content core.disk) (facts.content disk)) last left

  -- lives in order, each with its events and replies, on the disks that the crash of the one before left
  abbrev pub LivesOn : List D → List (List Event × List PlainReply) → List D → Type 0
  LivesOn disks [] left = left ≡ disks
  LivesOn disks (life ∷ lives) left = (between : List D) × LivesOnce disks life.0 life.1 between × LivesOn between lives left

-- One life of a shard, from its map: its own replies are those of a map, and the next life begins at what the crash kept, which is a first
-- part of the commands that the shard accepted, with each acknowledged one.
pub record ShardLife (F : Type 0) (count shard : ℕ) (values : Map) (events : List Event) (replies : List PlainReply) (to : Map) : Type 0 where
  pub own : List (Reply F)
  pub parts : AreParts count shard events replies (map plain own)
  pub accepted : ℕ
  pub end : Map
  pub legal : Legal 0 values (routed count shard events) own accepted end
  pub kept : List Command
  pub keeps : Keeps (routed count shard events) own kept
  pub fails : FailsAfterFault false own
  pub next : to ≡ map_after values kept

-- lives of a shard in order, each from the map that the one before left
abbrev pub ShardLives : Type 0 → ℕ → ℕ → Map → List (List Event × List PlainReply) → Map → Type 0
ShardLives F count shard values [] to = to ≡ values
ShardLives F count shard values (life ∷ lives) to =
    (between : Map) × ShardLife F count shard values life.0 life.1 between × ShardLives F count shard between lives to

-- Over any lives of a set: for each shard whose disk is honest and starts from a map, every reply is that of the map folded over what the
-- earlier lives kept of this shard and what this life has accepted, and the disk that is left starts from the map of all that was kept.
abbrev pub SetLivesLaw : {D F : Type 0} → Ghosts D F → Type 0
SetLivesLaw {D} {F} facts =
    (disks left : List D) (lives : List (List Event × List PlainReply)) → LivesOn facts disks lives left
    → (shard : ℕ) (disk : D) → slice_get disks shard ≡ Some disk
    → (value_len : ℕ) (values : Map) → StartsFrom value_len values (facts.content disk)
    → (after : D) × (slice_get left shard ≡ Some after)
    × ((to : Map) × ShardLives F (length disks) shard values lives to × StartsFrom value_len to (facts.content after))
