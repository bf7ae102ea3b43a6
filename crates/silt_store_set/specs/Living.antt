-- What lives do: each opens its store, does its events if it can, and ends in a crash.
use Rattle.std.specs.Prelude.{Vec, ◌≡◌, ◌≢◌, ◌⊎◌, ℕ, IsTrue, List, [], ◌∷◌}
use Rattle.std.specs.declared.alloc.Global.{Global}
use Rattle.silt_disk.specs.Disk.{Content, LeavesOnly, Restarts}
use Rattle.silt_disk.specs.declared.disk.Disk.{Ghosts}
use Rattle.silt_standing.specs.Standing.{SameDisk}
use Rattle.silt_recovery.specs.Opening.{LeavesNoOther}
use Rattle.silt_event.specs.Commands.{Map}
use Rattle.silt_event.specs.Events.{LivesHistory}
use Rattle.silt_event.specs.declared.event.Event.{Event}
use Rattle.silt_event.specs.declared.reply.LifeReply.{LifeReply}
use Rattle.silt_event.specs.declared.reply.LifeReply.TheVariants.{NotOpened, Opened}
use Rattle.silt_event.specs.declared.refusal.Refusal.{Refusal}
use Rattle.silt_event.specs.declared.refusal.Refusal.TheVariants.{BadGeometry, NoMemory}
use Rattle.silt_event.specs.declared.reply.Reply.{Reply}
use Rattle.silt_store_set.specs.CoreInvariant.{IsSafe}
use Rattle.silt_store_set.specs.CoreState.{CoreState, Opens, Runs}
use Rattle.silt_store_set.specs.Opening.{OpeningCause}

-- the disk is honest (it obeys the crash model), and each possible crash image has values of this length and represents the map
pub record StartsFrom (value_len : ℕ) (map : Map) (content : Content) : Type 0 where
  pub honest : IsTrue content.honest
  pub safe : LeavesOnly content (IsSafe value_len map)

-- the replies of these lives are a history from the map
abbrev pub IsHistoryFrom : {F : Type 0} → Map → List (Vec Event Global) → Vec (LifeReply F) Global → Type 0
IsHistoryFrom map lives replies = (to : Map) × LivesHistory map lives replies.items to

-- opening this disk was refused for this cause, and left that disk
pub record Unopened {D F : Type 0} (facts : Ghosts D F) (disk stopped : D) (refusal : Refusal F) : Type 0 where
  pub same : SameDisk (facts.content disk) (facts.content stopped)
  pub images : LeavesNoOther (facts.content disk) (facts.content stopped)
  pub cause : OpeningCause facts (facts.content disk) stopped refusal

-- a store with values of such a length was opened, and crashed before any event
pub record Idles {D F : Type 0} (facts : Ghosts D F) (IsLen : ℕ → Type 0) (disk stopped : D) : Type 0 where
  pub first : CoreState D
  pub opens : Opens facts (facts.content disk) first
  pub has_len : IsLen first.shape.value_len
  pub is : stopped ≡ first.disk

-- a store with values of this length was opened, did the events with these replies, and crashed
pub record Lives {D F : Type 0} (facts : Ghosts D F) (value_len : ℕ) (events : List Event) (replies : List (Reply F)) (disk stopped : D) : Type 0 where
  pub first : CoreState D
  pub last : CoreState D
  pub opens : Opens facts (facts.content disk) first
  pub has_len : first.shape.value_len ≡ value_len
  pub runs : Runs facts first events replies last
  pub is : stopped ≡ last.disk

module _ {D F : Type 0} (facts : Ghosts D F) (value_len : ℕ) where
  -- what a life with this reply did to this disk before its crash
  abbrev pub LifeRun : List Event → LifeReply F → D → D → Type 0
  LifeRun events (Opened replies) disk stopped = Lives facts value_len events replies.items disk stopped
  LifeRun events (NotOpened BadGeometry) disk stopped = Idles facts (λ len. len ≢ value_len) disk stopped
  LifeRun events (NotOpened NoMemory) disk stopped = Unopened facts disk stopped NoMemory ⊎ Idles facts (λ len. len ≡ value_len) disk stopped
  LifeRun events (NotOpened refusal) disk stopped = Unopened facts disk stopped refusal

  -- one life, and the disk after its crash
  abbrev pub LifeEnds : List Event → LifeReply F → D → D → Type 0
  LifeEnds events reply disk next = (stopped : D) × LifeRun events reply disk stopped × Restarts (facts.content stopped) (facts.content next)

  -- lives in order, each on the disk that the crash of the one before left
  abbrev pub LivesRun : List (Vec Event Global) → List (LifeReply F) → D → Type 0
  LivesRun [] [] disk = Unit {0}
  LivesRun (life ∷ lives) (reply ∷ replies) disk = (next : D) × LifeEnds life.items reply disk next × LivesRun lives replies next
  LivesRun lives replies disk = ⊥
