-- Servings of one device, and what is left of their calls.
use Rattle.std.specs.Prelude.{◌≡◌, ◌⊎◌, ◌≤◌, ℕ, ◌+◌, IsTrue, List, [], ◌∷◌, Some, slice_get}
use Rattle.silt_disk.specs.Disk.{Content, Left, Restarts}
use Rattle.silt_disk.specs.declared.disk.Disk.{Ghosts}
use Rattle.silt_event.specs.Commands.{Command, Map, map_after}
use Rattle.silt_event.specs.Events.{Keeps, PlainReply, accepted_command}
use Rattle.silt_event.specs.declared.event.Event.{Event}
use Rattle.silt_event.specs.declared.reply.Reply.TheVariants.{Accepted, Acknowledged}
use Rattle.silt_image.specs.Meaning.{image_map}
use Rattle.silt_store_set.specs.CoreState.{CoreState, Opens}
use Rattle.silt_desk.specs.declared.call.RecordedCall.{RecordedCall}
use Rattle.silt_desk.specs.History.{Replays, called_events, replies_of}
use Rattle.silt_desk.specs.Seeing.{seen}
use Rattle.silt_desk.specs.Traces.{LeadsTo}

-- ---- what servings do

-- some calls lead from a store to one with this disk
abbrev pub LeavesCalls : {D F : Type 0} → Ghosts D F → CoreState D → D → Type 0
LeavesCalls {D} facts first disk = (last : CoreState D) × (calls : List RecordedCall) × (last.disk ≡ disk) × LeadsTo (seen facts first) calls (seen facts last)

-- a store was opened on a device of this content, and these calls lead from it to a store whose device has that content
pub record IsServing {D F : Type 0} (facts : Ghosts D F) (old : Content) (calls : List RecordedCall) (left : Content) : Type 0 where
  pub first : CoreState D
  pub last : CoreState D
  pub opens : Opens facts old first
  pub leads : LeadsTo (seen facts first) calls (seen facts last)
  pub is : left ≡ facts.content last.disk

-- the device is shown as a crash may leave it: after a crash, or as it was if there was none
pub record ComesAfter (left next : Content) : Type 0 where
  pub honest : next.honest ≡ left.honest
  pub shown : IsTrue left.honest → Left left next.shown

-- servings in order, each on what the one before left of the device
abbrev pub Servings : {D F : Type 0} → Ghosts D F → List (List RecordedCall) → Content → Type 0
Servings facts [] content = Unit {0}
Servings facts (calls ∷ later) content = (left : Content) × (next : Content) × IsServing facts content calls left × ComesAfter left next × Servings facts later next

-- ---- what is left of them

-- The calls of one serving from a map have the replies of a plain map. The next one begins at the map that the crash kept: a beginning of
-- the accepted commands that holds each acknowledged one.
pub record ServingHistory (map : Map) (calls : List RecordedCall) (to : Map) : Type 0 where
  pub count : ℕ
  pub end : Map
  pub kept : List Command
  pub legal : Replays 0 map calls count end
  pub keeps : Keeps (called_events calls) (replies_of calls) kept
  pub left : to ≡ map_after map kept

-- servings in order: each begins at the map that the one before left on the device
abbrev pub ServingsHistory : Map → List (List RecordedCall) → Map → Type 0
ServingsHistory map [] to = to ≡ map
ServingsHistory map (calls ∷ later) to = (next : Map) × ServingHistory map calls next × ServingsHistory next later to

-- over any list of servings of a device that obeys the crash model, the calls are a history from the map that it shows at first
abbrev pub ServingsLaw : {D F : Type 0} → Ghosts D F → Type 0
ServingsLaw facts =
    (servings : List (List RecordedCall)) (content : Content) → IsTrue content.honest → Servings facts servings content
    → (to : Map) × ServingsHistory (image_map content.shown) servings to

-- a crash leaves what the next serving may find, and so does an end without one
abbrev pub FollowsLaw : Type 0
FollowsLaw = (left next : Content) → Restarts left next ⊎ (next ≡ left) → ComesAfter left next

-- ---- one command

-- at this place of the calls is this event, accepted under this number, and at another one a flush that acknowledged so many commands
pub record IsAcknowledged (calls : List RecordedCall) (event : Event) (n : ℕ) : Type 0 where
  pub place : ℕ
  pub call : RecordedCall
  pub at : slice_get calls place ≡ Some call
  pub asked : call.event ≡ event
  pub replied : call.reply ≡ Accepted n
  pub flush_place : ℕ
  pub flush : RecordedCall
  pub most : ℕ
  pub flush_at : slice_get calls flush_place ≡ Some flush
  pub flushed : flush.reply ≡ Acknowledged most
  pub covers : n ≤ most

-- the reply to the command of this number
abbrev pub acceptance : ℕ → PlainReply
acceptance n = Accepted n

-- the kept commands have this event's, as the one of this number
pub record KeepsCommand (kept : List Command) (event : Event) (n : ℕ) : Type 0 where
  pub command : Command
  pub is : accepted_command event (acceptance n) ≡ command ∷ []
  pub place : ℕ
  pub number : n ≡ place + 1
  pub at : slice_get kept place ≡ Some command

-- what is left of a serving holds each command that was accepted and acknowledged
abbrev pub HeldLaw : Type 0
HeldLaw = (map : Map) (calls : List RecordedCall) (to : Map) (history : ServingHistory map calls to) (event : Event) (n : ℕ) → IsAcknowledged calls event n → KeepsCommand history.kept event n
