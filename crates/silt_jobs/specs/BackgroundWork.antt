-- Background work between lines, and all of it at once.
use Rattle.std.specs.Prelude.{◌≡◌, ◌≢◌, ◌⊎◌, ◌+◌, ◌<◌, ◌≤◌, ◌-◌, ◌^◌, ◌||◌, ℕ, Bool, true, false, cond, IsTrue, All, List, [], ◌∷◌, ◌++◌, length, Option, Some, None}
use Rattle.std.specs.Prelude.{Result, Ok, Err, option_map}
use Rattle.silt_jobs.specs.Common.{Ghosts, PlainReply, plain_refusal, Event, Admin, AdminReply, Convert, Merge, Idle, Waiting, Refusal, NoRoom, Spent, Reply, Refused}
use Rattle.silt_jobs.specs.Common.{AdministersCore, CoreState, Does, DoesPlain, awaits_region, convert_due, is_convert, is_merge, is_refused, wants_convert, Steps}
use Rattle.silt_event.specs.declared.progress.Progress.{Progress}
use Rattle.silt_store_set.specs.CoreState.{may_merge, wants_merge}

-- a refusal without its fault
abbrev pub PlainRefusal : Type 0
PlainRefusal = Refusal (Unit {0})

-- a conversion found nothing to do
abbrev pub is_idle : Progress → Bool
is_idle Idle = true
is_idle progress = false

-- a conversion found nothing to do, or waits for a hash region
abbrev pub is_paused : Progress → Bool
is_paused Idle = true
is_paused Waiting = true
is_paused progress = false

-- the error of a result, if it is one
abbrev pub error_of : {A E : Type 0} → Result A E → Option E
error_of (Ok value) = None
error_of (Err error) = Some error

-- one call of the store after the other, each of them due in the state before it
abbrev pub RunsDue : {D F : Type 0} → Ghosts D F → (CoreState D → Event → Bool) → CoreState D → List Event → List (Reply F) → CoreState D → Type 0
RunsDue facts is_due old [] [] new = new ≡ old
RunsDue {D} facts is_due old (event ∷ events) (reply ∷ replies) new =
    (next : CoreState D) × IsTrue (is_due old event) × Does facts old next event reply × RunsDue facts is_due next events replies new
RunsDue facts is_due old events replies new = ⊥

-- steps that are due, and their replies
pub record TakesSteps {D F : Type 0} (facts : Ghosts D F) (is_due : CoreState D → Event → Bool) (old new : CoreState D) : Type 0 where
  pub events : List Event
  pub replies : List (Reply F)
  pub run : RunsDue facts is_due old events replies new

-- none of these steps was refused
abbrev pub AreDone : {F : Type 0} → List (Reply F) → Type 0
AreDone replies = All (λ reply. is_refused reply ≡ false) replies

-- the last of these steps was refused so, and none before it
abbrev pub EndsRefused : {F : Type 0} → List (Reply F) → Refusal F → Type 0
EndsRefused {F} replies refusal = (front : List (Reply F)) × (replies ≡ front ++ Refused refusal ∷ []) × AreDone front

-- steps that are due were taken until one was refused so
abbrev pub StopsAt : {D F : Type 0} → Ghosts D F → (CoreState D → Event → Bool) → CoreState D → CoreState D → Refusal F → Type 0
StopsAt facts is_due old new refusal = (taken : TakesSteps facts is_due old new) × EndsRefused taken.replies refusal

-- the most steps that are taken at once
abbrev pub most_steps : ℕ
most_steps = 2 ^ 64 - 1

-- ---- between lines

-- there is a step of a merge of at least this many hash stores, if there is a number
abbrev pub begins : {D : Type 0} → CoreState D → Option ℕ → Bool
begins core None = false
begins core (Some least) = may_merge core least

-- Before a line a step of conversion is due, which may find nothing to do. A step of merging is due if a conversion waits for a hash region,
-- or if it is one of a merge of as many hash stores as are asked for. Nothing else is.
abbrev pub due_between : {D : Type 0} → Option ℕ → CoreState D → Event → Bool
due_between least core Convert = true
due_between least core Merge = awaits_region (convert_due core) || begins core least
due_between least core event = false

-- which refusal ended the steps: that of the last one, or none, if none was refused, or `Spent` after the most steps
abbrev pub EndsSteps : {F : Type 0} → List (Reply F) → Option (Refusal F) → Type 0
EndsSteps replies None = AreDone replies
EndsSteps replies (Some refusal) = EndsRefused replies refusal ⊎ ((refusal ≡ Spent) × (most_steps ≤ length replies))

-- The background work that is due before a line: steps until one is refused, or until no frozen log is left and no merge of as many hash
-- stores as are asked for can begin or go on.
pub record TendsDue {D F : Type 0} (facts : Ghosts D F) (least : Option ℕ) (old new : CoreState D) (refused : Option (Refusal F)) : Type 0 where
  pub steps : TakesSteps facts (due_between least) old new
  pub ended : EndsSteps steps.replies refused
  pub done : refused ≡ None → (convert_due new ≡ Idle) × (begins new least ≡ false)
  pub shape : new.shape ≡ old.shape

-- the same, with the refusal without its fault
abbrev pub TendsPlain : {D F : Type 0} → Ghosts D F → Option ℕ → CoreState D → CoreState D → Option PlainRefusal → Type 0
TendsPlain {D} {F} facts least old new refusal = (refused : Option (Refusal F)) × TendsDue facts least old new refused × (refusal ≡ option_map plain_refusal refused)

-- a store, of how many hash stores a merge begins between lines, and why its background work was refused, if it was
pub record TendedState (D : Type 0) : Type 0 where
  pub core : CoreState D
  pub least : Option ℕ
  pub refusal : Option PlainRefusal

-- the background work before a line: after a refused step none is done any more
abbrev pub Tends : {D F : Type 0} → Ghosts D F → Option PlainRefusal → TendedState D → TendedState D → Type 0
Tends facts (Some refusal) old new = new ≡ old
Tends facts None old new = TendsPlain facts old.least old.core new.core new.refusal × (new.least ≡ old.least)

-- The background work that is due is done, and then the event. If all of it was done, the store has room for the event.
pub record TendsThenDoes {D F : Type 0} (facts : Ghosts D F) (old new : TendedState D) (event : Event) (reply : PlainReply) : Type 0 where
  pub mid : TendedState D
  pub tended : Tends facts old.refusal old mid
  pub does : DoesPlain facts mid.core new.core event reply
  pub least : new.least ≡ mid.least
  pub refusal : new.refusal ≡ mid.refusal
  pub room : mid.refusal ≡ None → reply ≢ Refused NoRoom

-- such a store replies to admin commands as the store in it
abbrev pub AdministersTended : {D : Type 0} → TendedState D → Admin → AdminReply → Type 0
AdministersTended tending = AdministersCore tending.core

-- ---- all of it

-- there is a step of merging: with a number, of a merge of at least so many hash stores
abbrev pub merges : {D : Type 0} → CoreState D → Option ℕ → Bool
merges core None = wants_merge core
merges core (Some least) = may_merge core least

-- A step of conversion is due if there is one to do, and so is one of merging. Nothing else is.
abbrev pub due_at_once : {D : Type 0} → Option ℕ → CoreState D → Event → Bool
due_at_once least core Convert = wants_convert core
due_at_once least core Merge = merges core least
due_at_once least core event = false

-- how many of the events are of this kind
abbrev pub count_of : (Event → Bool) → List Event → ℕ
count_of is_kind [] = 0
count_of is_kind (event ∷ events) = cond (is_kind event) 1 0 + count_of is_kind events

-- Steps that are due were taken and counted by their kind, and none was refused. No conversion is left to do, and no merge: with a number, none that
-- goes on or could begin with so many hash stores. The steps may also be the most that are taken at once.
pub record TendsAll {D F : Type 0} (facts : Ghosts D F) (least : Option ℕ) (old new : CoreState D) (steps : Steps) : Type 0 where
  pub taken : TakesSteps facts (due_at_once least) old new
  pub fine : AreDone taken.replies
  pub converted : steps.converted ≡ count_of is_convert taken.events
  pub merged : steps.merged ≡ count_of is_merge taken.events
  pub done : steps.converted + steps.merged < most_steps → (wants_convert new ≡ false) × (merges new least ≡ false)
