-- The events that a session asks at once, on their way to replies.
use Rattle.std.specs.Prelude.{◌≡◌, ◌≢◌, ◌⊎◌, ◌↔◌, ℕ, ◌+◌, ◌≤◌, Bool, false, true, nat_le, if◌then◌else◌, All, IfSome, IsSomeAnd, IsTrue, not, ◌&&◌, is_some}
use Rattle.std.specs.Prelude.{MatchBool, MatchOption, map, Ok, Option, Some, None, List, [], ◌∷◌, ◌++◌, vec_capacity, vec_len}
use Rattle.std.specs.List.{AllZip}
use Rattle.std.specs.VecDeque.{deque_capacity, deque_len}
use Rattle.silt_disk.specs.declared.disk.Disk.{Ghosts}
use Rattle.silt_frame.specs.declared.key.Key.{Key}
use Rattle.silt_event.specs.Events.{PlainReply}
use Rattle.silt_event.specs.declared.event.Event.{Event}
use Rattle.silt_event.specs.declared.event.Event.TheVariants.{Get, Convert, Merge}
use Rattle.silt_event.specs.declared.refusal.Refusal.TheVariants.{NoMemory}
use Rattle.silt_event.specs.declared.reply.Reply.TheVariants.{Acknowledged, NotServed, Refused}
use Rattle.silt_engine.specs.Lookup.{changes_key}
use Rattle.silt_store_set.specs.CoreState.{CoreState}
use Rattle.silt_store_set.specs.Replies.{get_reply}
use Rattle.silt_store_set.specs.declared.store_core.Look.{Look}
use Rattle.silt_desk.specs.declared.trace.Trace.{Ghosts as TraceOf}
use Rattle.silt_session.specs.Marks.{IsMarked, mark_of}
use Rattle.silt_session.specs.Tolds.{AreInOrder, IsToldBetween, IsToldMore, PassesOn, ToldState}
use Rattle.silt_session.specs.Requests.{IsNew, TaskState, asked_event, changed_key, requests_of}
use Rattle.silt_session.specs.Sessions.{AnswersGet, IsAnswer, IsKept, IsReplyOf, IsToldTo}
use Rattle.silt_session.specs.declared.job.Request.{Request}
use Rattle.silt_session.specs.declared.job.Request.TheVariants.{Flush}
use Rattle.silt_session.specs.declared.key_marks.KeyMarks.{KeyMarks}
use Rattle.silt_session.specs.declared.pipeline.Pipeline.{Pipeline}
use Rattle.silt_session.specs.declared.place.Place.{Place}
use Rattle.silt_session.specs.declared.place.Place.TheVariants.{Shows, Waits}
use Rattle.silt_session.specs.declared.place.Shown.{Shown}

-- ---- one place

-- a reply that waits for a flush that acknowledges so many commands, by the reply to that flush, if there is one
abbrev pub given_after : Option ℕ → Option PlainReply → PlainReply → Option PlainReply
given_after None flushed reply = Some reply
given_after (Some count) (Some (Acknowledged n)) reply = if nat_le count n then Some reply else None
given_after (Some count) (Some (Refused refusal)) reply = Some (Refused refusal)
given_after (Some count) flushed reply = None

-- the reply at a place that has one, by the reply to a flush
abbrev pub given_by : Option PlainReply → Shown → Option PlainReply
given_by flushed shown = given_after shown.until flushed shown.reply

-- how many commands a flush has to acknowledge before a look is shown, if it waits for one
abbrev pub awaited : Bool → Look → Option ℕ
awaited settles look = if settles && not look.is_settled then Some look.count else None

-- what is shown of a look that found this value, or none
abbrev pub shown_of : Bool → List ℕ → Look → Shown
shown_of settles value look = record { reply = get_reply value (Ok look.found); until = awaited settles look }

-- the reply at a place if out of memory for the tasks
abbrev pub reply_without_tasks : Place → PlainReply
reply_without_tasks (Shows shown) = if is_some shown.until then Refused NoMemory else shown.reply
reply_without_tasks Waits = Refused NoMemory

module _ {D F T : Type 0} (facts : Ghosts D F) (trace : TraceOf T) (told : ToldState) where
  -- What a place takes of the tasks that came back, the next one if its request waited, and its reply. The call of a command stands between
  -- these numbers.
  abbrev pub FillsOne : Option PlainReply → ℕ → List TaskState → Place → PlainReply → ℕ → List TaskState → Type 0
  FillsOne flushed next tasks (Shows shown) reply after left = (given_by flushed shown ≡ Some reply) × (left ≡ tasks) × (after ≡ next)
  FillsOne flushed next tasks Waits reply after left =
      (task : TaskState) × (tasks ≡ task ∷ left) × IsReplyOf facts trace told task reply × IsToldBetween told next (asked_event task.request) reply after

  -- the same of places in order
  abbrev pub Fills : Option PlainReply → ℕ → List TaskState → List Place → List PlainReply → ℕ → List TaskState → Type 0
  Fills flushed next tasks [] [] after left = (left ≡ tasks) × (after ≡ next)
  Fills flushed next tasks (place ∷ places) (reply ∷ replies) after left =
      (mid : List TaskState) × (at : ℕ) × FillsOne flushed next tasks place reply at mid × Fills flushed at mid places replies after left
  Fills flushed next tasks places replies after left = ⊥

  -- the last task leaves, with this reply
  abbrev pub TakesLast : List TaskState → List TaskState → PlainReply → Type 0
  TakesLast tasks left reply = (task : TaskState) × (tasks ≡ left ++ task ∷ []) × IsReplyOf facts trace told task reply

  -- Places have these replies by the tasks that came back: each task of a request fills the next place that waits, and the calls of commands
  -- stand in order between these numbers. The last task is that of the flush if there is one.
  abbrev pub FillsAll : Bool → ℕ → List TaskState → List Place → List PlainReply → ℕ → Type 0
  FillsAll has_flush next tasks places replies after =
      MatchBool has_flush
      ((left : List TaskState) × (flushed : PlainReply) × TakesLast tasks left flushed × Fills (Some flushed) next left places replies after [])
      (Fills None next tasks places replies after [])

  -- there was no flush, or this reply comes from one
  abbrev pub IsFlushedBy : Option PlainReply → Type 0
  IsFlushedBy flushed = IfSome flushed (IsToldTo facts trace told Flush)

  -- what is shown has this reply, by the reply to the flush that it waits for
  abbrev pub SettlesShown : Shown → PlainReply → Type 0
  SettlesShown shown reply =
      (reply ≡ reply_without_tasks (Shows shown)) ⊎ ((flushed : Option PlainReply) × IsFlushedBy flushed × (given_by flushed shown ≡ Some reply))

  -- Places have these replies once the tasks are back: that of its own request where one waited, in order, or what is shown. The calls of
  -- commands stand in order between these numbers.
  abbrev pub SettlesEach : ℕ → List Place → List Request → List PlainReply → ℕ → Type 0
  SettlesEach next [] [] [] after = after ≡ next
  SettlesEach next (Shows shown ∷ places) requests (reply ∷ replies) after = SettlesShown shown reply × SettlesEach next places requests replies after
  SettlesEach next (Waits ∷ places) (request ∷ requests) (reply ∷ replies) after =
      (at : ℕ) × IsToldTo facts trace told request reply × IsToldBetween told next (asked_event request) reply at × SettlesEach at places requests replies after
  SettlesEach next places requests replies after = ⊥

-- the request of a flush, if it is needed
abbrev pub flush_if : Bool → List Request
flush_if needs_flush = if needs_flush then Flush ∷ [] else []

-- ---- the places of a pipeline

-- no request waits, and no reply waits for a flush
pub record NothingWaits {D T F : Type 0} (pipeline : Pipeline D T F) : Type 0 where
  pub tasks : pipeline.tasks.items ≡ []
  pub memory : pipeline.lacks_memory ≡ false
  pub flush : pipeline.needs_flush ≡ false
  pub marks : (number : ℕ) → ¬ IsMarked pipeline.marks number

-- the same, and each event has its reply
abbrev pub IsSettled : {D T F : Type 0} → Pipeline D T F → Type 0
IsSettled pipeline = (pipeline.places.items ≡ []) × NothingWaits pipeline

-- no place is left, what waits stays, commands have taken their places, and there is as much room as before
pub record MovesPlaces {D T F : Type 0} (old new : Pipeline D T F) : Type 0 where
  pub places : new.places.items ≡ []
  pub same : new ≡ record old { replies = new.replies; places = new.places; told = new.told }
  pub told : PassesOn old.told new.told
  pub replies_room : vec_capacity new.replies ≡ vec_capacity old.replies
  pub places_room : deque_capacity new.places ≡ deque_capacity old.places

-- there is room for so many events more
abbrev pub HasRoom : {D T F : Type 0} → Pipeline D T F → ℕ → Type 0
HasRoom pipeline n =
    (vec_len pipeline.replies + deque_len pipeline.places + n ≤ vec_capacity pipeline.replies) × (deque_len pipeline.places + n ≤ deque_capacity pipeline.places)

-- the request's task, for which nothing is done yet, is behind those that wait, and memory sufficed for all of them
abbrev pub GathersTask : {D T F : Type 0} → Pipeline D T F → Pipeline D T F → Request → Type 0
GathersTask old new request =
    (old.lacks_memory ≡ false) × ((task : TaskState) × IsNew request task × (new.tasks.items ≡ old.tasks.items ++ task ∷ []))

module _ {D F T : Type 0} (facts : Ghosts D F) (trace : TraceOf T) where
  -- each place has its reply: the requests that waited came back, or out of memory for them
  pub record SettlesAll (old new : Pipeline D T F) : Type 0 where
    pub given : List PlainReply
    pub replies : new.replies.items ≡ old.replies.items ++ given
    pub fits : (given ≡ map reply_without_tasks old.places.items)
        ⊎ ((old.lacks_memory ≡ false) × SettlesEach facts trace new.told old.told.next old.places.items (requests_of old.tasks.items) given new.told.next)
    pub told : IsToldMore old.told new.told
    pub settled : IsSettled new
    pub replies_room : vec_capacity new.replies ≡ vec_capacity old.replies
    pub places_room : deque_capacity new.places ≡ deque_capacity old.places

  -- the same, or nothing happens
  abbrev pub MaySettle : Pipeline D T F → Pipeline D T F → Type 0
  MaySettle old new = (new ≡ old) ⊎ SettlesAll old new

-- the tasks that are handed over: those that wait, and behind them a new one of a flush if it is needed
abbrev pub AddsFlush : Bool → List TaskState → List TaskState → Type 0
AddsFlush needs_flush tasks all = MatchBool needs_flush ((task : TaskState) × IsNew Flush task × (all ≡ tasks ++ task ∷ [])) (all ≡ tasks)

-- these marks are set, and that of a key if there is one
abbrev pub MarksToo : KeyMarks → Option Key → KeyMarks → Type 0
MarksToo old key new = (number : ℕ) → IsMarked new number ↔ (IsMarked old number ⊎ IsSomeAnd key (λ k. number ≡ mark_of k))

-- no mark of an event's key is set, if it is a get
abbrev pub IsFree : KeyMarks → Event → Type 0
IsFree marks (Get key) = ¬ IsMarked marks (mark_of key)
IsFree marks event = Unit {0}

-- an event is no get of this key, if there is one
abbrev pub IsNoGetOf : Option Key → Event → Type 0
IsNoGetOf (Some key) (Get other) = other ≢ key
IsNoGetOf key event = Unit {0}

-- No get is looked up behind a request that waits and changes its key.
abbrev pub NoneOvertakes : List Event → List Place → Type 0
NoneOvertakes [] [] = Unit {0}
NoneOvertakes (event ∷ events) (Shows shown ∷ places) = NoneOvertakes events places
NoneOvertakes (event ∷ events) (Waits ∷ places) = All (IsNoGetOf (changed_key event)) events × NoneOvertakes events places
NoneOvertakes events places = ⊥

-- the events whose requests wait
abbrev pub waiting_events : List Event → List Place → List Event
waiting_events (event ∷ events) (Waits ∷ places) = event ∷ waiting_events events places
waiting_events (event ∷ events) (place ∷ places) = waiting_events events places
waiting_events events places = []

-- nothing is done yet for this event's request
abbrev pub IsTaskOf : Event → TaskState → Type 0
IsTaskOf event task = (request : Request) × (asked_event request ≡ event) × IsNew request task

module _ {D F : Type 0} (facts : Ghosts D F) (settles : Bool) where
  -- a reply of this store that waits for a flush of all that was accepted, since a command that waits changes the key
  abbrev pub AwaitsFlush : CoreState D → Key → ℕ → Type 0
  AwaitsFlush core key count =
      (settles ≡ true) × (count ≡ core.count) × (IsTrue (facts.content core.disk).honest → changes_key core.waiting key.0 ≡ true)

  -- a look at some store gave this reply; if gets settle what they show, it waits for a flush, or a crash keeps it anyway
  abbrev pub Looks : Key → Shown → Type 0
  Looks key shown =
      (core : CoreState D) × AnswersGet facts core key shown.reply
      × MatchOption shown.until (settles ≡ true → IsKept facts core key shown.reply) (AwaitsFlush core key)

  -- what is replied to an event that is not for the writer
  abbrev pub IsShown : Event → Shown → Type 0
  IsShown (Get key) shown = ((shown.reply ≡ Refused NoMemory) × (shown.until ≡ None)) ⊎ Looks key shown
  IsShown Convert shown = (shown.reply ≡ NotServed) × (shown.until ≡ None)
  IsShown Merge shown = (shown.reply ≡ NotServed) × (shown.until ≡ None)
  IsShown event shown = ⊥

  -- the place of an event has a reply to it, or its request waits and its key is marked
  abbrev pub IsPlaceOf : KeyMarks → Event → Place → Type 0
  IsPlaceOf marks event (Shows shown) = IsShown event shown
  IsPlaceOf marks event Waits =
      ((request : Request) × (asked_event request ≡ event)) × IfSome (changed_key event) (λ key. IsMarked marks (mark_of key))

  module _ {T : Type 0} (trace : TraceOf T) where
    -- The first of these events have their replies. Each other one has its place, in order, and the tasks are those of the requests that
    -- wait. No get is looked up behind a request that changes its key and waits. The calls of the commands that have replies stand in order.
    pub record AnswersSoFar (events : List Event) (pipeline : Pipeline D T F) : Type 0 where
      pub done : List Event
      pub later : List Event
      pub whole : events ≡ done ++ later
      pub replied : AllZip (IsAnswer facts trace pipeline.told settles) done pipeline.replies.items
      pub in_order : AreInOrder pipeline.told done pipeline.replies.items
      pub placed : AllZip (IsPlaceOf pipeline.marks) later pipeline.places.items
      pub tasks : pipeline.lacks_memory ≡ false → AllZip IsTaskOf (waiting_events later pipeline.places.items) pipeline.tasks.items
      pub ordered : NoneOvertakes later pipeline.places.items
