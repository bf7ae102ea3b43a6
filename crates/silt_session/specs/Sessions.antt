-- The replies to the events of a session.
use Rattle.std.specs.Prelude.{◌≡◌, ◌⊎◌, ℕ, ◌≤◌, Bool, true, false, IsTrue, List, Some, slice_get}
use mathlib.Core.Path.{refl}
use mathlib.Core.Logic.{inr}
use Rattle.silt_disk.specs.declared.disk.Disk.{Ghosts}
use Rattle.silt_frame.specs.declared.key.Key.{Key}
use Rattle.silt_event.specs.Events.{PlainReply, Step, plain}
use Rattle.silt_event.specs.declared.admin.Admin.{Admin}
use Rattle.silt_event.specs.declared.admin.Admin.TheVariants as admin_case
use Rattle.silt_event.specs.declared.admin.AdminReply.{AdminReply}
use Rattle.silt_event.specs.declared.admin.AdminReply.TheVariants as reply_case
use Rattle.silt_event.specs.declared.event.Event.{Event}
use Rattle.silt_event.specs.declared.facts.Facts.{Facts}
use Rattle.silt_event.specs.declared.event.Event.TheVariants.{Get, Convert, Merge}
use Rattle.silt_event.specs.declared.refusal.Refusal.{Refusal}
use Rattle.silt_event.specs.declared.refusal.Refusal.TheVariants.{NoMemory}
use Rattle.silt_event.specs.declared.reply.Reply.{Reply}
use Rattle.silt_event.specs.declared.reply.Reply.TheVariants.{Acknowledged, Refused, NotServed}
use Rattle.silt_store_set.specs.CoreState.{CoreState, Does}
use Rattle.silt_desk.specs.declared.trace.Trace.{Ghosts as TraceOf}
use Rattle.silt_session.specs.Origins.{Origin}
use Rattle.silt_session.specs.Tolds.{ToldOf, ToldState}
use Rattle.silt_session.specs.Requests.{TaskState, asked_event}
use Rattle.silt_session.specs.declared.job.Request.{Request}
use Rattle.silt_session.specs.declared.job.Request.TheVariants.{Flush}
use Rattle.silt_session.specs.declared.unanswered.Unanswered.{Unanswered}
use Rattle.silt_session.specs.declared.unanswered.Unanswered.TheVariants as unanswered

module _ {D F : Type 0} (facts : Ghosts D F) where
  -- a look at this store, which changes nothing, gives this reply
  abbrev pub AnswersGet : CoreState D → Key → PlainReply → Type 0
  AnswersGet core key reply = (reported : Reply F) × Does facts core core (Get key) reported × (reply ≡ plain reported)

  -- the acknowledged commands alone give this reply, so a crash keeps what it shows
  abbrev pub IsKept : CoreState D → Key → PlainReply → Type 0
  IsKept core key reply = IsTrue (facts.content core.disk).honest → Step core.base (Get key) reply core.base

module _ {D F T : Type 0} (facts : Ghosts D F) (trace : TraceOf T) (told : ToldState) where
  -- the reply comes from this request, and the calls that it speaks of are among those that were told
  abbrev pub IsToldTo : Request → PlainReply → Type 0
  IsToldTo request reply = Origin facts trace request reply × ToldOf told (asked_event request) reply

  -- the reply of a task comes from the task's request, and so on
  abbrev pub IsReplyOf : TaskState → PlainReply → Type 0
  IsReplyOf task reply = (task.reply ≡ Some reply) × IsToldTo task.request reply

  -- the reply comes from the request of this event, and so on
  abbrev pub ComesFrom : Event → PlainReply → Type 0
  ComesFrom event reply = (request : Request) × (asked_event request ≡ event) × IsToldTo request reply

  module _ (settles : Bool) where
    -- a look at some store gives this reply; if gets settle what they show, the acknowledged commands give it too, or a flush
    -- acknowledged all that were accepted
    abbrev pub AnswersLook : Key → PlainReply → Type 0
    AnswersLook key reply =
        (core : CoreState D) × AnswersGet facts core key reply
        × (settles ≡ true → IsKept facts core key reply ⊎ ((n : ℕ) × IsToldTo Flush (Acknowledged n) × (core.count ≤ n)))

    -- the reply is why the flush behind a look is refused
    abbrev pub IsUnsettledLook : PlainReply → Type 0
    IsUnsettledLook reply = (settles ≡ true) × ((refusal : Refusal (Unit {0})) × (reply ≡ Refused refusal)) × IsToldTo Flush reply

    -- A get has the reply of a look, or of the flush behind it, or of out of memory. A step is not served. Every other event has the reply
    -- that comes from its own request, or that of out of memory.
    abbrev pub IsAnswer : Event → PlainReply → Type 0
    IsAnswer (Get key) reply = (reply ≡ Refused NoMemory) ⊎ (AnswersLook key reply ⊎ IsUnsettledLook reply)
    IsAnswer Convert reply = reply ≡ NotServed
    IsAnswer Merge reply = reply ≡ NotServed
    IsAnswer event reply = (reply ≡ Refused NoMemory) ⊎ ComesFrom event reply

-- what contracts see of a session's client: what it asks, and whether its session is lost
pub record ClientState (A : Type 0) : Type 0 where
  pub value_len : ℕ
  pub asking : A
  pub is_lost : Bool

-- what is known stays known
pub is_known : {X : Type 0} {P : Type 0} (told : X) → P ⊎ (told ≡ told)
is_known told = inr refl

-- at one place of the two lists are this event and this reply
abbrev pub ArePaired : List Event → List PlainReply → Event → PlainReply → Type 0
ArePaired events replies event reply = (i : ℕ) × (slice_get events i ≡ Some event) × (slice_get replies i ≡ Some reply)

module _ {A : Type 0} where
  -- a client that got no replies, for this cause: its session is lost, or it is as it was
  abbrev pub IsWithout : ClientState A → ClientState A → Unanswered → Type 0
  IsWithout old new unanswered.Lost = new.is_lost ≡ true
  IsWithout old new unanswered.NoMemory = new ≡ old

  -- an event of a client has the reply that is given to it, or that of a lost session, or out of memory
  abbrev pub AnswersClient : (A → A → Event → PlainReply → Type 0) → ClientState A → ClientState A → Event → PlainReply → Type 0
  AnswersClient gives old new event reply =
      ((new.is_lost ≡ true) × (reply ≡ NotServed)) ⊎ ((reply ≡ Refused NoMemory) ⊎ gives old.asking new.asking event reply)

  -- a client gives the facts that are given to it, and none if its session is lost; it passes on each other order
  abbrev pub AdministersClient : (A → Facts → Type 0) → ClientState A → Admin → AdminReply → Type 0
  AdministersClient informs client admin_case.Info (reply_case.Info facts counts) = (client.is_lost ≡ false) × informs client.asking facts
  AdministersClient informs client admin_case.Info reply = (client.is_lost ≡ true) × (reply ≡ reply_case.NotServed)
  AdministersClient informs client admin_case.Shutdown reply = reply ≡ reply_case.Begun
  AdministersClient informs client admin_case.Backup reply = (reply ≡ reply_case.Begun) ⊎ ((reply ≡ reply_case.UnderWay) ⊎ (reply ≡ reply_case.NotServed))
