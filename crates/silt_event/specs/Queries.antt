-- What a session asks of an answerer: replies to events, and to admin commands.
use Rattle.std.specs.Prelude.{◌≡◌, None, Option, Some}
use Rattle.silt_event.specs.declared.admin.Admin.{Admin}
use Rattle.silt_event.specs.declared.admin.AdminReply.{AdminReply}
use Rattle.silt_event.specs.declared.admin.AdminReply.TheVariants.{Info}
use Rattle.silt_event.specs.declared.event.Event.{Event}
use Rattle.silt_event.specs.declared.facts.Facts.{Facts}
use Rattle.silt_event.specs.Events.{PlainReply}

-- an event that is to be done, or an admin command
pub data Query : Type 0 where
  does : Event → Query
  admin : Admin → Query

-- the facts that a reply to an admin command has
abbrev pub facts_said : AdminReply → Option Facts
facts_said (Info facts counts) = Some facts
facts_said reply = None

-- the reply to it
pub data Answer : Type 0 where
  replies : PlainReply → Answer
  says : AdminReply → Answer

module _ {A : Type 0} (answers : A → A → Event → PlainReply → Type 0) (administers : A → Admin → AdminReply → Type 0) where
  -- the answerer before and after an answer: an admin command leaves it as it is, and has the reply of that moment
  abbrev pub AnswersQuery : A → A → Query → Answer → Type 0
  AnswersQuery old new (does event) (replies reply) = answers old new event reply
  AnswersQuery old new (admin command) (says reply) = administers old command reply × (new ≡ old)
  AnswersQuery old new query answer = ⊥
