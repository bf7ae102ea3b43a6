-- What a session with a client reads, does and writes.
use Rattle.std.specs.Prelude.{◌≡◌, ◌≢◌, ℕ, List, [], ◌∷◌, ◌++◌, length, map, take, drop, Option}
use Rattle.std.specs.Io.KnownBytes.{Appends, Consumes, IsAtEnd}
use Rattle.std.specs.List.{flat_map}
use Rattle.silt_event.specs.declared.admin.AdminReply.{AdminReply}
use Rattle.silt_event.specs.declared.admin.AdminReply.TheVariants as admin_case
use Rattle.silt_event.specs.Events.{AnswersEach, PlainReply}
use Rattle.silt_event.specs.Queries.{Answer, Query, admin, does, replies as replied, says as told}
use Rattle.silt_wire.specs.Sessions.{IsBeginning, SessionState}
use Rattle.silt_resp.specs.declared.fault.ProtocolFault.{ProtocolFault}
use Rattle.silt_resp.specs.declared.settings.Settings.{Settings}
use Rattle.silt_resp.specs.declared.settings.Visitor.{Visitor}
use Rattle.silt_resp.specs.declared.session.RespEnd.{RespEnd}
use Rattle.silt_resp.specs.declared.session.RespEnd.TheVariants.{End, Closed, ReadFault, WriteFault, NoMemory}
use Rattle.silt_resp.specs.Commands.{Asked, asked_for, asks, asks_admin, broken_text, says, tail_command, visitor_after, visitor_at_first}
use Rattle.silt_resp.specs.Info.{admin_text}
use Rattle.silt_resp.specs.Stream.{Command, Stream, closed, commands_after, start, stream_after}
use Rattle.silt_resp.specs.Texts.{text_of}

-- ---- what commands ask for, one after the other

-- a client: the command in progress, and whether it is let in
pub record Client : Type 0 where
  pub stream : Stream
  pub visitor : Visitor

-- a client that has sent nothing
abbrev pub new_client : Settings → Client
new_client settings = record { stream = start; visitor = visitor_at_first settings }

-- what each command asks for
abbrev pub asked_each : Settings → Visitor → List Command → List Asked
asked_each settings visitor [] = []
asked_each settings visitor (command ∷ commands) =
    asked_for settings visitor command ∷ asked_each settings (visitor_after settings visitor command) commands

-- the visitor behind all of them
abbrev pub visitor_behind : Settings → Visitor → List Command → Visitor
visitor_behind settings visitor [] = visitor
visitor_behind settings visitor (command ∷ commands) = visitor_behind settings (visitor_after settings visitor command) commands

-- what the commands ask for that a client's bytes end
abbrev pub asked_after : Settings → Client → List ℕ → List Asked
asked_after settings client bytes = asked_each settings client.visitor (commands_after client.stream bytes)

-- the client behind these bytes
abbrev pub client_after : Settings → Client → List ℕ → Client
client_after settings client bytes = record {
  stream = stream_after client.stream bytes;
  visitor = visitor_behind settings client.visitor (commands_after client.stream bytes);
}

-- ---- replies

-- what a command asks of the answerer
abbrev pub asked_queries : Asked → List Query
asked_queries (says text) = []
asked_queries (asks events form) = map does events
asked_queries (asks_admin tail) = admin (tail_command tail) ∷ []

-- what all commands ask of it
abbrev pub all_queries : List Asked → List Query
all_queries asked = flat_map asked_queries asked

-- the replies to events, among answers
abbrev pub replies_in : List Answer → List PlainReply
replies_in [] = []
replies_in (replied reply ∷ answers) = reply ∷ replies_in answers
replies_in (told reply ∷ answers) = replies_in answers

-- the reply to an admin command, the first of these answers
abbrev pub admin_in : List Answer → AdminReply
admin_in (told reply ∷ answers) = reply
admin_in answers = admin_case.NotServed

-- the reply to a command, of the answers to what it asks
abbrev pub asked_text : Asked → List Answer → List ℕ
asked_text (says text) given = text
asked_text (asks events form) given = text_of form (replies_in given)
asked_text (asks_admin tail) given = admin_text tail (admin_in given)

-- the replies to commands, of the answers to all that they ask: each takes as many as it asks for
abbrev pub asked_texts : List Asked → List Answer → List ℕ
asked_texts [] given = []
asked_texts (asked ∷ more) given =
    asked_text asked (take (length (asked_queries asked)) given) ++ asked_texts more (drop (length (asked_queries asked)) given)

-- ---- ends

-- only an end at the end of the reader says so
abbrev pub IsLast : RespEnd → Option (List ℕ) → Type 0
IsLast End remaining = IsAtEnd remaining
IsLast end remaining = Unit {0}

-- the ends that come from the commands of a read
abbrev pub IsCommandsEnd : RespEnd → Type 0
IsCommandsEnd End = ⊥
IsCommandsEnd ReadFault = ⊥
IsCommandsEnd end = Unit {0}

-- at most one reply was written, that to bytes that begin no command
abbrev pub WritesAtMostFault : Option (List ℕ) → Option (List ℕ) → Type 0
WritesAtMostFault before after =
    (fault : ProtocolFault) × (out : List ℕ) × IsBeginning out (broken_text fault) × Appends before after out

-- ---- what an answerer does

-- Below, `answers` says how an answerer answers queries: `AnswersQuery A.answers A.administers` of an `A: Answerer`.

module _ {A : Type 0} (answers : A → A → Query → Answer → Type 0) where
  -- all commands were done, and exactly their replies were written
  abbrev pub AnswersCommands : List Asked → A → A → Option (List ℕ) → Option (List ℕ) → Type 0
  AnswersCommands asked old new before after =
      (given : List Answer) × AnswersEach answers old (all_queries asked) given new × Appends before after (asked_texts asked given)

  -- the first commands were done, some of them all, and a beginning of their replies was written
  abbrev pub AnswersSomeCommands : List Asked → A → A → Option (List ℕ) → Option (List ℕ) → Type 0
  AnswersSomeCommands asked old new before after =
      (some : List Asked) × (given : List Answer) × (out : List ℕ) × IsBeginning some asked × AnswersEach answers old (all_queries some) given new
      × IsBeginning out (asked_texts some given) × Appends before after out

  -- so it was with the commands that these bytes of a client end
  abbrev pub ServesCommands : Settings → Client → List ℕ → A → A → Option (List ℕ) → Option (List ℕ) → Type 0
  ServesCommands settings client bytes old new before after = AnswersCommands (asked_after settings client bytes) old new before after

  abbrev pub ServesSomeCommands : Settings → Client → List ℕ → A → A → Option (List ℕ) → Option (List ℕ) → Type 0
  ServesSomeCommands settings client bytes old new before after = AnswersSomeCommands (asked_after settings client bytes) old new before after

  -- What a session with this end did for the bytes that it read. It says that it was closed exactly if one of the commands closes the
  -- stream. Nothing behind that one was done.
  abbrev pub EndsWith : RespEnd → Settings → Client → List ℕ → A → A → Option (List ℕ) → Option (List ℕ) → Type 0
  EndsWith End settings client bytes old new before after =
      ServesCommands settings client bytes old new before after × ((stream_after client.stream bytes).place ≢ closed)
  EndsWith ReadFault settings client bytes old new before after =
      ServesCommands settings client bytes old new before after × ((stream_after client.stream bytes).place ≢ closed)
  EndsWith Closed settings client bytes old new before after =
      ServesCommands settings client bytes old new before after × ((stream_after client.stream bytes).place ≡ closed)
  EndsWith WriteFault settings client bytes old new before after = ServesSomeCommands settings client bytes old new before after
  EndsWith NoMemory settings client bytes old new before after = ServesSomeCommands settings client bytes old new before after

  -- which bytes a session took from its reader, and what it did for them
  abbrev pub RespEnds : RespEnd → Settings → Client → SessionState A → SessionState A → Type 0
  RespEnds end settings client old new =
      (read : List ℕ) × Consumes old.remaining new.remaining read × IsLast end new.remaining
      × EndsWith end settings client read old.answerer new.answerer old.contents new.contents
