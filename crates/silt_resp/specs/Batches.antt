-- What was gathered of a client's bytes.
use Rattle.std.specs.Prelude.{◌≡◌, ℕ, Bool, List, [], ◌∷◌, ◌++◌, All, MatchBool, Option, Some, None, length, map, take, drop}
use Rattle.silt_event.specs.declared.admin.AdminReply.{AdminReply}
use Rattle.silt_event.specs.Events.{HasValueOf}
use Rattle.silt_event.specs.Queries.{Answer, Query, admin, does, says as told}
use Rattle.silt_wire.specs.Sessions.{IsBeginning}
use Rattle.silt_resp.specs.declared.asked.Tail.{Tail}
use Rattle.silt_resp.specs.declared.batch.Batch.{Batch}
use Rattle.silt_resp.specs.declared.batch.Due.{Due}
use Rattle.silt_resp.specs.declared.batch.Due.TheVariants.{Text, Replies}
use Rattle.silt_resp.specs.declared.session.Talk.{Talk}
use Rattle.silt_resp.specs.declared.settings.Settings.{Settings}
use Rattle.silt_resp.specs.declared.texts.Form.{Form}
use Rattle.silt_resp.specs.Buffers.{HoldsStream}
use Rattle.silt_resp.specs.Commands.{Asked, asked_for, asks, asks_admin, says, tail_command, visitor_after}
use Rattle.silt_resp.specs.Info.{admin_text}
use Rattle.silt_resp.specs.Sessions.{Client, all_queries, admin_in, asked_after, asked_queries, client_after, replies_in}
use Rattle.silt_resp.specs.Stream.{Command, closed, closes, start, stream_after}
use Rattle.silt_resp.specs.Texts.{text_of}

-- each value of the events has this length
abbrev pub HasLengths : ℕ → Batch → Type 0
HasLengths value_len batch = All (HasValueOf value_len) batch.events.items

-- ---- replies that are due

-- a reply that is due: this text; one of this form, made of so many replies to events; or that to an admin command
pub data Part : Type 0 where
  text : List ℕ → Part
  replies : Form → ℕ → Part
  ends : Tail → Part

abbrev pub due_seen : Due → Part
due_seen (Text bytes) = text bytes.items
due_seen (Replies form count) = replies form count

abbrev pub part_of : Asked → Part
part_of (says bytes) = text bytes
part_of (asks events form) = replies form (length events)
part_of (asks_admin tail) = ends tail

-- how many answers it is made of
abbrev pub part_len : Part → ℕ
part_len (text bytes) = 0
part_len (replies form count) = count
part_len (ends tail) = 1

abbrev pub part_text : Part → List Answer → List ℕ
part_text (text bytes) given = bytes
part_text (replies form count) given = text_of form (replies_in given)
part_text (ends tail) given = admin_text tail (admin_in given)

abbrev pub part_texts : List Part → List Answer → List ℕ
part_texts [] given = []
part_texts (part ∷ parts) given = part_text part (take (part_len part) given) ++ part_texts parts (drop (part_len part) given)

-- ---- a batch

-- An admin command ends a batch: its reply is that of the moment when the events before it are done.
-- what it asks for, if there is one
abbrev pub tail_queries : Option Tail → List Query
tail_queries None = []
tail_queries (Some tail) = admin (tail_command tail) ∷ []

-- what it is answered, if this is the reply
abbrev pub tail_answers : Option Tail → AdminReply → List Answer
tail_answers None reply = []
tail_answers (Some tail) reply = told reply ∷ []

-- the reply that is due to it
abbrev pub tail_parts : Option Tail → List Part
tail_parts None = []
tail_parts (Some tail) = ends tail ∷ []

abbrev pub batch_queries : Batch → List Query
batch_queries batch = map does batch.events.items ++ tail_queries batch.tail

abbrev pub batch_parts : Batch → List Part
batch_parts batch = map due_seen batch.dues.items ++ tail_parts batch.tail

-- a batch has what these commands ask for, and the replies that are due to them
pub record HoldsAsked (batch : Batch) (asked : List Asked) : Type 0 where
  pub queries : batch_queries batch ≡ all_queries asked
  pub parts : batch_parts batch ≡ map part_of asked

-- the batch gained a command
pub record GainsAsked (old new : Batch) (asked : Asked) : Type 0 where
  pub queries : batch_queries new ≡ batch_queries old ++ asked_queries asked
  pub parts : batch_parts new ≡ batch_parts old ++ part_of asked ∷ []

-- the batch has the commands that it had
pub record KeepsAsked (old new : Batch) : Type 0 where
  pub events : new.events.items ≡ old.events.items
  pub dues : new.dues.items ≡ old.dues.items
  pub tail : new.tail ≡ old.tail

-- ---- clients

-- bounded memory holds a client
pub record HoldsClient (talk : Talk) (client : Client) : Type 0 where
  pub stream : HoldsStream talk.buffer client.stream
  pub visitor : talk.visitor ≡ client.visitor

-- These bytes of a client were taken. Its stream is closed behind them, or the client is kept.
abbrev pub IsBehind : Settings → Client → List ℕ → Bool → Talk → Type 0
IsBehind settings client bytes closes talk =
    MatchBool closes ((stream_after client.stream bytes).place ≡ closed) (HoldsClient talk (client_after settings client bytes))

-- This command is added to the batch, and the client is behind it. The buffer is cleared, unless the command closes the stream.
pub record AsksFor (settings : Settings) (command : Command) (ends : Bool) (old new : Talk) (before after : Batch) : Type 0 where
  pub asked : GainsAsked before after (asked_for settings old.visitor command)
  pub visitor : new.visitor ≡ visitor_after settings old.visitor command
  pub closes : ends ≡ closes command
  pub buffer : MatchBool ends (Unit {0}) (HoldsStream new.buffer start)

-- the batch gained what these bytes of a client ask for
abbrev pub GathersAsked : Settings → Client → List ℕ → Batch → Batch → Type 0
GathersAsked settings client bytes old new = (asked : List Asked) → HoldsAsked old asked → HoldsAsked new (asked ++ asked_after settings client bytes)

-- the batch gained a beginning of that
abbrev pub GathersSomeAsked : Settings → Client → List ℕ → Batch → Batch → Type 0
GathersSomeAsked settings client bytes old new =
    (asked : List Asked) → HoldsAsked old asked
    → (more : List Asked) × IsBeginning more (asked_after settings client bytes) × HoldsAsked new (asked ++ more)
