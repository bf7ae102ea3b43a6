-- The replies of a session, and what it writes.
use Rattle.std.specs.Prelude.{◌≡◌, ◌==◌, ℕ, List, [], ◌∷◌, ◌++◌, codes, Option, Result, Ok, Err, if◌then◌else◌}
use Rattle.std.specs.Io.KnownBytes.{Appends, Consumes, IsAtEnd}
use Rattle.silt_event.specs.declared.reply.Reply.TheVariants.{NotServed}
use Rattle.silt_event.specs.Events.{AnswersEach, PlainReply}
use Rattle.silt_event.specs.declared.admin.AdminReply.{AdminReply}
use Rattle.silt_event.specs.declared.admin.AdminReply.TheVariants as admin_case
use Rattle.silt_event.specs.Queries.{Answer, Query, replies, says}
use Rattle.silt_wire.specs.declared.line.LineFault.{LineFault}
use Rattle.silt_wire.specs.declared.sessions.SessionEnd.{SessionEnd}
use Rattle.silt_wire.specs.declared.sessions.SessionEnd.TheVariants.{End, ReadFault, WriteFault, NoMemory}
use Rattle.silt_wire.specs.Facts.{info_text}
use Rattle.silt_wire.specs.Lines.{is_blank, query_by}
use Rattle.silt_wire.specs.Replies.{fault_line, reply_text}

-- these are the first of all
abbrev pub IsBeginning : {X : Type 0} → List X → List X → Type 0
IsBeginning {X} some all = (rest : List X) × (some ++ rest ≡ all)

-- ---- the lines of a stream

-- the lines that the bytes end; the first one begins with the pending bytes
abbrev pub lines_after : List ℕ → List ℕ → List (List ℕ)
lines_after pending [] = []
lines_after pending (b ∷ bytes) = if b == 10 then pending ∷ lines_after [] bytes else lines_after (pending ++ b ∷ []) bytes

-- the bytes after the last line feed
abbrev pub rest_after : List ℕ → List ℕ → List ℕ
rest_after pending [] = pending
rest_after pending (b ∷ bytes) = if b == 10 then rest_after [] bytes else rest_after (pending ++ b ∷ []) bytes

-- ---- what lines ask for, and the answers

-- what each line asks for, or why it asks for nothing; blank lines are skipped
abbrev pub asks : ℕ → List (List ℕ) → List (Result Query LineFault)
asks value_len [] = []
asks value_len (line ∷ lines) = if is_blank line then asks value_len lines else query_by value_len line ∷ asks value_len lines

-- the queries of the valid lines
abbrev pub queries_of : List (Result Query LineFault) → List Query
queries_of [] = []
queries_of (Ok query ∷ more) = query ∷ queries_of more
queries_of (Err fault ∷ more) = queries_of more

-- a reply as a line
abbrev pub line_of : PlainReply → List ℕ
line_of reply = reply_text reply ++ 10 ∷ []

-- the reply to an admin command as lines; what is not served has the line of an event that is not served
abbrev pub admin_lines : AdminReply → List ℕ
admin_lines (admin_case.Info facts counts) = info_text facts counts
admin_lines admin_case.Begun = codes "begun\n"
admin_lines admin_case.UnderWay = codes "under way\n"
admin_lines admin_case.NotServed = line_of NotServed

-- an answer as lines
abbrev pub answer_lines : Answer → List ℕ
answer_lines (replies reply) = line_of reply
answer_lines (says reply) = admin_lines reply

-- what is written for lines: a refusal for each invalid one, and else the next answer, as long as there is one
abbrev pub texts_of : List (Result Query LineFault) → List Answer → List ℕ
texts_of [] answers = []
texts_of (Err fault ∷ more) answers = fault_line fault ++ texts_of more answers
texts_of (Ok query ∷ more) [] = []
texts_of (Ok query ∷ more) (answer ∷ answers) = answer_lines answer ++ texts_of more answers

-- a session between two reads: its answerer, what its reader has left, and what its writer has
pub record SessionState (A : Type 0) : Type 0 where
  pub answerer : A
  pub remaining : Option (List ℕ)
  pub contents : Option (List ℕ)

-- ---- what an answerer does

-- Below, `answers` says how an answerer answers queries: `AnswersQuery A.answers A.administers` of an `A: Answerer`.

module _ {A : Type 0} (answers : A → A → Query → Answer → Type 0) where
  -- the answerer answered all queries, and exactly their texts were written
  abbrev pub AnswersAll : List (Result Query LineFault) → A → A → Option (List ℕ) → Option (List ℕ) → Type 0
  AnswersAll asked old new before after =
      (given : List Answer) × AnswersEach answers old (queries_of asked) given new × Appends before after (texts_of asked given)

  -- the answerer answered a first part of the queries, and a first part of their texts was written
  abbrev pub AnswersSome : List (Result Query LineFault) → A → A → Option (List ℕ) → Option (List ℕ) → Type 0
  AnswersSome asked old new before after =
      (queries : List Query) × (given : List Answer) × (out : List ℕ) × IsBeginning queries (queries_of asked) × AnswersEach answers old queries given new
      × IsBeginning out (texts_of asked given) × Appends before after out

  -- the answerer replied to all lines that these bytes end, after those of a line in progress, and exactly the replies were written
  abbrev pub ServesAll : ℕ → List ℕ → List ℕ → A → A → Option (List ℕ) → Option (List ℕ) → Type 0
  ServesAll value_len begun bytes old new before after = AnswersAll (asks value_len (lines_after begun bytes)) old new before after

  -- the answerer replied to a first part of these lines, and a first part of the replies was written
  abbrev pub ServesSome : ℕ → List ℕ → List ℕ → A → A → Option (List ℕ) → Option (List ℕ) → Type 0
  ServesSome value_len begun bytes old new before after = AnswersSome (asks value_len (lines_after begun bytes)) old new before after

  -- what a session with this end did: which bytes it took from the reader, and what it replied and wrote for them
  abbrev pub Ends : SessionEnd → ℕ → SessionState A → SessionState A → Type 0
  Ends End value_len old new =
      (read : List ℕ) × Consumes old.remaining new.remaining read × IsAtEnd new.remaining
      × ServesAll value_len [] read old.answerer new.answerer old.contents new.contents
  Ends ReadFault value_len old new =
      (read : List ℕ) × Consumes old.remaining new.remaining read × ServesAll value_len [] read old.answerer new.answerer old.contents new.contents
  Ends WriteFault value_len old new =
      (read : List ℕ) × Consumes old.remaining new.remaining read × ServesSome value_len [] read old.answerer new.answerer old.contents new.contents
  Ends NoMemory value_len old new =
      (read : List ℕ) × Consumes old.remaining new.remaining read × ServesSome value_len [] read old.answerer new.answerer old.contents new.contents

-- the ends after which the written bytes may be cut short
abbrev pub IsCut : SessionEnd → Type 0
IsCut WriteFault = Unit {0}
IsCut NoMemory = Unit {0}
IsCut end = ⊥
