-- Which replies a store may give, and which commands a crash may take away.
use Rattle.std.specs.Prelude.{Vec, ◌≡◌, ◌≢◌, ◌≤◌, ℕ, ◌+◌, Bool, true, false, ◌||◌, IsTrue, Some, None, IfSome, List, [], ◌∷◌, ◌++◌, length, codes}
use Rattle.std.specs.FinMap.{get}
use Rattle.std.specs.declared.alloc.Global.{Global}
use Rattle.silt_event.specs.declared.reply.LifeReply.{LifeReply}
use Rattle.silt_event.specs.declared.reply.LifeReply.TheVariants.{NotOpened, Opened}
use Rattle.silt_event.specs.declared.event.Event.{Event}
use Rattle.silt_event.specs.declared.event.Event.TheVariants.{Put, Delete, Swap, Flush, Get, Convert, Merge}
use Rattle.silt_event.specs.declared.refusal.Refusal.{Refusal}
use Rattle.silt_event.specs.declared.refusal.Refusal.TheVariants.{NotFormatted, BadGeometry, Damaged, Crowded, Device, NoMemory, StoreFull, NoRoom, Failed, Spent, HistoryFull}
use Rattle.silt_event.specs.declared.reply.Reply.{Reply}
use Rattle.silt_event.specs.declared.reply.Reply.TheVariants.{Accepted, Acknowledged, Found, Absent, Differs, Progress, Refused, Unsettled, NotServed}
use Rattle.silt_event.specs.Commands.{Command, put, delete, setting, Map, changed, map_after, Begins}

-- ---- refusals

-- the number and the name of a refusal in texts
abbrev pub refusal_label : {F : Type 0} → Refusal F → ℕ × List ℕ
refusal_label NotFormatted = (1, codes "NotFormatted")
refusal_label BadGeometry = (2, codes "BadGeometry")
refusal_label (Damaged place) = (3, codes "Damaged")
refusal_label Crowded = (4, codes "Crowded")
refusal_label (Device fault) = (5, codes "Device")
refusal_label NoMemory = (6, codes "NoMemory")
refusal_label StoreFull = (7, codes "StoreFull")
refusal_label NoRoom = (8, codes "NoRoom")
refusal_label Failed = (9, codes "Failed")
refusal_label Spent = (10, codes "Spent")
refusal_label HistoryFull = (11, codes "HistoryFull")

-- a refusal without its fault
abbrev pub plain_refusal : {F : Type 0} → Refusal F → Refusal (Unit {0})
plain_refusal NotFormatted = NotFormatted
plain_refusal BadGeometry = BadGeometry
plain_refusal (Damaged place) = Damaged place
plain_refusal Crowded = Crowded
plain_refusal (Device fault) = Device tt
plain_refusal NoMemory = NoMemory
plain_refusal StoreFull = StoreFull
plain_refusal NoRoom = NoRoom
plain_refusal Failed = Failed
plain_refusal Spent = Spent
plain_refusal HistoryFull = HistoryFull

-- a reply without its fault
abbrev pub plain : {F : Type 0} → Reply F → Reply (Unit {0})
plain (Accepted n) = Accepted n
plain (Acknowledged n) = Acknowledged n
plain (Found value) = Found value
plain Absent = Absent
plain Differs = Differs
plain (Progress progress) = Progress progress
plain (Refused refusal) = Refused (plain_refusal refusal)
plain (Unsettled n) = Unsettled n
plain NotServed = NotServed

-- a reply in the form for records and output
abbrev pub PlainReply : Type 0
PlainReply = Reply (Unit {0})

-- ---- one event

-- each value of a put or a swap has the store's value length
abbrev pub HasValueOf : ℕ → Event → Type 0
HasValueOf len (Put key value) = length value ≡ len
HasValueOf len (Swap key old new) = IfSome old (λ value. length value ≡ len) × IfSome new (λ value. length value ≡ len)
HasValueOf len event = Unit {0}

-- An event with this reply takes one map to the other. A swap is accepted exactly if the key has the old value, or no value if
-- that is what the swap expects. A refused event changes nothing.
abbrev pub Step : {F : Type 0} → Map → Event → Reply F → Map → Type 0
Step map (Put key value) (Accepted n) to = to ≡ changed map (put key.0 value)
Step map (Delete key) (Accepted n) to = to ≡ changed map (delete key.0)
Step map (Swap key old new) (Accepted n) to = (get map key.0 ≡ old) × (to ≡ changed map (setting key.0 new))
Step map (Swap key old new) Differs to = (get map key.0 ≢ old) × (to ≡ map)
Step map Flush (Acknowledged n) to = to ≡ map
Step map (Get key) (Found value) to = (get map key.0 ≡ Some value) × (to ≡ map)
Step map (Get key) Absent to = (get map key.0 ≡ None) × (to ≡ map)
Step map Convert (Progress progress) to = to ≡ map
Step map Merge (Progress progress) to = to ≡ map
Step map event (Refused refusal) to = to ≡ map
Step map event reply to = ⊥

-- how many commands were accepted before the reply and after it, and the number in the reply
abbrev pub Counts : {F : Type 0} → ℕ → Reply F → ℕ → Type 0
Counts old (Accepted n) new = (n ≡ old + 1) × (new ≡ old + 1)
Counts old (Acknowledged n) new = (n ≡ old) × (new ≡ old)
Counts old reply new = new ≡ old

-- each event gets its reply, one after the other; or each query its answer
module _ {A E R : Type 0} (answers : A → A → E → R → Type 0) where
  abbrev pub AnswersEach : A → List E → List R → A → Type 0
  AnswersEach old [] [] new = new ≡ old
  AnswersEach old (event ∷ events) (reply ∷ replies) new = (mid : A) × answers old mid event reply × AnswersEach mid events replies new
  AnswersEach old events replies new = ⊥

-- ---- lists of events

-- The replies to these events, in order, take the count and the map from the first to the last. Each reply is that of a plain map.
abbrev pub Legal : {F : Type 0} → ℕ → Map → List Event → List (Reply F) → ℕ → Map → Type 0
Legal count map [] [] end to = (end ≡ count) × (to ≡ map)
Legal count map (event ∷ events) (reply ∷ replies) end to =
    (next : ℕ) × (between : Map) × Counts count reply next × Step map event reply between × Legal next between events replies end to
Legal count map events replies end to = ⊥

-- the command that an event with this reply adds
abbrev pub accepted_command : {F : Type 0} → Event → Reply F → List Command
accepted_command (Put key value) (Accepted n) = put key.0 value ∷ []
accepted_command (Delete key) (Accepted n) = delete key.0 ∷ []
accepted_command (Swap key old new) (Accepted n) = setting key.0 new ∷ []
accepted_command event reply = []

-- the commands that were accepted, in order
abbrev pub accepted_commands : {F : Type 0} → List Event → List (Reply F) → List Command
accepted_commands (event ∷ events) (reply ∷ replies) = accepted_command event reply ++ accepted_commands events replies
accepted_commands events replies = []

-- the number that this reply acknowledges, or else the number before
abbrev pub acknowledged_by : {F : Type 0} → ℕ → Reply F → ℕ
acknowledged_by before (Acknowledged n) = n
acknowledged_by before reply = before

-- the number in the last acknowledging reply, or else the number before
abbrev pub acknowledged_after : {F : Type 0} → ℕ → List (Reply F) → ℕ
acknowledged_after before [] = before
acknowledged_after before (reply ∷ replies) = acknowledged_after (acknowledged_by before reply) replies

-- whether the reply is a device's fault
abbrev pub is_fault : {F : Type 0} → Reply F → Bool
is_fault (Refused (Device fault)) = true
is_fault reply = false

-- whether the reply says that the store has failed
abbrev pub is_failed : {F : Type 0} → Reply F → Bool
is_failed (Refused Failed) = true
is_failed reply = false

-- whether one of the replies, or one before them, is a device's fault
abbrev pub has_fault : {F : Type 0} → Bool → List (Reply F) → Bool
has_fault before [] = before
has_fault before (reply ∷ replies) = has_fault (before || is_fault reply) replies

-- the reply `Failed` comes only after a device's fault
abbrev pub FailsAfterFault : {F : Type 0} → Bool → List (Reply F) → Type 0
FailsAfterFault before [] = Unit {0}
FailsAfterFault before (reply ∷ replies) = (IsTrue (is_failed reply) → IsTrue before) × FailsAfterFault (before || is_fault reply) replies

-- ---- lives

-- what a crash may keep of a life: a prefix of its accepted commands that holds each acknowledged one
pub record Keeps {F : Type 0} (events : List Event) (replies : List (Reply F)) (kept : List Command) : Type 0 where
  pub begins : Begins kept (accepted_commands events replies)
  pub acknowledged : acknowledged_after 0 replies ≤ length kept

-- a good store refuses to open only because of its device or because it is out of memory
abbrev pub IsOpeningRefusal : {F : Type 0} → Refusal F → Type 0
IsOpeningRefusal (Device fault) = Unit {0}
IsOpeningRefusal NoMemory = Unit {0}
IsOpeningRefusal refusal = ⊥

-- One life from a map: its replies are those of a plain map, and the next life begins at the map that the crash kept.
abbrev pub LifeHistory : {F : Type 0} → Map → List Event → LifeReply F → Map → Type 0
LifeHistory map events (NotOpened refusal) to = IsOpeningRefusal refusal × (to ≡ map)
LifeHistory map events (Opened replies) to =
    (count : ℕ) × (end : Map) × (kept : List Command) × Legal 0 map events replies.items count end × Keeps events replies.items kept
    × FailsAfterFault false replies.items × (to ≡ map_after map kept)

-- lives in order: each begins at the map that the one before left on the device
abbrev pub LivesHistory : {F : Type 0} → Map → List (Vec Event Global) → List (LifeReply F) → Map → Type 0
LivesHistory map [] [] to = to ≡ map
LivesHistory map (life ∷ lives) (reply ∷ replies) to = (next : Map) × LifeHistory map life.items reply next × LivesHistory next lives replies to
LivesHistory map lives replies to = ⊥
