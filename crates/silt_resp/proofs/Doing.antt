-- Doing commands in two parts is doing them at once, and a beginning of a part is a beginning of the whole.
use Rattle.silt_resp.proofs.Common.{◌≡◌, ◌+◌, ℕ, suc, Result, Ok, Err, List, [], ◌∷◌, ◌++◌, length, take, drop, refl, sym, ap, subst, ◌∙◌, append_assoc, get_or, inl, inr, ◌<◌, Option, Some, arith}
use Rattle.silt_resp.proofs.Common.{None, drop_of_length-le, drop-cons, cases_lt, Appends, drop-append-le, length-drop, take_all, take-append-le, take-add, Event, AnswersEach, PlainReply, Answer}
use Rattle.silt_resp.proofs.Common.{AnswersQuery, Query, does, IsBeginning, IsBeginning-all, Settings, RespEnd, End, Closed, ReadFault, Batch, HoldsAsked, due_seen, part_text, part_texts}
use Rattle.silt_resp.proofs.Common.{tail_parts, tail_queries, Asked, AnswersCommands, AnswersSomeCommands, Client, EndsWith, ServesCommands, all_queries, asked_after, asked_each, client_after}
use Rattle.silt_resp.proofs.Common.{asked_texts, Command, closed, stream_after}
use Rattle.std.proofs.Common.{map, take-append-drop, length-append, append-nil}
use Rattle.std.specs.Prelude.{IfOk, OnErr, min}
use Rattle.std.proofs.lemmas.Grind.{flat_map-append}
use Rattle.std.proofs.lemmas.List.{drop-map, length-map, take-map}
use Rattle.silt_event.specs.declared.admin.Admin.{Admin}
use Rattle.silt_event.specs.declared.admin.AdminReply.{AdminReply}
use Rattle.silt_event.specs.Queries.{replies as replied}
use Rattle.silt_wire.proofs.Answering.{each-queries}
use Rattle.silt_wire.proofs.Streams.{Appends-append, Appends-none}
use Rattle.silt_resp.specs.declared.settings.Visitor.{Visitor}
use Rattle.silt_resp.specs.declared.batch.Due.{Due}
use Rattle.silt_resp.specs.declared.asked.Tail.{Tail}
use Rattle.silt_resp.specs.Batches.{Part, part_len, part_of, tail_answers}
use Rattle.silt_resp.specs.Commands.{asks, visitor_after}
use Rattle.silt_resp.specs.Sessions.{IsCommandsEnd, IsLast, ServesSomeCommands, asked_queries, replies_in, visitor_behind}
use Rattle.silt_resp.proofs.Runs.{closed_run}
use Rattle.silt_resp.proofs.Streams.{commands_after-append, stream_after-append}

-- ---- parts

-- three parts that are appended one after the other
pub three_appended : (out a b d one two three : List ℕ) → one ≡ out ++ a → two ≡ one ++ b → three ≡ two ++ d → three ≡ out ++ (a ++ (b ++ d))
three_appended out a b d one two three e f g = simp (g, f, e, append_assoc)

-- ---- beginnings

none_begins : {X : Type 0} (xs : List X) → IsBeginning [] xs
none_begins xs = (xs, refl)

pub begins-trans : {X : Type 0} (xs ys zs : List X) → IsBeginning xs ys → IsBeginning ys zs → IsBeginning xs zs
begins-trans xs ys zs h k = (h.0 ++ k.0, cc (append_assoc xs h.0 k.0, h.1, k.1))

-- a beginning of what follows a front
begins-behind : {X : Type 0} (front xs ys : List X) → IsBeginning xs ys → IsBeginning (front ++ xs) (front ++ ys)
begins-behind front xs ys h = (h.0, append_assoc front xs h.0 ∙ ap (λ l. front ++ l) h.1)

pub begins-more : {X : Type 0} (xs ys more : List X) → IsBeginning xs ys → IsBeginning xs (ys ++ more)
begins-more xs ys more h = (h.0 ++ more, sym (append_assoc xs h.0 more) ∙ ap (λ l. l ++ more) h.1)

-- ---- what is asked for

visitor_behind-append : (s : Settings) (v : Visitor) (cs ds : List Command) → visitor_behind s v (cs ++ ds) ≡ visitor_behind s (visitor_behind s v cs) ds
visitor_behind-append s v [] ds = refl
visitor_behind-append s v (c ∷ cs) ds = visitor_behind-append s (visitor_after s v c) cs ds

asked_each-append : (s : Settings) (v : Visitor) (cs ds : List Command) → asked_each s v (cs ++ ds) ≡ asked_each s v cs ++ asked_each s (visitor_behind s v cs) ds
asked_each-append s v [] ds = refl
asked_each-append s v (c ∷ cs) ds = rw (asked_each-append s (visitor_after s v c) cs ds)

-- the commands of two parts of the bytes
pub asked_after-append : (s : Settings) (c : Client) (xs ys : List ℕ) → asked_after s c (xs ++ ys) ≡ asked_after s c xs ++ asked_after s (client_after s c xs) ys
asked_after-append s c xs ys = rw (commands_after-append c.stream xs ys, asked_each-append)

-- the client behind two parts
pub client_after-append : (s : Settings) (c : Client) (xs ys : List ℕ) → client_after s c (xs ++ ys) ≡ client_after s (client_after s c xs) ys
client_after-append s c xs ys = search (arith, stream_after-append, commands_after-append, visitor_behind-append)

-- a closed stream asks for nothing
closed_asks : (s : Settings) (c : Client) (ys : List ℕ) → c.stream.place ≡ closed → (asked_after s c ys ≡ []) × ((stream_after c.stream ys).place ≡ closed)
closed_asks s c ys e =
    let is : c.stream ≡ record { words = c.stream.words; left = c.stream.left; place = closed } = rw (← e) refl in
    let run = closed_run c.stream.words c.stream.left ys in search arith

all_queries-append : (xs ys : List Asked) → all_queries (xs ++ ys) ≡ all_queries xs ++ all_queries ys
all_queries-append xs ys = flat_map-append asked_queries xs ys

module _ {A : Type 0} (answers : A → A → Query → Answer → Type 0) where
  each-append : (a b c : A) (es fs : List Query) (rs ss : List Answer) → AnswersEach answers a es rs b → AnswersEach answers b fs ss c → AnswersEach answers a (es ++ fs) (rs ++ ss) c
  each-append a b c [] fs [] ss h k = subst (λ s. AnswersEach answers s fs ss c) h k
  each-append a b c (e ∷ es) fs (r ∷ rs) ss h k = (h.0, h.1, each-append h.0 b c es fs rs ss h.2 k)
  each-append a b c es fs rs ss h k = absurd h

  -- each event has one reply
  each-length : (a b : A) (es : List Query) (rs : List Answer) → AnswersEach answers a es rs b → length rs ≡ length es
  each-length a b [] [] h = refl
  each-length a b (e ∷ es) (r ∷ rs) h = ap (λ n. suc n) (each-length h.0 b es rs h.2)
  each-length a b es rs h = absurd h

-- the replies of the first commands and then the others
asked_texts-append : (xs ys : List Asked) (rs ss : List Answer) → length rs ≡ length (all_queries xs) → asked_texts (xs ++ ys) (rs ++ ss) ≡ asked_texts xs rs ++ asked_texts ys ss
asked_texts-append [] ys [] ss e = refl
asked_texts-append [] ys (r ∷ rs) ss e = absurd (omega arith)
asked_texts-append (x ∷ xs) ys rs ss e = search (arith, asked_texts-append xs ys, length-append, length-drop, take-append-le, drop-append-le, append_assoc)

-- the replies that are due are those of the commands
part_texts-asked : (asked : List Asked) (rs : List Answer) → part_texts (map part_of asked) rs ≡ asked_texts asked rs
part_texts-asked [] rs = refl
part_texts-asked (asks events form ∷ asked) rs = cc (part_texts-asked asked (drop (length events) rs), length-map events does)
part_texts-asked (one ∷ asked) rs = search (arith, part_texts-asked asked)

-- ---- how many answers are due

abbrev parts_len : List Part → ℕ
parts_len [] = 0
parts_len (part ∷ parts) = part_len part + parts_len parts

parts_len-append : (ps qs : List Part) → parts_len (ps ++ qs) ≡ parts_len ps + parts_len qs
parts_len-append [] qs = omega arith
parts_len-append (p ∷ ps) qs = omega (arith, parts_len-append ps qs)

-- as many as the commands ask for
parts_len-asked : (asked : List Asked) → parts_len (map part_of asked) ≡ length (all_queries asked)
parts_len-asked [] = refl
parts_len-asked (asks events form ∷ asked) = search (arith, parts_len-asked asked, length-append, length-map)
parts_len-asked (one ∷ asked) = omega (arith, parts_len-asked asked)

tail_len : (tail : Option Tail) → parts_len (tail_parts tail) ≡ length (tail_queries tail)
tail_len None = refl
tail_len (Some tail) = refl

-- the texts of two lists of parts
part_texts-append : (ps qs : List Part) (rs ss : List Answer) → length rs ≡ parts_len ps → part_texts (ps ++ qs) (rs ++ ss) ≡ part_texts ps rs ++ part_texts qs ss
part_texts-append [] qs [] ss e = refl
part_texts-append [] qs (r ∷ rs) ss e = absurd (omega arith)
part_texts-append (p ∷ ps) qs rs ss e = search (arith, part_texts-append ps qs, length-drop, take-append-le, drop-append-le, append_assoc)

-- the replies in the answers that are replies
pub replies_in-map : (rs : List PlainReply) → replies_in (map replied rs) ≡ rs
replies_in-map [] = refl
replies_in-map (r ∷ rs) = rw (replies_in-map rs)

module _ {A : Type 0} (answers : A → A → Query → Answer → Type 0) where
  -- ---- one part after the other

  pub some-from_all : (asked : List Asked) (a b : A) (w v : Option (List ℕ)) → AnswersCommands answers asked a b w v → AnswersSomeCommands answers asked a b w v
  some-from_all asked a b w v h = (asked, h.0, asked_texts asked h.0, IsBeginning-all asked, h.1, IsBeginning-all (asked_texts asked h.0), h.2)

  all-append : (a b c : A) (xs ys : List Asked) (w v u : Option (List ℕ)) → AnswersCommands answers xs a b w v → AnswersCommands answers ys b c v u → AnswersCommands answers (xs ++ ys) a c w u
  all-append a b c xs ys w v u h k = (
    h.0 ++ k.0,
    rw (all_queries-append xs ys) (each-append answers a b c (all_queries xs) (all_queries ys) h.0 k.0 h.1 k.1),
    rw (asked_texts-append xs ys h.0 k.0 (each-length answers a b (all_queries xs) h.0 h.1)) (Appends-append w v u _ _ h.2 k.2),
  )

  -- all of the first part, and a beginning of the second
  some-append : (a b c : A) (xs ys : List Asked) (w v u : Option (List ℕ)) → AnswersCommands answers xs a b w v → AnswersSomeCommands answers ys b c v u
      → AnswersSomeCommands answers (xs ++ ys) a c w u
  some-append a b c xs ys w v u h k =
      let (some, given, out, begins, each, beginning, appends) = k in (
        xs ++ some,
        h.0 ++ given,
        asked_texts xs h.0 ++ out,
        begins-behind xs some ys begins,
        rw (← (all_queries-append xs some)) at (each-append answers a b c (all_queries xs) (all_queries some) h.0 given h.1 each),
        rw (← (asked_texts-append xs some h.0 given (each-length answers a b (all_queries xs) h.0 h.1))) at (begins-behind (asked_texts xs h.0) out (asked_texts some given) beginning),
        Appends-append w v u _ _ h.2 appends,
      )

  -- what was done of the first commands is done of all
  pub some-begun : (first asked : List Asked) (a b : A) (w v : Option (List ℕ)) → IsBeginning first asked → AnswersSomeCommands answers first a b w v → AnswersSomeCommands answers asked a b w v
  some-begun first asked a b w v begins k = (k.0, k.1, k.2, begins-trans k.0 first asked k.3 begins, k.4, k.5, k.6)

  -- ---- bytes

  pub all-bytes : (s : Settings) (c : Client) (xs ys : List ℕ) (a b d : A) (w v u : Option (List ℕ)) → ServesCommands answers s c xs a b w v
      → ServesCommands answers s (client_after s c xs) ys b d v u → ServesCommands answers s c (xs ++ ys) a d w u
  all-bytes s c xs ys a b d w v u h k = rw (asked_after-append s c xs ys) (all-append a b d (asked_after s c xs) (asked_after s (client_after s c xs) ys) w v u h k)

  some-bytes : (s : Settings) (c : Client) (xs ys : List ℕ) (a b d : A) (w v u : Option (List ℕ)) → ServesCommands answers s c xs a b w v
      → ServesSomeCommands answers s (client_after s c xs) ys b d v u → ServesSomeCommands answers s c (xs ++ ys) a d w u
  some-bytes s c xs ys a b d w v u h k = rw (asked_after-append s c xs ys) (some-append a b d (asked_after s c xs) (asked_after s (client_after s c xs) ys) w v u h k)

  -- an end in the second part is one of both
  pub ends-bytes : (end : RespEnd) (s : Settings) (c : Client) (xs ys : List ℕ) (a b d : A) (w v u : Option (List ℕ)) → ServesCommands answers s c xs a b w v
      → EndsWith answers end s (client_after s c xs) ys b d v u → EndsWith answers end s c (xs ++ ys) a d w u
  ends-bytes End s c xs ys a b d w v u h k = search (arith, all-bytes, stream_after-append, k.1)
  ends-bytes ReadFault s c xs ys a b d w v u h k = search (arith, all-bytes, stream_after-append, k.1)
  ends-bytes Closed s c xs ys a b d w v u h k = search (arith, all-bytes, stream_after-append)
  ends-bytes end s c xs ys a b d w v u h k = some-bytes s c xs ys a b d w v u h k

  -- one part more of a slice
  pub all-part : (s : Settings) (c : Client) (bytes : List ℕ) (done count : ℕ) (a b d : A) (w v u : Option (List ℕ)) → ServesCommands answers s c (take done bytes) a b w v
      → ServesCommands answers s (client_after s c (take done bytes)) (take count (drop done bytes)) b d v u → ServesCommands answers s c (take (done + count) bytes) a d w u
  all-part s c bytes done count a b d w v u h k = rw (take-add done count bytes) (all-bytes s c (take done bytes) (take count (drop done bytes)) a b d w v u h k)

  -- a part of a slice, when the session ends in that part
  pub ends-part : (end : RespEnd) (s : Settings) (c : Client) (bytes : List ℕ) (done : ℕ) (a b d : A) (w v u : Option (List ℕ)) → ServesCommands answers s c (take done bytes) a b w v
      → EndsWith answers end s (client_after s c (take done bytes)) (drop done bytes) b d v u → EndsWith answers end s c bytes a d w u
  ends-part end s c bytes done a b d w v u h k = rw (take-append-drop done bytes) at (ends-bytes end s c (take done bytes) (drop done bytes) a b d w v u h k)

  -- all that a part asks for is a beginning of what the whole asks for
  pub some-taken : (s : Settings) (c : Client) (bytes : List ℕ) (count : ℕ) (a b : A) (w v : Option (List ℕ)) → ServesCommands answers s c (take count bytes) a b w v
      → ServesSomeCommands answers s c bytes a b w v
  some-taken s c bytes count a b w v h =
      let front = take count bytes in
      let whole = sym (asked_after-append s c front (drop count bytes)) ∙ ap (asked_after s c) (take-append-drop count bytes) in
      some-begun (asked_after s c front) (asked_after s c bytes) a b w v (asked_after s (client_after s c front) (drop count bytes), whole) (some-from_all (asked_after s c front) a b w v h)

  -- bytes behind those that close the stream are dropped
  pub closed-part : (s : Settings) (c : Client) (bytes : List ℕ) (count : ℕ) (a b : A) (w v : Option (List ℕ)) → (stream_after c.stream (take count bytes)).place ≡ closed
      → ServesCommands answers s c (take count bytes) a b w v → EndsWith answers Closed s c bytes a b w v
  closed-part s c bytes count a b w v e h =
      let front = take count bytes in
      let behind = closed_asks s (client_after s c front) (drop count bytes) e in
      let whole = take-append-drop count bytes in
      search (arith, asked_after-append, append-nil, stream_after-append)

  -- ---- what was gathered is written

  pub some-written : (asked : List Asked) (a b : A) (before texts out : List ℕ) (w v : Option (List ℕ)) → before ≡ [] → AnswersSomeCommands answers asked a b (Some before) (Some texts)
      → IsBeginning out texts → Appends w v out → AnswersSomeCommands answers asked a b w v
  some-written asked a b before texts out w v none h begins appends =
      let k = rw none at h in (k.0, k.1, out, k.3, k.4, begins-trans out k.2 (asked_texts k.0 k.1) (rw k.6 at begins) k.5, appends)

  pub all-wrote : (asked : List Asked) (a b : A) (before texts : List ℕ) (w v : Option (List ℕ)) → before ≡ [] → AnswersCommands answers asked a b (Some before) (Some texts)
      → Appends w v texts → AnswersCommands answers asked a b w v
  all-wrote asked a b before texts w v none h appends = search arith

  -- nothing was done
  pub none-batch : (asked : List Asked) (a : A) (w : Option (List ℕ)) → AnswersSomeCommands answers asked a a w w
  none-batch asked a w = ([], [], [], none_begins asked, refl, none_begins [], Appends-none w)

-- ---- a batch

module _ {A : Type 0} (answers : A → A → Event → PlainReply → Type 0) (administers : A → Admin → AdminReply → Type 0) (batch : Batch) where
  -- all answers to a batch: the replies to its events, and that to its admin command if there is one
  abbrev batch_answers : List PlainReply → AdminReply → List Answer
  batch_answers rs said = map replied rs ++ tail_answers batch.tail said

  -- what the events of a batch have as texts, and what its end has
  abbrev event_texts : List PlainReply → List ℕ
  event_texts rs = part_texts (map due_seen batch.dues.items) (map replied rs)

  batch_each : (asked : List Asked) (a b : A) (rs : List PlainReply) (said : AdminReply) → HoldsAsked batch asked → AnswersEach answers a batch.events.items rs b
      → AnswersEach (AnswersQuery answers administers) b (tail_queries batch.tail) (tail_answers batch.tail said) b
      → AnswersEach (AnswersQuery answers administers) a (all_queries asked) (batch_answers rs said) b
  batch_each asked a b rs said h each tail = rw (← h.queries) (search (arith, each-append, each-queries))

  -- each reply to an event is due
  batch_len : (asked : List Asked) (a b : A) (rs : List PlainReply) → HoldsAsked batch asked → AnswersEach answers a batch.events.items rs b
      → length (map replied rs) ≡ parts_len (map due_seen batch.dues.items)
  batch_len asked a b rs h each =
      let all = ap parts_len h.parts ∙ parts_len-asked asked ∙ ap length (sym h.queries) in
      let each_one = each-length (AnswersQuery answers administers) a b (map does batch.events.items) (map replied rs) (each-queries answers administers a b batch.events.items rs each) in
      omega (arith, tail_len batch.tail, parts_len-append (map due_seen batch.dues.items) (tail_parts batch.tail), length-append (map does batch.events.items) (tail_queries batch.tail))

  batch_texts : (asked : List Asked) (a b : A) (rs : List PlainReply) (said : AdminReply) → HoldsAsked batch asked → AnswersEach answers a batch.events.items rs b
      → event_texts rs ++ part_texts (tail_parts batch.tail) (tail_answers batch.tail said) ≡ asked_texts asked (batch_answers rs said)
  batch_texts asked a b rs said h each = search (arith, part_texts-append, batch_len, part_texts-asked)

  pub all-batch : (asked : List Asked) (a b : A) (rs : List PlainReply) (said : AdminReply) (text mid more : List ℕ) → HoldsAsked batch asked → AnswersEach answers a batch.events.items rs b
      → AnswersEach (AnswersQuery answers administers) b (tail_queries batch.tail) (tail_answers batch.tail said) b → mid ≡ text ++ part_texts (map due_seen batch.dues.items) (map replied rs)
      → more ≡ mid ++ part_texts (tail_parts batch.tail) (tail_answers batch.tail said) → AnswersCommands (AnswersQuery answers administers) asked a b (Some text) (Some more)
  all-batch asked a b rs said text mid more h each tail e f = (
    batch_answers rs said,
    batch_each asked a b rs said h each tail,
    cc (append_assoc text (event_texts rs) (part_texts (tail_parts batch.tail) (tail_answers batch.tail said)), batch_texts asked a b rs said h each),
  )

  -- the texts of the first replies are there
  pub some-batch : (asked : List Asked) (a b : A) (rs : List PlainReply) (said : AdminReply) (text more : List ℕ) → HoldsAsked batch asked → AnswersEach answers a batch.events.items rs b
      → AnswersEach (AnswersQuery answers administers) b (tail_queries batch.tail) (tail_answers batch.tail said) b
      → (out : List ℕ) × IsBeginning out (part_texts (map due_seen batch.dues.items) (map replied rs)) × (more ≡ text ++ out)
      → AnswersSomeCommands (AnswersQuery answers administers) asked a b (Some text) (Some more)
  some-batch asked a b rs said text more h each tail cut =
      let last = part_texts (tail_parts batch.tail) (tail_answers batch.tail said) in
      let begins = rw (batch_texts asked a b rs said h each) at (begins-more cut.0 (event_texts rs) last cut.1) in
      (asked, batch_answers rs said, cut.0, IsBeginning-all asked, batch_each asked a b rs said h each tail, begins, cut.2)

-- ---- the texts of a batch

take_within : {X : Type 0} (n : ℕ) (xs : List X) → take (min n (length xs)) xs ≡ take n xs
take_within n xs = search (arith, cases_lt, take_all)

drop_within : {X : Type 0} (n : ℕ) (xs : List X) → drop (min n (length xs)) xs ≡ drop n xs
drop_within n xs = elim (cases_lt n (length xs)) [
  | inl below ↦ let e : min n (length xs) ≡ n = omega arith in rw e
  | inr above ↦ let none : drop (min n (length xs)) xs ≡ [] = drop_of_length-le xs (omega arith) in none ∙ sym (drop_of_length-le xs above)
]

-- one due more
pub due_more : (dues : List Due) (index : ℕ) (due : Due) (rest front back : List PlainReply) (out : List ℕ) (all : List ℕ) → index < length dues → due ≡ get_or dues index due
    → front ≡ take (min (part_len (due_seen due)) (length rest)) rest → back ≡ drop (min (part_len (due_seen due)) (length rest)) rest
    → out ++ part_texts (map due_seen (drop index dues)) (map replied rest) ≡ all
    → (out ++ part_text (due_seen due) (map replied front)) ++ part_texts (map due_seen (drop (index + 1) dues)) (map replied back) ≡ all
due_more dues index due rest front back out all within is is_front is_back h =
    let n = part_len (due_seen due) in
    let next : suc index ≡ index + 1 = omega arith in
    let cut = drop-cons dues index due within in
    search (arith, take_within, take-map, drop_within, drop-map, append_assoc)

-- ---- ends

pub on-err : {T E P : Type 0} (r : Result T E) → P → OnErr r P
on-err (Ok x) p = tt
on-err (Err e) p = p

pub if-ok : {T E : Type 0} {P Q : T → Type 0} (r : Result T E) → ((x : T) → P x → Q x) → IfOk r P → IfOk r Q
if-ok (Ok x) f p = f x p
if-ok (Err e) f p = tt

-- an end that comes from a read says nothing of the reader
pub last_cut : (end : RespEnd) (remaining : Option (List ℕ)) → IsCommandsEnd end → IsLast end remaining
last_cut End remaining cut = absurd cut
last_cut ReadFault remaining cut = absurd cut
last_cut end remaining cut = tt

-- the first bytes of a name that are shown
pub shown_part : (name shown : List ℕ) (mid len : ℕ) → shown ≡ take mid name → mid ≡ min len 32 → len ≡ length name → shown ≡ take 32 name
shown_part name shown mid len e is size = let same : mid ≡ min 32 (length name) = omega arith in cc (take_within 32 name)
