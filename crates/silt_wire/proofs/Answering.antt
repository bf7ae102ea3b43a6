-- Answering lines in two parts is answering them at once, and a beginning of a part is a beginning of the whole.
use Rattle.silt_wire.proofs.Common.{map, ◌≡◌, ◌-◌, arith, ◌+◌, ◌≤◌, take, drop, take-append-drop, flat_map, inl, inr, ℕ, false, cond, Result, Ok, Err, List, [], ◌∷◌, ◌++◌, length, refl, sym, ap}
use Rattle.silt_wire.proofs.Common.{◌∙◌, append_assoc, Option, Some, None, is_some, subst, append-nil, take_all, Appends, Consumes, Keeps, Event, Answer, AnswersQuery, Query, does, Tail}
use Rattle.silt_wire.proofs.Common.{LineFault, SessionEnd, End, ReadFault, NoMemory, tail_after, tail_asked, HoldsBytes, LineBuffer, IsBeginning, asks, line_of, AnswersAll, AnswersSome, Ends}
use Rattle.silt_wire.proofs.Common.{AnswersEach, PlainReply, lines_after, rest_after, IfOk, OnErr, flat_map-append, length-drop, map-append, admin, replies, says, valid, answer_lines, queries_of}
use Rattle.silt_wire.proofs.Common.{texts_of, IsCut, SessionState}
use Rattle.silt_wire.specs.Lines.{Parses, admin_of, asked_by, is_blank, query_by, query_with, with_event}
use Rattle.std.proofs.Math.Seq.{take-add}
use Rattle.silt_event.specs.declared.admin.Admin.{Admin}
use Rattle.silt_event.specs.declared.admin.AdminReply.{AdminReply}
use Rattle.silt_wire.specs.Replies.{fault_line}
use Rattle.silt_wire.proofs.Streams.{rest_after-append, lines_after-append, Appends-append, Appends-keeps, Appends-none}

-- ---- beginnings

pub IsBeginning-all : {X : Type 0} (xs : List X) → IsBeginning xs xs
IsBeginning-all xs = ([], append-nil xs)

pub IsBeginning-none : {X : Type 0} (xs : List X) → IsBeginning [] xs
IsBeginning-none xs = (xs, refl)

pub IsBeginning-trans : {X : Type 0} (xs ys zs : List X) → IsBeginning xs ys → IsBeginning ys zs → IsBeginning xs zs
IsBeginning-trans xs ys zs h k = (h.0 ++ k.0, sym (append_assoc xs h.0 k.0) ∙ ap (λ l. l ++ k.0) h.1 ∙ k.1)

-- a beginning of what follows a front
pub IsBeginning-behind : {X : Type 0} (front xs ys : List X) → IsBeginning xs ys → IsBeginning (front ++ xs) (front ++ ys)
IsBeginning-behind front xs ys h = (h.0, append_assoc front xs h.0 ∙ ap (λ l. front ++ l) h.1)

pub IsBeginning-more : {X : Type 0} (xs ys more : List X) → IsBeginning xs ys → IsBeginning xs (ys ++ more)
IsBeginning-more xs ys more h = (h.0 ++ more, sym (append_assoc xs h.0 more) ∙ ap (λ l. l ++ more) h.1)

Consumes-none : (r : Option (List ℕ)) → Consumes r r []
Consumes-none None = tt
Consumes-none (Some xs) = refl

-- ---- the requests of lines

asks-append : (v : ℕ) (xs ys : List (List ℕ)) → asks v (xs ++ ys) ≡ asks v xs ++ asks v ys
asks-append v [] ys = refl
asks-append v (x ∷ xs) ys = search (arith, asks-append v xs ys)

queries_of-append : (xs ys : List (Result Query LineFault)) → queries_of (xs ++ ys) ≡ queries_of xs ++ queries_of ys
queries_of-append [] ys = refl
queries_of-append (Ok query ∷ xs) ys = ap (λ l. query ∷ l) (queries_of-append xs ys)
queries_of-append (Err fault ∷ xs) ys = queries_of-append xs ys

-- the requests of two parts of the bytes
pub asks_after-append : (v : ℕ) (p xs ys : List ℕ) → asks v (lines_after p (xs ++ ys)) ≡ asks v (lines_after p xs) ++ asks v (lines_after (rest_after p xs) ys)
asks_after-append v p xs ys = ap (asks v) (lines_after-append p xs ys) ∙ asks-append v (lines_after p xs) (lines_after (rest_after p xs) ys)

queries_of-valid : (es : List Event) → queries_of (valid es) ≡ map does es
queries_of-valid [] = refl
queries_of-valid (e ∷ es) = ap (λ l. does e ∷ l) (queries_of-valid es)

-- the lines of the first replies
pub lines-take : (rs : List PlainReply) (n : ℕ) → IsBeginning (flat_map line_of (take n rs)) (flat_map line_of rs)
lines-take rs n = (flat_map line_of (drop n rs), sym (flat_map-append line_of (take n rs) (drop n rs)) ∙ ap (flat_map line_of) (take-append-drop n rs))

-- ---- what is gathered

pub asks-live : (v : ℕ) (line : List ℕ) (asked : Result Query LineFault) → is_blank line ≡ false → asked ≡ query_by v line → asks v (line ∷ []) ≡ asked ∷ []
asks-live v line asked e is = ap (λ b. cond b [] (query_by v line ∷ [])) e ∙ ap (λ q. q ∷ []) (sym is)

-- the batch gained the event that was asked for
pub gathers-event : (old new : List Event) (event : Event) (asked : List (Result Query LineFault)) → asked ≡ Ok (does event) ∷ [] → new ≡ old ++ event ∷ []
    → valid old ++ asked ≡ valid new ++ []
gathers-event old new event asked is e = search (arith, map-append, append-nil)

pub tail_after-none : (tail : Option Tail) (events : List (Result Query LineFault)) → is_some tail ≡ false → events ++ tail_after tail ≡ events
tail_after-none None events e = append-nil events
tail_after-none (Some tail) events e = absurd (cc)

-- one part more of the bytes
pub gathers-part : (v : ℕ) (p bytes rest : List ℕ) (done count : ℕ) (start before after : List (Result Query LineFault)) → rest ≡ drop done bytes
    → start ++ asks v (lines_after p (take done bytes)) ≡ before
    → before ++ asks v (lines_after (rest_after p (take done bytes)) (take count rest)) ≡ after
    → start ++ asks v (lines_after p (take (done + count) bytes)) ≡ after
gathers-part v p bytes rest done count start before after is h k =
    let front = take done bytes in
    let more = take count (drop done bytes) in
    cc (take-add done count bytes, asks_after-append v p front more, append_assoc start (asks v (lines_after p front)) (asks v (lines_after (rest_after p front) more)))

-- what was gathered of a part is a beginning of what the whole asks for
pub gathers-begins : (v : ℕ) (p bytes : List ℕ) (count : ℕ) (start after more : List (Result Query LineFault))
    → start ++ asks v (lines_after p (take count bytes)) ≡ after ++ more → IsBeginning after (start ++ asks v (lines_after p bytes))
gathers-begins v p bytes count start after more h =
    let front = take count bytes in
    let rest = asks v (lines_after (rest_after p front) (drop count bytes)) in (
      more ++ rest,
      cc (append_assoc after more rest, append_assoc start (asks v (lines_after p front)) rest, asks_after-append v p front (drop count bytes), take-append-drop count bytes),
    )

-- if nothing was gathered before
pub gathered-only : (before : List Event) (asked after : List (Result Query LineFault)) → before ≡ [] → valid before ++ asked ≡ after → asked ≡ after
gathered-only before asked after none h = ap (λ l. valid l ++ asked) (sym none) ∙ h

pub begins-only : (before : List Event) (first asked : List (Result Query LineFault)) → before ≡ [] → IsBeginning first (valid before ++ asked) → IsBeginning first asked
begins-only before first asked none h = (h.0, h.1 ∙ ap (λ l. valid l ++ asked) none)

-- what is written for some lines is the first part of what is written for more
texts_of-more : (xs ys : List (Result Query LineFault)) (rs : List Answer) → IsBeginning (texts_of xs rs) (texts_of (xs ++ ys) rs)
texts_of-more [] ys rs = IsBeginning-none (texts_of ys rs)
texts_of-more (Err fault ∷ xs) ys rs = IsBeginning-behind (fault_line fault) _ _ (texts_of-more xs ys rs)
texts_of-more (Ok event ∷ xs) ys [] = IsBeginning-none []
texts_of-more (Ok event ∷ xs) ys (r ∷ rs) = IsBeginning-behind (answer_lines r) _ _ (texts_of-more xs ys rs)

module _ {A : Type 0} (answers : A → A → Query → Answer → Type 0) where
  pub AnswersEach-append : (a b c : A) (es fs : List Query) (rs ss : List Answer) → AnswersEach answers a es rs b → AnswersEach answers b fs ss c
      → AnswersEach answers a (es ++ fs) (rs ++ ss) c
  AnswersEach-append a b c [] fs [] ss h k = rw h at k
  AnswersEach-append a b c [] fs (r ∷ rs) ss h k = absurd h
  AnswersEach-append a b c (e ∷ es) fs [] ss h k = absurd h
  AnswersEach-append a b c (e ∷ es) fs (r ∷ rs) ss h k = (h.0, h.1, AnswersEach-append h.0 b c es fs rs ss h.2 k)

  -- if each event of the first part has its reply, the texts of two parts come one after the other
  texts_of-append : (a b : A) (xs ys : List (Result Query LineFault)) (rs ss : List Answer) → AnswersEach answers a (queries_of xs) rs b
      → texts_of (xs ++ ys) (rs ++ ss) ≡ texts_of xs rs ++ texts_of ys ss
  texts_of-append a b [] ys [] ss h = refl
  texts_of-append a b [] ys (r ∷ rs) ss h = absurd h
  texts_of-append a b (Err fault ∷ xs) ys rs ss h = search (arith, texts_of-append a b xs ys rs ss h, append_assoc)
  texts_of-append a b (Ok event ∷ xs) ys [] ss h = absurd h
  texts_of-append a b (Ok event ∷ xs) ys (r ∷ rs) ss h = search (arith, texts_of-append h.0 b xs ys rs ss h.2, append_assoc)

  -- ---- one part after the other

  -- no text at all is a first part of any text
  some-none : (asked : List (Result Query LineFault)) (a : A) (w : Option (List ℕ)) → AnswersSome answers asked a a w w
  some-none asked a w = ([], [], [], IsBeginning-none (queries_of asked), refl, IsBeginning-none (texts_of asked []), Appends-none w)

  pub some-from_all : (asked : List (Result Query LineFault)) (a b : A) (w v : Option (List ℕ)) → AnswersAll answers asked a b w v → AnswersSome answers asked a b w v
  some-from_all asked a b w v h = search (arith, IsBeginning-all)

  all-append : (a b c : A) (xs ys : List (Result Query LineFault)) (w v u : Option (List ℕ)) → AnswersAll answers xs a b w v → AnswersAll answers ys b c v u
      → AnswersAll answers (xs ++ ys) a c w u
  all-append a b c xs ys w v u h k = (
    h.0 ++ k.0,
    subst (λ es. AnswersEach answers a es (h.0 ++ k.0) c) (sym (queries_of-append xs ys)) (AnswersEach-append a b c (queries_of xs) (queries_of ys) h.0 k.0 h.1 k.1),
    subst (λ t. Appends w u t) (sym (texts_of-append a b xs ys h.0 k.0 h.1)) (Appends-append w v u _ _ h.2 k.2),
  )

  -- all of the first part, and a beginning of the second
  some-append : (a b c : A) (xs ys : List (Result Query LineFault)) (w v u : Option (List ℕ)) → AnswersAll answers xs a b w v → AnswersSome answers ys b c v u
      → AnswersSome answers (xs ++ ys) a c w u
  some-append a b c xs ys w v u h k =
      let (queries, given, out, begins, each, beginning, appends) = k in (
        queries_of xs ++ queries,
        h.0 ++ given,
        texts_of xs h.0 ++ out,
        subst (λ es. IsBeginning (queries_of xs ++ queries) es) (sym (queries_of-append xs ys)) (IsBeginning-behind (queries_of xs) queries (queries_of ys) begins),
        AnswersEach-append a b c (queries_of xs) queries h.0 given h.1 each,
        subst (λ t. IsBeginning (texts_of xs h.0 ++ out) t) (sym (texts_of-append a b xs ys h.0 given h.1)) (IsBeginning-behind (texts_of xs h.0) out (texts_of ys given) beginning),
        Appends-append w v u _ _ h.2 appends,
      )

  -- a beginning of the first part is one of both
  some-more : (a b : A) (xs ys : List (Result Query LineFault)) (w v : Option (List ℕ)) → AnswersSome answers xs a b w v → AnswersSome answers (xs ++ ys) a b w v
  some-more a b xs ys w v k =
      let (queries, given, out, begins, each, beginning, appends) = k in (
        queries,
        given,
        out,
        subst (λ es. IsBeginning queries es) (sym (queries_of-append xs ys)) (IsBeginning-more queries (queries_of xs) (queries_of ys) begins),
        each,
        IsBeginning-trans out (texts_of xs given) (texts_of (xs ++ ys) given) beginning (texts_of-more xs ys given),
        appends,
      )

  -- ---- bytes

  pub all-bytes : (n : ℕ) (p xs ys : List ℕ) (a b c : A) (w v u : Option (List ℕ)) → AnswersAll answers (asks n (lines_after p xs)) a b w v
      → AnswersAll answers (asks n (lines_after (rest_after p xs) ys)) b c v u → AnswersAll answers (asks n (lines_after p (xs ++ ys))) a c w u
  all-bytes n p xs ys a b c w v u h k = subst (λ q. AnswersAll answers q a c w u) (sym (asks_after-append n p xs ys)) (all-append a b c _ _ w v u h k)

  pub some-bytes : (n : ℕ) (p xs ys : List ℕ) (a b c : A) (w v u : Option (List ℕ)) → AnswersAll answers (asks n (lines_after p xs)) a b w v
      → AnswersSome answers (asks n (lines_after (rest_after p xs) ys)) b c v u → AnswersSome answers (asks n (lines_after p (xs ++ ys))) a c w u
  some-bytes n p xs ys a b c w v u h k = subst (λ q. AnswersSome answers q a c w u) (sym (asks_after-append n p xs ys)) (some-append a b c _ _ w v u h k)

  some-front : (n : ℕ) (p xs ys : List ℕ) (a b : A) (w v : Option (List ℕ)) → AnswersSome answers (asks n (lines_after p xs)) a b w v
      → AnswersSome answers (asks n (lines_after p (xs ++ ys))) a b w v
  some-front n p xs ys a b w v h = subst (λ q. AnswersSome answers q a b w v) (sym (asks_after-append n p xs ys)) (some-more a b _ _ w v h)

  -- one part more of a slice
  pub all-part : (n : ℕ) (p bytes : List ℕ) (done count : ℕ) (a b c : A) (w v u : Option (List ℕ)) → AnswersAll answers (asks n (lines_after p (take done bytes))) a b w v
      → AnswersAll answers (asks n (lines_after (rest_after p (take done bytes)) (take count (drop done bytes)))) b c v u
      → AnswersAll answers (asks n (lines_after p (take (done + count) bytes))) a c w u
  all-part n p bytes done count a b c w v u h k =
      subst (λ xs. AnswersAll answers (asks n (lines_after p xs)) a c w u) (sym (take-add done count bytes)) (all-bytes n p (take done bytes) (take count (drop done bytes)) a b c w v u h k)

  -- a part of a slice, when the session ends in that part
  pub some-part : (n : ℕ) (p bytes : List ℕ) (done : ℕ) (a b c : A) (w v u : Option (List ℕ)) → AnswersAll answers (asks n (lines_after p (take done bytes))) a b w v
      → AnswersSome answers (asks n (lines_after (rest_after p (take done bytes)) (drop done bytes))) b c v u → AnswersSome answers (asks n (lines_after p bytes)) a c w u
  some-part n p bytes done a b c w v u h k =
      subst (λ xs. AnswersSome answers (asks n (lines_after p xs)) a c w u) (take-append-drop done bytes) (some-bytes n p (take done bytes) (drop done bytes) a b c w v u h k)

  -- all that a part asks is a beginning of what the whole asks
  pub some-taken : (n : ℕ) (p bytes : List ℕ) (count : ℕ) (a b : A) (w v : Option (List ℕ)) → AnswersAll answers (asks n (lines_after p (take count bytes))) a b w v
      → AnswersSome answers (asks n (lines_after p bytes)) a b w v
  some-taken n p bytes count a b w v h =
      subst (λ xs. AnswersSome answers (asks n (lines_after p xs)) a b w v) (take-append-drop count bytes) (search (arith, some-front, some-from_all))

  -- ---- a batch and what comes after it

  -- what was done of the first requests is done of all
  pub some-begun : (first asked : List (Result Query LineFault)) (a b : A) (w v : Option (List ℕ)) → IsBeginning first asked
      → AnswersSome answers first a b w v → AnswersSome answers asked a b w v
  some-begun first asked a b w v begins h = subst (λ q. AnswersSome answers q a b w v) begins.1 (some-more a b first begins.0 w v h)

  -- after the events comes the line that asks for none
  pub all-tail : (asked events : List (Result Query LineFault)) (tail : Tail) (a b : A) (text mid more : List ℕ) → asked ≡ events ++ tail_asked tail ∷ []
      → AnswersAll answers events a b (Some text) (Some mid) → AnswersAll answers (tail_asked tail ∷ []) b b (Some mid) (Some more)
      → AnswersAll answers asked a b (Some text) (Some more)
  all-tail asked events tail a b text mid more is h k = rw (← is) at (all-append a b b events (tail_asked tail ∷ []) (Some text) (Some mid) (Some more) h k)

  -- ---- what was gathered is written

  pub some-written : (asked : List (Result Query LineFault)) (a b : A) (start texts out : List ℕ) (w v : Option (List ℕ)) → start ≡ []
      → AnswersSome answers asked a b (Some start) (Some texts) → IsBeginning out texts → Appends w v out → AnswersSome answers asked a b w v
  some-written asked a b start texts out w v e h begins appends =
      let k = subst (λ s. AnswersSome answers asked a b (Some s) (Some texts)) e h in
      (k.0, k.1, out, k.3, k.4, IsBeginning-trans out k.2 (texts_of asked k.1) (subst (λ t. IsBeginning out t) k.6 begins) k.5, appends)

  -- ---- the end of a session

  pub Ends-cut : (end : SessionEnd) (n : ℕ) (old new : SessionState A) (read : List ℕ) → IsCut end → Consumes old.remaining new.remaining read
      → AnswersSome answers (asks n (lines_after [] read)) old.answerer new.answerer old.contents new.contents → Ends answers end n old new
  Ends-cut End n old new read cut h k = absurd cut
  Ends-cut ReadFault n old new read cut h k = absurd cut
  Ends-cut end n old new read cut h k = (read, h, k)

  pub Ends-unbegun : (n : ℕ) (state : SessionState A) → Ends answers NoMemory n state state
  Ends-unbegun n state = ([], Consumes-none state.remaining, some-none [] state.answerer state.contents)

-- ---- a batch of events

module _ {A : Type 0} (answers : A → A → Event → PlainReply → Type 0) (administers : A → Admin → AdminReply → Type 0) where
  -- replies to events are answers to queries
  pub each-queries : (a b : A) (es : List Event) (rs : List PlainReply) → AnswersEach answers a es rs b
      → AnswersEach (AnswersQuery answers administers) a (map does es) (map replies rs) b
  each-queries a b [] [] h = h
  each-queries a b [] (r ∷ rs) h = absurd h
  each-queries a b (e ∷ es) [] h = absurd h
  each-queries a b (e ∷ es) (r ∷ rs) h = (h.0, h.1, each-queries h.0 b es rs h.2)

  -- if each event has its reply, the texts are the replies as lines
  texts_of-valid : (a b : A) (es : List Event) (rs : List PlainReply) → AnswersEach answers a es rs b → texts_of (valid es) (map replies rs) ≡ flat_map line_of rs
  texts_of-valid a b [] [] h = refl
  texts_of-valid a b [] (r ∷ rs) h = absurd h
  texts_of-valid a b (e ∷ es) [] h = absurd h
  texts_of-valid a b (e ∷ es) (r ∷ rs) h = ap (λ l. line_of r ++ l) (texts_of-valid h.0 b es rs h.2)

  pub all-events : (a b : A) (es : List Event) (rs : List PlainReply) (text more : List ℕ) → AnswersEach answers a es rs b
      → more ≡ text ++ flat_map line_of rs → AnswersAll (AnswersQuery answers administers) (valid es) a b (Some text) (Some more)
  all-events a b es rs text more h e = search (arith, queries_of-valid, each-queries, texts_of-valid)

  -- the texts of the first replies are there
  pub some-events : (a b : A) (es : List Event) (rs : List PlainReply) (text more : List ℕ) → AnswersEach answers a es rs b
      → (out : List ℕ) × IsBeginning out (flat_map line_of rs) × (more ≡ text ++ out) → AnswersSome (AnswersQuery answers administers) (valid es) a b (Some text) (Some more)
  some-events a b es rs text more h cut = (
    map does es,
    map replies rs,
    cut.0,
    subst (λ l. IsBeginning (map does es) l) (sym (queries_of-valid es)) (IsBeginning-all (map does es)),
    each-queries a b es rs h,
    subst (λ l. IsBeginning cut.0 l) (sym (texts_of-valid a b es rs h)) cut.1,
    cut.2,
  )

  -- an admin command has its reply, and nothing changes
  pub all-admin : (a : A) (command : Admin) (reply : AdminReply) (text more : List ℕ) → administers a command reply → more ≡ text ++ answer_lines (says reply)
      → AnswersAll (AnswersQuery answers administers) (Ok (admin command) ∷ []) a a (Some text) (Some more)
  all-admin a command reply text more h e = (says reply ∷ [], (a, (h, refl), refl), e ∙ ap (λ l. text ++ l) (sym (append-nil (answer_lines (says reply)))))

-- if memory did not run out, a line was parsed as what it asks for
pub asked-event : (asked : Result Event LineFault) (event : Event) → Parses asked (Ok event) → Ok (does event) ≡ with_event asked
asked-event asked event (inl h) = ap with_event h
asked-event asked event (inr h) = absurd (cc)

-- a line without an admin command asks for its event
pub query-event : (v : ℕ) (line : List ℕ) (query : Result Query LineFault) → admin_of line ≡ None → query ≡ with_event (asked_by v line) → query ≡ query_by v line
query-event v line query none is = is ∙ ap (λ o. query_with o (asked_by v line)) (sym none)

-- ---- results

pub on-err : {T E P : Type 0} (r : Result T E) → P → OnErr r P
on-err (Ok x) p = tt
on-err (Err e) p = p

-- what follows both from what is true on Ok and from what is true on Err
pub if-either : {T E Q : Type 0} {P : T → Type 0} (r : Result T E) → ((x : T) → P x → Q) → IfOk r P → OnErr r Q → Q
if-either (Ok x) f p q = f x p
if-either (Err e) f p q = q

-- ---- writing in pieces

pub IsBeginning-take : (bytes : List ℕ) (done : ℕ) → IsBeginning (take done bytes) bytes
IsBeginning-take bytes done = (drop done bytes, take-append-drop done bytes)

-- what is written of the rest
rest-is : (bytes : List ℕ) (done : ℕ) → take (length bytes - done) (drop done bytes) ≡ drop done bytes
rest-is bytes done = take_all (length bytes - done) (drop done bytes) (subst (λ n. n ≤ length bytes - done) (sym (length-drop done bytes)) (omega arith))

pub Appends-piece : (bytes : List ℕ) (done count : ℕ) (w v u : Option (List ℕ)) → Appends w v (take done bytes) → Appends v u (take count (take (length bytes - done) (drop done bytes)))
    → Appends w u (take (done + count) bytes)
Appends-piece bytes done count w v u h k =
    subst (λ t. Appends w u t) (sym (take-add done count bytes)) (Appends-append w v u _ _ h (subst (λ t. Appends v u (take count t)) (rest-is bytes done) k))

pub within-piece : (bytes : List ℕ) (done count : ℕ) → done ≤ length bytes → count ≤ length (take (length bytes - done) (drop done bytes)) → done + count ≤ length bytes
within-piece bytes done count h k = search (arith, length-drop, rest-is)

pub wrote-piece : (bytes : List ℕ) (done count : ℕ) (w v u : Option (List ℕ)) → Appends w v (take done bytes) → Appends v u (take count (take (length bytes - done) (drop done bytes)))
    → (out : List ℕ) × IsBeginning out bytes × Appends w u out
wrote-piece bytes done count w v u h k = (take (done + count) bytes, IsBeginning-take bytes (done + count), Appends-piece bytes done count w v u h k)

pub wrote-front : (bytes : List ℕ) (done : ℕ) (w v u : Option (List ℕ)) → Appends w v (take done bytes) → Keeps v u
    → (out : List ℕ) × IsBeginning out bytes × Appends w u out
wrote-front bytes done w v u h k = (take done bytes, IsBeginning-take bytes done, Appends-keeps w v u _ h k)

-- what is pending after one part more of a slice
pub rest_after-part : (p bytes : List ℕ) (done count : ℕ) → rest_after p (take (done + count) bytes) ≡ rest_after (rest_after p (take done bytes)) (take count (drop done bytes))
rest_after-part p bytes done count = ap (λ xs. rest_after p xs) (take-add done count bytes) ∙ rest_after-append p (take done bytes) (take count (drop done bytes))

-- what is pending after one part more, if these bytes are the rest
pub holds-part : (pending : LineBuffer) (p bytes rest : List ℕ) (done count : ℕ) → rest ≡ drop done bytes
    → HoldsBytes pending (rest_after (rest_after p (take done bytes)) (take count rest)) → HoldsBytes pending (rest_after p (take (done + count) bytes))
holds-part pending p bytes rest done count is h = search (arith, rest_after-part)
