-- One event more of a session that asks several at once.
use Rattle.silt_session.proofs.Common.{rules, ◌≡◌, ◌⊎◌, inl, inr, ℕ, ◌+◌, ◌≤◌, Bool, false, List, [], ◌∷◌, ◌++◌, append_assoc, length, map, refl, sym, ◌∙◌, ap, arith, suc, IfOk, true}
use Rattle.silt_session.proofs.Common.{vec_capacity, vec_len, All, IfSome, MatchOption, Option, Some, None, Result, Ok, Err, AllZip, result_ok, deque_capacity, deque_len, cases_Bool, same_Some}
use Rattle.silt_session.proofs.Common.{append-nil, AllZip-long, Ghosts, PlainReply, Event, Refused, CoreState, TaskState, asked_event, requests_of, IsToldBetween, IsToldMore, PassesOn, ToldState}
use Rattle.silt_session.proofs.Common.{own_reply, Request, IsTrue, OnOk, if◌then◌else◌, not, ◌&&◌, nat_le, leb-true, IfSome_then, length-append, length-map, map-append, Step, plain, Accepted}
use Rattle.silt_session.proofs.Common.{Acknowledged, NotServed, Does, IsNoRequest, changed_key, AreInOrder, AreToldBetween, All-append, Key, get_reply, AnswersSoFar, AwaitsFlush, Fills, FillsAll}
use Rattle.silt_session.proofs.Common.{FillsOne, GathersTask, HasRoom, IsFlushedBy, IsFree, IsNoGetOf, IsPlaceOf, IsSettled, IsShown, IsTaskOf, Looks, MarksToo, MaySettle, MovesPlaces}
use Rattle.silt_session.proofs.Common.{NoneOvertakes, NothingWaits, SettlesAll, SettlesEach, SettlesShown, flush_if, given_after, reply_without_tasks, shown_of, waiting_events, IsAnswer, IsKept}
use Rattle.silt_session.proofs.Common.{IsReplyOf, IsToldTo, Pipeline, Place, Shown}
use Rattle.silt_event.specs.Commands.{Map}
use Rattle.silt_event.specs.declared.refusal.Refusal.TheVariants.{NoMemory}
use Rattle.silt_engine.specs.Lookup.{changes_key}
use Rattle.silt_store_set.specs.declared.store_core.Look.{Look}
use Rattle.silt_desk.specs.declared.trace.Trace.{Ghosts as TraceOf}
use Rattle.silt_session.specs.Marks.{IsMarked, mark_of}
use Rattle.silt_session.proofs.Tolds.{answers_more, more_both, more_passed, order_append, order_one, order_shown, order_cons, order_none, order_same, order_stays}
use Rattle.silt_session.specs.declared.job.Request.TheVariants.{Put, Flush}
use Rattle.silt_session.specs.declared.key_marks.KeyMarks.{KeyMarks}
use Rattle.silt_session.specs.declared.place.Place.TheVariants.{Shows, Waits}
use Rattle.silt_session.proofs.Lists.{zip_append}
use Rattle.silt_event.specs.declared.event.Event.TheVariants as event

-- two lists with one item behind each are the same, and so are these items
last_same : {X : Type 0} (xs ys : List X) (x y : X) → xs ++ x ∷ [] ≡ ys ++ y ∷ [] → (xs ≡ ys) × (x ≡ y)
last_same [] [] x y is = (refl, let same : x ≡ y = cc in same)
last_same (a ∷ xs) (b ∷ ys) x y is =
    let heads : a ≡ b = cc in
    let rest = last_same xs ys x y (let tails : xs ++ x ∷ [] ≡ ys ++ y ∷ [] = cc in tails) in (cc (heads, rest.0), rest.1)
last_same [] (b ∷ ys) x y is = absurd (let len = ap length is in omega (arith, len, length-append ys (y ∷ [])))
last_same (a ∷ xs) [] x y is = absurd (let len = ap length is in omega (arith, len, length-append xs (x ∷ [])))

not_false : (b : Bool) → not b ≡ false → b ≡ true
not_false true is = refl
not_false false is = absurd (cc)

module _ {D F T : Type 0} (facts : Ghosts D F) (trace : TraceOf T) (told : ToldState) where
  -- a task's own reply comes from its request
  reply_comes : (task : TaskState) (request : Request) (reply : PlainReply) → task.request ≡ request → IsReplyOf facts trace told task reply → IsToldTo facts trace told request reply
  reply_comes task request reply its has = rw its at has.1

  -- a task's reply stays one when its command has taken its place
  pub reply_passes : (new : ToldState) → PassesOn told new → (task : TaskState) (tasks : List TaskState) (found : Option PlainReply)
      → tasks ≡ task ∷ [] → IfSome found (IsReplyOf facts trace told task)
      → IfSome found (λ reply. (t : TaskState) × (tasks ≡ t ∷ []) × IsReplyOf facts trace new t reply)
  reply_passes new passed task tasks found alone has = IfSome_then found has (λ reply its. (task, alone, rw passed.same its))

  -- the reply of a task that came back alone comes from its request
  pub alone_comes : {E : Type 0} (request : Request) (sent tasks : List TaskState) (found : Option PlainReply) (given : Result PlainReply E)
      → requests_of sent ≡ request ∷ [] → requests_of tasks ≡ requests_of sent → found ≡ result_ok given
      → IfSome found (λ reply. (task : TaskState) × (tasks ≡ task ∷ []) × IsReplyOf facts trace told task reply) → IfOk given (IsToldTo facts trace told request)
  alone_comes request sent tasks found (Ok reply) one same is all =
      let (task, alone, has) = rw is at all in
      let asked : task.request ≡ request = cc in reply_comes task request reply asked has
  alone_comes request sent tasks found (Err e) one same is all = tt

-- the command of a task that came back alone is in order
pub task_order : (old new : ToldState) → old.from ≤ old.next → PassesOn old new → (task : TaskState) (tasks : List TaskState) (found : Option PlainReply)
    → tasks ≡ task ∷ [] → IfSome found (λ reply. IsToldBetween old old.next (asked_event task.request) reply new.next)
    → IfSome found (λ reply. (t : TaskState) × (tasks ≡ t ∷ []) × AreInOrder new (asked_event t.request ∷ []) (reply ∷ []))
task_order old new le passed task tasks None alone takes = tt
task_order old new le passed task tasks (Some reply) alone takes = (task, alone, order_one old new le passed (asked_event task.request) reply takes)

-- and so is that of the request that was asked
pub alone_order : {E : Type 0} (told : ToldState) (request : Request) (sent tasks : List TaskState) (found : Option PlainReply) (given : Result PlainReply E)
    → requests_of sent ≡ request ∷ [] → requests_of tasks ≡ requests_of sent → found ≡ result_ok given
    → IfSome found (λ reply. (task : TaskState) × (tasks ≡ task ∷ []) × AreInOrder told (asked_event task.request ∷ []) (reply ∷ []))
    → IfOk given (λ reply. AreInOrder told (asked_event request ∷ []) (reply ∷ []))
alone_order told request sent tasks found (Ok reply) one same is all =
    let (task, alone, has) = rw is at all in
    let asked : task.request ≡ request = cc in rw asked at has
alone_order told request sent tasks found (Err e) one same is all = tt

pub shown_order : {E : Type 0} (told : ToldState) (e : Event) (given : Result PlainReply E) → told.from ≤ told.next → IsNoRequest e
    → IfOk given (λ reply. AreInOrder told (e ∷ []) (reply ∷ []))
shown_order told e (Ok reply) le is = order_shown told le e is reply
shown_order told e (Err lack) le is = tt

-- ---- looks

module _ {D F : Type 0} (facts : Ghosts D F) (settles : Bool) where
  -- what is found in the base, without its fault
  kept_plain : (base : Map) (key : Key) (out : List ℕ) (found : Bool) → Step {F = F} base (event.Get key) (get_reply out (Ok found)) base
      → Step base (event.Get key) (get_reply {F = Unit {0}} out (Ok found)) base
  kept_plain base key out true step = step
  kept_plain base key out false step = step

  found_plain : (out : List ℕ) (found : Bool) → get_reply {F = Unit {0}} out (Ok found) ≡ plain (get_reply {F = F} out (Ok found))
  found_plain out true = refl
  found_plain out false = refl

  -- whether a look waits for a flush, by cases
  awaits : (core : CoreState D) (key : Key) (out : List ℕ) (look : Look) → look.count ≡ core.count
      → (IsTrue (facts.content core.disk).honest → look.is_settled ≡ not (changes_key core.waiting key.0))
      → (IsTrue (facts.content core.disk).honest → look.is_settled ≡ true → Step core.base (event.Get key) (get_reply {F = F} out (Ok look.found)) core.base)
      → (s : Bool) → settles ≡ s → (d : Bool) → look.is_settled ≡ d
      → MatchOption (if s && not d then Some look.count else None) (settles ≡ true → IsKept facts core key (get_reply out (Ok look.found))) (AwaitsFlush facts settles core key)
  awaits core key out look counts settled kept false is d at = λ yes_settles. absurd (let no_settles : false ≡ true = sym is ∙ yes_settles in cc)
  awaits core key out look counts settled kept true is true at = λ yes_settles honest. kept_plain core.base key out look.found (kept honest at)
  awaits core key out look counts settled kept true is false at = (is, counts, λ honest. not_false _ (sym (settled honest) ∙ at))

  -- what a look found is shown, or waits for a flush
  pub look_shows : (core : CoreState D) (key : Key) (out : List ℕ) (look : Look) → Does facts core core (event.Get key) (get_reply out (Ok look.found)) → look.count ≡ core.count
      → (IsTrue (facts.content core.disk).honest → look.is_settled ≡ not (changes_key core.waiting key.0))
      → (IsTrue (facts.content core.disk).honest → look.is_settled ≡ true → Step core.base (event.Get key) (get_reply {F = F} out (Ok look.found)) core.base)
      → Looks facts settles key (shown_of settles out look)
  look_shows core key out look does counts settled kept = (
    core,
    (get_reply out (Ok look.found), does, found_plain out look.found),
    awaits core key out look counts settled kept settles refl look.is_settled refl,
  )

-- ---- places that have their replies

module _ {D F T : Type 0} (facts : Ghosts D F) (trace : TraceOf T) (told : ToldState) where
  -- one place more
  pub fills_more : (flushed : Option PlainReply) (next at after : ℕ) (tasks mid left : List TaskState) (places : List Place) (replies : List PlainReply) (place : Place) (reply : PlainReply)
      → Fills facts trace told flushed next tasks places replies at mid → FillsOne facts trace told flushed at mid place reply after left
      → Fills facts trace told flushed next tasks (places ++ place ∷ []) (replies ++ reply ∷ []) after left
  fills_more flushed next at after tasks mid left [] [] place reply all one = (left, after, rw (all.0, all.1) at one, (refl, refl))
  fills_more flushed next at after tasks mid left (p ∷ places) (r ∷ replies) place reply all one =
      (all.0, all.1, all.2, fills_more flushed all.1 at after all.0 mid left places replies place reply all.3 one)
  fills_more flushed next at after tasks mid left places replies place reply all one = absurd all

module _ {D F T : Type 0} (facts : Ghosts D F) (trace : TraceOf T) (told : ToldState) where
  -- the tasks give the places their replies
  fills_settle : (flushed : Option PlainReply) → IsFlushedBy facts trace told flushed → (next after : ℕ) (tasks : List TaskState) (places : List Place) (replies : List PlainReply)
      → Fills facts trace told flushed next tasks places replies after [] → SettlesEach facts trace told next places (requests_of tasks) replies after
  fills_settle flushed came next after tasks [] [] fills = rw (← fills.0) fills.1
  fills_settle flushed came next after tasks (Shows shown ∷ places) (reply ∷ replies) (mid, at, one, rest) =
      rw (← one.1) (inr (flushed, came, one.0), rw one.2 at (fills_settle flushed came at after mid places replies rest))
  fills_settle flushed came next after tasks (Waits ∷ places) (reply ∷ replies) (mid, at, (task, first, has, takes), rest) =
      rw first (at, has.1, takes, fills_settle flushed came at after mid places replies rest)
  fills_settle flushed came next after tasks places replies fills = absurd fills

  -- the tasks that came back give the places their replies
  pub all_settle : (has_flush : Bool) (next after : ℕ) (tasks : List TaskState) (requests : List Request) → requests_of tasks ≡ requests ++ flush_if has_flush
      → (places : List Place) (replies : List PlainReply) → FillsAll facts trace told has_flush next tasks places replies after → SettlesEach facts trace told next places requests replies after
  all_settle true next after tasks requests same places replies (left, flushed, (task, is, has), fills) =
      let both = last_same (requests_of left) requests task.request Flush (sym (map-append (λ (t : TaskState). t.request) left (task ∷ [])) ∙ ap requests_of (sym is) ∙ same) in
      rw both.0 at (fills_settle (Some flushed) (reply_comes facts trace told task Flush flushed both.1 has) next after left places replies fills)
  all_settle false next after tasks requests same places replies fills =
      rw (same, append-nil requests) at (fills_settle None tt next after tasks places replies fills)

  -- each place has one reply
  each_long : (next after : ℕ) (places : List Place) (requests : List Request) (replies : List PlainReply)
      → SettlesEach facts trace told next places requests replies after → length replies ≡ length places
  each_long next after [] [] [] fits = refl
  each_long next after (Shows shown ∷ places) requests (reply ∷ replies) fits = ap suc (each_long next after places requests replies fits.1)
  each_long next after (Waits ∷ places) (request ∷ requests) (reply ∷ replies) fits = ap suc (each_long fits.0 after places requests replies fits.3)
  each_long next after places requests replies fits = absurd fits

  pub given_long : (memory : Bool) (next after : ℕ) (places : List Place) (requests : List Request) (given : List PlainReply)
      → (given ≡ map reply_without_tasks places) ⊎ ((memory ≡ false) × SettlesEach facts trace told next places requests given after) → length given ≡ length places
  given_long memory next after places requests given (inl none) = ap length none ∙ length-map places reply_without_tasks
  given_long memory next after places requests given (inr fits) = each_long next after places requests given fits.1

  module _ (settles : Bool) where
    -- a look that waits for no flush
    looked_now : (key : Key) (shown reply : PlainReply) → reply ≡ shown → Looks facts settles key (record { reply = shown; until = None }) → IsAnswer facts trace told settles (event.Get key) reply
    looked_now key shown reply is (core, gets, kept) = rw is (inr (inl (core, gets, λ yes_settles. inl (kept yes_settles))))

    -- a look that waits for a flush, by the reply to that
    looked_until : (key : Key) (count : ℕ) (shown reply : PlainReply) (flushed : Option PlainReply) → Looks facts settles key (record { reply = shown; until = Some count })
        → IsFlushedBy facts trace told flushed → given_after (Some count) flushed shown ≡ Some reply → IsAnswer facts trace told settles (event.Get key) reply
    looked_until key count shown reply None looks came is = absurd (cc)
    looked_until key count shown reply (Some (Acknowledged n)) (core, gets, waits) came is = elim (cases_Bool (nat_le count n)) [
      | inl enough ↦
          let its : reply ≡ shown = cc in rw its (inr (inl (core, gets, λ yes_settles. inr (n, came, rw waits.1 at (leb-true count n enough)))))
      | inr few ↦ absurd (cc)
    ]
    looked_until key count shown reply (Some (Refused refusal)) (core, gets, waits) came is =
        let its : reply ≡ Refused refusal = cc in rw its (inr (inr (waits.0, (refusal, refl), came)))
    looked_until key count shown reply (Some (Accepted n)) looks came is = absurd (cc)
    looked_until key count shown reply it looks came is = absurd (cc)

    -- a look has its reply
    looked : (key : Key) (until : Option ℕ) (shown reply : PlainReply) → Looks facts settles key (record { reply = shown; until = until })
        → SettlesShown facts trace told (record { reply = shown; until = until }) reply → IsAnswer facts trace told settles (event.Get key) reply
    looked key None shown reply looks (inl is) = looked_now key shown reply is looks
    looked key None shown reply looks (inr (flushed, came, is)) = looked_now key shown reply (cc) looks
    looked key (Some count) shown reply looks (inl is) = inl is
    looked key (Some count) shown reply looks (inr (flushed, came, is)) = looked_until key count shown reply flushed looks came is

    -- a reply that waits for nothing is given
    given_now : (shown : Shown) (reply due : PlainReply) → shown.reply ≡ due → shown.until ≡ None → SettlesShown facts trace told shown reply → reply ≡ due
    given_now shown reply due is none settled = elim (rw none at settled) [
      | inl its ↦ its ∙ is
      | inr (flushed, came, its) ↦ same_Some reply due (sym its ∙ ap Some is)
    ]

    -- what is shown has its reply
    pub shown_answers : (e : Event) (shown : Shown) (reply : PlainReply) → IsShown facts settles e shown → SettlesShown facts trace told shown reply → IsAnswer facts trace told settles e reply
    shown_answers (event.Get key) shown reply (inl (is, none)) settled = inl (given_now shown reply (Refused NoMemory) is none settled)
    shown_answers (event.Get key) shown reply (inr looks) settled = looked key shown.until shown.reply reply looks settled
    shown_answers event.Convert shown reply (is, none) settled = given_now shown reply NotServed is none settled
    shown_answers event.Merge shown reply (is, none) settled = given_now shown reply NotServed is none settled
    shown_answers (event.Put key value) shown reply is settled = absurd is
    shown_answers event shown reply is settled = absurd is

    -- the reply of a request's task is one to its event
    request_answers : (request : Request) (reply : PlainReply) → IsToldTo facts trace told request reply → IsAnswer facts trace told settles (asked_event request) reply
    request_answers (Put key value) reply came = inr (Put key value, refl, came)
    request_answers request reply came = inr (request, refl, came)

    -- out of memory for a request
    request_refused : (request : Request) → IsAnswer facts trace told settles (asked_event request) (Refused NoMemory)
    request_refused (Put key value) = inl refl
    request_refused event = inl refl

    -- a reply that came back to a request is one to its event
    pub requested_answers : {E : Type 0} (request : Request) (e : Event) (result : Result PlainReply E) → asked_event request ≡ e
        → IfOk result (IsToldTo facts trace told request) → IfOk result (IsAnswer facts trace told settles e)
    requested_answers request e (Ok reply) is came = rw is at (request_answers request reply came)
    requested_answers request e (Err lack) is came = tt

    -- what is shown and then given is a reply to the event
    pub given_answers : {E : Type 0} (e : Event) (shown : Shown) (result : Result PlainReply E) → IsShown facts settles e shown
        → IfOk result (SettlesShown facts trace told shown) → IfOk result (IsAnswer facts trace told settles e)
    given_answers e shown (Ok reply) is settled = shown_answers e shown reply is settled
    given_answers e shown (Err lack) is settled = tt

    -- events have the replies at their places
    places_answer : (next after : ℕ) (marks : KeyMarks) (events : List Event) (places : List Place) (tasks : List TaskState) (replies : List PlainReply)
        → AllZip (IsPlaceOf facts settles marks) events places → AllZip IsTaskOf (waiting_events events places) tasks
        → SettlesEach facts trace told next places (requests_of tasks) replies after → AllZip (IsAnswer facts trace told settles) events replies
    places_answer next after marks [] [] [] [] are wait settled = tt
    places_answer next after marks (e ∷ events) (Shows shown ∷ places) tasks (reply ∷ replies) are wait settled =
        (shown_answers e shown reply are.0 settled.0, places_answer next after marks events places tasks replies are.1 wait settled.1)
    places_answer next after marks (e ∷ events) (Waits ∷ places) (task ∷ tasks) (reply ∷ replies) are ((request, asks, fresh), wait) settled =
        (rw asks at (request_answers request reply (rw fresh.0 at settled.1)), places_answer settled.0 after marks events places tasks replies are.1 wait settled.3)
    places_answer next after marks events places tasks replies are wait settled = search rules

    -- out of memory for the tasks
    refused_answer : (marks : KeyMarks) (events : List Event) (places : List Place) → AllZip (IsPlaceOf facts settles marks) events places
        → AllZip (IsAnswer facts trace told settles) events (map reply_without_tasks places)
    refused_answer marks [] [] are = tt
    refused_answer marks (e ∷ events) (Shows shown ∷ places) are =
        (shown_answers e shown (reply_without_tasks (Shows shown)) are.0 (inl refl), refused_answer marks events places are.1)
    refused_answer marks (e ∷ events) (Waits ∷ places) are = (rw are.0.0.1 at (request_refused are.0.0.0), refused_answer marks events places are.1)
    refused_answer marks events places are = absurd are

    -- what is not for the writer has no call of its own
    own_none : (e : Event) (shown : Shown) (reply : PlainReply) → IsShown facts settles e shown → own_reply e reply ≡ None
    own_none e shown reply is = grind arith

    -- nor has what is out of memory
    refused_none : (e : Event) → own_reply e (Refused NoMemory) ≡ None
    refused_none (event.Get key) = refl
    refused_none event = refl

    -- events have the replies at their places in order
    places_order : (next after : ℕ) (marks : KeyMarks) (events : List Event) (places : List Place) (tasks : List TaskState) (replies : List PlainReply)
        → AllZip (IsPlaceOf facts settles marks) events places → AllZip IsTaskOf (waiting_events events places) tasks
        → SettlesEach facts trace told next places (requests_of tasks) replies after → AreToldBetween told next events replies after
    places_order next after marks [] [] [] [] are wait settled = order_none told next after (omega (arith, settled))
    places_order next after marks (e ∷ events) (Shows shown ∷ places) tasks (reply ∷ replies) are wait settled =
        order_cons told next next after e reply events replies (order_same told next e reply (own_none e shown reply are.0))
        (places_order next after marks events places tasks replies are.1 wait settled.1)
    places_order next after marks (e ∷ events) (Waits ∷ places) (task ∷ tasks) (reply ∷ replies) are ((request, asks, fresh), wait) settled =
        order_cons told next settled.0 after e reply events replies (rw (fresh.0, asks) at settled.2)
        (places_order settled.0 after marks events places tasks replies are.1 wait settled.3)
    places_order next after marks events places tasks replies are wait settled = search rules

    -- out of memory for the tasks, no place is taken
    refused_order : (next after : ℕ) → next ≤ after → (marks : KeyMarks) (events : List Event) (places : List Place) → AllZip (IsPlaceOf facts settles marks) events places
        → AreToldBetween told next events (map reply_without_tasks places) after
    refused_order next after le marks [] [] are = order_none told next after le
    refused_order next after le marks (e ∷ events) (Shows shown ∷ places) are =
        order_cons told next next after e _ events _ (order_same told next e _ (own_none e shown _ are.0)) (refused_order next after le marks events places are.1)
    refused_order next after le marks (e ∷ events) (Waits ∷ places) are =
        order_cons told next next after e _ events _ (order_same told next e (Refused NoMemory) (refused_none e)) (refused_order next after le marks events places are.1)
    refused_order next after le marks events places are = absurd are

-- ---- what settling does

-- nothing waits still if only places moved
nothing_moved : {D T F : Type 0} (mid new : Pipeline D T F) → NothingWaits mid → MovesPlaces mid new → NothingWaits new
nothing_moved mid new none moved = rw moved.same (record { tasks = none.tasks; memory = none.memory; flush = none.flush; marks = none.marks })

-- nothing waits still if more was told
pub told_none : {D T F : Type 0} (old new : Pipeline D T F) → new ≡ record old { told = new.told } → NothingWaits old → NothingWaits new
told_none old new same none = rw same (record { tasks = none.tasks; memory = none.memory; flush = none.flush; marks = none.marks })

module _ {D F T : Type 0} (facts : Ghosts D F) (trace : TraceOf T) (old mid new : Pipeline D T F) (none : NothingWaits mid)
    (same : (mid.replies ≡ old.replies) × (mid.places ≡ old.places)) (more : IsToldMore old.told mid.told) (stays : mid.told.next ≡ old.told.next) where
  moved_settles : (given : List PlainReply) → new.replies.items ≡ mid.replies.items ++ given
      → (given ≡ map reply_without_tasks mid.places.items)
      ⊎ ((old.lacks_memory ≡ false) × SettlesEach facts trace mid.told mid.told.next mid.places.items (requests_of old.tasks.items) given new.told.next)
      → MovesPlaces mid new → SettlesAll facts trace old new
  moved_settles given items fits moved = record {
    given = given;
    replies = rw (items, same.0);
    fits = rw (moved.told.same, ← stays, ← same.1) fits;
    told = more_both old.told mid.told new.told more (more_passed mid.told new.told moved.told);
    settled = (moved.places, nothing_moved mid new none moved);
    replies_room = moved.replies_room ∙ ap vec_capacity same.0;
    places_room = moved.places_room ∙ ap deque_capacity same.1;
  }

  -- the tasks came back
  pub filled_settles : {X E : Type 0} (result : Result X E) (has_flush : Bool) (tasks : List TaskState)
      → (old.lacks_memory ≡ false) × (requests_of tasks ≡ requests_of old.tasks.items ++ flush_if has_flush)
      → OnOk result ((given : List PlainReply) × (new.replies.items ≡ mid.replies.items ++ given) × FillsAll facts trace mid.told has_flush mid.told.next tasks mid.places.items given new.told.next)
      → OnOk result (MovesPlaces mid new) → OnOk result (SettlesAll facts trace old new)
  filled_settles (Ok x) has_flush tasks asked filled moved =
      moved_settles filled.0 filled.1
      (inr (asked.0, all_settle facts trace mid.told has_flush mid.told.next new.told.next tasks (requests_of old.tasks.items) asked.1 mid.places.items filled.0 filled.2)) moved
  filled_settles (Err e) has_flush tasks asked filled moved = tt

  -- out of memory for the tasks
  pub refused_settles : new.replies.items ≡ mid.replies.items ++ map reply_without_tasks mid.places.items → MovesPlaces mid new → SettlesAll facts trace old new
  refused_settles items moved = moved_settles (map reply_without_tasks mid.places.items) items (inl refl) moved

-- ---- the places of a pipeline

-- a mark that was set is set
marks_more : (old new : KeyMarks) (key : Option Key) → MarksToo old key new → (e : Event) → IfSome (changed_key e) (λ k. IsMarked old (mark_of k))
    → IfSome (changed_key e) (λ k. IsMarked new (mark_of k))
marks_more old new key more e marked = IfSome_then (changed_key e) marked (λ k was. (more (mark_of k)).1 (inl was))

-- the key of an event is marked
marks_its : (old new : KeyMarks) (key : Option Key) → MarksToo old key new → IfSome key (λ k. IsMarked new (mark_of k))
marks_its old new None more = tt
marks_its old new (Some k) more = (more (mark_of k)).1 (inr refl)

-- a request's event is no get
no_get : (request : Request) (key : Option Key) → IsNoGetOf key (asked_event request)
no_get request None = tt
no_get (Put k value) (Some key) = tt
no_get request (Some key) = tt

-- an event that is free is no get of a key that is marked
free_get : (marks : KeyMarks) (e : Event) → IsFree marks e → (key : Option Key) → IfSome key (λ k. IsMarked marks (mark_of k)) → IsNoGetOf key e
free_get marks e free None marked = tt
free_get marks (event.Get other) free (Some key) marked = λ is. free (rw is marked)
free_get marks event free (Some key) marked = tt

-- the events whose requests wait, with one more place
waiting_more : (events : List Event) (places : List Place) (e : Event) (place : Place) → length events ≡ length places
    → waiting_events (events ++ e ∷ []) (places ++ place ∷ []) ≡ waiting_events events places ++ waiting_events (e ∷ []) (place ∷ [])
waiting_more [] [] e place same = refl
waiting_more (x ∷ events) (Waits ∷ places) e place same = ap (λ (l : List Event). x ∷ l) (waiting_more events places e place (omega (arith, same)))
waiting_more (x ∷ events) (Shows shown ∷ places) e place same = waiting_more events places e place (omega (arith, same))
waiting_more events places e place same = absurd (omega (arith, same))

-- what holds of one item
one_all : {X : Type 0} (P : X → Type 0) (x : X) → P x → All P (x ∷ [])
one_all P x holds = search (rules, holds)

-- nothing waits, so there is no task
none_wait : {D T F : Type 0} (pipeline : Pipeline D T F) → IsSettled pipeline → AllZip IsTaskOf [] pipeline.tasks.items
none_wait pipeline settled = rw settled.1.tasks tt

module _ {D F : Type 0} (facts : Ghosts D F) (settles : Bool) where
  -- one event more overtakes no request
  overtakes_none : (marks : KeyMarks) (e : Event) (place : Place) → ((key : Option Key) → IfSome key (λ k. IsMarked marks (mark_of k)) → IsNoGetOf key e)
      → (events : List Event) (places : List Place) → AllZip (IsPlaceOf facts settles marks) events places → NoneOvertakes events places
      → NoneOvertakes (events ++ e ∷ []) (places ++ place ∷ [])
  overtakes_none marks e (Shows shown) free [] [] are none = tt
  overtakes_none marks e Waits free [] [] are none = (search rules, tt)
  overtakes_none marks e place free (x ∷ events) (Shows shown ∷ places) are none = overtakes_none marks e place free events places are.1 none
  overtakes_none marks e place free (x ∷ events) (Waits ∷ places) are none = (
    All-append (IsNoGetOf (changed_key x)) events (e ∷ []) none.0 (one_all (IsNoGetOf (changed_key x)) e (free (changed_key x) are.0.1)),
    overtakes_none marks e place free events places are.1 none.1,
  )
  overtakes_none marks e place free events places are none = absurd are

  -- more marks leave a place as it is
  place_more : (old new : KeyMarks) (key : Option Key) → MarksToo old key new → (e : Event) (place : Place) → IsPlaceOf facts settles old e place → IsPlaceOf facts settles new e place
  place_more old new key more e (Shows shown) is = is
  place_more old new key more e Waits is = (is.0, marks_more old new key more e is.1)

  places_more : (old new : KeyMarks) (key : Option Key) → MarksToo old key new → (events : List Event) (places : List Place) → AllZip (IsPlaceOf facts settles old) events places
      → AllZip (IsPlaceOf facts settles new) events places
  places_more old new key more [] [] are = tt
  places_more old new key more (e ∷ events) (place ∷ places) are = (place_more old new key more e place are.0, places_more old new key more events places are.1)
  places_more old new key more events places are = absurd are

  module _ {T : Type 0} (trace : TraceOf T) where
    -- no event yet
    pub answers_none : (pipeline : Pipeline D T F) → IsSettled pipeline → pipeline.replies.items ≡ [] → pipeline.told.from ≤ pipeline.told.next → AnswersSoFar facts settles trace [] pipeline
    answers_none pipeline settled none order = record {
      done = [];
      later = [];
      whole = refl;
      replied = rw none tt;
      in_order = rw none (order_none pipeline.told pipeline.told.from pipeline.told.next order);
      placed = rw settled.0 tt;
      tasks = λ memory. none_wait pipeline settled;
      ordered = rw settled.0 tt;
    }

    -- a request more waits
    pub gathers_one : (events : List Event) (e : Event) (old new : Pipeline D T F) (request : Request) → asked_event request ≡ e → new.replies ≡ old.replies → new.told ≡ old.told
        → new.places.items ≡ old.places.items ++ Waits ∷ [] → MarksToo old.marks (changed_key (asked_event request)) new.marks
        → (new.lacks_memory ≡ false → GathersTask old new request) → AnswersSoFar facts settles trace events old → AnswersSoFar facts settles trace (events ++ e ∷ []) new
    gathers_one events e old new request is same told items more gathers so_far =
        let x = asked_event request in
        let len = AllZip-long (IsPlaceOf facts settles old.marks) so_far.later old.places.items so_far.placed in
        let placed = zip_append (IsPlaceOf facts settles new.marks) so_far.later old.places.items (x ∷ []) (Waits ∷ [])
        (places_more old.marks new.marks (changed_key x) more so_far.later old.places.items so_far.placed)
        (((request, refl), marks_its old.marks new.marks (changed_key x) more), tt) in
        rw (← is) (record {
          done = so_far.done;
          later = so_far.later ++ x ∷ [];
          whole = rw (so_far.whole, append_assoc so_far.done so_far.later (x ∷ []));
          replied = rw (told, same) so_far.replied;
          in_order = rw (told, same) so_far.in_order;
          placed = rw items placed;
          tasks = λ memory.
              let (had, (task, fresh, tasks)) = gathers memory in
              rw (items, waiting_more so_far.later old.places.items x Waits (sym len), tasks)
              (zip_append IsTaskOf (waiting_events so_far.later old.places.items) old.tasks.items (x ∷ []) (task ∷ []) (so_far.tasks had) ((request, refl, fresh), tt));
          ordered = rw items (overtakes_none old.marks x Waits (λ key marked. no_get request key) so_far.later old.places.items so_far.placed so_far.ordered);
        })

    -- an event more shows its reply
    pub shows_one : (events : List Event) (e : Event) (old new : Pipeline D T F) (shown : Shown) → IsFree old.marks e → IsShown facts settles e shown
        → new.places.items ≡ old.places.items ++ Shows shown ∷ [] → new.replies ≡ old.replies → new.told ≡ old.told → new.marks ≡ old.marks → new.tasks ≡ old.tasks
        → new.lacks_memory ≡ old.lacks_memory → AnswersSoFar facts settles trace events old → AnswersSoFar facts settles trace (events ++ e ∷ []) new
    shows_one events e old new shown free is items same told marks tasks memory so_far =
        let len = AllZip-long (IsPlaceOf facts settles old.marks) so_far.later old.places.items so_far.placed in
        record {
          done = so_far.done;
          later = so_far.later ++ e ∷ [];
          whole = rw (so_far.whole, append_assoc so_far.done so_far.later (e ∷ []));
          replied = rw (told, same) so_far.replied;
          in_order = rw (told, same) so_far.in_order;
          placed = rw (marks, items) (zip_append (IsPlaceOf facts settles old.marks) so_far.later old.places.items (e ∷ []) (Shows shown ∷ []) so_far.placed (is, tt));
          tasks = λ had. rw (items, waiting_more so_far.later old.places.items e (Shows shown) (sym len), append-nil, tasks) (so_far.tasks (sym memory ∙ had));
          ordered = rw items (overtakes_none old.marks e (Shows shown) (free_get old.marks e free) so_far.later old.places.items so_far.placed so_far.ordered);
        }

    -- each event so far has its reply
    pub settles_all : (events : List Event) (old new : Pipeline D T F) → SettlesAll facts trace old new → AnswersSoFar facts settles trace events old
        → AllZip (IsAnswer facts trace new.told settles) events new.replies.items
    settles_all events old new all so_far =
        let later : AllZip (IsAnswer facts trace new.told settles) so_far.later all.given = elim all.fits [
          | inl none ↦ rw none (refused_answer facts trace new.told settles old.marks so_far.later old.places.items so_far.placed)
          | inr fits ↦ places_answer facts trace new.told settles _ _ old.marks so_far.later old.places.items old.tasks.items all.given so_far.placed (so_far.tasks fits.0) fits.1
        ] in
        rw (so_far.whole, all.replies) (zip_append (IsAnswer facts trace new.told settles) so_far.done old.replies.items so_far.later all.given
        (answers_more facts trace settles old.told new.told all.told so_far.done old.replies.items so_far.replied) later)

    -- and their commands stand in order
    pub settles_order : (events : List Event) (old new : Pipeline D T F) → SettlesAll facts trace old new → AnswersSoFar facts settles trace events old
        → AreInOrder new.told events new.replies.items
    settles_order events old new all so_far =
        let later : AreToldBetween new.told old.told.next so_far.later all.given new.told.next = elim all.fits [
          | inl none ↦ rw none (refused_order facts trace new.told settles _ _ all.told.next old.marks so_far.later old.places.items so_far.placed)
          | inr fits ↦ places_order facts trace new.told settles _ _ old.marks so_far.later old.places.items old.tasks.items all.given so_far.placed (so_far.tasks fits.0) fits.1
        ] in
        let first = order_stays old.told new.told all.told old.told.from old.told.next so_far.done old.replies.items so_far.in_order in
        rw (all.told.from, so_far.whole, all.replies) (order_append new.told old.told.from old.told.next new.told.next so_far.done so_far.later old.replies.items all.given first later)

    -- what was settled, or not, is as before
    pub settles_some : (events : List Event) (old new : Pipeline D T F) → MaySettle facts trace old new → AnswersSoFar facts settles trace events old → AnswersSoFar facts settles trace events new
    settles_some events old new (inl same) so_far = rw same so_far
    settles_some events old new (inr all) so_far = record {
      done = events;
      later = [];
      whole = sym (append-nil events);
      replied = settles_all events old new all so_far;
      in_order = settles_order events old new all so_far;
      placed = rw all.settled.0 tt;
      tasks = λ memory. none_wait new all.settled;
      ordered = rw all.settled.0 tt;
    }

-- ---- room

-- a place takes the room of one event
pub room_placed : {D T F : Type 0} (old new : Pipeline D T F) (place : Place) (n : ℕ) → new.replies ≡ old.replies → new.places.items ≡ old.places.items ++ place ∷ []
    → deque_capacity new.places ≡ deque_capacity old.places → HasRoom old (n + 1) → HasRoom new n
room_placed old new place n same items capacity room =
    let count : deque_len new.places ≡ deque_len old.places + 1 =
    omega (arith, new.places.ok.0, ap length items, length-append old.places.items (place ∷ []), old.places.ok.0) in
    (omega (arith, room.0, count, ap vec_len same, ap vec_capacity same), omega (arith, room.1, count, capacity))

module _ {D F T : Type 0} (facts : Ghosts D F) (trace : TraceOf T) where
  -- what was waiting has its replies, and there is room for as many events as before
  room_settled : (old new : Pipeline D T F) (n : ℕ) → SettlesAll facts trace old new → HasRoom old n → HasRoom new n
  room_settled old new n all room =
      let given = given_long facts trace new.told old.lacks_memory old.told.next new.told.next old.places.items (requests_of old.tasks.items) all.given all.fits in
      let count : vec_len new.replies ≡ vec_len old.replies + deque_len old.places =
      omega (arith, new.replies.ok.0, ap length all.replies, length-append old.replies.items all.given, old.replies.ok.0, given, old.places.ok.0) in
      let empty : deque_len new.places ≡ 0 = new.places.ok.0 ∙ ap length all.settled.0 in
      (omega (arith, room.0, count, empty, all.replies_room), omega (arith, room.1, empty, all.places_room))

  pub room_kept : (old new : Pipeline D T F) (n : ℕ) → MaySettle facts trace old new → HasRoom old n → HasRoom new n
  room_kept old new n (inl same) room = rw same room
  room_kept old new n (inr all) room = room_settled old new n all room
