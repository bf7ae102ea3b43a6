-- What a session is told, and more of it.
use Rattle.silt_session.proofs.Common.{◌≡◌, ◌⊎◌, inl, inr, ℕ, zero, suc, ◌≤◌, ◌<◌, arith, Bool, false, List, [], ◌∷◌, ◌++◌, append_assoc, refl, sym, ◌∙◌, ap, rules, true, Option, Some, None}
use Rattle.silt_session.proofs.Common.{Result, Ok, Err, slice_get, IfSome, MatchOption, AllZip, cases_Bool, same_Some, append-nil, IsPrefix, Ghosts, PlainReply, Event, CoreState, NoRoom, Reply}
use Rattle.silt_session.proofs.Common.{Refused, change_reply, swap_reply, Caller, PlaceState, DeskState, Serves, SeatState, FindsNoRoom, PerformsLast, Performs, Answer, Flushed, asked_event}
use Rattle.silt_session.proofs.Common.{IsToldBetween, IsToldMore, PassesOn, ToldState, own_reply, Request, subst, nat_le, leb-true, IfSome_then, plain, Accepted, Acknowledged, Differs, Unsettled}
use Rattle.silt_session.proofs.Common.{flush_reply, CallsSeen, IsMadeFor, LogsNone, PlacesCall, PlacesEvent, PlacesFlush, PerformsRequest, WriterState, HasDone, HasOrigin, WasFlushed, IsNoRequest}
use Rattle.silt_session.proofs.Common.{acknowledged, changed, compared, reply_due, AreInOrder, AreToldBetween, AsksBehind, CallsAt, ExtendsCalls, HasCallAt, IsInLog, IsTold, RisesThrough}
use Rattle.silt_session.proofs.Common.{TakesPlace, TellsAt, ToldOf, answer_place, reply_place, option_map, Key, Refusal, call, is_recorded, plain_answer, Placed, IsAnswer, IsKept, IsToldTo}
use Rattle.silt_session.specs.declared.job.Request.TheVariants.{Delete, Swap, Put, Flush}
use Rattle.silt_event.specs.declared.refusal.Refusal.TheVariants.{NotFormatted, NoMemory, HistoryFull}
use Rattle.std.specs.Bool.{then_some}
use Rattle.logbook.specs.Pages.{Book}
use Rattle.silt_desk.specs.declared.call.RecordedCall.{RecordedCall}
use Rattle.silt_desk.specs.declared.trace.Trace.{Ghosts as TraceOf}
use Rattle.silt_session.proofs.Callers.{flush_caller, none_caller, times_caller}
use Rattle.silt_event.specs.declared.event.Event.TheVariants as event

-- ---- all calls of a trace

module _ {T : Type 0} (trace : TraceOf T) (state : T) where
  -- what a trace shows of its log, if it logs calls
  abbrev Shows : Option CallsSeen → Type 0
  Shows view = MatchOption view (LogsNone (trace.logs state)) (λ seen. (Some seen.book ≡ trace.log seen.shard) × trace.logs state seen.calls)

  -- it is of the log
  pub view_named : (view : Option CallsSeen) → Shows view → IfSome view (λ seen. Some seen.book ≡ trace.log seen.shard)
  view_named None shows = tt
  view_named (Some seen) shows = shows.0

  -- and all calls are told
  pub view_told : (view : Option CallsSeen) → Shows view → MatchOption (option_map (λ (seen : CallsSeen). seen.calls) view) (LogsNone (trace.logs state)) (trace.logs state)
  view_told None shows = shows
  view_told (Some seen) shows = shows.1

-- ---- more calls

get_more : {A : Type 0} (xs zs : List A) (k : ℕ) (x : A) → slice_get xs k ≡ Some x → slice_get (xs ++ zs) k ≡ Some x
get_more [] zs k x at = absurd (cc)
get_more (y ∷ xs) zs zero x at = at
get_more (y ∷ xs) zs (suc k) x at = get_more xs zs k x at

module _ (session from : ℕ) (calls more : List RecordedCall) (begins : IsPrefix calls more) where
  stands_more : (k : ℕ) (e : Event) (r : PlainReply) → HasCallAt session from calls k e r → HasCallAt session from more k e r
  stands_more k e r (late, (caller, made, is)) = (late, (caller, made, rw begins.1 at (get_more calls begins.0 k (call caller e r) is)))

  -- what stands in a beginning of the calls stands in them
  pub told_more : (e : Event) (r : PlainReply) → IsTold session from calls e r → IsTold session from more e r
  told_more e (Accepted n) (place, here, (behind, m, order, covers, flush)) =
      (place, stands_more place e (Accepted n) here, (behind, m, order, covers, stands_more behind event.Flush (Acknowledged m) flush))
  told_more e (Unsettled n) told = (told.0, stands_more told.0 e (Accepted n) told.1)
  told_more e Differs told = (told.0, stands_more told.0 e Differs told.1)
  told_more e (Acknowledged m) told = (told.0, stands_more told.0 event.Flush (Acknowledged m) told.1)
  told_more e (Refused NoMemory) told = tt
  told_more e (Refused HistoryFull) told = tt
  told_more e (Refused NotFormatted) told = (told.0, stands_more told.0 e (Refused NotFormatted) told.1)
  told_more e (Refused refusal) told = (told.0, stands_more told.0 e (Refused refusal) told.1)
  told_more e reply told = tt

-- what holds of some calls, and of more too
extended : (P : List RecordedCall → Type 0) → ((calls more : List RecordedCall) → IsPrefix calls more → P calls → P more) → (old new : Option (List RecordedCall))
    → ExtendsCalls old new → IfSome old P → IfSome new P
extended P longer None None goes held = tt
extended P longer None (Some more) goes held = absurd (cc)
extended P longer (Some calls) None goes held = absurd goes
extended P longer (Some calls) (Some more) goes held = longer calls more goes held

-- what was told stays told
pub told_stays : (old new : ToldState) → IsToldMore old new → (e : Event) (r : PlainReply) → ToldOf old e r → ToldOf new e r
told_stays old new more e r told =
    rw (more.from, more.session) (extended (λ calls. IsTold old.session old.from calls e r) (λ calls longer begins. told_more old.session old.from calls longer begins e r)
    old.calls new.calls more.calls told)

-- ---- what goes on

goes_none : (calls : Option (List RecordedCall)) → ExtendsCalls calls calls
goes_none None = refl
goes_none (Some calls) = ([], append-nil calls)

goes_both : (a b c : Option (List RecordedCall)) → ExtendsCalls a b → ExtendsCalls b c → ExtendsCalls a c
goes_both None None c first second = second
goes_both None (Some calls) c first second = absurd (cc)
goes_both (Some calls) (Some more) (Some most) first second = (first.0 ++ second.0, cc (append_assoc calls first.0 second.0, first.1, second.1))
goes_both a b c first second = search rules

pub more_none : (told : ToldState) → IsToldMore told told
more_none told = record { session = refl; from = refl; next = omega arith; shard = refl; calls = goes_none told.calls }

pub more_both : (a b c : ToldState) → IsToldMore a b → IsToldMore b c → IsToldMore a c
more_both a b c first second = record {
  session = second.session ∙ first.session;
  from = second.from ∙ first.from;
  next = omega (arith, first.next, second.next);
  shard = second.shard ∙ first.shard;
  calls = goes_both a.calls b.calls c.calls first.calls second.calls;
}

-- events that were asked behind what was told, and more is told then
pub asked_more : (a b c : ToldState) → AsksBehind a b → IsToldMore b c → AsksBehind a c
asked_more a b c asks more = record {
  session = more.session ∙ asks.session;
  from = rw more.from asks.from;
  next = omega (arith, asks.next, more.from, more.next);
  shard = more.shard ∙ asks.shard;
  calls = goes_both a.calls b.calls c.calls asks.calls more.calls;
}

-- ---- commands take their places

pub passes_none : (told : ToldState) → PassesOn told told
passes_none told = record { same = refl; next = omega arith }

pub passes_both : (a b c : ToldState) → PassesOn a b → PassesOn b c → PassesOn a c
passes_both a b c first second = record { same = second.same ∙ ap (λ (s : ToldState). record s { next = c.next }) first.same; next = omega (arith, first.next, second.next) }

-- no less is told then
pub more_passed : (old new : ToldState) → PassesOn old new → IsToldMore old new
more_passed old new passed =
    rw passed.same (record { session = refl; from = refl; next = passed.next; shard = refl; calls = goes_none old.calls })

match_more : {X A B : Type 0} (P Q : X → Type 0) → (A → B) → ((x : X) → P x → Q x) → (o : Option X) → MatchOption o A P → MatchOption o B Q
match_more P Q none some None holds = none holds
match_more P Q none some (Some x) holds = some x holds

both_hold : {X : Type 0} (P Q R : X → Type 0) → ((x : X) → P x → Q x → R x) → (o : Option X) → IfSome o P → IfSome o Q → IfSome o R
both_hold P Q R both None p q = tt
both_hold P Q R both (Some x) p q = both x p q

all_hold : {X : Type 0} (P : X → Type 0) → ((x : X) → P x) → (o : Option X) → IfSome o P
all_hold P holds None = tt
all_hold P holds (Some x) = holds x

module _ (session : ℕ) where
  -- where an own call stands
  abbrev OwnAt : ℕ → List RecordedCall → Event → ℕ → PlainReply → Type 0
  OwnAt next calls e after made = (place : ℕ) × HasCallAt session next calls place e made × (place < after)

  takes_more : (calls more : List RecordedCall) → IsPrefix calls more → (next after : ℕ) (e : Event) (r : PlainReply) → TakesPlace session next calls e r after → TakesPlace session next more e r after
  takes_more calls more begins next after e r takes =
      match_more (OwnAt next calls e after) (OwnAt next more e after) (λ (le : next ≤ after). le)
      (λ made here. (here.0, stands_more session next calls more begins here.0 e made here.1, here.2)) (own_reply e r) takes

  takes_from : (calls : List RecordedCall) (a b after : ℕ) → a ≤ b → (e : Event) (r : PlainReply) → TakesPlace session b calls e r after → TakesPlace session a calls e r after
  takes_from calls a b after le e r takes =
      match_more (OwnAt b calls e after) (OwnAt a calls e after) (λ (more : b ≤ after). let all : a ≤ after = omega arith in all)
      (λ made here. (here.0, (omega (arith, le, here.1.0), here.1.1), here.2)) (own_reply e r) takes

  through_more : (calls more : List RecordedCall) → IsPrefix calls more → (next after : ℕ) (events : List Event) (replies : List PlainReply)
      → RisesThrough session next calls events replies after → RisesThrough session next more events replies after
  through_more calls more begins next after [] [] rises = rises
  through_more calls more begins next after (e ∷ events) (r ∷ replies) (mid, takes, rest) =
      (mid, takes_more calls more begins next mid e r takes, through_more calls more begins mid after events replies rest)
  through_more calls more begins next after events replies rises = absurd rises

  through_from : (calls : List RecordedCall) (a b after : ℕ) → a ≤ b → (events : List Event) (replies : List PlainReply)
      → RisesThrough session b calls events replies after → RisesThrough session a calls events replies after
  through_from calls a b after le [] [] rises = omega (arith, le, rises)
  through_from calls a b after le (e ∷ events) (r ∷ replies) (mid, takes, rest) = (mid, takes_from calls a b mid le e r takes, rest)
  through_from calls a b after le events replies rises = absurd rises

  through_append : (calls : List RecordedCall) (a b c : ℕ) (xs ys : List Event) (rs ss : List PlainReply)
      → RisesThrough session a calls xs rs b → RisesThrough session b calls ys ss c → RisesThrough session a calls (xs ++ ys) (rs ++ ss) c
  through_append calls a b c [] ys [] ss first second = through_from calls a b c first ys ss second
  through_append calls a b c (x ∷ xs) ys (r ∷ rs) ss (mid, takes, rest) second = (mid, takes, through_append calls mid b c xs ys rs ss rest second)
  through_append calls a b c xs ys rs ss first second = absurd first

own_none : (e : Event) (r : PlainReply) → IsNoRequest e → own_reply e r ≡ None
own_none e r is = grind arith

-- what stands in order stands so in more calls
pub order_stays : (old new : ToldState) → IsToldMore old new → (next after : ℕ) (events : List Event) (replies : List PlainReply)
    → AreToldBetween old next events replies after → AreToldBetween new next events replies after
order_stays old new more next after events replies rises =
    rw more.session (extended (λ calls. RisesThrough old.session next calls events replies after)
    (λ calls longer begins. through_more old.session calls longer begins next after events replies) old.calls new.calls more.calls rises)

module _ (told : ToldState) where
  -- nothing is in order
  pub order_none : (next after : ℕ) → next ≤ after → AreToldBetween told next [] [] after
  order_none next after le = all_hold (λ calls. next ≤ after) (λ calls. le) told.calls

  -- one event is in front
  pub order_cons : (next mid after : ℕ) (e : Event) (r : PlainReply) (events : List Event) (replies : List PlainReply)
      → IsToldBetween told next e r mid → AreToldBetween told mid events replies after → AreToldBetween told next (e ∷ events) (r ∷ replies) after
  order_cons next mid after e r events replies takes rest =
      both_hold (λ calls. TakesPlace told.session next calls e r mid) (λ calls. RisesThrough told.session mid calls events replies after) _ (λ calls one more. (mid, one, more)) told.calls takes rest

  -- others are behind
  pub order_append : (a b c : ℕ) (xs ys : List Event) (rs ss : List PlainReply)
      → AreToldBetween told a xs rs b → AreToldBetween told b ys ss c → AreToldBetween told a (xs ++ ys) (rs ++ ss) c
  order_append a b c xs ys rs ss first second =
      both_hold (λ calls. RisesThrough told.session a calls xs rs b) (λ calls. RisesThrough told.session b calls ys ss c) _
      (λ calls. through_append told.session calls a b c xs ys rs ss) told.calls first second

  -- an event with no call of its own takes no place
  pub order_same : (next : ℕ) (e : Event) (r : PlainReply) → own_reply e r ≡ None → IsToldBetween told next e r next
  order_same next e r none = all_hold (λ calls. TakesPlace told.session next calls e r next) (λ calls. rw none (omega arith)) told.calls

-- one command that took its place is in order
pub order_one : (old new : ToldState) → old.from ≤ old.next → PassesOn old new → (e : Event) (r : PlainReply)
    → IsToldBetween old old.next e r new.next → AreInOrder new (e ∷ []) (r ∷ [])
order_one old new le passed e r takes =
    let from_here = IfSome_then old.calls takes (λ calls. takes_from old.session calls old.from old.next new.next le e r) in
    rw passed.same (order_cons old old.from new.next new.next e r [] [] from_here (order_none old new.next new.next (omega arith)))

-- and so is a reply to one event with no call of its own
pub order_shown : (told : ToldState) → told.from ≤ told.next → (e : Event) → IsNoRequest e → (r : PlainReply) → AreInOrder told (e ∷ []) (r ∷ [])
order_shown told le e is r =
    order_cons told told.from told.from told.next e r [] [] (order_same told told.from e r (own_none e r is)) (order_none told told.from told.next le)

-- more is told of what is asked in order
pub starts_before : (old new : ToldState) → IsToldMore old new → old.from ≤ old.next → new.from ≤ new.next
starts_before old new more le = omega (arith, more.from, more.next, le)

-- ---- answers

module _ {D F T : Type 0} (facts : Ghosts D F) (trace : TraceOf T) (settles : Bool) (old new : ToldState) (more : IsToldMore old new) where
  to_more : (request : Request) (r : PlainReply) → IsToldTo facts trace old request r → IsToldTo facts trace new request r
  to_more request r (origin, told) = (origin, told_stays old new more (asked_event request) r told)

  look_more : (core : CoreState D) (key : Key) (r : PlainReply) → IsKept facts core key r ⊎ ((n : ℕ) × IsToldTo facts trace old Flush (Acknowledged n) × (core.count ≤ n))
      → IsKept facts core key r ⊎ ((n : ℕ) × IsToldTo facts trace new Flush (Acknowledged n) × (core.count ≤ n))
  look_more core key r (inl is) = inl is
  look_more core key r (inr (n, came, covers)) = inr (n, to_more Flush (Acknowledged n) came, covers)

  -- an answer stays one
  pub answer_more : (e : Event) (r : PlainReply) → IsAnswer facts trace old settles e r → IsAnswer facts trace new settles e r
  answer_more (event.Get key) r (inl none) = inl none
  answer_more (event.Get key) r (inr (inl (core, gets, kept))) = inr (inl (core, gets, λ so. look_more core key r (kept so)))
  answer_more (event.Get key) r (inr (inr (so, refused, came))) = inr (inr (so, refused, to_more Flush r came))
  answer_more event.Convert r is = is
  answer_more event.Merge r is = is
  answer_more (event.Put key value) r is = elim is [ inl none ↦ inl none | inr (request, asks, came) ↦ inr (request, asks, to_more request r came) ]
  answer_more event r is = elim is [ inl none ↦ inl none | inr (request, asks, came) ↦ inr (request, asks, to_more request r came) ]

  pub answers_more : (events : List Event) (replies : List PlainReply) → AllZip (IsAnswer facts trace old settles) events replies → AllZip (IsAnswer facts trace new settles) events replies
  answers_more [] [] are = tt
  answers_more (e ∷ events) (r ∷ replies) are = (answer_more e r are.0, answers_more events replies are.1)
  answers_more events replies are = absurd are

-- ---- where a call stands

-- what a place is known by
places_event : (named : ℕ → Option Book) (session : ℕ) (caller : Caller) (e : Event) (r : PlainReply) (place : Option PlaceState) → IsMadeFor session e caller
    → PlacesCall named (call caller e r) place → PlacesEvent named session e r place
places_event named session caller e r None made places = tt
places_event named session caller e r (Some place) made places = (places.0, (caller, made, places.1))

recorded_plain : {F : Type 0} (r : Reply F) → is_recorded (plain r) ≡ is_recorded r
recorded_plain (Accepted n) = refl
recorded_plain (Refused NoMemory) = refl
recorded_plain reply = refl

module _ {D F T : Type 0} (facts : Ghosts D F) (trace : TraceOf T) where
  -- the seat has the place of a call that was recorded
  served_place : (session : ℕ) (old new : DeskState D T) (seat after : SeatState) (e : Event) (r : Reply F) → IsMadeFor session e seat.caller
      → Serves facts trace old new seat after e r → PlacesEvent trace.log session e (plain r) (reply_place (plain r) after.last)
  served_place session old new seat after e r made serves = rw (recorded_plain r) (elim (cases_Bool (is_recorded r)) [
    | inl is ↦ let records = rw is at serves in rw is (places_event trace.log session seat.caller e (plain r) after.last made records.seated.place)
    | inr is ↦ rw is tt
  ])

  change_told : (answer : Result ℕ (Refusal F)) → swap_reply (compared (plain_answer answer)) ≡ plain (change_reply answer)
  change_told (Ok n) = refl
  change_told (Err refusal) = refl

  swap_told : (answer : Result (Option ℕ) (Refusal F)) → swap_reply (plain_answer answer) ≡ plain (swap_reply answer)
  swap_told (Ok (Some n)) = refl
  swap_told (Ok None) = refl
  swap_told (Err refusal) = refl

  flush_told : (answer : Result ℕ (Refusal F)) → acknowledged (plain_answer answer) ≡ plain (flush_reply answer)
  flush_told (Ok n) = refl
  flush_told (Err refusal) = refl

  module _ (session : ℕ) where
    -- the seat has the place of a request's call, if its calls are made for the session
    performed_place : (old new : DeskState D T) (seat after : SeatState) (request : Request) (answer : Option Answer) → seat.caller.session ≡ Some session
        → Performs facts trace old new seat after request answer → CallsAt trace.log session request answer (answer_place answer after.last)
    performed_place old new seat after request None for performs = refl
    performed_place old new seat after (Put key value) (Some answer) for (reported, is, serves, agrees) =
        rw (is, change_told reported) (served_place session old new seat after (event.Put key value) (change_reply reported) for serves)
    performed_place old new seat after (Delete key) (Some answer) for (reported, is, serves, agrees) =
        rw (is, change_told reported) (served_place session old new seat after (event.Delete key) (change_reply reported) for serves)
    performed_place old new seat after (Swap key expected value) (Some answer) for (reported, is, serves, agrees) =
        rw (is, swap_told reported) (served_place session old new seat after (event.Swap key expected value) (swap_reply reported) for serves)
    performed_place old new seat after Flush (Some answer) for performs = absurd performs

    last_place : (seat after : SeatState) (request : Request) (answer : Option Answer) → seat.caller.session ≡ Some session
        → PerformsLast facts trace seat request answer after → CallsAt trace.log session request answer (answer_place answer after.last)
    last_place seat after request answer for (before, later, performs, none) = performed_place before later seat after request answer for performs

    refused_place : (seat after : SeatState) (request : Request) (answer : Option Answer) → seat.caller.session ≡ Some session → answer ≡ Some (Err NoRoom)
        → FindsNoRoom facts trace seat request after → CallsAt trace.log session request answer (answer_place answer after.last)
    refused_place seat after request answer for is (before, later, performs, same, work) =
        rw is (performed_place before later seat after request (Some (Err NoRoom)) for performs)

    -- the seat has the place of the last call of a request that was done, if its calls were made for the session before
    pub done_place : {N : Type 0} (seconds : ℕ) (is_over : Type 0) (writer after : WriterState D T N F) (request : Request) (answer : Option Answer)
        → writer.seat.caller.session ≡ Some session → PerformsRequest facts trace seconds is_over writer request answer after
        → CallsAt trace.log session request answer (answer_place answer after.seat.last)
    done_place seconds is_over writer after request answer for (inl (same, inl last)) = last_place writer.seat after.seat request answer for last
    done_place seconds is_over writer after request answer for (inl (same, inr (is, finds, none))) = refused_place writer.seat after.seat request answer for is finds
    done_place seconds is_over writer after request answer for (inr (waits, first, second, finds, ends, none, (times, mid, few, tried, ended))) =
        let same = times_caller facts trace times second mid request tried ∙ flush_caller facts trace ends.1 ends.2 first second ends.0 ends.3
        ∙ none_caller facts trace writer.seat first request finds in
        let still : mid.caller.session ≡ Some session = ap (λ (c : Caller). c.session) same ∙ for in
        elim ended [ inl last ↦ last_place mid after.seat request answer still last | inr (is, refused, over) ↦ refused_place mid after.seat request answer still is refused ]

-- ---- the reply of a task

-- the reply that is due to a command speaks of its call and of the flush
changed_tells : (named : ℕ → Option Book) (session : ℕ) (e : Event) (answer : Answer) (flushed : Flushed) (call flush : Option PlaceState)
    → ((refusal : Refusal (Unit {0})) → PlacesEvent named session e (Refused refusal) call → TellsAt named session e (Refused refusal) call flush)
    → PlacesEvent named session e (swap_reply answer) call → PlacesFlush named (acknowledged flushed) flush → TellsAt named session e (changed answer flushed) call flush
changed_tells named session e (Err refusal) flushed call flush refused here behind = refused refusal here
changed_tells named session e (Ok None) flushed call flush refused here behind = here
changed_tells named session e (Ok (Some n)) (Ok m) call flush refused here behind =
    elim (cases_Bool (nat_le n m)) [ inl covers ↦ rw covers (here, (m, leb-true n m covers, behind)) | inr few ↦ rw few here ]
changed_tells named session e (Ok (Some n)) (Err refusal) call flush refused here behind = here

flush_tells : (named : ℕ → Option Book) (session : ℕ) (flushed : Flushed) (call flush : Option PlaceState) → PlacesFlush named (acknowledged flushed) flush
    → TellsAt named session event.Flush (acknowledged flushed) call flush
flush_tells named session (Ok m) call flush behind = behind
flush_tells named session (Err refusal) call flush behind = behind

module _ (named : ℕ → Option Book) (session : ℕ) (flushed : Flushed) (reply : PlainReply) (call flush : Option PlaceState) (behind : PlacesFlush named (acknowledged flushed) flush) where
  its_reply : (e : Event) (answer : Answer) → Some (changed answer flushed) ≡ Some reply
      → ((refusal : Refusal (Unit {0})) → PlacesEvent named session e (Refused refusal) call → TellsAt named session e (Refused refusal) call flush)
      → PlacesEvent named session e (swap_reply answer) call → TellsAt named session e reply call flush
  its_reply e answer is refused here = rw (same_Some (changed answer flushed) reply is) at (changed_tells named session e answer flushed call flush refused here behind)

  -- a task's reply speaks of its call and of the flush
  pub due_tells : (request : Request) (answer : Option Answer) → reply_due request answer flushed ≡ Some reply → CallsAt named session request answer call
      → TellsAt named session (asked_event request) reply call flush
  due_tells Flush answer due here = rw (same_Some (acknowledged flushed) reply due) at (flush_tells named session flushed call flush behind)
  due_tells (Put key value) (Some (Ok None)) due here = absurd (cc)
  due_tells (Put key value) (Some answer) due here = its_reply (event.Put key value) answer due (λ refusal is. is) here
  due_tells (Delete key) (Some (Ok None)) due here = absurd (cc)
  due_tells (Delete key) (Some answer) due here = its_reply (event.Delete key) answer due (λ refusal is. is) here
  due_tells (Swap key old new) (Some answer) due here = its_reply (event.Swap key old new) answer due (λ refusal is. is) here
  due_tells request None due here = absurd (cc)

named_place : (named : ℕ → Option Book) (session : ℕ) (e : Event) (r : PlainReply) (place : Option PlaceState) → PlacesEvent named session e r place → IsInLog named place
named_place named session e r None places = tt
named_place named session e r (Some place) places = places.0

named_call : (named : ℕ → Option Book) (session : ℕ) (request : Request) (answer : Option Answer) (place : Option PlaceState) → CallsAt named session request answer place → IsInLog named place
named_call named session request None place here = rw here tt
named_call named session request (Some answer) place here = named_place named session (asked_event request) (swap_reply answer) place here

module _ {D F T : Type 0} (facts : Ghosts D F) (trace : TraceOf T) (session : ℕ) (request : Request) (answer : Option Answer) (call : Option PlaceState) where
  -- what a task with a reply knows
  abbrev pub IsReplied : Option Placed → Type 0
  IsReplied placed =
      HasDone facts trace request answer × HasOrigin facts trace request (option_map (λ (p : Placed). p.reply) placed) × CallsAt trace.log session request answer call
      × IfSome placed (λ p. TellsAt trace.log session (asked_event request) p.reply p.call p.flush × IsInLog trace.log p.call × IsInLog trace.log p.flush)

  -- a reply with these places
  abbrev pub placed_at : PlainReply → Option PlaceState → Option PlaceState → Option Placed
  placed_at reply at behind = Some (record { reply = reply; call = at; flush = behind })

  -- it is given its reply
  pub replies_so : (flushed : Flushed) (flush : Option PlaceState) (reply : PlainReply) (placed : Option Placed) → HasDone facts trace request answer → CallsAt trace.log session request answer call
      → WasFlushed facts trace flushed → PlacesFlush trace.log (acknowledged flushed) flush → reply_due request answer flushed ≡ Some reply
      → placed ≡ placed_at reply call flush → IsReplied placed
  replies_so flushed flush reply placed done at flushes behind due is = subst IsReplied (sym is) (
    done,
    record { answer = answer; flushed = flushed; done = done; flush = flushes; due = due },
    at,
    (
      due_tells trace.log session flushed reply call flush behind request answer due at,
      named_call trace.log session request answer call at,
      named_place trace.log 0 event.Flush (acknowledged flushed) flush behind,
    ),
  )

-- what is shown only if this is true
pub shows_then : {X : Type 0} (P : X → Type 0) (b : Bool) (x : X) (found : Option X) → found ≡ then_some b x → (b ≡ true → P x) → IfSome found P
shows_then P true x found is holds = rw is (holds refl)
shows_then P false x found is holds = rw is tt
