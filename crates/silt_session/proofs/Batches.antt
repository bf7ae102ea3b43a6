-- What a batch does to the writer's seat, and one batch more.
use Rattle.silt_session.proofs.Common.{◌≡◌, inl, inr, ℕ, ◌≤◌, false, List, [], ◌∷◌, ◌++◌, append_assoc, drop, length, refl, sym, ◌∙◌, ap, arith, true, Option, Some, None, Result, Err, AllZip}
use Rattle.silt_session.proofs.Common.{cases_Bool, take_all, Ghosts, Event, NoRoom, Reply, Refused, CoreState, change_reply, swap_reply, DeskState, Serves, SeatState, Caller, PlaceState, Answer}
use Rattle.silt_session.proofs.Common.{Flushed, TaskState, requests_of, Performs, FindsNoRoom, IsBatch, PerformsLast, PerformsTask, RepliesTo, RepliesToAll, StepsThrough, writer_at, Job, Request}
use Rattle.silt_session.proofs.Common.{drop_at, ◌||◌, drop_of_length-le, and_parts, Does, wants_convert, wants_merge, compared, Flushes, HasDone, IsDueAt, KeepsLeft, MayMakeRoom, PerformsAll}
use Rattle.silt_session.proofs.Common.{PerformsJob, PerformsRequest, ServesBatch, ServesBatches, TriesAgain, TriesOnce, WriterState, done_in, lacks_room, left_in, serving, Refusal, counted}
use Rattle.silt_session.proofs.Common.{plain_answer, CallsAt, answer_place}
use Rattle.silt_session.specs.declared.job.Request.TheVariants.{Delete, Swap, Put, Flush}
use Rattle.silt_desk.specs.declared.trace.Trace.{Ghosts as TraceOf}
use Rattle.silt_desk.specs.declared.worker.Due.{Due}
use Rattle.silt_session.proofs.Callers.{again_caller, flush_caller, last_caller, none_caller}
use Rattle.silt_session.proofs.Tolds.{done_place}
use Rattle.silt_session.specs.declared.held.Batch.{Batch}
use Rattle.silt_session.proofs.Lists.{steps_keep, steps_more}
use Rattle.silt_event.specs.declared.event.Event.TheVariants as event

-- ---- a batch is done from one seat

module _ {D F T : Type 0} (facts : Ghosts D F) (trace : TraceOf T) where
  -- a call that did a request with this result
  performs_done : (before then : DeskState D T) (seat after : SeatState) (request : Request) (answer : Option Answer)
      → Performs facts trace before then seat after request answer → HasDone facts trace request answer
  performs_done before then seat after request None does = tt
  performs_done before then seat after request (Some answer) does = record { before = before; then = then; seat = seat; after = after; done = does }

  last_done : (seat after : SeatState) (request : Request) (answer : Option Answer) → PerformsLast facts trace seat request answer after → HasDone facts trace request answer
  last_done seat after request answer does = performs_done does.0 does.1 seat after request answer does.2

  none_done : (seat after : SeatState) (request : Request) (answer : Option Answer) → answer ≡ Some (Err NoRoom) → FindsNoRoom facts trace seat request after
      → HasDone facts trace request answer
  none_done seat after request answer is does = rw is (performs_done does.0 does.1 seat after request (Some (Err NoRoom)) does.2)

  again_done : (is_over : Type 0) (seat after : SeatState) (request : Request) (answer : Option Answer) → TriesAgain facts trace is_over seat request answer after
      → HasDone facts trace request answer
  again_done is_over seat after request answer (times, mid, few, tried, inl does) = last_done mid after request answer does
  again_done is_over seat after request answer (times, mid, few, tried, inr (is, finds, over)) = none_done mid after request answer is finds

  -- the seat stays
  abbrev Seated : {N : Type 0} → WriterState D T N F → WriterState D T N F → Type 0
  Seated before after = after.seat.caller.seat ≡ before.seat.caller.seat

  seated_both : {N : Type 0} (a b c : WriterState D T N F) → Seated a b → Seated b c → Seated a c
  seated_both a b c first second = second ∙ first

  module _ {N : Type 0} (seconds : ℕ) (is_over : Type 0) where
    -- the same one calls from the seat
    request_caller : (before after : WriterState D T N F) (request : Request) (answer : Option Answer) → PerformsRequest facts trace seconds is_over before request answer after
        → after.seat.caller ≡ before.seat.caller
    request_caller before after request answer (inl (same, inl last)) = last_caller facts trace before.seat after.seat request answer last
    request_caller before after request answer (inl (same, inr (is, finds, none))) = none_caller facts trace before.seat after.seat request finds
    request_caller before after request answer (inr (sure, first, second, finds, round, empty, again)) =
        again_caller facts trace is_over second after.seat request answer again
        ∙ (flush_caller facts trace round.1 round.2 first second round.0 round.3 ∙ none_caller facts trace before.seat first request finds)

    -- the result of a request comes from a call that did it
    request_done : (before after : WriterState D T N F) (request : Request) (answer : Option Answer) → PerformsRequest facts trace seconds is_over before request answer after
        → HasDone facts trace request answer
    request_done before after request answer (inl (same, inl last)) = last_done before.seat after.seat request answer last
    request_done before after request answer (inl (same, inr (is, finds, none))) = none_done before.seat after.seat request answer is finds
    request_done before after request answer (inr (sure, first, second, finds, round, empty, again)) = again_done is_over second after.seat request answer again

    -- a task's request was done, and the task has the result
    pub task_done : (before after : WriterState D T N F) (asked request : Request) (answer : Option Answer) → asked ≡ request
        → PerformsRequest facts trace seconds is_over before asked answer after → HasDone facts trace request answer
    task_done before after asked request answer is does = rw is at (request_done before after asked answer does)

    -- where a task's call stands
    pub task_placed : (session : ℕ) (before after : WriterState D T N F) (asked request : Request) (answer : Option Answer) (place : Option PlaceState)
        → before.seat.caller.session ≡ Some session → asked ≡ request → place ≡ answer_place answer after.seat.last
        → PerformsRequest facts trace seconds is_over before asked answer after → CallsAt trace.log session request answer place
    task_placed session before after asked request answer place for is known does =
        rw (← is, known) (done_place facts trace session seconds is_over before after asked answer for does)

    pub task_performed : (before served after : WriterState D T N F) (asked : Request) (old new : TaskState) (answer : Option Answer) → served ≡ serving old.session before
        → asked ≡ old.request → new ≡ record old { answer = answer } → PerformsRequest facts trace seconds is_over served asked answer after
        → PerformsTask facts trace seconds is_over before old new after
    task_performed before served after asked old new answer seated is same does = rw same (rw (seated, is) at does, refl, refl, refl)

    job_seated : (before after : WriterState D T N F) (x y : Job D T N F) → PerformsJob facts trace seconds is_over before x y after → Seated before after
    job_seated before after x y does =
        steps_keep (PerformsTask facts trace seconds is_over) Seated (λ s. refl) seated_both
        (λ a b old new one. ap (λ (c : Caller). c.seat) (request_caller (serving old.session a) b old.request new.answer one.0))
        before (record { seat = after.seat; done = does.0 }) x.tasks.items y.tasks.items does.1

    pub all_seated : (before after : WriterState D T N F) (xs ys : List (Job D T N F)) → PerformsAll facts trace seconds is_over before xs ys after
        → after.seat.caller.seat ≡ before.seat.caller.seat
    all_seated before after xs ys all = steps_keep (PerformsJob facts trace seconds is_over) Seated (λ s. refl) seated_both job_seated before after xs ys all

-- ---- a request that is refused for want of room

module _ {D F : Type 0} (facts : Ghosts D F) where
  -- the store is as it was
  refused_stays : (old new : CoreState D) (e : Event) → Does facts old new e (Refused NoRoom) → new ≡ old
  refused_stays old new e does = elim (cases_Bool old.failed) [
    | inl failed ↦ (does.failed failed).0
    | inr working ↦ elim (cases_Bool new.failed) [
      | inl fails ↦ absurd (let no : false ≡ true = does.faulted working fails in cc)
      | inr still ↦ does.stays refl (still ∙ sym working)
    ]
  ]

  abbrev no_room : Answer
  no_room = Err NoRoom

  changes_none : (reported : Result ℕ (Refusal F)) → no_room ≡ compared (plain_answer reported) → change_reply reported ≡ Refused NoRoom
  changes_none (Err NoRoom) is = refl
  changes_none reported is = absurd (cc)

  swaps_none : (reported : Result (Option ℕ) (Refusal F)) → no_room ≡ plain_answer reported → swap_reply reported ≡ Refused NoRoom
  swaps_none (Err NoRoom) is = refl
  swaps_none reported is = absurd (cc)

  module _ {T : Type 0} (trace : TraceOf T) where
    serves_none : (old new : DeskState D T) (seat after : SeatState) (e : Event) (reply : Reply F) → reply ≡ Refused NoRoom
        → Serves facts trace old new seat after e reply → new.core ≡ old.core
    serves_none old new seat after e reply is serves =
        let refused : Serves facts trace old new seat after e (Refused NoRoom) = rw is at serves in refused_stays old.core new.core e refused.done

    performs_none : (old new : DeskState D T) (seat after : SeatState) (request : Request) → Performs facts trace old new seat after request (Some (Err NoRoom)) → new.core ≡ old.core
    performs_none old new seat after (Put key value) does = serves_none old new seat after (event.Put key value) (change_reply does.0) (changes_none does.0 does.1) does.2
    performs_none old new seat after (Delete key) does = serves_none old new seat after (event.Delete key) (change_reply does.0) (changes_none does.0 does.1) does.2
    performs_none old new seat after (Swap key expected value) does =
        serves_none old new seat after (event.Swap key expected value) (swap_reply does.0) (swaps_none does.0 does.1) does.2
    performs_none old new seat after Flush does = absurd does

    -- a result that may be got again is that refusal
    lacks_is : (answer : Option Answer) → lacks_room answer ≡ true → answer ≡ Some (Err NoRoom)
    lacks_is (Some (Err NoRoom)) is = refl
    lacks_is answer is = absurd (cc)

    -- one call and what was found of the work behind it
    pub tried_once : (least : ℕ) (old new : DeskState D T) (seat after : SeatState) (request : Request) (answer : Option Answer) (due : Option Due)
        → Performs facts trace old new seat after request answer → MayMakeRoom least new answer due → TriesOnce facts trace seat request answer due after
    tried_once least old new seat after request answer None does none = (old, new, does, none)
    tried_once least old new seat after request answer (Some work) does may =
        let is = lacks_is answer (and_parts (lacks_room answer) (wants_convert new.core || wants_merge new.core) may.0).0 in
        let refused = rw is at does in (is, (old, new, refused, performs_none old new seat after request refused, rw is at may.0))

-- ---- the jobs of a batch

module _ {X : Type 0} where
  -- what was taken from the end, and what is left
  pub taken_behind : (n : ℕ) (xs back all : List X) → xs ++ back ≡ all → length xs ≡ n → drop n all ≡ back
  taken_behind n xs back all is len = rw (← is) (drop_at xs back n len)

pub keeps_none : {D T N F : Type 0} (batch : Batch D T N F) → IsBatch batch → KeepsLeft batch batch
keeps_none batch within = record { left = refl; count = refl; within = within; fewer = omega arith; room = refl }

pub keeps_both : {D T N F : Type 0} (a b c : Batch D T N F) → KeepsLeft a b → KeepsLeft b c → KeepsLeft a c
keeps_both a b c first second =
    record { left = second.left ∙ first.left; count = second.count ∙ first.count; within = second.within; fewer = omega (arith, first.fewer, second.fewer); room = second.room ∙ first.room }

module _ {D F T N : Type 0} (facts : Ghosts D F) (trace : TraceOf T) (seconds : ℕ) (is_over : Type 0) where
  -- one job more is done, and waits behind the others
  pub jobs_more : (start : WriterState D T N F) (seat after : SeatState) (batch next worked held : Batch D T N F) (all old done : List (Job D T N F)) (job new : Job D T N F)
      → old ++ left_in batch ≡ all → PerformsAll facts trace seconds is_over start old done (writer_at seat batch)
      → left_in batch ≡ job ∷ left_in next → done_in next ≡ done_in batch
      → StepsThrough (PerformsTask facts trace seconds is_over) (writer_at seat next) job.tasks.items new.tasks.items (writer_at after worked)
      → new.tasks.ticket ≡ job.tasks.ticket → new.replies ≡ job.replies → left_in held ≡ left_in next → done_in held ≡ done_in worked ++ new ∷ []
      → (olds : List (Job D T N F)) × (dones : List (Job D T N F)) × (olds ++ left_in held ≡ all) × PerformsAll facts trace seconds is_over start olds dones (writer_at after held)
  jobs_more start seat after batch next worked held all old done job new is so_far first same steps ticket replies left behind = (
    old ++ job ∷ [],
    done ++ new ∷ [],
    rw (append_assoc old (job ∷ []) (left_in held), left, ← first) is,
    steps_more (PerformsJob facts trace seconds is_over) start (writer_at seat batch) (writer_at after held) old done job new so_far (done_in worked, rw same at steps, ticket, replies, behind),
  )

  -- a batch from its first job to its last flush
  pub batch_served : (least : ℕ) (batch after : Batch D T N F) (jobs done new : List (Job D T N F)) (seat mid end : SeatState) (flushed : Flushed) (before then : DeskState D T) (due : Due)
      → batch.jobs.items ≡ jobs → length jobs ≤ batch.left
      → PerformsAll facts trace seconds is_over (writer_at seat batch) (left_in batch) done (writer_at mid after) → after.left ≡ 0
      → Flushes facts trace before then mid end flushed → IsDueAt least then due → RepliesToAll flushed after.jobs.items new
      → ServesBatch facts trace seconds is_over seat jobs new end due
  batch_served least batch after jobs done new seat mid end flushed before then due is over all none flushes work replies =
      let long : length batch.jobs.items ≤ batch.left = omega (arith, over, ap length is) in
      let does = rw (drop_of_length-le batch.jobs.items long, take_all batch.left batch.jobs.items long, is) at all in
      (done, writer_at mid after, flushed, before, then, does, flushes, (least, work), rw none replies)

-- ---- the requests of a job stay

-- the requests are the same after a flush's replies
pub replied_same : (flushed : Flushed) (xs ys : List TaskState) → AllZip (RepliesTo flushed) xs ys → requests_of ys ≡ requests_of xs
replied_same flushed [] [] all = refl
replied_same flushed (x ∷ xs) (y ∷ ys) all = rw (all.0.1, replied_same flushed xs ys all.1)
replied_same flushed xs ys all = absurd all

module _ {D F T N : Type 0} (facts : Ghosts D F) (trace : TraceOf T) (seconds : ℕ) (is_over : Type 0) where
  -- the requests are the same once they are done
  pub performed_same : (before after : WriterState D T N F) (xs ys : List TaskState) → StepsThrough (PerformsTask facts trace seconds is_over) before xs ys after
      → requests_of ys ≡ requests_of xs
  performed_same before after [] [] all = refl
  performed_same before after (x ∷ xs) (y ∷ ys) all = rw (all.1.1, performed_same all.0 after xs ys all.2)
  performed_same before after xs ys all = absurd all

-- ---- batch after batch

module _ {D F T N : Type 0} (facts : Ghosts D F) (trace : TraceOf T) (seconds : ℕ) (is_over : Type 0) where
  -- a batch more is done behind the others
  pub batches_more : (seat mid after : SeatState) (taken then end : Option ℕ) (batches : List (List (Job D T N F))) (jobs done : List (Job D T N F)) (due : Due)
      → ServesBatches facts trace seconds is_over seat taken batches mid then
      → ServesBatch facts trace seconds is_over mid jobs done after due → end ≡ counted (length jobs) then
      → ServesBatches facts trace seconds is_over seat taken (batches ++ jobs ∷ []) after end
  batches_more seat mid after taken then end [] jobs done due all one is = (done, after, due, rw all.0 at one, (refl, rw (is, all.1)))
  batches_more seat mid after taken then end (x ∷ batches) jobs done due all one is =
      (all.0, all.1, all.2, all.3, batches_more all.1 mid after (counted (length x) taken) then end batches jobs done due all.4 one is)
