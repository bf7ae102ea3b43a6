-- What is done for a batch of jobs.
use Rattle.std.specs.Prelude.{◌≡◌, ◌≢◌, ◌≤◌, ◌&&◌, ◌||◌, ◌⊎◌, ℕ, zero, suc, Bool, true, false, MatchOption, List, [], ◌∷◌, ◌++◌, drop, length, take, Option, Some, Err, vec_capacity, vec_len}
use Rattle.std.specs.List.{AllZip}
use Rattle.silt_disk.specs.declared.disk.Disk.{Ghosts}
use Rattle.silt_inbox.specs.Books.{counted}
use Rattle.silt_event.specs.declared.refusal.Refusal.TheVariants.{NoRoom}
use Rattle.silt_store_set.specs.CoreState.{may_merge, wants_convert, wants_merge}
use Rattle.silt_desk.specs.DeskState.{DeskState}
use Rattle.silt_desk.specs.Seats.{SeatState, for_session}
use Rattle.silt_desk.specs.declared.trace.Trace.{Ghosts as TraceOf}
use Rattle.silt_desk.specs.declared.worker.Due.{Due}
use Rattle.silt_session.specs.Origins.{Flushes, Performs}
use Rattle.silt_session.specs.Requests.{Answer, Flushed, TaskState, reply_due}
use Rattle.silt_session.specs.declared.held.Batch.{Batch}
use Rattle.silt_session.specs.declared.job.Job.{Job}
use Rattle.silt_session.specs.declared.job.Request.{Request}

-- steps of a state, one after the other, take the items of one list to those of another
abbrev pub StepsThrough : {S X : Type 0} → (S → X → X → S → Type 0) → S → List X → List X → S → Type 0
StepsThrough Steps before [] [] after = after ≡ before
StepsThrough {S} Steps before (x ∷ xs) (y ∷ ys) after = (mid : S) × Steps before x y mid × StepsThrough Steps mid xs ys after
StepsThrough Steps before xs ys after = ⊥

-- a task has its reply after this flush, and is otherwise as it was
abbrev pub RepliesTo : Flushed → TaskState → TaskState → Type 0
RepliesTo flushed old new =
    (new.reply ≡ reply_due old.request old.answer flushed) × (new.request ≡ old.request) × (new.answer ≡ old.answer) × (new.session ≡ old.session)

-- the same of each task of a job
abbrev pub RepliesToJob : {D T N F : Type 0} → Flushed → Job D T N F → Job D T N F → Type 0
RepliesToJob flushed old new =
    AllZip (RepliesTo flushed) old.tasks.items new.tasks.items × (new.tasks.ticket ≡ old.tasks.ticket) × (new.replies ≡ old.replies)

-- the same of each job
abbrev pub RepliesToAll : {D T N F : Type 0} → Flushed → List (Job D T N F) → List (Job D T N F) → Type 0
RepliesToAll flushed old new = AllZip (RepliesToJob flushed) old new

-- the background work that there is to do at this desk, if a merge begins with at least so many hash stores
abbrev pub IsDueAt : {D T : Type 0} → ℕ → DeskState D T → Due → Type 0
IsDueAt least desk due =
    (due.converts ≡ wants_convert desk.core) × (due.merges ≡ wants_merge desk.core) × (due.begins ≡ may_merge desk.core least)

-- whether this result is a refusal for want of room
abbrev pub lacks_room : Option Answer → Bool
lacks_room (Some (Err NoRoom)) = true
lacks_room answer = false

-- whether a request with this result at this desk may get room: it is refused for want of it, and a worker has a step to do
abbrev pub may_get_room : {D T : Type 0} → DeskState D T → Option Answer → Bool
may_get_room desk answer = lacks_room answer && (wants_convert desk.core || wants_merge desk.core)

-- the background work that may make room for a request with this result, or none
abbrev pub MayMakeRoom : {D T : Type 0} → ℕ → DeskState D T → Option Answer → Option Due → Type 0
MayMakeRoom least desk answer due = MatchOption due (may_get_room desk answer ≡ false) (λ work. (may_get_room desk answer ≡ true) × IsDueAt least desk work)

-- ---- the jobs of a batch

-- the jobs that are left to do, and behind them those that are done and wait for a flush
abbrev pub left_in : {D T N F : Type 0} → Batch D T N F → List (Job D T N F)
left_in batch = take batch.left batch.jobs.items

abbrev pub done_in : {D T N F : Type 0} → Batch D T N F → List (Job D T N F)
done_in batch = drop batch.left batch.jobs.items

-- no more jobs are left than there are
abbrev pub IsBatch : {D T N F : Type 0} → Batch D T N F → Type 0
IsBatch batch = batch.left ≤ vec_len batch.jobs

-- the jobs that are left to do stay, and there is room for as many jobs as before
pub record KeepsLeft {D T N F : Type 0} (old new : Batch D T N F) : Type 0 where
  pub left : left_in new ≡ left_in old
  pub count : new.left ≡ old.left
  pub within : IsBatch new
  pub fewer : vec_len new.jobs ≤ vec_len old.jobs
  pub room : vec_capacity new.jobs ≡ vec_capacity old.jobs

-- where the writer is: its seat, and the jobs that are done and wait for a flush
pub record WriterState (D T N F : Type 0) : Type 0 where
  pub seat : SeatState
  pub done : List (Job D T N F)

-- the writer, whose calls are made for this session
abbrev pub serving : {D T N F : Type 0} → ℕ → WriterState D T N F → WriterState D T N F
serving session writer = record { seat = for_session session writer.seat; done = writer.done }

-- a writer at this seat with the jobs of this batch
abbrev pub writer_at : {D T N F : Type 0} → SeatState → Batch D T N F → WriterState D T N F
writer_at seat batch = record { seat = seat; done = done_in batch }

module _ {D F T : Type 0} (facts : Ghosts D F) (trace : TraceOf T) where
  -- one call does a request, with this result; there is no work that may make room for it
  abbrev pub PerformsLast : SeatState → Request → Option Answer → SeatState → Type 0
  PerformsLast seat request answer after =
      (before : DeskState D T) × (then : DeskState D T) × Performs facts trace before then seat after request answer × (may_get_room then answer ≡ false)

  -- one call is refused for want of room: it is recorded, the store is as it was, and a worker has a step to do
  abbrev pub FindsNoRoom : SeatState → Request → SeatState → Type 0
  FindsNoRoom seat request after =
      (before : DeskState D T) × (then : DeskState D T) × Performs facts trace before then seat after request (Some (Err NoRoom))
      × (then.core ≡ before.core) × (may_get_room then (Some (Err NoRoom)) ≡ true)

  -- one call does a request: with its last result, or it is refused for want of room, and there is work to do
  abbrev pub TriesOnce : SeatState → Request → Option Answer → Option Due → SeatState → Type 0
  TriesOnce seat request answer due after =
      MatchOption due (PerformsLast seat request answer after) (λ work. (answer ≡ Some (Err NoRoom)) × FindsNoRoom seat request after)

  -- so many such calls, one after the other
  abbrev pub FindsNoRoomTimes : ℕ → SeatState → Request → SeatState → Type 0
  FindsNoRoomTimes zero seat request after = after ≡ seat
  FindsNoRoomTimes (suc times) seat request after = (mid : SeatState) × FindsNoRoomTimes times seat request mid × FindsNoRoom mid request after

  -- At most seven calls do a request. All but the last one are refused for want of room. The last one gives the result: it is such a
  -- refusal too only if it is the seventh, or the wait is over.
  abbrev pub TriesAgain : Type 0 → SeatState → Request → Option Answer → SeatState → Type 0
  TriesAgain is_over seat request answer after =
      (times : ℕ) × (mid : SeatState) × (times ≤ 6) × FindsNoRoomTimes times seat request mid
      × (PerformsLast mid request answer after ⊎ ((answer ≡ Some (Err NoRoom)) × FindsNoRoom mid request after × ((times ≡ 6) ⊎ is_over)))

  -- one flush from this seat, and then the tasks of each of these jobs have their replies
  abbrev pub EndsRound : {N : Type 0} → WriterState D T N F → SeatState → Type 0
  EndsRound {N} writer after =
      (flushed : Flushed) × (before : DeskState D T) × (then : DeskState D T) × Flushes facts trace before then writer.seat after flushed
      × ((replied : List (Job D T N F)) × RepliesToAll flushed writer.done replied)

  module _ {N : Type 0} (seconds : ℕ) (is_over : Type 0) where
    -- One call does a request, and no job is flushed. If it is refused for want of room, there is no work that may make room, or the
    -- writer does not wait.
    abbrev pub PerformsAtOnce : WriterState D T N F → Request → Option Answer → WriterState D T N F → Type 0
    PerformsAtOnce writer request answer after =
        (after.done ≡ writer.done)
        × (PerformsLast writer.seat request answer after.seat
        ⊎ ((answer ≡ Some (Err NoRoom)) × FindsNoRoom writer.seat request after.seat × (seconds ≡ 0)))

    -- One call is refused for want of room. Then the round ends: the jobs that are done have their replies, after a flush. Then at most
    -- seven more calls do the request.
    abbrev pub PerformsLater : WriterState D T N F → Request → Option Answer → WriterState D T N F → Type 0
    PerformsLater writer request answer after =
        (seconds ≢ 0) × (first : SeatState) × (second : SeatState) × FindsNoRoom writer.seat request first
        × EndsRound (record { seat = first; done = writer.done }) second × (after.done ≡ [])
        × TriesAgain is_over second request answer after.seat

    -- the desk does a request, at once or later
    abbrev pub PerformsRequest : WriterState D T N F → Request → Option Answer → WriterState D T N F → Type 0
    PerformsRequest writer request answer after = PerformsAtOnce writer request answer after ⊎ PerformsLater writer request answer after

    -- the desk does a task's request for its session, and the task has the result
    abbrev pub PerformsTask : WriterState D T N F → TaskState → TaskState → WriterState D T N F → Type 0
    PerformsTask writer old new after =
        PerformsRequest (serving old.session writer) old.request new.answer after
        × (new.request ≡ old.request) × (new.reply ≡ old.reply) × (new.session ≡ old.session)

    -- the same for each task of a job, one after the other; then the job waits for a flush, behind the others
    abbrev pub PerformsJob : WriterState D T N F → Job D T N F → Job D T N F → WriterState D T N F → Type 0
    PerformsJob writer old new after =
        (done : List (Job D T N F)) × StepsThrough PerformsTask writer old.tasks.items new.tasks.items (record { seat = after.seat; done = done })
        × (new.tasks.ticket ≡ old.tasks.ticket) × (new.replies ≡ old.replies) × (after.done ≡ done ++ new ∷ [])

    -- the same for each job, one after the other
    abbrev pub PerformsAll : WriterState D T N F → List (Job D T N F) → List (Job D T N F) → WriterState D T N F → Type 0
    PerformsAll writer old new after = StepsThrough PerformsJob writer old new after

    -- The desk does each job's tasks in order. If one of them waits for room, the jobs before it are flushed, and have their replies. At
    -- the end comes one more flush, and then the tasks of each other job have their replies. This is the work to do after that flush.
    abbrev pub ServesBatch : SeatState → List (Job D T N F) → List (Job D T N F) → SeatState → Due → Type 0
    ServesBatch seat old new after due =
        (done : List (Job D T N F)) × (mid : WriterState D T N F) × (flushed : Flushed) × (before : DeskState D T) × (then : DeskState D T)
        × PerformsAll (record { seat = seat; done = [] }) old done mid
        × Flushes facts trace before then mid.seat after flushed
        × ((least : ℕ) × IsDueAt least then due)
        × RepliesToAll flushed mid.done new

    -- the desk does batch after batch from the seat, and this many jobs are taken in all, if they are counted
    abbrev pub ServesBatches : SeatState → Option ℕ → List (List (Job D T N F)) → SeatState → Option ℕ → Type 0
    ServesBatches seat taken [] after then = (after ≡ seat) × (then ≡ taken)
    ServesBatches seat taken (jobs ∷ batches) after then =
        (left : List (Job D T N F)) × (mid : SeatState) × (due : Due) × ServesBatch seat jobs left mid due
        × ServesBatches mid (counted (length jobs) taken) batches after then
