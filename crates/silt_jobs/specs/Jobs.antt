-- What the jobs on a disk do, and what they write.
use Rattle.std.specs.Prelude.{◌≡◌, ◌⊎◌, ◌&&◌, ◌<◌, ℕ, cond, IsTrue, IfNone, IfOk, IfSome, List, ◌++◌, MatchBool, Option, Some, None, Ok, codes}
use Rattle.silt_jobs.specs.Common.{IsSomeAnd, empty, decimal, Appends, GaveAny, LeavesOnly, size, InLimits, Shape, device_size, Ghosts, Report, FormatCause}
use Rattle.silt_jobs.specs.Common.{IsReported, IsFound, IsRefusedLook, FormatError, OpenError, StandsFor, AnswersQuery, CoreState, DoesPlain, AdministersCore}
use Rattle.silt_jobs.specs.Common.{refusal_of_formatting, refusal_of_opening, Refusal, Refused, Ends, SessionEnd, Numbers, RunOptions, report_text, Steps, Ended}
use Rattle.silt_jobs.specs.Common.{FewRegions, OutOfLimits, Failures, HeldStore, StreamError, Tally}
use Rattle.silt_wire.specs.declared.sessions.SessionEnd.TheVariants.{End, NoMemory, ReadFault, WriteFault}
use Rattle.silt_jobs.specs.declared.people.ended.Found.{Found}
use Rattle.silt_jobs.specs.declared.people.ended.Found.TheVariants.{Store, Session as Ran}
use Rattle.silt_jobs.specs.declared.jobs.disk_jobs.EndedSession.{EndedSession}
use Rattle.silt_jobs.specs.declared.people.ended.Why.TheVariants.{Refused as RefusedSo}
use Rattle.silt_jobs.specs.BackgroundWork.{AdministersTended, PlainRefusal, StopsAt, TendsAll, TendsThenDoes, due_at_once}
use Rattle.silt_jobs.specs.Damage.{HasShape, LacksShape}
use Rattle.silt_jobs.specs.Ended.{IsDone, Refuses, RefusesSo, none_failed}
use Rattle.silt_jobs.specs.Scripts.{AnswersScript, reply_line}
use Rattle.silt_jobs.specs.Tally.{has_refusals}

-- the length of a device that was formatted, in bytes
abbrev pub formatted_line : ℕ → List ℕ
formatted_line bytes = codes "formatted " ++ (decimal bytes ++ codes "\n")

-- one line was written, which says that the job is refused
abbrev pub Prints : {F : Type 0} → Refusal F → Option (List ℕ) → Option (List ℕ) → Type 0
Prints refusal before after = Appends before after (reply_line (Refused refusal))

-- The status of a run whose session had this end: 1 if it broke off, or if its background work was refused. At the end of the lines it is
-- 3 if the run is strict and a reply was a refusal, and else 0.
abbrev pub run_status : RunOptions → Tally → SessionEnd → Option PlainRefusal → ℕ
run_status options tally End None = cond (options.strict && has_refusals tally) 3 0
run_status options tally end refusal = 1

-- how many steps were taken, on the line of a store whose background work was done
abbrev pub tended_line : Steps → List ℕ
tended_line steps = codes "converted " ++ (decimal steps.converted ++ (codes " steps, merged " ++ (decimal steps.merged ++ codes " steps\n")))

-- What comes behind the replies: why the background work was refused, if it was, unless the writer has failed.
abbrev pub PrintsUntended : {W : Type 0} → (W → Option (List ℕ)) → SessionEnd → Option PlainRefusal → W → W → Type 0
PrintsUntended contents end None before after = after ≡ before
PrintsUntended contents WriteFault (Some refusal) before after = after ≡ before
PrintsUntended contents end (Some refusal) before after = Prints refusal (contents before) (contents after)

module _ {D F : Type 0} (facts : Ghosts D F) where
  -- The store's session with the reader and the writer had this end. A tending store does the background work that is due before each line,
  -- until a step is refused so.
  abbrev pub AnswersLines : RunOptions → SessionEnd → Option PlainRefusal → CoreState D → CoreState D → Option (List ℕ) → Option (List ℕ) → Option (List ℕ) → Option (List ℕ) → Type 0
  AnswersLines options end refusal old new remaining left before after =
      MatchBool options.tend
      ((least : Option ℕ) × Ends (AnswersQuery (TendsThenDoes facts) AdministersTended) end old.shape.value_len
      (record { answerer = record { core = old; least = options.merge_at; refusal = None }; remaining = remaining; contents = before })
      (record { answerer = record { core = new; least = least; refusal = refusal }; remaining = left; contents = after }))
      ((refusal ≡ None) × Ends (AnswersQuery (DoesPlain facts) AdministersCore) end old.shape.value_len
      (record { answerer = old; remaining = remaining; contents = before })
      (record { answerer = new; remaining = left; contents = after }))

-- The store has fewer hash regions than the hash stores of which a merge is to begin. The job is refused, and the disk is returned.
abbrev pub RefusesFewRegions : {D E F : Type 0} → Option ℕ → CoreState D → D → Ended E F → Option (List ℕ) → Option (List ℕ) → Type 0
RefusesFewRegions merge_at core new ended before after =
    (new ≡ core.disk) × IsSomeAnd merge_at (λ least. core.shape.hashes < least) × Refuses (FewRegions core.shape.hashes) ended before after

-- the error of a session's reader or writer, if that is why it broke off
abbrev pub session_error : SessionEnd → Option StreamError → Option StreamError → Option StreamError
session_error End reading writing = None
session_error ReadFault reading writing = reading
session_error WriteFault reading writing = writing
session_error NoMemory reading writing = None

-- `opened` was written, and the store's session with the reader and the writer had this end
abbrev pub AnswersReader : {D F W : Type 0} → Ghosts D F → (W → Option (List ℕ)) → RunOptions → SessionEnd → Option PlainRefusal → CoreState D → CoreState D
    → Option (List ℕ) → Option (List ℕ) → W → W → Type 0
AnswersReader facts contents options end refusal old new remaining left before after =
    (opened : Option (List ℕ)) × Appends (contents before) opened (codes "opened\n") × AnswersLines facts options end refusal old new remaining left opened (contents after)

module _ {W : Type 0} (contents : W → Option (List ℕ)) (kept_error : W → Option StreamError) (kept_tally : W → Tally) (options : RunOptions) (reading : Option StreamError) where
  -- a session with this end, of values of this length, which left the writer so, and this refusal of background work make this status, and this
  -- is found; at last comes the refusal, if there is one
  abbrev pub EndsSo : SessionEnd → Option PlainRefusal → ℕ → ℕ → Option Found → W → W → Type 0
  EndsSo end refusal value_len status found answered after =
      (status ≡ run_status options (kept_tally answered) end refusal)
      × (found ≡ Some (Ran (record { end = end; error = session_error end reading (kept_error answered); refused = (kept_tally answered).refused; value_len = value_len })))
      × PrintsUntended contents end refusal answered after

  -- a job ended as its session did
  abbrev pub EndsSession : {E F : Type 0} → EndedSession → Ended E F → W → W → Type 0
  EndsSession session ended answered after =
      (ended.why ≡ None) × (ended.failures ≡ session.failures)
      × IfOk ended.status (λ status. (end : SessionEnd) × (session.end ≡ Ok end) × EndsSo end session.refusal session.value_len status ended.found answered after)

module _ {D E F W : Type 0} (facts : Ghosts D F) (Failed : D → Failures → Type 0) (contents : W → Option (List ℕ)) (kept_error : W → Option StreamError) (kept_tally : W → Tally)
    (options : RunOptions) (reading : Option StreamError) where
  -- the session of an opened store ended, and the disk is as the store left it, with these failed calls
  abbrev pub EndsLife : CoreState D → D → Ended E F → Option (List ℕ) → Option (List ℕ) → W → W → Type 0
  EndsLife core new ended remaining left before after =
      (ended.why ≡ None) × Failed new ended.failures
      × IfOk ended.status (λ status. (end : SessionEnd) × (refusal : Option PlainRefusal) × (last : CoreState D) × (answered : W)
      × AnswersReader facts contents options end refusal core last remaining left before answered
      × EndsSo contents kept_error kept_tally options reading end refusal core.shape.value_len status ended.found answered after × (new ≡ last.disk))

  -- one life of an opened store, or it has too few hash regions
  abbrev pub RunsOpened : CoreState D → D → Ended E F → Option (List ℕ) → Option (List ℕ) → W → W → Type 0
  RunsOpened core new ended remaining left before after =
      RefusesFewRegions options.merge_at core new ended (contents before) (contents after) ⊎ EndsLife core new ended remaining left before after

module _ {D F : Type 0} (facts : Ghosts D F) (merge_at : Option ℕ) where
  -- All background work of a store was done, and the number of steps was written; or a step was refused, and that was written.
  abbrev pub EndsTending : CoreState D → CoreState D → ℕ → Option (List ℕ) → Option (List ℕ) → Type 0
  EndsTending old new status before after =
      ((status ≡ 0) × ((steps : Steps) × TendsAll facts merge_at old new steps × Appends before after (tended_line steps)))
      ⊎ ((status ≡ 1) × ((refusal : Refusal F) × StopsAt facts (due_at_once merge_at) old new refusal × Prints refusal before after))

module _ {D E F : Type 0} (facts : Ghosts D F) (Failed : D → Failures → Type 0) (merge_at : Option ℕ) where
  -- `opened` was written, the background work of an opened store ended, and the disk is as the store left it, with these failed calls
  abbrev pub EndsTend : CoreState D → D → Ended E F → Option (List ℕ) → Option (List ℕ) → Type 0
  EndsTend core new ended before after =
      (ended.why ≡ None) × (ended.found ≡ None) × Failed new ended.failures
      × IfOk ended.status (λ status. (last : CoreState D)
      × ((opened : Option (List ℕ)) × Appends before opened (codes "opened\n") × EndsTending facts merge_at core last status opened after) × (new ≡ last.disk))

  -- the background work of an opened store, or it has too few hash regions
  abbrev pub TendsOpened : CoreState D → D → Ended E F → Option (List ℕ) → Option (List ℕ) → Type 0
  TendsOpened core new ended before after = RefusesFewRegions merge_at core new ended before after ⊎ EndsTend core new ended before after

module _ {D F : Type 0} (facts : Ghosts D F) where
  -- the known facts of the store on a checked disk: its six numbers, if they could be read again, and its charge
  abbrev pub IsChecked : D → Report → HeldStore → Type 0
  IsChecked disk report store =
      (store.charge ≡ Some report.charge) × IfSome store.geometry (HasShape (facts.content disk)) × IfNone store.geometry (LacksShape facts disk)

  -- a disk cannot be opened, since this is wrong with it, or it could not be read
  abbrev pub IsBad : D → OpenError F → Type 0
  IsBad disk error = IsRefusedLook (λ finding. IsTrue (facts.content disk).honest → IsFound (facts.content disk).shown finding) (GaveAny facts.gave disk) error

module _ {D E F : Type 0} (facts : Ghosts D F) where
  -- the report of a disk was written, or it was refused
  abbrev pub Checks : D → Ended E F → Option (List ℕ) → Option (List ℕ) → Type 0
  Checks disk ended before after =
      ((report : Report) × (store : HeldStore) × (IsTrue (facts.content disk).honest → IsReported (facts.content disk).shown report) × IsChecked facts disk report store
      × (ended.found ≡ Some (Store store)) × (ended.failures ≡ none_failed) × IsDone (report_text report) ended before after)
      ⊎ ((error : OpenError F) × IsBad facts disk error × RefusesSo (refusal_of_opening error) ended before after)

  -- an empty store of this shape was made of the disk, and its length was written; or the disk was not formatted
  abbrev pub Formats : Shape → D → D → Ended E F → Option (List ℕ) → Option (List ℕ) → Type 0
  Formats shape old new ended before after =
      ((size (facts.content new) ≡ device_size shape) × LeavesOnly (facts.content new) (StandsFor shape empty) × IsDone (formatted_line (device_size shape)) ended before after)
      ⊎ ((error : FormatError F) × FormatCause facts.content (GaveAny facts.gave) shape old new error × Refuses (RefusedSo (refusal_of_formatting error) None) ended before after)

-- the geometry that the numbers of a command line ask for
abbrev pub shape_asked : Numbers → Shape
shape_asked n = record { value_len = n.value_len; buckets = n.buckets; log_capacity = n.log_capacity; logs = n.logs; hashes = n.hashes; sorted_capacity = n.sorted_capacity }

-- a script was answered, or refused; if a number is out of its limits, nothing is read
abbrev pub RunsScript : {E F : Type 0} → Numbers → Ended E F → Option (List ℕ) → Option (List ℕ) → Option (List ℕ) → Option (List ℕ) → Type 0
RunsScript numbers ended remaining left before after =
    ((¬ InLimits (shape_asked numbers)) × (left ≡ remaining) × Refuses (OutOfLimits numbers) ended before after)
    ⊎ (InLimits (shape_asked numbers) × (ended.why ≡ None) × IfOk ended.status (AnswersScript (shape_asked numbers) remaining left before after))
