-- How a job ended, and what it wrote.
use Rattle.std.specs.Prelude.{◌≡◌, ℕ, IfOk, List, [], Option, Some, None, codes}
use Rattle.std.specs.Result.{result_unwrap_or}
use Rattle.silt_jobs.specs.Common.{Appends, Refusal, Ended, Why, NoDisk, Holds, FewRegions, OutOfLimits, NoPlan, NotDue, NoJob, Failures}
use Rattle.silt_event.specs.declared.reply.Reply.TheVariants.{Refused as RefusedReply}
use Rattle.silt_jobs.specs.declared.people.ended.Ends.{Ends}
use Rattle.silt_jobs.specs.declared.people.ended.Why.TheVariants.{Refused, IsStream, ShortValues, NotListening, NoReply, NotAsked, NoRandom}
use Rattle.silt_jobs.specs.declared.people.failure.Failure.{Failure}
use Rattle.silt_jobs.specs.Scripts.{reply_line}

-- no call failed
abbrev pub none_failed : Failures
none_failed = record { read = None; last = None; shard = None }

-- these are the calls of the disk that failed
abbrev pub HasFailed : {D : Type 0} → (D → Option Failure → Type 0) → (D → Option Failure) → D → Failures → Type 0
HasFailed kept_read last_failure disk failures = kept_read disk failures.read × (failures.last ≡ last_failure disk) × (failures.shard ≡ None)

module _ {E F : Type 0} where
  -- the line that says why a job was refused
  abbrev pub why_line : Why E F → List ℕ
  why_line (NoDisk error) = codes "refused 5 Device\n"
  why_line (Refused refusal at) = reply_line (RefusedReply refusal)
  why_line (Holds holding) = codes "refused 5 Device\n"
  why_line (IsStream stream) = codes "refused 5 Device\n"
  why_line (FewRegions hashes) = codes "refused 2 BadGeometry\n"
  why_line ShortValues = codes "refused 2 BadGeometry\n"
  why_line (OutOfLimits numbers) = codes "refused 2 BadGeometry\n"
  why_line (NoPlan shards request) = codes "no plan\n"
  why_line (NotListening socket error) = codes "network fault\n"
  why_line (NoReply socket error) = codes "network fault\n"
  why_line NotAsked = codes "network fault\n"
  why_line (NoRandom error) = codes "refused 5 Device\n"
  why_line (NotDue fault) = codes "refused 2 BadGeometry\n"
  why_line NoJob = codes "usage\n"

  -- the status of a job that was refused
  abbrev pub why_status : Why E F → ℕ
  why_status NoJob = 2
  why_status why = 1

  -- the job was refused for this reason: the line says so, if it was written
  abbrev pub Refuses : Why E F → Ended E F → Option (List ℕ) → Option (List ℕ) → Type 0
  Refuses why ended before after =
      (ended.why ≡ Some why) × (ended.found ≡ None) × (ended.failures ≡ none_failed)
      × IfOk ended.status (λ status. (status ≡ why_status why) × Appends before after (why_line why))

  -- the store refused so, with the offset of the damage, if that is known
  abbrev pub RefusesSo : Refusal F → Ended E F → Option (List ℕ) → Option (List ℕ) → Type 0
  RefusesSo refusal ended before after = (at : Option ℕ) × Refuses (Refused refusal at) ended before after

  -- the status that the program ends with
  abbrev pub exit_status : Ended E F → ℕ
  exit_status ended = result_unwrap_or ended.status 1

  -- the job has no end for each file, but this one
  abbrev pub EndsWhole : Ended E F → Ends E F → Type 0
  EndsWhole ended ends = (ends.parts.items ≡ []) × (ends.whole ≡ ended)

  -- the job was done: this text was written, if the writer did not fail
  abbrev pub IsDone : List ℕ → Ended E F → Option (List ℕ) → Option (List ℕ) → Type 0
  IsDone text ended before after = (ended.why ≡ None) × IfOk ended.status (λ status. (status ≡ 0) × Appends before after text)
