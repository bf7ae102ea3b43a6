-- What the program does for its words.
use Rattle.std.specs.Prelude.{◌≡◌, ◌⊎◌, ℕ, true, is_some, List, [], Option, Some, None, codes}
use Rattle.silt.specs.Common.{Ghosts, job_file, job_shards, named, named_contact, Job, Service, Refuses, RunsScript, FormatsSet, RunsSet, NoJob, NoRandom, Refused}
use Rattle.silt.specs.Common.{Failures, StreamError, Urgent, Clash, SameStreams}
use Rattle.silt_device.specs.declared.source.DiskSource.{Ghosts as SourceOf}
use Rattle.silt_event.specs.declared.refusal.Refusal.TheVariants.{NoMemory as OutOfMemory}
use Rattle.silt_words.specs.Commands.{job_named}
use Rattle.silt_words.specs.declared.job.Job.TheVariants.{Format, Script, Run, Tend, Check, Dump, Set, Plan, PlanSet, Serve, Stop, Info}
use Rattle.silt_words.specs.declared.job.FormatOptions.{FormatOptions}
use Rattle.silt_words.specs.declared.job.Numbers.{Numbers}
use Rattle.silt_words.specs.declared.job.SetWork.{SetWork}
use Rattle.silt_words.specs.declared.job.SetWork.TheVariants.{Format as ToFormat, Run as ToRun, Tend as ToTend, Check as ToCheck, Dump as ToDump}
use Rattle.silt_words.specs.declared.job.WordsError.{WordsError}
use Rattle.silt_words.specs.declared.job.WordsError.TheVariants.{Usage, NoMemory}
use Rattle.silt_jobs.specs.Dump.{DumpsFile}
use Rattle.silt_jobs.specs.Files.{ChecksFile, FormatsFile, RunsFile, TendsFile, sized_by}
use Rattle.silt_jobs.specs.SetJobs.{DoesSet, DumpsSet}
use Rattle.silt_jobs.specs.SetPlans.{PlansSet}
use Rattle.silt_jobs.specs.PlanCosts.{Plans}
use Rattle.silt_jobs.specs.Plans.{first_planned}
use Rattle.silt_jobs.specs.declared.people.ended.Ended.{Ended}
use Rattle.silt_jobs.specs.declared.people.ended.Ends.{Ends}
use Rattle.silt_jobs.specs.declared.people.tally.Tally.{Tally}
use Rattle.silt_jobs.specs.declared.jobs.set_jobs.ShardJob.TheVariants as each
use Rattle.silt.specs.Clashes.{RefusesClash}
use Rattle.silt.specs.Clients.{AsksServer}
use Rattle.silt.specs.Services.{ServesFile}
use Rattle.silt.specs.SetServices.{ServesSet}
use Rattle.silt.specs.Streams.{IsApart, IsClash}
use Rattle.silt.specs.declared.client_text.Call.TheVariants as call

-- the words name this job
abbrev pub NamesJob : List (List ℕ) → Job → Type 0
NamesJob words job = job_named words ≡ Some (named job)

-- no job was read: the words name none, or the program was out of memory
abbrev pub NamesNoJob : List (List ℕ) → WordsError → Type 0
NamesNoJob words Usage = job_named words ≡ None
NamesNoJob words NoMemory = Unit {0}

-- no job was read, and the line says why
abbrev pub RefusesWords : {E F : Type 0} → WordsError → Ended E F → Option (List ℕ) → Option (List ℕ) → Type 0
RefusesWords Usage ended before after = Refuses NoJob ended before after
RefusesWords NoMemory ended before after = Refuses (Refused OutOfMemory None) ended before after

-- the device that gives random bytes
abbrev pub random_device : List ℕ
random_device = codes "/dev/urandom"

module _ {S D E F N : Type 0} (facts : Ghosts D F) (disks : SourceOf S D E F) (source : S) (told : N → N → List ℕ → Urgent → Type 0) (old new : N)
    (Begins : List ℕ → List ℕ → Type 0) where
  -- the files of a set were formatted and marked, with bytes that the device of random bytes gave, or that gave none
  abbrev pub FormatsNamed : List ℕ → Numbers → FormatOptions → ℕ → Ended E F → Option (List ℕ) → Option (List ℕ) → Type 0
  FormatsNamed file numbers options shards ended before after =
      ((set : List ℕ) × Begins random_device set × FormatsSet facts disks source told file numbers options shards set old new ended before after)
      ⊎ ((error : StreamError) × (new ≡ old) × Refuses (NoRandom error) ended before after)

module _ {S D E F : Type 0} (facts : Ghosts D F) (Failed : D → Failures → Type 0) (disks : SourceOf S D E F) (source : S) (service : Service)
    (Told : List ℕ → Urgent → Type 0) (Quiet : Type 0) where
  -- the store in a file was served, or the stores in the files of a set of so many shards
  abbrev pub DoesServe : Option ℕ → Ended E F → Option (List ℕ) → Option (List ℕ) → Type 0
  DoesServe None ended before after =
      (given : Option D)
      × ServesFile facts Failed service (disks.opened source service.file.now) (disks.not_opened source service.file.now) Told Quiet given ended before after
  DoesServe (Some count) ended before after = (left : List D) × ServesSet facts Failed disks source service Told Quiet count left ended before after

module _ {S D E F W N : Type 0} (facts : Ghosts D F) (Failed : D → Failures → Type 0) (disks : SourceOf S D E F) (source : S)
    (contents : W → Option (List ℕ)) (kept_error : W → Option StreamError) (kept_tally : W → Tally) (told : N → N → List ℕ → Urgent → Type 0) (old new : N) (Begins : List ℕ → List ℕ → Type 0) where
  -- this job on one file, or on none, was done or refused, on a disk that the source gave for its path, or it gave none
  abbrev pub DoesOne : Job → Option StreamError → Ended E F → Option (List ℕ) → Option (List ℕ) → W → W → Type 0
  DoesOne (Format file numbers options) reading ended remaining left before after =
      (given : Option D)
      × FormatsFile facts (disks.found source file.now) (disks.not_found source file.now) (sized_by options.sparse disks.resized disks.filled)
      (sized_by options.sparse disks.not_resized disks.not_filled) (told old new file.now) (new ≡ old) numbers options.force given ended (contents before) (contents after)
  DoesOne (Script numbers) reading ended remaining left before after = RunsScript numbers ended remaining left (contents before) (contents after)
  DoesOne (Run file options) reading ended remaining left before after =
      (given : Option D)
      × RunsFile facts Failed contents kept_error kept_tally options (disks.opened source file.now) (disks.not_opened source file.now) reading given ended remaining left before after
  DoesOne (Tend file merge_at) reading ended remaining left before after =
      (given : Option D)
      × TendsFile facts Failed merge_at (disks.opened source file.now) (disks.not_opened source file.now) given ended (contents before) (contents after)
  DoesOne (Check file) reading ended remaining left before after =
      (given : Option D) × ChecksFile facts (disks.shared source file.now) (disks.not_shared source file.now) given ended (contents before) (contents after)
  DoesOne (Dump file) reading ended remaining left before after =
      (given : Option D) × DumpsFile facts (disks.shared source file.now) (disks.not_shared source file.now) given ended (contents before) (contents after)
  DoesOne (Plan request) reading ended remaining left before after = Plans request (first_planned request) ended (contents before) (contents after)
  DoesOne (PlanSet shards request) reading ended remaining left before after = PlansSet shards request ended (contents before) (contents after)
  DoesOne (Serve service) reading ended remaining left before after =
      DoesServe facts Failed disks source service (told old new) (new ≡ old) service.shards ended (contents before) (contents after)
  DoesOne (Stop contact) reading ended remaining left before after =
      AsksServer (told old new) (new ≡ old) call.Stop (named_contact contact) ended (contents before) (contents after)
  DoesOne (Info contact) reading ended remaining left before after =
      AsksServer (told old new) (new ≡ old) call.Info (named_contact contact) ended (contents before) (contents after)
  DoesOne (Set job) reading ended remaining left before after = ⊥

  -- this job on the files of a set was done or refused
  abbrev pub DoesSetJob : List ℕ → ℕ → SetWork → Option StreamError → Ends E F → Option (List ℕ) → Option (List ℕ) → W → W → Type 0
  DoesSetJob file shards (ToFormat numbers options) reading ends remaining left before after =
      (ends.parts.items ≡ []) × FormatsNamed facts disks source told old new Begins file numbers options shards ends.whole (contents before) (contents after)
  DoesSetJob file shards (ToRun options) reading ends remaining left before after =
      (ends.parts.items ≡ []) × RunsSet facts disks source file contents kept_error kept_tally options reading shards ends.whole remaining left before after
  DoesSetJob file shards (ToTend merge_at) reading ends remaining left before after =
      DoesSet facts Failed disks source file (each.Tend merge_at) shards ends (contents before) (contents after)
  DoesSetJob file shards ToCheck reading ends remaining left before after =
      DoesSet facts Failed disks source file each.Check shards ends (contents before) (contents after)
  DoesSetJob file shards ToDump reading ends remaining left before after =
      (ends.parts.items ≡ []) × DumpsSet facts disks source file shards ends.whole (contents before) (contents after)

  -- this job was done or refused, on a disk that the source gave for its path, or it gave none
  abbrev pub DoesJob : Job → Option StreamError → Ends E F → Option (List ℕ) → Option (List ℕ) → W → W → Type 0
  DoesJob (Set job) reading ends remaining left before after = DoesSetJob job.file.now job.shards job.work reading ends remaining left before after
  DoesJob job reading ends remaining left before after = (ends.parts.items ≡ []) × DoesOne job reading ends.whole remaining left before after

module _ {S D E F W N : Type 0} (facts : Ghosts D F) (Failed : D → Failures → Type 0) (disks : SourceOf S D E F) (source : S)
    (contents : W → Option (List ℕ)) (kept_error : W → Option StreamError) (kept_tally : W → Tally) (told : N → N → List ℕ → Urgent → Type 0) (old new : N)
    (Begins : List ℕ → List ℕ → Type 0) (AreFile : List ℕ → SameStreams → Type 0) where
  -- No file of the job is a standard stream, and it was done or refused. Or one is, and so nothing is read, and that file gets neither line
  -- nor reason. Or memory ran out for the name of a set's file, and nothing is read.
  abbrev pub EndsJob : Job → Option StreamError → Ends E F → Option (List ℕ) → Option (List ℕ) → W → W → Type 0
  EndsJob job reading ends remaining left before after =
      (IsApart AreFile job × DoesJob facts Failed disks source contents kept_error kept_tally told old new Begins job reading ends remaining left before after)
      ⊎ ((left ≡ remaining) × (ends.parts.items ≡ [])
      × (((clash : Clash) × IsClash AreFile job clash × RefusesClash clash ends.whole (contents before) (contents after))
      ⊎ ((is_some (job_shards job) ≡ true) × Refuses (Refused OutOfMemory None) ends.whole (contents before) (contents after))))

  -- the job that the words name ended so, and this is the name of its file; or no job was read from the words
  abbrev pub Answers : List (List ℕ) → Option (List ℕ) → Option StreamError → Ends E F → Option (List ℕ) → Option (List ℕ) → W → W → Type 0
  Answers words file reading ends remaining left before after =
      ((job : Job) × NamesJob words job × (file ≡ job_file job) × EndsJob job reading ends remaining left before after)
      ⊎ ((error : WordsError) × NamesNoJob words error × (file ≡ None) × (ends.parts.items ≡ []) × RefusesWords error ends.whole (contents before) (contents after))
