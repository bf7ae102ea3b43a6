-- The standard streams of the program, and the files that they are.
use Rattle.std.specs.Prelude.{◌≡◌, ◌⊎◌, ◌<◌, ℕ, ℤ, pos, ◌<ℤ◌, List, length, Option, Some, None, IfSome, MatchOption, codes, if◌then◌else◌}
use Rattle.std.specs.List.{All}
use Rattle.silt.specs.Common.{IsSomeAnd, shard_file, job_file, job_shards, Job, Clash, SameStreams}
use Rattle.silt_jobs.specs.declared.people.streams.Stream.{Stream}
use Rattle.silt_jobs.specs.declared.people.streams.Stream.TheVariants.{Input, Output, Error}

abbrev pub null_device : List ℕ
null_device = codes "/dev/null"

module _ {F : Type 0} (raw_fd : F → Option ℤ) (Opened : F → Type 0) where
  -- the system gave an opened file a number above those of the standard streams
  abbrev pub IsAbove : F → Type 0
  IsAbove file = Opened file × IfSome (raw_fd file) (λ number. pos 2 <ℤ number)

  -- an opened file, or none, since the system gave a further one a number above those of the standard streams
  abbrev pub IsLowOrLast : Option F → Type 0
  IsLowOrLast found = MatchOption found ((file : F) × IsAbove file) Opened

  -- These files were opened, and as many as it takes: three, or the system gave a further one a number above those of the standard streams.
  abbrev pub FillsLow : List F → Type 0
  FillsLow files = All Opened files × ((length files ≡ 3) ⊎ ((file : F) × IsAbove file))

-- the first of these streams
abbrev pub first_stream : SameStreams → Option Stream
first_stream same = if same.input then Some Input else if same.output then Some Output else if same.error then Some Error else None

-- the path of a job's file, or that of a shard of the set of this name
abbrev pub path_of : List ℕ → Option ℕ → List ℕ
path_of file None = file
path_of file (Some shard) = shard_file file shard

-- a job on so many files of a set works on this shard; a job on one file on no shard
abbrev pub WorksOn : Option ℕ → Option ℕ → Type 0
WorksOn None None = Unit {0}
WorksOn (Some count) (Some shard) = shard < count
WorksOn count shard = ⊥

module _ (AreFile : List ℕ → SameStreams → Type 0) where
  -- the system reported that no standard stream is the file of this path
  abbrev pub IsNoStream : List ℕ → Type 0
  IsNoStream path = (same : SameStreams) × AreFile path same × (first_stream same ≡ None)

  -- the system reported that these standard streams are the file of this path, and this is the first of them
  abbrev pub AreStreams : List ℕ → SameStreams → Stream → Type 0
  AreStreams path same stream = AreFile path same × (first_stream same ≡ Some stream)

  -- the system reported that these standard streams are the file of one of so many shards of a set, and this is the first of them
  abbrev pub IsClashAmong : List ℕ → ℕ → Clash → Type 0
  IsClashAmong file count clash =
      (clash.file.now ≡ file) × IsSomeAnd clash.shard (λ shard. (shard < count) × AreStreams (shard_file file shard) clash.same clash.stream)

module _ (AreFile : List ℕ → SameStreams → Type 0) (job : Job) where
  -- the system reported that no standard stream is a file of the job
  abbrev pub IsApart : Type 0
  IsApart = IfSome (job_file job) (λ file. (shard : Option ℕ) → WorksOn (job_shards job) shard → IsNoStream AreFile (path_of file shard))

  -- the system reported that these standard streams are a file of the job, and this is the first of them
  abbrev pub IsClash : Clash → Type 0
  IsClash clash = (job_file job ≡ Some clash.file.now) × WorksOn (job_shards job) clash.shard × AreStreams AreFile (path_of clash.file.now clash.shard) clash.same clash.stream
