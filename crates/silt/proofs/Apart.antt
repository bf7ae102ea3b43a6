-- Files of jobs that are no standard streams.
use Rattle.std.proofs.Common.{◌≡◌, ◌<◌, ℕ, List, Option, Some, None, sym, subst₂}
use Rattle.std.specs.Prelude.{IfSome}
use Rattle.silt_jobs.specs.SetFiles.{shard_file}
use Rattle.silt_words.specs.Jobs.{job_file, job_shards}
use Rattle.silt_words.specs.declared.job.Job.{Job}
use Rattle.silt.specs.Streams.{IsApart, IsNoStream, WorksOn, path_of}
use Rattle.silt.specs.declared.standard_streams.SameStreams.{SameStreams}

module _ (AreFile : List ℕ → SameStreams → Type 0) where
  -- a job on a set whose files are none works on no file that is one
  each_apart : (file : List ℕ) (count : ℕ) → ((shard : ℕ) → shard < count → IsNoStream AreFile (shard_file file shard)) → (shard : Option ℕ) → WorksOn (Some count) shard
      → IsNoStream AreFile (path_of file shard)
  each_apart file count none None works = absurd works
  each_apart file count none (Some shard) works = none shard works

  -- no file of a job on a set is a standard stream, if none of the shards' is
  pub set_apart : (job : Job) (file : List ℕ) (count : ℕ) → job_file job ≡ Some file → job_shards job ≡ Some count
      → ((shard : ℕ) → shard < count → IsNoStream AreFile (shard_file file shard)) → IsApart AreFile job
  set_apart job file count named counted none =
      subst₂ (λ (f : Option (List ℕ)) (n : Option ℕ). IfSome f (λ file. (shard : Option ℕ) → WorksOn n shard → IsNoStream AreFile (path_of file shard))) (sym named) (sym counted)
      (each_apart file count none)
