-- What is said of a job whose file is a standard stream.
use Rattle.std.specs.Prelude.{◌≡◌, ℕ, IfOk, List, MatchBool, Option, Some, None, option_map}
use Rattle.silt.specs.Common.{Prints, Shard, Why, IsStream, Clash}
use Rattle.silt_event.specs.declared.refusal.Refusal.TheVariants.{Device}
use Rattle.silt_jobs.specs.declared.people.ended.Ended.{Ended}

-- the line says that the device is refused, or, if the standard output is the file, nothing is written
abbrev pub PrintsClash : Clash → Option (List ℕ) → Option (List ℕ) → Type 0
PrintsClash clash before after = MatchBool clash.same.output (after ≡ before) (Prints (Device (tt {0})) before after)

-- people are told which standard stream the file is, or, if the standard error is the file, nothing
abbrev pub SaysClash : {E F : Type 0} → Clash → Option (Why E F) → Type 0
SaysClash clash why = MatchBool clash.same.error (why ≡ None) (why ≡ Some (IsStream clash.stream))

-- the job was refused because of that file of a set, if of one, and neither the line nor the reason goes into the file
abbrev pub RefusesClash : {E F : Type 0} → Clash → Ended E F → Option (List ℕ) → Option (List ℕ) → Type 0
RefusesClash clash ended before after =
    SaysClash clash ended.why × (ended.found ≡ option_map (λ shard. Shard shard) clash.shard) × IfOk ended.status (λ status. (status ≡ 1) × PrintsClash clash before after)
