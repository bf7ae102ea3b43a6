-- What the jobs on the disk of a path do.
use Rattle.std.specs.Prelude.{◌≡◌, ◌⊎◌, ℕ, Bool, true, false, List, MatchResult, Option, Some, None, Result}
use Rattle.silt_jobs.specs.Common.{IsSomeAnd, GaveAny, LeavesOnly, size, InLimits, Shape, device_size, Ghosts, marking_of, Says, Unmarked, CoreState, Opens, Numbers}
use Rattle.silt_jobs.specs.Common.{RunOptions, Device, Ended, OutOfLimits, Failures, Holding, StreamError, Tally, Urgent}
use Rattle.silt_jobs.specs.declared.people.ended.Why.TheVariants.{Refused}
use Rattle.silt_jobs.specs.Ended.{Refuses}
use Rattle.silt_jobs.specs.HeldData.{FindsData, TellsStore, overwritten}
use Rattle.silt_jobs.specs.Jobs.{Checks, Formats, RunsOpened, TendsOpened, shape_asked}
use Rattle.silt_jobs.specs.Openings.{IsUnopened, OnDisk, RefusesDisk, RefusesFor, RefusesNoDisk}

module _ {D F : Type 0} (facts : Ghosts D F) where
  -- the store on a disk was opened, this was done with it, and the disk is returned
  abbrev pub Opened : D → (CoreState D → D → Type 0) → Option D → Type 0
  Opened old Done given = (core : CoreState D) × Opens facts (facts.content old) core × IsSomeAnd given (λ new. Done core new)

module _ {D E F W : Type 0} (facts : Ghosts D F) (Failed : D → Failures → Type 0) (contents : W → Option (List ℕ)) (kept_error : W → Option StreamError) (kept_tally : W → Tally)
    (options : RunOptions) where
  -- one life of the store on a disk, or it was not opened: a disk with a mark is not
  abbrev pub RunsDisk : Option StreamError → D → Option D → Ended E F → Option (List ℕ) → Option (List ℕ) → W → W → Type 0
  RunsDisk reading disk given ended remaining left before after =
      RefusesDisk facts disk given ended (contents before) (contents after)
      ⊎ (Says facts disk Unmarked × Opened facts disk (λ core new. RunsOpened facts Failed contents kept_error kept_tally options reading core new ended remaining left before after) given)

  -- one life of the store on the disk that the source opened, or it opened none
  abbrev pub RunsFile : (D → Type 0) → (E → Type 0) → Option StreamError → Option D → Ended E F → Option (List ℕ) → Option (List ℕ) → W → W → Type 0
  RunsFile Given NotGiven reading given ended remaining left before after =
      OnDisk Given NotGiven (λ disk. RunsDisk reading disk given ended remaining left before after) given ended (contents before) (contents after)

module _ {D E F : Type 0} (facts : Ghosts D F) where
  -- the background work of the store on a disk, or it was not opened
  abbrev pub TendsDisk : (D → Failures → Type 0) → Option ℕ → D → Option D → Ended E F → Option (List ℕ) → Option (List ℕ) → Type 0
  TendsDisk Failed merge_at disk given ended before after =
      RefusesFor facts (IsUnopened facts) disk given ended before after ⊎ Opened facts disk (λ core new. TendsOpened facts Failed merge_at core new ended before after) given

  -- the background work of the store on the disk that the source opened, or it opened none
  abbrev pub TendsFile : (D → Failures → Type 0) → Option ℕ → (D → Type 0) → (E → Type 0) → Option D → Ended E F → Option (List ℕ) → Option (List ℕ) → Type 0
  TendsFile Failed merge_at Given NotGiven given ended before after =
      OnDisk Given NotGiven (λ disk. TendsDisk Failed merge_at disk given ended before after) given ended before after

  -- a check of the disk that the source opened, which is returned, or it opened none
  abbrev pub ChecksFile : (D → Type 0) → (E → Type 0) → Option D → Ended E F → Option (List ℕ) → Option (List ℕ) → Type 0
  ChecksFile Given NotGiven given ended before after = OnDisk Given NotGiven (λ disk. (given ≡ Some disk) × Checks facts disk ended before after) given ended before after

-- what giving a length does to a disk that is to be sparse, or to one of which all bytes are written
abbrev pub sized_by : {D X : Type 0} → Bool → (D → ℕ → X → Type 0) → (D → ℕ → X → Type 0) → D → ℕ → X → Type 0
sized_by true resized filled = resized
sized_by false resized filled = filled

module _ {D F : Type 0} (facts : Ghosts D F) where
  -- the disk has no mark of a shard and stays as it was, or the mark's commit byte was closed
  abbrev pub Unmarks : D → D → Type 0
  Unmarks old new = ((new ≡ old) × Says facts old Unmarked) ⊎ LeavesOnly (facts.content new) (λ image. marking_of image ≡ Unmarked)

module _ {D E F : Type 0} (facts : Ghosts D F) where
  -- the disk has no mark any more, and was formatted or not; or its mark could not be read or closed
  abbrev pub FormatsUnmarked : Shape → D → D → Ended E F → Option (List ℕ) → Option (List ℕ) → Type 0
  FormatsUnmarked shape old new ended before after =
      ((unmarked : D) × Unmarks facts old unmarked × Formats facts shape unmarked new ended before after)
      ⊎ ((fault : F) × GaveAny facts.gave new fault × Refuses (Refused (Device fault) None) ended before after)

module _ {D E F : Type 0} (facts : Ghosts D F) (Resized : D → ℕ → D → Type 0) (NotResized : D → ℕ → E → Type 0) where
  -- the length of this shape was set, and the disk was formatted or not; or it could not be set
  abbrev pub FormatsSized : Shape → D → Option D → Ended E F → Option (List ℕ) → Option (List ℕ) → Type 0
  FormatsSized shape found given ended before after =
      RefusesNoDisk (NotResized found (device_size shape)) given ended before after
      ⊎ ((sized : D) × Resized found (device_size shape) sized × (size (facts.content sized) ≡ device_size shape)
      × IsSomeAnd given (λ disk. FormatsUnmarked facts shape sized disk ended before after))

module _ {D E F : Type 0} (facts : Ghosts D F) (Resized : D → ℕ → D → Type 0) (NotResized : D → ℕ → E → Type 0) (Told : Urgent → Type 0) (Quiet : Type 0) where
  -- The data on the found disk was read. If it may be overwritten, a store is told of before that. If not, it stays, and the disk is returned
  -- as it was found.
  abbrev pub FormatsFound : Shape → Bool → D → Option D → Ended E F → Option (List ℕ) → Option (List ℕ) → Type 0
  FormatsFound shape force found given ended before after =
      (look : Result Holding F) × FindsData facts found look
      × MatchResult (overwritten force look) (λ store. TellsStore Told Quiet store × FormatsSized facts Resized NotResized shape found given ended before after)
      (λ why. Quiet × (given ≡ Some found) × Refuses why ended before after)

module _ {D E F : Type 0} (facts : Ghosts D F) (Found : D → Type 0) (NotFound : E → Type 0) (Resized : D → ℕ → D → Type 0) (NotResized : D → ℕ → E → Type 0)
    (Told : Urgent → Type 0) (Quiet : Type 0) where
  -- a number is out of its limits, the source has no such disk, or the found one was read, and formatted or not
  abbrev pub FormatsFile : Numbers → Bool → Option D → Ended E F → Option (List ℕ) → Option (List ℕ) → Type 0
  FormatsFile numbers force given ended before after =
      ((¬ InLimits (shape_asked numbers)) × Quiet × (given ≡ None) × Refuses (OutOfLimits numbers) ended before after)
      ⊎ (InLimits (shape_asked numbers)
      × ((Quiet × RefusesNoDisk NotFound given ended before after)
      ⊎ ((found : D) × Found found × FormatsFound facts Resized NotResized Told Quiet (shape_asked numbers) force found given ended before after)))
