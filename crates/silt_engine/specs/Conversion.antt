-- The conversion of the oldest frozen log into a hash store, step by step.
use Rattle.std.specs.Prelude.{◌≡◌, ◌<◌, ◌+◌, ◌-◌, ◌*◌, ◌^◌, ◌==◌, ℕ, Bool, true, false, if◌then◌else◌, List, length, take, get_or, ◌∷◌, Option, Some, None, IfSome}
use Rattle.silt_cuckoo.specs.Index.{index_of_keys}
use Rattle.silt_cuckoo.specs.Slots.{Slots}
use Rattle.silt_disk.specs.Disk.{Content, GaveAny}
use Rattle.silt_disk.specs.Layout.{Shape}
use Rattle.silt_disk.specs.declared.disk.Disk.{Ghosts}
use Rattle.silt_frame.specs.Rows.{StoredRow, keys_of}
use Rattle.silt_conversion.specs.Conversion.{ConversionState, IsDigestOf, converted_rows}
use Rattle.silt_hash_store.specs.Slots.{hash_rows}
use Rattle.silt_hash_store.specs.State.{HashState, IsHeldHash}
use Rattle.silt_conversion.specs.declared.conversion.StepError.{StepError}
use Rattle.silt_conversion.specs.declared.conversion.StepError.TheVariants as step_error
use Rattle.silt_log.specs.Rows.{log_rows}
use Rattle.silt_manifest.specs.Standing.{ManifestState}
use Rattle.silt_manifest.specs.declared.body.Body.{Body}
use Rattle.silt_manifest.specs.declared.digests.Digests.{Digests}
use Rattle.silt_engine.specs.declared.conversion.ConvertError.{ConvertError}
use Rattle.silt_engine.specs.declared.conversion.ConvertError.TheVariants.{Spent, NoMemory, Read, Write}
use Rattle.silt_event.specs.declared.progress.Progress.{Progress}
use Rattle.silt_event.specs.declared.progress.Progress.TheVariants.{Idle, Waiting, Moved, Finished}
use Rattle.silt_standing.specs.State.{AreWhole, EngineState, names_hash, oldest_log}
use Rattle.silt_engine.specs.Calls.{BreaksOff, IsLastGeneration}
use Rattle.silt_engine.specs.Digests.{converted_digests}
use Rattle.silt_standing.specs.Standing.{full_image}

-- the progress of the next step, given the numbers of frozen logs, hash stores, hash regions and slots, and how many slots are written
-- (none if no conversion is in progress)
abbrev pub progress_due : ℕ → ℕ → ℕ → ℕ → Option ℕ → Progress
progress_due frozen hashes regions slots (Some written) = if written == slots then Finished else Moved
progress_due frozen hashes regions slots None = if frozen == 0 then Idle else if hashes == regions then Waiting else Moved

-- how many slots a conversion has written
abbrev pub written_by : Option ConversionState → Option ℕ
written_by None = None
written_by (Some conversion) = Some conversion.next

-- the next progress of conversion
abbrev pub convert_turn : EngineState → Progress
convert_turn s = progress_due (length s.frozen) (length s.hashes) s.manifest.shape.hashes (4 * s.manifest.shape.buckets) (written_by s.converting)

-- there is a step to be done
abbrev pub is_work : Progress → Bool
is_work Moved = true
is_work Finished = true
is_work progress = false

-- the lowest of this many hash regions that the record does not name
pub record IsLowestFreeHash (hashes : ℕ) (body : Body) (region : ℕ) : Type 0 where
  pub below : region < hashes
  pub free : names_hash body region ≡ false
  pub lowest : (earlier : ℕ) → earlier < region → names_hash body earlier ≡ true

-- the record names all of this many hash regions
abbrev pub AreAllHashesNamed : ℕ → Body → Type 0
AreAllHashesNamed hashes body = (region : ℕ) → region < hashes → names_hash body region ≡ true

-- the body without the oldest frozen log, and with this hash region in front of the others
abbrev pub converted_body : Body → ℕ → Body
converted_body body region = record body { generation = body.generation + 1; frozen = take (length body.frozen - 1) body.frozen; hashed = region ∷ body.hashed }

-- one more slot is written, or the first slot of the lowest free region
abbrev pub IsNextStep : EngineState → Option ConversionState → ConversionState → Type 0
IsNextStep s (Some before) after = (after.region ≡ before.region) × (after.next ≡ before.next + 1)
IsNextStep s None after = IsLowestFreeHash s.manifest.shape.hashes s.manifest.current after.region × (after.next ≡ 1)

-- a conversion went one step on, and nothing else is changed
pub record MovesOn (before after : EngineState) : Type 0 where
  pub conversion : ConversionState
  pub is : after ≡ record before { converting = Some conversion }
  pub step : IsNextStep before before.converting conversion

-- a conversion is finished: the next record is current, without the oldest log and with the hash store in front of the others
pub record Finishes (before after : EngineState) : Type 0 where
  pub conversion : ConversionState
  pub was : before.converting ≡ Some conversion
  pub none : after.converting ≡ None
  pub shape : after.manifest.shape ≡ before.manifest.shape
  pub current : after.manifest.current ≡ converted_body before.manifest.current conversion.region
  pub active : after.active ≡ before.active
  pub frozen : after.frozen ≡ take (length before.frozen - 1) before.frozen
  pub sorted : after.sorted ≡ before.sorted
  pub index : after.index ≡ before.index
  pub digest : after.digest ≡ before.digest
  pub merging : after.merging ≡ before.merging

-- what a step changes in memory
abbrev pub StepsOn : Progress → EngineState → EngineState → Type 0
StepsOn Idle before after = after ≡ before
StepsOn Waiting before after = after ≡ before
StepsOn Moved before after = MovesOn before after
StepsOn Finished before after = Finishes before after

-- a step returned the progress that was due, and made it
pub record Converts (progress : Progress) (before after : EngineState) : Type 0 where
  pub due : progress ≡ convert_turn before
  pub done : StepsOn progress before after

-- the rows of the oldest frozen log that a body names, in an image
abbrev pub oldest_rows : Shape → Body → List ℕ → List StoredRow
oldest_rows shape body image = log_rows shape (get_or body.frozen (length body.frozen - 1) body.active) image

-- the slots of a hash store have the last row of each key of a log's rows, if the table of the log's keys has it, and no other row
pub record AreConverted (shape : Shape) (rows slots : List StoredRow) : Type 0 where
  pub table : Slots
  pub indexed : index_of_keys shape.buckets (keys_of rows) ≡ Some table
  pub are : slots ≡ converted_rows shape table rows

-- the slots of the conversion's region have the last row of each key of the log that was the oldest one, and no other
abbrev pub HasConvertedRows : Content → Content → EngineState → EngineState → Type 0
HasConvertedRows old new before after =
    IfSome before.converting (λ conversion.
    AreConverted before.manifest.shape (oldest_rows before.manifest.shape before.manifest.current (full_image old before)) (hash_rows before.manifest.shape conversion.region (full_image new after)))

-- the error that says why a slot was not written
abbrev pub refusal_of_step : {F : Type 0} → StepError F → ConvertError F
refusal_of_step (step_error.Read fault) = Read fault
refusal_of_step (step_error.Write fault) = Write fault

module _ {D F : Type 0} (facts : Ghosts D F) (old new : D) (before after : EngineState) where
  -- why a step was not done, and what was changed
  abbrev pub ConvertErrorCause : ConvertError F → Type 0
  ConvertErrorCause Spent = (after ≡ before) × (new ≡ old) × (convert_turn before ≡ Finished) × IsLastGeneration before
  ConvertErrorCause NoMemory = (after ≡ before) × (new ≡ old) × (convert_turn before ≡ Moved) × (before.converting ≡ None)
  ConvertErrorCause (Read fault) = (after ≡ before) × (new ≡ old) × (convert_turn before ≡ Moved) × GaveAny facts.gave old fault
  ConvertErrorCause (Write fault) = (is_work (convert_turn before) ≡ true) × BreaksOff facts old new before after fault

-- ---- between the steps

-- the body that ends a conversion, all of whose slots are written, and the digests of the stores that it names: that of what the
-- conversion's hasher was fed in front of the others
pub record EndsConversion (s : EngineState) (body : Body) (digests : Digests) : Type 0 where
  pub conversion : ConversionState
  pub was : s.converting ≡ Some conversion
  pub done : conversion.next ≡ 4 * conversion.shape.buckets
  pub unspent : s.manifest.current.generation < 2 ^ 63 - 1
  pub is : body ≡ converted_body s.manifest.current conversion.region
  pub digest : List ℕ
  pub digested : IsDigestOf conversion.hasher digest
  pub digests_are : digests ≡ converted_digests s digest

-- the hash store of a conversion, with this digest
abbrev pub store_of : ConversionState → List ℕ → HashState
store_of conversion digest = record { shape = conversion.shape; region = conversion.region; tags = conversion.tags; puts = conversion.puts; digest = digest }

-- in memory: under this manifest, the hash store of this conversion is in front of the others, with this digest, and the oldest log is
-- gone, with the puts that the hash store does not have
abbrev pub oldest_replaced : EngineState → ManifestState → ConversionState → List ℕ → EngineState
oldest_replaced s manifest conversion digest = record {
  manifest = manifest;
  active = s.active;
  frozen = take (length s.frozen - 1) s.frozen;
  hashes = store_of conversion digest ∷ s.hashes;
  sorted = s.sorted;
  index = s.index;
  digest = s.digest;
  converting = None;
  merging = s.merging;
  charge = s.charge - ((oldest_log s).puts - conversion.puts);
}

-- the conversion, all of whose slots are written, may replace the oldest log under this manifest
pub record MayReplace (s : EngineState) (manifest : ManifestState) : Type 0 where
  pub conversion : ConversionState
  pub was : s.converting ≡ Some conversion
  pub done : conversion.next ≡ 4 * conversion.shape.buckets
  pub whole : (digest : List ℕ) → IsHeldHash (store_of conversion digest) → AreWhole (oldest_replaced s manifest conversion digest)

-- in memory, the hash store of this conversion replaced the oldest log, with the digest of what its hasher was fed
pub record ReplacesOldest (s : EngineState) (manifest : ManifestState) (after : EngineState) (conversion : ConversionState) : Type 0 where
  pub digest : List ℕ
  pub digested : IsDigestOf conversion.hasher digest
  pub is : after ≡ oldest_replaced s manifest conversion digest
