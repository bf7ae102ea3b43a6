-- What a step of conversion does, from what the same step of the stores in memory does.
use Rattle.silt_store_set.proofs.Common.{◌≡◌, ℕ, inl, inr, false, IsTrue, [], length, Option, Some, None, refl, ap, sym, ◌∙◌, subst, length-map, Makes, MakesAtMost, none_made, Ghosts}
use Rattle.silt_store_set.proofs.Common.{hash_rows, step_syncs, step_writes, convert_turn, is_work, Stands, full_image, EngineState, hash_region_of, region_of, Idle, Waiting, Moved}
use Rattle.silt_store_set.proofs.Common.{Finished, Convert, Spent, Progress, Refused, Refusal, basis_of, CoreState, ConvertGoesOn, Does, convert_due, convert_work, written_of, WorksBy, Err}
use Rattle.silt_store_set.proofs.Common.{Ok, Result, arith, AreConverted, ConvertErrorCause, Converts, Finishes, HasConvertedRows, IsNextStep, MovesOn, oldest_rows, written_by, Device}
use Rattle.silt_store_set.proofs.Common.{NoMemory, ConvertsTo}
use Rattle.silt_conversion.specs.Conversion.{ConversionState}
use Rattle.silt_engine.specs.declared.conversion.ConvertError.{ConvertError}
use Rattle.silt_engine.specs.declared.conversion.ConvertError.TheVariants.{Read, Write}
use Rattle.silt_event.specs.declared.progress.Progress.{Progress as ProgressOf}
use Rattle.silt_store_set.proofs.Calls.{seen, seen_failed, advanced, answered, broke, refused}
use Rattle.silt_engine.specs.declared.conversion.ConvertError.TheVariants as error

-- a conversion in memory and the contracts' view of it have written the same number of slots
written_same : (o : Option ConversionState) → written_of (convert_work o) ≡ written_by o
written_same None = refl
written_same (Some conversion) = refl

-- the contracts' view of a step in memory
goes_on : (s : EngineState) (before : Option ConversionState) (after : ConversionState) → IsNextStep s before after
    → ConvertGoesOn s.manifest.shape.hashes s.manifest.current (convert_work before) (convert_work (Some after))
goes_on s None after step = step
goes_on s (Some before) after step = step

module _ {D F : Type 0} (facts : Ghosts D F) (disk : D) (stores : EngineState) (count : ℕ) (stands : Stands (facts.content disk) stores) where
  -- the store before
  abbrev before : CoreState D
  before = seen facts disk stores count

  -- the next step is the same in memory and by the manifest record
  pub due_same : convert_due before ≡ convert_turn stores
  due_same =
      let frozen : length stores.manifest.current.frozen ≡ length stores.frozen = ap length (sym stands.whole.frozen_regions) ∙ length-map stores.frozen region_of in
      let hashed : length stores.manifest.current.hashed ≡ length stores.hashes = ap length (sym stands.whole.hash_regions) ∙ length-map stores.hashes hash_region_of in
      cc (written_same stores.converting)

  -- the step that is due makes what was made
  made_due : (progress : ProgressOf) (new : D) → progress ≡ convert_turn stores → Makes facts.writes facts.syncs (step_writes (convert_turn stores)) (step_syncs (convert_turn stores)) disk new
      → Makes facts.writes facts.syncs (step_writes progress) (step_syncs progress) disk new
  made_due progress new due made = subst (λ (p : ProgressOf). Makes facts.writes facts.syncs (step_writes p) (step_syncs p) disk new) (sym due) made

  -- there was nothing to do
  stood : (progress : ProgressOf) (new : D) (after : EngineState) → progress ≡ convert_turn stores → new ≡ disk → after ≡ stores → facts.failures new ≡ facts.failures disk
      → ConvertsTo facts before before progress → Makes facts.writes facts.syncs (step_writes progress) (step_syncs progress) disk disk
      → is_work progress ≡ false → Does facts before (seen facts new after count) Convert (Progress progress)
  stood progress new after due same_disk same counted does made idle = rw (same_disk, same) (search (arith, answered, due_same))

  -- what the slots have
  rows_are : (new : D) (after : EngineState) (conversion : ConversionState) → stores.converting ≡ Some conversion → HasConvertedRows (facts.content disk) (facts.content new) stores after
      → AreConverted stores.manifest.shape (oldest_rows stores.manifest.shape stores.manifest.current (full_image (facts.content disk) stores))
      (hash_rows stores.manifest.shape conversion.region (full_image (facts.content new) after))
  rows_are new after conversion was has = search arith

  -- what the call of the stores in memory does
  abbrev Works : D → EngineState → Result ProgressOf (ConvertError F) → Type 0
  Works new after result = WorksBy facts (λ _. Makes facts.writes facts.syncs (step_writes (convert_turn stores)) (step_syncs (convert_turn stores)) disk new) []
      (step_writes (convert_turn stores)) (step_syncs (convert_turn stores)) disk new stores after result

  -- a step succeeded
  pub stepped : (progress : ProgressOf) (new : D) (after : EngineState) → Works new after (Ok progress)
      → Converts progress stores after → (progress ≡ Finished → IsTrue (facts.content disk).honest → HasConvertedRows (facts.content disk) (facts.content new) stores after)
      → (is_work progress ≡ false → new ≡ disk) → Does facts before (seen facts new after count) Convert (Progress progress)
  stepped Idle new after works converts rows quiet = stood Idle new after converts.due (quiet refl) converts.done works.failures refl none_made refl
  stepped Waiting new after works converts rows quiet = stood Waiting new after converts.due (quiet refl) converts.done works.failures refl none_made refl
  stepped Moved new after works converts rows quiet =
      let moves : MovesOn stores after = converts.done in
      let current : after.manifest.current ≡ stores.manifest.current = ap (λ (s : EngineState). s.manifest.current) moves.is in
      let work : after.converting ≡ Some moves.conversion = ap (λ (s : EngineState). s.converting) moves.is in
      let on : ConvertGoesOn stores.manifest.shape.hashes stores.manifest.current (convert_work stores.converting) (convert_work after.converting) =
      rw work (goes_on stores stores.converting moves.conversion moves.step) in
      advanced facts _ _ _ _ disk new stores after stands Moved works count count Convert (Progress Moved) refl refl refl refl
      (refl, converts.due ∙ sym due_same, (current, on), works.failures) (λ m to e. e) (λ _ _. current) (λ other. absurd (cc)) (λ _. ap (λ (s : EngineState).
      s.merging) moves.is) (λ _. tt) (made_due Moved new converts.due works.made)
  stepped Finished new after works converts rows quiet =
      let ends : Finishes stores after = converts.done in
      advanced facts _ _ _ _ disk new stores after stands Finished works count count Convert (Progress Finished) refl refl refl refl (
        refl,
        converts.due ∙ sym due_same,
        record {
          work = record { region = ends.conversion.region; written = ends.conversion.next };
          was = ap convert_work ends.was;
          none = ap convert_work ends.none;
          body = ends.current;
          rows = λ h. rows_are new after ends.conversion ends.was (rows refl h);
        },
        works.failures,
      ) (λ m to e. e) (λ _ unfinished. absurd (cc)) (λ other. absurd (cc)) (λ _. ends.merging) (λ _. tt) (made_due Finished new converts.due works.made)

  -- ---- a step was refused

  -- the reply to an error
  abbrev refusal_of : ConvertError F → Refusal F
  refusal_of (Read fault) = Device fault
  refusal_of (Write fault) = Device fault
  refusal_of error.Spent = Spent
  refusal_of error.NoMemory = NoMemory

  -- the store that an error leaves
  abbrev left_by : D → EngineState → ConvertError F → CoreState D
  left_by new after (Write fault) = seen_failed facts (basis_of (facts.content disk) stores) new after count
  left_by new after e = seen facts new after count

  pub not_stepped : (new : D) (after : EngineState) (e : ConvertError F) → Works new after (Err e) → ConvertErrorCause facts disk new stores after e
      → Does facts before (left_by new after e) Convert (Refused (refusal_of e))
  not_stepped new after (Read fault) works err =
      rw (err.1, err.0) (refused facts disk stores count Convert (Device fault) stands refl (inl (due_same ∙ err.2, record { given = err.3; working = refl; same = refl })))
  not_stepped new after error.Spent works err = rw (err.1, err.0) (refused facts disk stores count Convert Spent stands refl (refl, due_same ∙ err.2, err.3))
  not_stepped new after error.NoMemory works err = rw (err.1, err.0) (refused facts disk stores count Convert NoMemory stands refl (refl, due_same ∙ err.2, ap convert_work err.3))
  not_stepped new after (Write fault) works err =
      broke facts _ _ _ _ disk new stores after stands (Write fault) count Convert fault works err.1 (λ fails. inr (ap is_work due_same ∙ err.0, fails))
      (subst (λ (p : ProgressOf). MakesAtMost facts.writes facts.syncs (step_writes p) (step_syncs p) disk new) (sym due_same) works.made)
