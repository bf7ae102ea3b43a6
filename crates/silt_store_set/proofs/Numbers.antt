-- Work in progress as contracts see it has the numbers of the work in memory.
use Rattle.silt_store_set.proofs.Common.{◌≡◌, Option, Some, None, refl, MergeState, convert_work, merge_work}
use Rattle.silt_conversion.specs.Conversion.{ConversionState}
use Rattle.silt_engine.specs.Numbers.{merge_steps, slots_converted}
use Rattle.silt_store_set.specs.Facts.{slots_written, steps_taken}

pub same_slots : (conversion : Option ConversionState) → slots_converted conversion ≡ slots_written (convert_work conversion)
same_slots None = refl
same_slots (Some conversion) = refl

pub same_steps : (merge : Option MergeState) → merge_steps merge ≡ steps_taken (merge_work merge)
same_steps None = refl
same_steps (Some merge) = refl
