-- Numbers of work in progress.
use Rattle.std.specs.Prelude.{ℕ, Option, Some, None}
use Rattle.silt_conversion.specs.Conversion.{ConversionState}
use Rattle.silt_merge.specs.State.{MergeState, steps_of}

-- how many slots a conversion has written, if one is in progress
abbrev pub slots_converted : Option ConversionState → ℕ
slots_converted None = 0
slots_converted (Some conversion) = conversion.next

-- how many steps a merge has taken, if one is in progress
abbrev pub merge_steps : Option MergeState → ℕ
merge_steps None = 0
merge_steps (Some merge) = steps_of merge
