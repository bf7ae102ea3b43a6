-- What the images of a disk mean.
use Rattle.silt_engine.proofs.Common.{arith, StandingLaw}
use Rattle.silt_engine.proofs.Facts.{base_safe, full_map, full_numbers, full_rows, shown_map}
use Rattle.silt_engine.proofs.MergeDone.{done_by_steps}

pub meaning : StandingLaw
meaning content s stands = search (arith, full_map, shown_map, base_safe, full_numbers, done_by_steps, full_rows)
