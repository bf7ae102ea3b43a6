-- What a disk shows if stores stand on it.
use Rattle.silt_disk.specs.Disk.{Content}
use Rattle.silt_disk.proofs.Images.{shown_left}
use Rattle.silt_standing.specs.State.{EngineState}
use Rattle.silt_standing.specs.Standing.{ShowsStores, Stands}

-- a disk shows the stores that stand on it
pub stands_shown : (content : Content) (s : EngineState) → Stands content s → ShowsStores content s
stands_shown content s stands = record {
  whole = stands.whole;
  bounds = stands.active.bounds;
  active = λ h. stands.active.images.each h content.shown (shown_left content);
  frozen = stands.frozen;
}
