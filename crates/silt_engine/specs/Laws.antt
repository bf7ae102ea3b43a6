-- Laws of the stores on a disk, for the layers above.
use Rattle.std.specs.Prelude.{◌≡◌, ℕ, IsTrue, List, Ok, IfSome}
use Rattle.silt_disk.specs.Disk.{Content, LeavesOnly}
use Rattle.silt_disk.specs.Layout.{Shape}
use Rattle.silt_image.specs.Meaning.{IsGood, StandsFor, image_charge, image_map}
use Rattle.silt_image.specs.Stores.{image_stores, stores_named}
use Rattle.silt_log.specs.Rows.{log_rows}
use Rattle.silt_log.specs.State.{all_rows}
use Rattle.silt_manifest.specs.declared.body.Body.{Body}
use Rattle.silt_engine.specs.Merge.{IsDoneBySteps}
use Rattle.silt_standing.specs.State.{EngineState}
use Rattle.silt_standing.specs.Standing.{Stands, base_map, current_map, full_image}

-- a good image of this shape, in which this record is current, with this many puts
pub record IsGoodWith (shape : Shape) (body : Body) (charge : ℕ) (image : List ℕ) : Type 0 where
  pub stores : image_stores image ≡ Ok (stores_named shape body image)
  pub good : IsGood image
  pub charged : image_charge image ≡ charge

-- What the images of a disk represent if the stores stand on it: each possible crash image represents the base. With the commit bytes of the
-- waiting rows open, what is shown represents the map of lookups, and has the numbers of the stores and all rows in the active log. A merge
-- is done after the steps that its stores take.
pub record Means (content : Content) (s : EngineState) : Type 0 where
  pub full : IsTrue content.honest → image_map (full_image content s) ≡ current_map content s
  pub shown : IsTrue content.honest → image_map content.shown ≡ base_map content s
  pub safe : LeavesOnly content (StandsFor s.manifest.shape (base_map content s))
  pub numbers : IsTrue content.honest → IsGoodWith s.manifest.shape s.manifest.current s.charge (full_image content s)
  pub merging : IsTrue content.honest → IfSome s.merging (IsDoneBySteps content s)
  pub rows : IsTrue content.honest → log_rows s.manifest.shape s.manifest.current.active (full_image content s) ≡ all_rows content s.active.log

-- all images of a disk on which stores stand are so
abbrev pub StandingLaw : Type 0
StandingLaw = (content : Content) (s : EngineState) → Stands content s → Means content s
