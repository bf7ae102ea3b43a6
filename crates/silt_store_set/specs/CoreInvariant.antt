-- What is true of each store.
use Rattle.std.specs.Prelude.{◌≡◌, ◌<◌, ◌≤◌, ◌^◌, ℕ, Bool, true, false, IsTrue, List, length}
use Rattle.silt_disk.specs.Disk.{Content, LeavesOnly, size}
use Rattle.silt_disk.specs.Layout.{Shape, device_size}
use Rattle.silt_event.specs.Commands.{Command, Map, map_after}
use Rattle.silt_disk.specs.Header.{shape_of}
use Rattle.silt_image.specs.Meaning.{image_map, IsGood}
use Rattle.silt_engine.specs.Calls.{HoldsPrefix}
use Rattle.silt_standing.specs.Standing.{Stands, full_image, waiting_commands}
use Rattle.silt_standing.specs.State.{EngineState}
use Rattle.silt_store_set.specs.Basis.{BasisState}

-- What is known of a disk whose store is gone: for some map and list of commands, each possible crash image represents the map after some
-- first part of the list.
pub record LeavesBegun (content : Content) (shape : Shape) : Type 0 where
  pub base : Map
  pub waiting : List Command
  pub begun : LeavesOnly content (HoldsPrefix shape base waiting)

-- Each possible crash image represents the base after some first part of the waiting commands. The full image represents the base after
-- all of them, and no more wait than the store accepted.
pub record BreaksFrom (basis : BasisState) (content : Content) (stores : EngineState) (count : ℕ) : Type 0 where
  pub begun : LeavesOnly content (HoldsPrefix stores.manifest.shape basis.base basis.waiting)
  pub has_map : IsTrue content.honest → image_map (full_image content stores) ≡ map_after basis.base basis.waiting
  pub few : IsTrue content.honest → length basis.waiting ≤ count

-- What is true of each store. If it is not failed, its memory fits its disk, and no more commands wait than it accepted. If it is failed,
-- its failing call broke off from the basis.
pub record IsCore (content : Content) (stores : EngineState) (count : ℕ) (failed : Bool) (basis : BasisState) : Type 0 where
  pub has_size : size content ≡ device_size stores.manifest.shape
  pub count_most : count < 2 ^ 63
  pub stands : failed ≡ false → Stands content stores
  pub few : failed ≡ false → IsTrue content.honest → length (waiting_commands content stores) ≤ count
  pub breaks : failed ≡ true → BreaksFrom basis content stores count

-- the image is good, has values of this length, and represents this map
pub record IsSafe (value_len : ℕ) (map : Map) (image : List ℕ) : Type 0 where
  pub good : IsGood image
  pub has_len : (shape_of image).value_len ≡ value_len
  pub has_map : image_map image ≡ map
