-- The bytes of a hash store, by the place of its region in the list.
use Rattle.std.proofs.Common.{◌≡◌, ℕ, Bool, List, false, refl, subst, sym, true}
use Rattle.std.proofs.lemmas.Bool.{ltb-true}
use Rattle.std.specs.Prelude.{◌==◌, if◌then◌else◌, nat_lt, position, Option}
use Rattle.std.specs.Option.{option_map}
use Rattle.silt_care.specs.Extents.{IsPartOf, extent_of, hash_extent, part_at}
use Rattle.silt_care.specs.declared.extent.Extent.{Extent}
use Rattle.silt_care.specs.declared.extent.Part.{Part}
use Rattle.silt_care.specs.declared.extent.Part.TheVariants.{Hash, Sorted}
use Rattle.silt_disk.specs.Layout.{Shape}
use Rattle.silt_manifest.specs.declared.body.Body.{Body}
use Rattle.silt_manifest.specs.declared.digests.Digests.{Digests}

pub hash_is : (shape : Shape) (named : Body × Digests) (part : Part) (region : ℕ) (ids : List ℕ) (place : Option ℕ) (result : Option Extent) → part ≡ Hash region
    → ids ≡ named.0.hashed → place ≡ position (λ id. id == region) ids → result ≡ option_map (hash_extent shape named.1 region) place → result ≡ extent_of shape named part
hash_is shape named part region ids place result is same at value = rw (is, ← same, ← at) value

part_by : (shape : Shape) (place : ℕ) (below : Bool) → nat_lt place shape.hashes ≡ below → IsPartOf shape (if below then Hash place else Sorted)
part_by shape place true is = ltb-true place shape.hashes is
part_by shape place false is = tt

-- the part at a place is one of the device
pub is_part : (shape : Shape) (place : ℕ) (part : Part) → part ≡ part_at shape place → IsPartOf shape part
is_part shape place part same = rw same (part_by shape place (nat_lt place shape.hashes) refl)
