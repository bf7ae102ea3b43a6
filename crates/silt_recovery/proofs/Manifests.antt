-- What a read of the manifest shows of the stores.
use Rattle.silt_recovery.proofs.Common.{◌≡◌, ℕ, List, length, Some, Ok, Err, refl, ap, sym, ◌∙◌, Shape, header_of, image_digests, shape_found, Finding, IsFound, Result, damage_finding}
use Rattle.silt_recovery.proofs.Common.{stores_of_current, stores_shaped, no_stores_law, IsDamaged, manifest_found, where_found, IsCurrentIn, ManifestState, current_record}
use Rattle.silt_image.specs.Stores.{image_stores, stores_named}
use Rattle.silt_image.proofs.Named.{digests_law, stores_law}
use Rattle.silt_manifest.specs.declared.slot.SlotRecord.{SlotRecord}
use Rattle.silt_manifest.specs.declared.slot.Damage.{Damage}

-- a record that was found
pub found_record : (found : Result SlotRecord Damage) (held : SlotRecord) → where_found found ≡ Some held → found ≡ Ok held
found_record (Ok other) held is = cc
found_record (Err damage) held is = absurd (cc)

-- the current record, in a shape of another name
pub record_that_is_current : (shape : Shape) (image : List ℕ) (m : ManifestState) → m.shape ≡ shape → IsCurrentIn m image → manifest_found shape image ≡ Ok (current_record m)
record_that_is_current shape image m same was_current = ap (λ (s : Shape). manifest_found s image) (sym same) ∙ found_record (manifest_found m.shape image) (current_record m) was_current.current

-- the stores of the current record
pub current_stores : (shape : Shape) (image : List ℕ) (m : ManifestState) → shape_found (length image) (header_of image) ≡ Ok shape
    → m.shape ≡ shape → IsCurrentIn m image → image_stores image ≡ Ok (stores_named shape m.current image)
unfolding stores_named
current_stores shape image m header same was_current =
    (stores_law image (stores_named shape m.current image)).1 (record { shape = header; digests = m.digests; current = record_that_is_current shape image m same was_current; named = refl })

-- the digests behind it
pub current_digests_of : (shape : Shape) (image : List ℕ) (m : ManifestState) → image_stores image ≡ Ok (stores_named shape m.current image)
    → m.shape ≡ shape → IsCurrentIn m image → image_digests image ≡ m.digests
unfolding stores_named
current_digests_of shape image m stores same was_current = digests_law image (stores_named shape m.current image) (current_record m) stores (record_that_is_current shape image m same was_current)

-- a finding in the header is the verdict
pub header_verdict : (image : List ℕ) (finding : Finding) → shape_found (length image) (header_of image) ≡ Err finding → IsFound image finding
unfolding image_stores
header_verdict image finding found = no_stores_law image finding (ap (stores_shaped image) found)

-- damage of the manifest is the verdict
pub damage_verdict : (shape : Shape) (image : List ℕ) (damage : Damage) → shape_found (length image) (header_of image) ≡ Ok shape → IsDamaged shape damage image → IsFound image (damage_finding damage)
unfolding image_stores
damage_verdict shape image damage header damaged =
    no_stores_law image (damage_finding damage) (ap (stores_shaped image) header ∙ ap (stores_of_current shape image) damaged.found)
