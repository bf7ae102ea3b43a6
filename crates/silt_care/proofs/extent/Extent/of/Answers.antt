use Rattle.silt_care.proofs.Parts.{hash_is}
use Rattle.silt_care.proofs.extent.Extent.of.Goals as goal

pub returns-in-Hash-clause-value : goal.returns-in-Hash-clause-value
returns-in-Hash-clause-value c =
    hash_is c.args.geometry.now c.args.named.now c.args.part c.in-Hash.region c.as_slice.result.now c.place_in-place.result c.hash_named.result c.in-Hash.is c.as_slice.ensures.value
    c.place_in-place.ensures.value c.hash_named.ensures.value
