use Rattle.silt_cuckoo.proofs.Tagged.{match_of_four}
use Rattle.silt_cuckoo.proofs.Unpacking.{free}
use Rattle.silt_cuckoo.proofs.lookup.has_match.Goals as goal

pub returns : goal.returns
returns c = match_of_four c.args.slots.now c.args.bucket c.args.tag free _ _ _ _ c.requires.there c.has_tag.ensures c.has_tag-2.ensures c.has_tag-3.ensures c.has_tag-4.ensures
