use Rattle.silt_hash_store.proofs.Reading.{slot_inside}
use Rattle.silt_hash_store.proofs.region.HashRegion.slot_at.Goals as goal

pub returns-clause-fits : goal.returns-clause-fits
returns-clause-fits c = rw (c.from.ensures, c.row_len.ensures.value, c.hash_at.ensures.value) (slot_inside c.args.self.now.geometry _ c.args.slot _ c.hash_at.ensures.fits c.requires)
