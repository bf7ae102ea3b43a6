use Rattle.silt_sorted_store.proofs.Entries.{part_inside}
use Rattle.silt_sorted_store.proofs.region.SortedRegion.entry_at.Goals as goal

pub returns-clause-fits : goal.returns-clause-fits
returns-clause-fits c = rw (c.from.ensures, c.entry_len.ensures.value, c.sorted_at.ensures.value)
    (part_inside _ _ c.args.self.now.geometry.sorted_capacity c.args.place _ c.sorted_at.ensures.fits c.requires)
