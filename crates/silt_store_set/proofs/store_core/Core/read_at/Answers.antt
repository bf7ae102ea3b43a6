use Rattle.silt_store_set.proofs.store_core.Core.read_at.Goals as goal

pub read-requires : goal.read-requires
read-requires g c = rw (c.self.invariant.has_size) (rw (← c.self.view_is) at c.requires)
