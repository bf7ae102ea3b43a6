use Rattle.silt_jobs.proofs.Common.{rules, tests, slice_range, has_any}
use Rattle.std.proofs.lemmas.Iterator.{YieldsList-from_slice}
use Rattle.std.proofs.lemmas.Iterator.Search.{any_from_yields_List}
use Rattle.silt_jobs.proofs.people.tally.Tally.has_refusals.Goals as goal

pub returns : goal.returns
returns c =
    any_from_yields_List has_any _ _ _ c.any.ensures.ran (YieldsList-from_slice (slice_range c.args.self.now.refused 1 24) c.iter.ensures.rest) (λ x b q k. search (rules, tests))
