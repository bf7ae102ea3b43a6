use Rattle.silt_cuckoo.proofs.Places.{placed_below}
use Rattle.silt_index_tests.proofs.cuckoo.put.Goals as goal

pub returns-in-Some-clause-below : goal.returns-in-Some-clause-below
returns-in-Some-clause-below c = placed_below c.args.table.now c.apply.new.self c.args.place c.in-Some.path.first c.in-Some.path.second c.apply.ensures.table c.requires.below c.apply.ensures.pairs
