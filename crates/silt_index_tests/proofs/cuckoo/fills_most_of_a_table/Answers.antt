use Rattle.std.proofs.Common.{refl, arith}
use lib.Count.{ones}
use Rattle.silt_cuckoo.proofs.Places.{empty_below}
use Rattle.silt_index_tests.proofs.cuckoo.fills_most_of_a_table.Goals as goal

pub new-requires : goal.new-requires
unfolding ones
new-requires g c = record { least = omega arith; most = omega arith; power = refl }

pub place_random_keys-placed-requires-clause-empty : goal.place_random_keys-placed-requires-clause-empty
place_random_keys-placed-requires-clause-empty g c = rw c.in_ok-table.ensures.empty (empty_below 1024 0)
