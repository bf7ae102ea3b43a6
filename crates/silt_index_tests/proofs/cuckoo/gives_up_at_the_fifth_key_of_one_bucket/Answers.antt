use Rattle.std.proofs.Common.{refl, arith}
use lib.Count.{ones}
use Rattle.silt_index_tests.proofs.cuckoo.gives_up_at_the_fifth_key_of_one_bucket.Goals as goal

pub new-requires : goal.new-requires
unfolding ones
new-requires g c = record { least = omega arith; most = omega arith; power = refl }
