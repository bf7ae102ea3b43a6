use Rattle.std.proofs.Common.{refl, arith}
use lib.Count.{ones}
use Rattle.silt_index_tests.proofs.cuckoo.moves_entries_along_a_path.Goals as goal

pub new-requires : goal.new-requires
unfolding ones
new-requires g c = record { least = omega arith; most = omega arith; power = refl }
