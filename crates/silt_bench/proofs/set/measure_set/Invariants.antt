use Rattle.std.specs.Prelude.{◌^◌}
use Rattle.silt_bench.proofs.set.measure_set.Given as goal

-- no books are kept of the desks of a set
abbrev pub ghosts-see_set : goal.ghosts-see_set
ghosts-see_set g a = record { calls_name = 0; accepted_name = 0; seats = 2 ^ 64 }
