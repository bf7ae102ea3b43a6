use Rattle.silt_bench.proofs.growth.grow_new.Given as goal

abbrev pub ghosts-grow_seated : goal.ghosts-grow_seated
ghosts-grow_seated g a = record { calls_name = a.blanks.calls.name; accepted_name = a.blanks.accepted.name; seats = a.blanks.calls.parts }
