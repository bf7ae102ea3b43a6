use Rattle.silt_bench.proofs.measurement.measure.Given as goal

abbrev pub ghosts-see : goal.ghosts-see
ghosts-see g a = record { calls_name = a.blanks.calls.name; accepted_name = a.blanks.accepted.name; seats = a.blanks.calls.parts }
