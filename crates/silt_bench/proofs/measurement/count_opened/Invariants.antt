use Rattle.silt_bench.proofs.measurement.count_opened.Given as goal

abbrev pub ghosts-count_seated : goal.ghosts-count_seated
ghosts-count_seated g a = record { calls_name = a.blanks.calls.name; accepted_name = a.blanks.accepted.name; seats = a.blanks.calls.parts }
