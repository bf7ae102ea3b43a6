use Rattle.silt_desk_tests.proofs.desk.sessions.swaps.counted_by.Given as goal

abbrev pub ghosts-counts : goal.ghosts-counts
ghosts-counts g a = record { calls_name = a.calls.name; accepted_name = a.accepted.name; seats = a.calls.parts }
