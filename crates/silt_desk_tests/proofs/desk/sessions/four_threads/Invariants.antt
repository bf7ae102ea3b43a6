use Rattle.silt_desk_tests.proofs.desk.sessions.four_threads.Given as goal

abbrev pub ghosts-many_calls : goal.ghosts-many_calls
ghosts-many_calls g a = record { calls_name = a.calls.name; accepted_name = a.accepted.name; seats = a.calls.parts }
