use Rattle.silt_desk_tests.proofs.desk.looks.found_after.Given as goal

abbrev pub ghosts-found_at : goal.ghosts-found_at
ghosts-found_at g a = record { calls_name = a.calls.name; accepted_name = a.accepted.name; seats = a.calls.parts }
