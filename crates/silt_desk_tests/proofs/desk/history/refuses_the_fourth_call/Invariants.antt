use Rattle.silt_desk_tests.proofs.desk.history.refuses_the_fourth_call.Given as goal

abbrev pub ghosts-three_calls : goal.ghosts-three_calls
ghosts-three_calls g a = record { calls_name = a.calls.name; accepted_name = a.accepted.name; seats = a.calls.parts }
