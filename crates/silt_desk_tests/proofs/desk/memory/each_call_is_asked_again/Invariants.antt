use Rattle.silt_desk_tests.proofs.desk.memory.each_call_is_asked_again.Given as goal

abbrev pub ghosts-records_what_is_done : goal.ghosts-records_what_is_done
ghosts-records_what_is_done g a = record { calls_name = a.calls.name; accepted_name = a.accepted.name; seats = a.calls.parts }
