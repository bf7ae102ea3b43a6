use Rattle.silt_desk_tests.proofs.desk.faults.a_worker_stands_still_at_a_closed_gate.Given as goal

abbrev pub ghosts-puts_and_converter : goal.ghosts-puts_and_converter
ghosts-puts_and_converter g a = record { calls_name = a.calls.name; accepted_name = a.accepted.name; seats = a.calls.parts }
