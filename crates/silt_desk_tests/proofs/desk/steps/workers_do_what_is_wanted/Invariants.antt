use Rattle.silt_desk_tests.proofs.desk.steps.workers_do_what_is_wanted.Given as goal

abbrev pub ghosts-does_what_is_wanted : goal.ghosts-does_what_is_wanted
ghosts-does_what_is_wanted g a = record { calls_name = a.calls.name; accepted_name = a.accepted.name; seats = a.calls.parts }
