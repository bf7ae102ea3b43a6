use Rattle.silt_desk_tests.proofs.desk.converter.held_converter.Given as goal

abbrev pub ghosts-held_between_steps : goal.ghosts-held_between_steps
ghosts-held_between_steps g a = record { calls_name = a.calls.name; accepted_name = a.accepted.name; seats = a.calls.parts }
