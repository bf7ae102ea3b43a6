use Rattle.silt_desk_tests.proofs.desk.refused_memory.each_call_lacks_memory.Given as goal

abbrev pub ghosts-refuses_all : goal.ghosts-refuses_all
ghosts-refuses_all g a = record { calls_name = a.calls.name; accepted_name = a.accepted.name; seats = a.calls.parts }
