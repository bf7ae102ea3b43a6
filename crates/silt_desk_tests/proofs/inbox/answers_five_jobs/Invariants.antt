use Rattle.silt_desk_tests.proofs.inbox.answers_five_jobs.Given as goal

abbrev pub ghosts-five_jobs : goal.ghosts-five_jobs
ghosts-five_jobs g a = record { put_name = a.put.name; taken_name = a.taken.name; feeders = a.put.parts }
