use Rattle.silt_server_tests.proofs.server.replies.the_writer_replies_to_few_jobs.Given as goal

abbrev pub ghosts-few_jobs : goal.ghosts-few_jobs
ghosts-few_jobs g a = record { log = a.log }
