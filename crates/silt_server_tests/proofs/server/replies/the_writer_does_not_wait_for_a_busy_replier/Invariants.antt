use Rattle.silt_server_tests.proofs.server.replies.the_writer_does_not_wait_for_a_busy_replier.Given as goal

abbrev pub ghosts-beside_a_busy_replier : goal.ghosts-beside_a_busy_replier
ghosts-beside_a_busy_replier g a = record { log = a.log }
