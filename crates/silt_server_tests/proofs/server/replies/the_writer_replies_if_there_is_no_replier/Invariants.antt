use Rattle.silt_server_tests.proofs.server.replies.the_writer_replies_if_there_is_no_replier.Given as goal

abbrev pub ghosts-without_a_replier : goal.ghosts-without_a_replier
ghosts-without_a_replier g a = record { log = a.log }
