use Rattle.silt_server_tests.proofs.server.swaps.serve_on_disk.Given as goal

abbrev pub ghosts-serve_at_desk-N-DeskId : goal.ghosts-serve_at_desk-N-DeskId
ghosts-serve_at_desk-N-DeskId g a = record { calls_name = a.desk_blanks.0.name; accepted_name = a.desk_blanks.1.name; seats = a.desk_blanks.0.parts }

abbrev pub ghosts-serve_at_desk-N-LogId : goal.ghosts-serve_at_desk-N-LogId
ghosts-serve_at_desk-N-LogId g a = record { log = a.log }
