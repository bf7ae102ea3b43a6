use Rattle.silt_server_tests.proofs.server.record.kept.serve_kept.Given as goal

abbrev pub ghosts-serve_recorded-N-DeskId : goal.ghosts-serve_recorded-N-DeskId
ghosts-serve_recorded-N-DeskId g a = record { calls_name = a.desk_blanks.0.name; accepted_name = a.desk_blanks.1.name; seats = a.desk_blanks.0.parts }

abbrev pub ghosts-serve_recorded-N-InboxId : goal.ghosts-serve_recorded-N-InboxId
ghosts-serve_recorded-N-InboxId g a = record { put_name = a.inbox_blanks.0.name; taken_name = a.inbox_blanks.1.name; feeders = a.inbox_blanks.0.parts }

abbrev pub ghosts-serve_recorded-N-LogId : goal.ghosts-serve_recorded-N-LogId
ghosts-serve_recorded-N-LogId g a = record { log = a.inbox_blanks.2 }
