use Rattle.silt_server.proofs.Names.{Some, seen}
use Rattle.silt_server.proofs.serve.Server.serve_kept.Given as goal

abbrev pub ghosts-serve_traced-N-DeskId : goal.ghosts-serve_traced-N-DeskId
ghosts-serve_traced-N-DeskId g a = record { calls_name = a.blanks.calls.name; accepted_name = a.blanks.accepted.name; seats = a.blanks.calls.parts }

abbrev pub ghosts-serve_traced-N-InboxId : goal.ghosts-serve_traced-N-InboxId
ghosts-serve_traced-N-InboxId g a = record { put_name = a.blanks.put.name; taken_name = a.blanks.taken.name; feeders = a.blanks.put.parts }

abbrev pub ghosts-serve_traced-N-LogId : goal.ghosts-serve_traced-N-LogId
ghosts-serve_traced-N-LogId g a = record { log = a.blanks.log }

abbrev pub ghosts-serve_traced-N-Anchor : goal.ghosts-serve_traced-N-Anchor
ghosts-serve_traced-N-Anchor g a = record { first = λ shard. Some (seen g.D.Disk a.core); calls = λ shard. a.blanks.history.book }
