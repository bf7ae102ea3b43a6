use Rattle.silt_server.proofs.Names.{◌^◌, map, seen_at}
use Rattle.silt_server.proofs.Sets.{book_at}
use Rattle.silt_server.proofs.serve_set.SetServer.serve.Given as goal

-- no books are kept of desks and inboxes
abbrev pub ghosts-serve_named-N-DeskId : goal.ghosts-serve_named-N-DeskId
ghosts-serve_named-N-DeskId g a = record { calls_name = 0; accepted_name = 0; seats = 2 ^ 64 }

abbrev pub ghosts-serve_named-N-InboxId : goal.ghosts-serve_named-N-InboxId
ghosts-serve_named-N-InboxId g a = record { put_name = 0; taken_name = 0; feeders = 2 ^ 64 }

abbrev pub ghosts-serve_named-N-LogId : goal.ghosts-serve_named-N-LogId
ghosts-serve_named-N-LogId g a = record { log = a.log }

-- the names of each shard are those of the store and of the log at its place
abbrev pub ghosts-serve_named-N-Anchor : goal.ghosts-serve_named-N-Anchor
ghosts-serve_named-N-Anchor g a = record { first = seen_at g.D.Disk (map (λ store. store.core) a.stores.items); calls = book_at (map (λ store. store.log) a.stores.items) }
