use Rattle.silt_desk_tests.proofs.inbox.hands_back_when_closed.Given as goal

abbrev pub ghosts-closed_inbox : goal.ghosts-closed_inbox
ghosts-closed_inbox g a = record { put_name = a.put.name; taken_name = a.taken.name; feeders = a.put.parts }
