use Rattle.silt_resp.proofs.Common.{◌≡◌, ◌++◌, ℕ, List, drop, due_seen, part_texts}
use Rattle.std.proofs.Common.{map}
use Rattle.silt_event.specs.Queries.{replies as replied}
use Rattle.silt_resp.proofs.batch.push_dues.Given as goal

-- these texts are there, and with those of the rest they are all
abbrev pub invariant-loop-due : goal.invariant-loop-due
invariant-loop-due l =
    (out : List ℕ) × (l.texts.items ≡ l.initial.texts.items ++ out)
    × (out ++ part_texts (map due_seen (drop l.due-index l.dues)) (map replied l.rest) ≡ part_texts (map due_seen l.dues) (map replied l.replies))
