use Rattle.silt_dump.proofs.Common.{drop, map, oldest_first, known_in, held_stores, NotesRows}
use Rattle.silt_dump.proofs.gather.note_hashes.Given as goal

-- the rows of the older stores are noted
abbrev pub invariant-loop-number : goal.invariant-loop-number
invariant-loop-number g l =
    NotesRows (g.D.Disk.content l.disk) (held_stores l.held) (oldest_first (map (known_in (g.D.Disk.content l.disk)) (drop l.number l.held.hashes.items))) l.initial.spots l.spots
