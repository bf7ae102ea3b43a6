use Rattle.silt_dump.proofs.Common.{filter, has_known_kind, rows_before, hash_store_at, held_stores, NotesRows}
use Rattle.silt_dump.proofs.gather.note_slots.Given as goal

-- the slots that were read are noted
abbrev pub invariant-loop-slot : goal.invariant-loop-slot
invariant-loop-slot g l =
    NotesRows (g.D.Disk.content l.disk) (held_stores l.held)
    (filter has_known_kind (rows_before (hash_store_at (held_stores l.held) l.number).shape (hash_store_at (held_stores l.held) l.number).region
    (g.D.Disk.content l.disk).shown l.slot)) l.initial.spots l.spots
