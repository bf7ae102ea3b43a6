use Rattle.silt_dump.proofs.Common.{take, all_rows, held_stores, NotesRows, log_at}
use Rattle.silt_dump.proofs.gather.note_rows.Given as goal

-- the rows that were read are noted
abbrev pub invariant-loop-place : goal.invariant-loop-place
invariant-loop-place g l =
    NotesRows (g.D.Disk.content l.disk) (held_stores l.held) (take l.place (all_rows (g.D.Disk.content l.disk) (log_at (held_stores l.held) l.number).log)) l.initial.spots l.spots
