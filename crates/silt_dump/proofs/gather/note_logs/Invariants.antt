use Rattle.silt_dump.proofs.Common.{drop, map, oldest_first, rows_in, held_stores, NotesRows, logs_of}
use Rattle.silt_dump.proofs.gather.note_logs.Given as goal

-- the rows of the older logs are noted
abbrev pub invariant-loop-number : goal.invariant-loop-number
invariant-loop-number g l =
    NotesRows (g.D.Disk.content l.disk) (held_stores l.held) (oldest_first (map (rows_in (g.D.Disk.content l.disk)) (drop l.number (logs_of (held_stores l.held))))) l.initial.spots l.spots
