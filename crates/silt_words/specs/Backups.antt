-- Where backups of a served store may go.
use Rattle.std.specs.Prelude.{ℕ, Bool, ◌&&◌, not, nat_le, List, ◌++◌, length, codes, bytes_eq}

-- the name of the file, or of the files of a set, that a backup at a path is written to first
abbrev pub draft_of : List ℕ → List ℕ
draft_of path = path ++ codes ".new"

-- whether backups of the store in this file may be written to this path: it is not empty, and neither it nor its draft names the store's file
abbrev pub may_hold_backup : List ℕ → List ℕ → Bool
may_hold_backup file path = nat_le 1 (length path) && (not (bytes_eq path file) && not (bytes_eq file (draft_of path)))
