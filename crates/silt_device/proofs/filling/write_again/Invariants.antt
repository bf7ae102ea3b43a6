use Rattle.silt_device.proofs.Common.{◌≡◌, ◌≤◌, ◌-◌, length, IsWritten, ShowsAlike}
use Rattle.silt_device.proofs.filling.write_again.Given as goal

-- the bytes before `at` were written, and the file shows what it showed
abbrev pub invariant-loop-at : goal.invariant-loop-at
invariant-loop-at g l = record {
  upto : l.at ≤ l.len;
  piece : length l.piece ≡ length l.fn.piece;
  alike : ShowsAlike (g.F.RandomAccessFile.content l.fn.file) (g.F.RandomAccessFile.content l.file);
  written : IsWritten g.F.RandomAccessFile.written_at l.fn.file l.at l.file;
}

abbrev pub decreases-loop-at : goal.decreases-loop-at
decreases-loop-at g l = l.len - l.at
