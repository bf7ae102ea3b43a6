-- Bytes that are read into a buffer.
use Rattle.silt_backup.proofs.Common.{◌≡◌, ◌++◌, ℕ, List, length, drop, take, arith, take-append_seam}

-- a buffer that was written as a whole has the new bytes
pub whole_buffer : (len : ℕ) (new old : List ℕ) → length new ≡ length old → len ≡ length old → take len (new ++ drop (length new) old) ≡ new
whole_buffer len new old same is = let whole : len ≡ length new = omega (arith, same, is) in rw whole (take-append_seam new (drop (length new) old))
