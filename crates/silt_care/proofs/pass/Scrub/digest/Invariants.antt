use Rattle.std.proofs.Common.{◌≡◌, ◌-◌, ◌≤◌, ℕ, List, length}
use Rattle.silt_hasher.specs.Taking.{HasTaken}
use Rattle.silt_care.specs.Orders.{Reads}
use Rattle.silt_care.proofs.pass.Scrub.digest.Given as goal

-- the first bytes were read and hashed
abbrev pub invariant-loop-done : goal.invariant-loop-done
invariant-loop-done g l = record {
  upto : l.done ≤ l.extent.len;
  room : length l.room ≡ length l.initial.room;
  taken : (bytes : List ℕ) × Reads g.L.Looks l.extent.at l.initial.looks bytes l.looks × (length bytes ≡ l.done) × HasTaken l.hasher bytes;
}

abbrev pub decreases-loop-done : goal.decreases-loop-done
decreases-loop-done g l = l.extent.len - l.done
