use Rattle.silt_device.proofs.Common.{◌≡◌, ℕ, ◌<◌, ◌≤◌, true, false, get_or, filled}
use Rattle.silt_device.proofs.memory.fill_pending.Given as goal

abbrev pub invariant-loop-i : goal.invariant-loop-i
invariant-loop-i l = record {
  kept : (place : ℕ) → get_or l.pending place false ≡ false → get_or l.shown place 0 ≡ get_or l.fn.shown place 0;
  filled : (place : ℕ) → place < l.i → get_or l.pending place false ≡ true → get_or l.shown place 0 ≡ filled l.fill place (get_or l.fn.shown place 0) (get_or l.settled place 0);
  ahead : (place : ℕ) → l.i ≤ place → get_or l.shown place 0 ≡ get_or l.fn.shown place 0;
}
