use Rattle.silt_jobs.proofs.Common.{◌≤◌, ℕ, List, length, take, HoldsBytes, rest_after, TakesBytes, Fits, ◌-◌}
use Rattle.silt_jobs.proofs.jobs.script_lines.Reading.take_bytes.Given as goal

abbrev pub invariant-loop-done : goal.invariant-loop-done
invariant-loop-done l = record {
  within : l.done ≤ length l.bytes;
  holds : (p : List ℕ) → HoldsBytes l.initial.pending p → HoldsBytes l.pending (rest_after p (take l.done l.bytes));
  takes : (p : List ℕ) → HoldsBytes l.initial.pending p → TakesBytes l.value_len p l.initial.self (take l.done l.bytes) l.self;
  fits : Fits l.value_len l.initial.self → Fits l.value_len l.self;
}

abbrev pub decreases-loop-done : goal.decreases-loop-done
decreases-loop-done l = length l.bytes - l.done
