use Rattle.silt_wire.proofs.Common.{◌≡◌, ◌≤◌, ◌-◌, ◌++◌, ℕ, List, length, take, requests, HoldsBytes, asks, lines_after, rest_after, IsAnswerable}
use Rattle.silt_wire.proofs.sessions.gather.Given as goal

abbrev pub invariant-loop-count : goal.invariant-loop-count
invariant-loop-count l =
    record {
      within : l.count ≤ length l.bytes;
      ready : IsAnswerable l.value_len l.batch;
      told : (p : List ℕ) → HoldsBytes l.initial.pending p → record {
        holds : HoldsBytes l.pending (rest_after p (take l.count l.bytes));
        all : requests l.initial.batch ++ asks l.value_len (lines_after p (take l.count l.bytes)) ≡ requests l.batch;
      };
    }

abbrev pub decreases-loop-count : goal.decreases-loop-count
decreases-loop-count l = length l.bytes - l.count
