use Rattle.silt_wire.proofs.Common.{◌≡◌, map}
use Rattle.silt_wire.proofs.facts.count_rows.Given as goal

abbrev pub invariant-loop-name : goal.invariant-loop-name
invariant-loop-name l = l.rows.items ≡ map (λ pair. (pair.0.now, pair.1.now)) l.yielded
