use Rattle.silt_engine.proofs.Common.{◌≡◌, ◌-◌, take, puts_in}
use Rattle.silt_engine.proofs.merge.without_puts.Given as goal

-- the charge without the puts of the stores so far
abbrev pub invariant-loop-store : goal.invariant-loop-store
invariant-loop-store l = l.left ≡ l.charge - puts_in (take l.store-index l.stores)
