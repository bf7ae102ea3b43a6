use Rattle.silt_engine.proofs.Common.{◌≡◌, ◌<◌, ℕ, IsTrue, all_rows, HasNoRow, Stands, frozen_at}
use Rattle.silt_engine.proofs.engine.Engine.get_frozen.Given as goal

-- nothing is written, and the logs that were passed have no row of the key
abbrev pub invariant-loop-index : goal.invariant-loop-index
invariant-loop-index g l = record {
  kept : l.out ≡ l.initial.out;
  lack : Stands (g.D.Disk.content l.disk) l.self → IsTrue (g.D.Disk.content l.disk).honest
      → (index : ℕ) → index < l.index → HasNoRow (all_rows (g.D.Disk.content l.disk) (frozen_at l.self index).log) l.key.0;
}
