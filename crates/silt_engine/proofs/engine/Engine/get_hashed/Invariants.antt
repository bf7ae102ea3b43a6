use Rattle.silt_engine.proofs.Common.{◌≡◌, ◌<◌, ℕ, false, IsTrue, holds_key, Stands, hash_store_at, hash_rows_of}
use Rattle.silt_engine.proofs.engine.Engine.get_hashed.Given as goal

-- nothing is written, and the stores that were passed have no row of the key
abbrev pub invariant-loop-index : goal.invariant-loop-index
invariant-loop-index g l = record {
  kept : l.out ≡ l.initial.out;
  lack : Stands (g.D.Disk.content l.disk) l.self → IsTrue (g.D.Disk.content l.disk).honest
      → (index : ℕ) → index < l.index → holds_key l.key.0 (hash_rows_of (g.D.Disk.content l.disk) (hash_store_at l.self index)) ≡ false;
}
