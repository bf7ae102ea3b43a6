use Rattle.std.proofs.Common.{refl, arith}
use Rattle.silt_hasher.proofs.Filling.{fills_short, fills_whole}
use Rattle.silt_hasher.proofs.state.Sha1State.fill.Goals as goal

pub returns-then-end-eq-BLOCK : goal.returns-then-end-eq-BLOCK
returns-then-end-eq-BLOCK c =
    fills_whole c.args.self.now _ c.args.bytes.now _ _ _ (omega arith) c.used-used.ensures (omega arith) (omega arith) c.copy_from_slice.ensures.after c.compress.ensures refl

pub returns-else-end-eq-BLOCK : goal.returns-else-end-eq-BLOCK
returns-else-end-eq-BLOCK c =
    fills_short c.args.self.now _ c.args.bytes.now _ _ _ (omega arith) c.used-used.ensures (omega arith) c.copy_from_slice.ensures.after refl refl refl
