use Rattle.std.proofs.Common.{◌*◌, ◌∙◌, refl, arith}
use Rattle.silt_hasher.proofs.Filling.{last_bytes, next_block, total_of}
use Rattle.silt_hasher.proofs.state.Sha1State.add_blocks.Goals as goal

pub each-init : goal.each-init
each-init c = (c.requires, refl)

pub each-preserved : goal.each-preserved
each-preserved c = (
  omega (arith, c.each.invariant.0, total_of c.each.self _ _ c.add_block.ensures),
  next_block _ _ c.args.bytes.now _ _ _ (omega arith) (omega arith) c.add_block.ensures ∙ c.each.invariant.1,
)

pub returns : goal.returns
returns c = last_bytes _ _ c.args.bytes.now (64 * c.each.i) _ (omega arith) c.fill.ensures ∙ c.each.invariant.1
