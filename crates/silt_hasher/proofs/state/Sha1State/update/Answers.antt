use Rattle.std.proofs.Common.{◌∙◌, arith, refl}
use Rattle.silt_hasher.proofs.Filling.{block_ends, goes_on, last_bytes}
use Rattle.silt_hasher.proofs.state.Sha1State.update.Goals as goal

pub add_blocks-requires : goal.add_blocks-requires
add_blocks-requires c = block_ends c.args.self.now _ c.args.bytes.now _ (omega (arith, c.used-room.ensures)) (omega arith) c.fill-2.ensures

pub returns : goal.returns
returns c = last_bytes _ _ c.args.bytes.now _ _ refl c.add_blocks.ensures ∙ goes_on _ _ c.args.bytes.now _ c.fill-2.ensures
