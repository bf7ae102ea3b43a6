use Rattle.std.proofs.Common.{refl}
use Rattle.silt_hasher.proofs.Filling.{adds_block}
use Rattle.silt_hasher.proofs.state.Sha1State.add_block.Goals as goal

pub returns : goal.returns
returns c = adds_block c.args.self.now _ c.args.block.now c.requires.behind c.requires.whole c.compress.ensures refl
