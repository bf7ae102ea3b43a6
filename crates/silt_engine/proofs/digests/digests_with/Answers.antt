use Rattle.silt_engine.proofs.Common.{option_to_list}
use Rattle.silt_engine.proofs.Said.{in_front, one_more}
use Rattle.silt_engine.proofs.digests.digests_with.Goals as goal

pub loop-index-preserved : goal.loop-index-preserved
loop-index-preserved c =
    one_more (option_to_list c.args.first) c.args.stores.now c.loop-index.index c.from-newer.result c.index-stores-index.result c.digest.result.now c.loop-index.hashed c.requires
    (in_front c.args.first c.is_some.result c.from-newer.result c.from-newer.ensures c.is_some.ensures) c.loop-index-test.true c.index-stores-index.is c.digest.ensures c.loop-index.invariant
