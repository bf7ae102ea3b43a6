use Rattle.silt_engine.proofs.Common.{refl, EngineState}
use Rattle.silt_engine.proofs.MergeSeals.{sealed_way}
use Rattle.silt_engine.proofs.MergeSteps.{merging_of}
use Rattle.silt_engine.proofs.Exits.{state_of}
use Rattle.silt_engine.proofs.Wholes.{whole_with}
use Rattle.silt_engine.proofs.engine.Engine.seal_merge.Goals as goal

pub invariant_of-self-2 : goal.invariant_of-self-2
invariant_of-self-2 c =
    let stores : EngineState = state_of c.self.inside in
    let way = merging_of stores _ c.self.invariant.whole c.in-Some.is in
    record {
      whole = whole_with stores _ _ _ refl refl c.self.invariant.whole.under_way (sealed_way stores _ _ c.in_ok-seal.ensures.made way) c.self.invariant.whole;
      enough = c.self.invariant.enough;
      enough_hashes = c.self.invariant.enough_hashes;
    }
