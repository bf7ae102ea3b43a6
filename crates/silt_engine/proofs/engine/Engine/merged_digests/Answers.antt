use Rattle.silt_engine.proofs.Common.{◌-◌, length, ap, ◌∙◌, arith, length-take, Shape, EngineState}
use Rattle.silt_engine.proofs.Counting.{few_hashes}
use Rattle.silt_engine.proofs.Exits.{state_of}
use Rattle.silt_engine.proofs.engine.Engine.merged_digests.Goals as goal

pub digests_with-requires : goal.digests_with-requires
digests_with-requires c =
    let stores : EngineState = state_of c.self.inside in
    let few = few_hashes stores c.hashes-known.result c.self.invariant.whole c.current-known.ensures.sound
    (c.hashes-known.ensures.value ∙ ap (λ (sh : Shape). sh.hashes) c.geometry.ensures.value) (omega (arith, c.hashes-known.ensures.value, c.hashes-known.ensures.limits.hashes_most)) in
    omega (arith, few, ap length c.deref.ensures.value, length-take (c.len.result - c.args.count) c.deref.result.now)
