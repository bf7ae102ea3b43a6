use Rattle.silt_engine.proofs.Common.{◌≡◌, length, ap, ◌∙◌, arith, length-map, Shape, Body, EngineState, region_of, converted_body}
use Rattle.silt_engine.proofs.ConvertSteps.{may_finish}
use Rattle.silt_engine.proofs.Counting.{before_last, hash_count, room_for_hash}
use Rattle.silt_engine.proofs.Exits.{state_of, refused}
use Rattle.silt_engine.proofs.engine.Engine.finish_conversion.Goals as goal

pub converted_body-body-requires-clause-hashed : goal.converted_body-body-requires-clause-hashed
converted_body-body-requires-clause-hashed g c =
    room_for_hash (state_of c.self.inside) _ _ _ c.self.invariant.whole c.current-current.ensures.sound c.in-Some.is (c.hashes-known.ensures.value ∙ ap (λ (sh : Shape). sh.hashes)
    c.geometry.ensures.value) (omega (arith, c.hashes-known.ensures.value, c.hashes-known.ensures.limits.hashes_most)) c.current-current.ensures.value

pub converted_body-body-requires-clause-frozen : goal.converted_body-body-requires-clause-frozen
converted_body-body-requires-clause-frozen g c =
    let stores : EngineState = state_of c.self.inside in
    let going = rw c.in-Some.is at c.self.invariant.whole.under_way in
    let count : length c.current-current.result.frozen ≡ length stores.frozen =
    cc (c.current-current.ensures.value, c.self.invariant.whole.frozen_regions, length-map stores.frozen region_of) in
    omega (arith, going.some_frozen, count)

pub digests_with-digests-requires : goal.digests_with-digests-requires
digests_with-digests-requires g c =
    let stores : EngineState = state_of c.self.inside in
    let room = room_for_hash stores _ _ _ c.self.invariant.whole c.current-current.ensures.sound c.in-Some.is (c.hashes-known.ensures.value ∙ ap (λ (sh : Shape). sh.hashes)
    c.geometry.ensures.value) (omega (arith, c.hashes-known.ensures.value, c.hashes-known.ensures.limits.hashes_most)) c.current-current.ensures.value in
    omega (arith, room, hash_count stores c.self.invariant.whole, ap (λ (b : Body). length b.hashed) c.current-current.ensures.value, ap length c.deref.ensures.value)

pub end_conversion-requires-clause-ends : goal.end_conversion-requires-clause-ends
end_conversion-requires-clause-ends g c κs within =
    let stores : EngineState = state_of c.self.inside in
    let turn = rw (← c.self.view_is) at c.requires.turn in
    let unspent = before_last stores.manifest.shape _ stores.manifest.current c.current-current.ensures.sound
    (λ e. c.if-current-eq-LAST_GENERATION.false (ap (λ (b : Body). b.generation) c.current-current.ensures.value ∙ e)) in
    let body : c.converted_body-body.result ≡ converted_body stores.manifest.current c.in-Some.conversion.region =
    cc (c.converted_body-body.ensures, c.current-current.ensures.value, c.region.ensures.value) in
    rw (← c.self.view_is) (may_finish stores _ _ _ c.digest.result _ _ c.self.invariant.whole c.in-Some.is turn unspent body
    c.digest.ensures c.deref.ensures.value c.digest-sorted.ensures c.digests_with-digests.ensures)

pub returns-then-current-eq-LAST_GENERATION-clause-works : goal.returns-then-current-eq-LAST_GENERATION-clause-works
returns-then-current-eq-LAST_GENERATION-clause-works g c = refused g.D.Disk c.args.disk.now c.args.self.now _
