use Rattle.silt_engine.proofs.Common.{◌≡◌, None, length, ap, sym, ◌∙◌, subst, arith, length-map, Body, merged_digests, damaged_in, merged_body, EngineState, hash_region_of}
use Rattle.silt_engine.proofs.MergeSeals.{may_end_now}
use Rattle.silt_engine.proofs.MergeSteps.{is_finished, merging_of}
use Rattle.silt_engine.proofs.Exits.{state_of}
use Rattle.silt_engine.proofs.engine.Engine.finish_sealed.Goals as goal

pub end_merge-requires-clause-ends : goal.end_merge-requires-clause-ends
end_merge-requires-clause-ends g c κs within =
    let stores : EngineState = state_of c.self.inside in
    let turn = rw (← c.self.view_is) at c.requires.turn in
    let sound = sym (ap damaged_in c.in-Some.is) ∙ subst (λ (v : EngineState). damaged_in v.merging ≡ None) (sym c.self.view_is) c.requires.sound in
    let unspent = rw (← c.self.view_is) at c.requires.unspent in
    let seals = rw (← c.self.view_is) at c.requires.sealed.1 in
    let region = c.region.ensures.value ∙ ap (λ t. t.region) c.entries-entries.ensures in
    let written = c.len.ensures.value ∙ ap (λ t. t.count) c.entries-entries.ensures in
    let body = c.merged_body-body.ensures ∙ ap (λ (b : Body). merged_body b c.stores-count.result c.region.result c.len.result) c.current-current.ensures.value
    ∙ ap (λ n. merged_body stores.manifest.current n c.region.result c.len.result) c.stores-count.ensures.value
    ∙ ap (λ n. merged_body stores.manifest.current c.in-Some.merge.stores n c.len.result) region
    ∙ ap (λ n. merged_body stores.manifest.current c.in-Some.merge.stores c.in-Some.merge.region n) written in
    let digests = subst (λ (v : EngineState). c.merged_digests-digests.result ≡ merged_digests v c.stores-count.result c.digest-digest.result.0) (sym c.self.view_is) c.merged_digests-digests.ensures
    ∙ ap (λ n. merged_digests stores n c.digest-digest.result.0) c.stores-count.ensures.value in
    rw (← c.self.view_is) (may_end_now _ stores _ _ _ seals _ c.in-Some.is
    (is_finished stores _ c.in-Some.is turn) sound unspent body digests c.digest-digest.ensures)

pub merged_body-body-requires-clause-count : goal.merged_body-body-requires-clause-count
merged_body-body-requires-clause-count g c =
    let stores : EngineState = state_of c.self.inside in
    let ids : length c.current-current.result.hashed ≡ length stores.hashes =
    cc (c.current-current.ensures.value, c.self.invariant.whole.hash_regions, length-map stores.hashes hash_region_of) in
    omega (arith, (merging_of stores _ c.self.invariant.whole c.in-Some.is).most, ids, c.stores-count.ensures.value)

pub merged_body-body-requires-clause-unspent : goal.merged_body-body-requires-clause-unspent
merged_body-body-requires-clause-unspent g c =
    let unspent = rw (← c.self.view_is) at c.requires.unspent in
    rw (← c.current-current.ensures.value) at unspent

pub merged_digests-digests-requires : goal.merged_digests-digests-requires
merged_digests-digests-requires g c =
    let stores : EngineState = state_of c.self.inside in
    rw (← c.self.view_is) (omega (arith, (merging_of stores _ c.self.invariant.whole c.in-Some.is).most, c.stores-count.ensures.value))
