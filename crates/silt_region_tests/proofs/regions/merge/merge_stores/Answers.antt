use Rattle.std.proofs.Common.{◌≡◌, sym, ◌∙◌, ap, subst}
use Rattle.std.specs.List.{All}
use Rattle.std.proofs.lemmas.List.Elements.{All-drop}
use Rattle.std.proofs.lemmas.Result.{IfOk-at_ok}
use Rattle.silt_disk.specs.Layout.{Shape}
use Rattle.silt_hash_store.specs.State.{HashState}
use Rattle.silt_merge.specs.State.{MergeState, oldest_stores}
use Rattle.silt_region_tests.proofs.regions.merge.merge_stores.Goals as goal

pub run_steps-outcome-requires-clause-shapes : goal.run_steps-outcome-requires-clause-shapes
run_steps-outcome-requires-clause-shapes g c κs within =
    let merge = IfOk-at_ok _ c.done-merge.ensures c.start.ensures.start in
    let shape : c.args.geometry ≡ c.done-merge.result.shape = sym (ap MergeState.shape merge ∙ ap (λ sorted. sorted.shape) c.new-sorted.ensures) in
    subst (λ (shape : Shape). All (λ (store : HashState). store.shape ≡ shape) (oldest_stores c.done-merge.result.stores c.both-stores.result)) shape
    (All-drop (λ (store : HashState). store.shape ≡ c.args.geometry) _ c.both-stores.result c.both-stores.ensures)
