use Rattle.silt_merge.proofs.Common.{◌≡◌, Some, ap, ◌∙◌, subst, IsHeldMerge, MergeState, oldest_stores}
use Rattle.silt_merge.proofs.Stepped.{refused_at_once}
use Rattle.silt_merge.proofs.merge.Merge.step.Goals as goal

pub returns-then-self : goal.returns-then-self
returns-then-self g c =
    let taken = c.split_at.ensures.back ∙ ap (λ (m : MergeState). oldest_stores m.stores c.args.stores.now) c.self.view_is in
    rw taken at (c.gather.ensures c.args.sorted.now c.args.digest.now.0)

pub returns : goal.returns
returns g c =
    let taken = c.split_at.ensures.back ∙ ap (λ (m : MergeState). oldest_stores m.stores c.args.stores.now) c.self.view_is in
    rw taken at c.decide.ensures

pub decide-requires-clause-shapes : goal.decide-requires-clause-shapes
decide-requires-clause-shapes g c κs within =
    let taken = c.split_at.ensures.back ∙ ap (λ (m : MergeState). oldest_stores m.stores c.args.stores.now) c.self.view_is in
    rw (← taken) at c.requires.shapes

pub returns-in-Some : goal.returns-in-Some
returns-in-Some g c =
    refused_at_once g.D.Disk (oldest_stores c.args.self.now.stores c.args.stores.now) c.args.sorted.now c.args.digest.now.0 c.args.disk.now c.args.self.now c.in-Some.place
    (subst (λ (m : MergeState). m.damaged ≡ Some c.in-Some.place) c.self.view_is c.in-Some.is) (subst IsHeldMerge c.self.view_is c.self.invariant.0)
