use Rattle.silt_store_set.proofs.Common.{true, false, refl, ap, sym, ◌∙◌, awaits_region, le-leb, lt-leb}
use Rattle.silt_store_set.proofs.MayMerge.{begins_if}
use Rattle.silt_store_set.proofs.store_core.Core.may_merge.Goals as goal

pub returns-then-hash_stores-least : goal.returns-then-hash_stores-least
returns-then-hash_stores-least g c =
    let wants = rw (← c.self.view_is) at (sym c.wants_merge.ensures ∙ c.if-not-wants_merge.false) in
    rw (← c.self.view_is) (begins_if g.D.Disk _ _ c.self.inside.count _ c.self.inside.basis c.args.least _ _ true _
    c.self.invariant.stands wants c.is_merging.ensures c.if-is_merging.false c.hash_stores.ensures (le-leb _ _ c.if-hash_stores-least.true) refl)

pub returns : goal.returns
returns g c =
    let wants = rw (← c.self.view_is) at (sym c.wants_merge.ensures ∙ c.if-not-wants_merge.false) in
    rw (← c.self.view_is) (begins_if g.D.Disk _ _ c.self.inside.count _ c.self.inside.basis c.args.least _ _ false c.awaits_region.result c.self.invariant.stands wants c.is_merging.ensures
    c.if-is_merging.false c.hash_stores.ensures (lt-leb _ _ c.if-hash_stores-least.false) (c.awaits_region.ensures ∙ ap awaits_region c.convert_turn.ensures))
