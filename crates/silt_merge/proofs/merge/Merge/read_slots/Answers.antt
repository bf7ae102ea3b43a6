use Rattle.silt_merge.proofs.Common.{◌≡◌, List, ℕ, get_or, sym, subst, ap, ◌∙◌, arith, Shape, HashState, AreSlots, regions_of, MergeState, MatchResult-from_err}
use Rattle.silt_merge.proofs.Ending.{held_with, merged_with}
use Rattle.silt_merge.proofs.Reading.{store_at}
use Rattle.silt_merge.proofs.Viewing.{state_of}
use Rattle.silt_merge.proofs.merge.Merge.read_slots.Goals as goal

pub invariant_of-self : goal.invariant_of-self
invariant_of-self g c = (held_with _ _ _ _ _ c.self.invariant.0.index c.self.invariant.0, c.read_slots.ensures.len ∙ c.self.invariant.1, c.self.invariant.2, c.self.invariant.3, c.self.invariant.4)

pub returns-in_err-read_slots-clause-state : goal.returns-in_err-read_slots-clause-state
returns-in_err-read_slots-clause-state g c =
    let merge : MergeState = state_of c.self.inside in
    rw (← c.self.view_is) (MatchResult-from_err _ _ _ c.from_residual.ensures.0
    (λ _. ap (λ (a : List (List ℕ)). let m : MergeState = record merge { slots = a } in m) (c.in_err-read_slots.ensures.err ∙ sym (c.is_empty.ensures.none c.if-not-is_empty.false))))

pub returns-clause-slots : goal.returns-clause-slots
returns-clause-slots g c = rw (← c.self.view_is) (sym (c.is_empty.ensures.none c.if-not-is_empty.false), c.in_ok-read_slots.ensures.some)

pub returns-clause-merged : goal.returns-clause-merged
returns-clause-merged g c =
    let merge : MergeState = state_of c.self.inside in
    let below = rw (← c.self.view_is) at c.requires.more in
    let count = rw (← c.self.view_is) at c.requires.count in
    let shapes = rw (← c.self.view_is) at c.requires.shapes in
    let store : HashState = c.index-stores-self.result in
    let image : List ℕ = (g.D.Disk.content c.args.disk.now).shown in
    let shape : store.shape ≡ merge.shape = ap (λ (s : HashState). s.shape) c.index-stores-self.is ∙ shapes merge.store store (omega (arith, below, count)) in
    let region : get_or (regions_of c.args.stores.now) merge.store 0 ≡ store.region = store_at c.args.stores.now merge.store store (omega (arith, below, count)) c.index-stores-self.is in
    rw (← c.self.view_is) (λ sorted is. merged_with (g.D.Disk.content c.args.disk.now) c.args.stores.now sorted merge c.read_slots.new.self.parts _ _ (λ honest same was inside. subst (λ r. AreSlots
    sorted.shape r image merge.slot c.read_slots.new.self.parts) (sym region) (subst (λ (s : Shape). AreSlots s store.region image merge.slot c.read_slots.new.self.parts) (shape ∙ sym same)
    (c.in_ok-read_slots.ensures.slots honest))) (λ honest entries. entries) is)

pub invariant_of-self-2 : goal.invariant_of-self-2
invariant_of-self-2 g c = (held_with _ _ _ _ _ c.self.invariant.0.index c.self.invariant.0, c.read_slots.ensures.len ∙ c.self.invariant.1, c.self.invariant.2, c.self.invariant.3, c.self.invariant.4)

pub returns-clause-held : goal.returns-clause-held
returns-clause-held g c = held_with _ _ _ _ _ c.self.invariant.0.index c.self.invariant.0

pub returns-in_err-read_slots-clause-held : goal.returns-in_err-read_slots-clause-held
returns-in_err-read_slots-clause-held g c = held_with _ _ _ _ _ c.self.invariant.0.index c.self.invariant.0
