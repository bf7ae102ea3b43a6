use Rattle.silt_merge.proofs.Common.{Err, refl, ap, ◌∙◌, subst, HasMerged, IsHeldMerge, MergeState, TakesStep, ahead_without}
use Rattle.silt_merge.proofs.Stepped.{read_and_failed, read_and_went, refused}
use Rattle.silt_merge.proofs.merge.Merge.gather.Goals as goal

pub returns-in-Err : goal.returns-in-Err
returns-in-Err g c = λ sorted digest. refused g.D.Disk c.args.stores.now sorted digest c.args.disk.now c.args.self.now c.read_slots.new.self _
    c.in-Err.ensures.state (subst IsHeldMerge c.in-Err.ensures.state c.read_slots.ensures.held) c.requires.sound (refl, refl, c.in-Err.ensures.fault)

pub returns-in-Ok-gather_ahead : goal.returns-in-Ok-gather_ahead
returns-in-Ok-gather_ahead g c = λ sorted digest.
    let before : MergeState = c.args.self.now in
    read_and_went g.D.Disk _ sorted digest _ _ before _ _ (rw c.in-Ok.ensures.state at (c.in-Ok.ensures.merged sorted)) _ _ (rw c.in-Ok.ensures.state at
    (c.in-Ok-gather_ahead.ensures.step sorted digest))

pub returns-in-Err-gather_ahead : goal.returns-in-Err-gather_ahead
returns-in-Err-gather_ahead g c = λ sorted digest.
    let before : MergeState = c.args.self.now in
    let mid : MergeState = c.gather_ahead.new.self in
    read_and_failed g.D.Disk c.args.stores.now sorted digest c.args.disk.now c.args.disk.now before c.read_slots.new.self.slots before.ahead
    (subst (λ (m : MergeState). HasMerged (g.D.Disk.content c.args.disk.now) c.args.stores.now sorted before
    → HasMerged (g.D.Disk.content c.args.disk.now) c.args.stores.now sorted m) c.in-Ok.ensures.state (c.in-Ok.ensures.merged sorted))
    mid c.forget_slots.new.self (ahead_without c.in-Ok.is_read mid.slots) mid.ahead c.in-Err-gather_ahead.error c.forget_slots.ensures.state
    (λ back. c.forget_slots.ensures.state ∙ ap (λ (m : MergeState). let r : MergeState = record m { slots = ahead_without c.in-Ok.is_read m.slots } in r) back
    ∙ ap (λ l. let r : MergeState = record before { slots = l } in r) c.in-Ok.ensures.slots.0) c.forget_slots.ensures.held
    (subst (λ (m : MergeState). TakesStep g.D.Disk c.args.stores.now sorted digest c.args.disk.now c.args.disk.now m mid (Err c.in-Err-gather_ahead.error))
    c.in-Ok.ensures.state (c.in-Err-gather_ahead.ensures.step sorted digest))
