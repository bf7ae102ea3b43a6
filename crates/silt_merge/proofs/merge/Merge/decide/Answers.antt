use Rattle.silt_merge.proofs.Common.{Err, refl, ap, ◌∙◌, subst, HasMerged, IsHeldMerge, MergeState, TakesStep, ahead_without}
use Rattle.silt_merge.proofs.Stepped.{read_and_failed, read_and_went, refused}
use Rattle.silt_merge.proofs.merge.Merge.decide.Goals as goal

pub returns-in-Err : goal.returns-in-Err
returns-in-Err g c =
    refused g.D.Disk c.args.stores.now c.args.sorted.now c.args.digest.now.0 c.args.disk.now c.args.self.now c.read_ahead.new.self
    _ c.in-Err.ensures.state (subst IsHeldMerge c.in-Err.ensures.state c.read_ahead.ensures.held) c.requires.sound (refl, refl, c.in-Err.ensures.fault)

pub returns-in-Ok-decide_next : goal.returns-in-Ok-decide_next
returns-in-Ok-decide_next g c =
    let before : MergeState = c.args.self.now in
    read_and_went g.D.Disk _ _ _ _ _ before _ _ (rw c.in-Ok.ensures.state at (c.in-Ok.ensures.merged c.args.stores.now)) _ _ (rw c.in-Ok.ensures.state at c.in-Ok-decide_next.ensures)

pub returns-in-Err-decide_next : goal.returns-in-Err-decide_next
returns-in-Err-decide_next g c =
    let before : MergeState = c.args.self.now in
    let mid : MergeState = c.decide_next.new.self in
    read_and_failed g.D.Disk c.args.stores.now c.args.sorted.now c.args.digest.now.0 c.args.disk.now c.decide_next.new.disk before before.slots c.read_ahead.new.self.ahead
    (subst (λ (m : MergeState). HasMerged (g.D.Disk.content c.args.disk.now) c.args.stores.now c.args.sorted.now before
    → HasMerged (g.D.Disk.content c.args.disk.now) c.args.stores.now c.args.sorted.now m) c.in-Ok.ensures.state (c.in-Ok.ensures.merged c.args.stores.now))
    mid c.forget_ahead.new.self mid.slots (ahead_without c.in-Ok.is_read mid.ahead) c.in-Err-decide_next.error c.forget_ahead.ensures.state
    (λ back. c.forget_ahead.ensures.state ∙ ap (λ (m : MergeState). let r : MergeState = record m { ahead = ahead_without c.in-Ok.is_read m.ahead } in r) back
    ∙ ap (λ l. let r : MergeState = record before { ahead = l } in r) c.in-Ok.ensures.before) c.forget_ahead.ensures.held
    (subst (λ (m : MergeState). TakesStep g.D.Disk c.args.stores.now c.args.sorted.now c.args.digest.now.0 c.args.disk.now
    c.decide_next.new.disk m mid (Err c.in-Err-decide_next.error)) c.in-Ok.ensures.state c.in-Err-decide_next.ensures)
