use Rattle.silt_merge.proofs.Common.{◌≡◌, ℕ, get_or, subst, ap, ◌∙◌, HashDigest, HashState, MergeState, finding}
use Rattle.silt_merge.proofs.Taking.{row_refused, slot_taken}
use Rattle.silt_merge.proofs.merge.Merge.gather_ahead.Goals as goal

pub returns-in-Ok-clause-step : goal.returns-in-Ok-clause-step
returns-in-Ok-clause-step g c =
    let merge : MergeState = c.args.self.now in
    let store : HashState = c.index-stores-self.result in
    let here = subst (λ (m : MergeState). store ≡ get_or c.args.stores.now m.store store) c.self.view_is c.index-stores-self.is in
    let region : ℕ = c.region.result in
    slot_taken g.D.Disk c.args.stores.now c.args.disk.now merge store c.may_take_slot-fits.ensures.held c.requires.more c.requires.count c.requires.shapes c.requires.there
    c.may_take_slot-fits.ensures.len here c.row_ahead-row.result c.row_ahead-row.ensures region c.may_take_slot-fits.result c.region.ensures.value c.requires.sound
    c.take_row.new.self.waiting c.take_row.new.self.input c.note.new.self _ c.may_take_slot-fits.ensures.answer c.in-Ok.ensures.gathers c.in-Ok.ensures.hashed (c.note.ensures.state ∙ ap
    (λ (m : MergeState). let r : MergeState = record m { damaged = finding c.may_take_slot-fits.result (HashDigest region) } in r) c.in-Ok.ensures.state) c.note.ensures.held

pub returns-in-Ok-clause-slot : goal.returns-in-Ok-clause-slot
returns-in-Ok-clause-slot g c =
    rw c.note.ensures.state (record { row = c.row_ahead-row.result; shown = c.row_ahead-row.ensures; keeps = c.in-Ok.ensures.gathers; hashed = c.in-Ok.ensures.hashed })

pub returns-in-Err-clause-step : goal.returns-in-Err-clause-step
returns-in-Err-clause-step g c =
    let merge : MergeState = c.args.self.now in
    let store : HashState = c.index-stores-self.result in
    let here = subst (λ (m : MergeState). store ≡ get_or c.args.stores.now m.store store) c.self.view_is c.index-stores-self.is in
    row_refused g.D.Disk c.args.stores.now c.args.disk.now merge store c.may_take_slot-fits.ensures.held c.requires.more c.requires.count c.requires.shapes c.requires.there
    c.may_take_slot-fits.ensures.len here c.row_ahead-row.result c.row_ahead-row.ensures c.take_row.new.self c.requires.sound c.in-Err.ensures.new_key c.in-Err.ensures.err
