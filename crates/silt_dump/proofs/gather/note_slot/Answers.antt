use Rattle.silt_dump.proofs.Common.{◌≡◌, IsTrue, sym, subst, ◌∙◌, refl, get_or_read, StoredRow, Put, Delete, slot_row, HashState, hash_store_at, held_stores, IsSpotOf}
use Rattle.silt_hash_store.specs.Lookup.{IsRowAt}
use Rattle.silt_log.specs.Rows.{IsRow}
use Rattle.silt_dump.proofs.Noting.{gives_slot, notes_kept}
use Rattle.silt_dump.proofs.gather.note_slot.Goals.{in-Put, in-Delete}
use Rattle.silt_dump.proofs.gather.note_slot.Goals as goal

pub returns-clause-notes : goal.returns-clause-notes
returns-clause-notes g c =
    let content = g.D.Disk.content c.args.disk.now in
    let s = held_stores c.args.held.now in
    let store : HashState = hash_store_at s c.args.number in
    let row : StoredRow = slot_row store.shape store.region content.shown c.args.slot in
    let store_is : c.index.result.now ≡ store = get_or_read c.args.held.now.hashes.items c.args.number c.index.result.now c.requires.number c.index.ensures _ in
    let is : IsTrue content.honest → IsRow c.args.slot row c.in-Ok-Some.row =
    λ honest. subst (IsRowAt row c.args.slot) c.in-Ok-Some.field-0-is
    (subst (λ (h : HashState). IsRowAt (slot_row h.shape h.region content.shown c.args.slot) c.args.slot c.in-Ok-Some.field-0) store_is (c.in-Ok-Some.ensures.row honest)) in
    let noted = notes_kept content s row c.in-Ok-Some.row.key c.match-row.spot c.args.spots.now c.insert.new.self in
    elim c.match-row.branch [
      | in-Put w ↦
          noted (subst (IsSpotOf s) (sym w.spot-is) (c.requires.number, c.requires.slot)) (λ honest. (is honest).known) (λ honest. sym (is honest).key)
          (λ honest. gives_slot content s c.args.number c.args.slot row c.in-Ok-Some.row.kind c.match-row.spot refl (is honest).kind (λ put. w.spot-is)
          (λ delete. absurd (let no : Put ≡ Delete = sym w.in-Put.is ∙ delete in cc)))
          c.in-Ok.ensures.updates
      | in-Delete w ↦
          noted (subst (IsSpotOf s) (sym w.spot-is) tt) (λ honest. (is honest).known) (λ honest. sym (is honest).key)
          (λ honest. gives_slot content s c.args.number c.args.slot row c.in-Ok-Some.row.kind c.match-row.spot refl (is honest).kind
          (λ put. absurd (let no : Delete ≡ Put = sym w.in-Delete.is ∙ put in cc)) (λ delete. w.spot-is))
          c.in-Ok.ensures.updates
    ]
