use Rattle.silt_hash_store.proofs.Common.{◌≡◌, Some, sym, ◌∙◌, arith, StoredRow, slot_row, slot_tag}
use Rattle.std.proofs.lemmas.Grind.{common_steps}
use Rattle.silt_hash_store.proofs.Finding.{tag_matches}
use Rattle.silt_hash_store.proofs.lookup.match_at.Goals as goal

pub returns-clause-matches : goal.returns-clause-matches
returns-clause-matches g c = λ honest.
    let row : StoredRow = slot_row c.args.region.now.geometry c.args.region.now.number (g.D.Disk.content c.args.disk.now).shown c.args.slot in
    let tagged : c.get.result ≡ Some c.args.sought.tag = grind (arith, common_steps, c.if-ne.false, c.ne.ensures) in
    tag_matches (slot_tag c.args.tags.now c.args.slot) c.args.sought.tag row c.args.sought.key.0 c.kind_with_key.result
    (sym c.get.ensures ∙ tagged) (c.kind_with_key.ensures row (c.in_ok-head.ensures.head honest))
