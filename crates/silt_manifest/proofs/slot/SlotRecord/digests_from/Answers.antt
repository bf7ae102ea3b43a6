use Rattle.silt_manifest.proofs.Common.{true, Some, ap, sym, ◌≡◌, ◌∙◌, is_long}
use Rattle.silt_manifest.proofs.slot.SlotRecord.digests_from.Goals as goal

pub returns-then-is_long : goal.returns-then-is_long
returns-then-is_long c =
    let long : is_long c.args.bytes.now ≡ true = sym c.is_long.ensures ∙ c.if-is_long.true in
    rw long (ap Some c.of_slot.ensures)
