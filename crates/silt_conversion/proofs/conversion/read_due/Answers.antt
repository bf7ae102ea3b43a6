use Rattle.silt_conversion.proofs.Common.{◌≡◌, ◌<◌, true, Some, option_map, sym, ap, ◌∙◌, arith, Entry, entry_at, row_at, has_known_kind, row_of}
use Rattle.silt_conversion.proofs.Writing.{due_is, due_known}
use Rattle.silt_conversion.proofs.conversion.read_due.Goals as goal

pub read_row-requires-clause-place : goal.read_row-requires-clause-place
read_row-requires-clause-place g c =
    let held = c.slot.ensures.held in
    let below = held.below c.args.slot c.in-Some.place (ap (option_map (λ (e : Entry). e.1)) (sym c.slot.ensures.value ∙ c.in-Some.is)) in
    omega (arith, below, held.bounds.room)

pub returns-in_ok-read_row-in-Some-clause-due : goal.returns-in_ok-read_row-in-Some-clause-due
returns-in_ok-read_row-in-Some-clause-due g c = λ honest index.
    let entry : entry_at c.args.log.now.table c.args.slot ≡ Some (c.in-Some.field-0-0, c.in-Some.place) = sym c.slot.ensures.value ∙ c.in-Some.is in
    let below : c.in-Some.place < c.args.log.now.log.used = c.slot.ensures.held.below c.args.slot c.in-Some.place (ap (option_map (λ (e : Entry). e.1)) entry) in
    let read : row_of c.read_row.new.out ≡ row_at c.args.log.now.log.shape c.args.log.now.log.region (g.D.Disk.content c.args.disk.now).shown c.in-Some.place =
    c.in_ok-read_row-in-Some.ensures.row honest in
    let known : has_known_kind (row_of c.read_row.new.out) ≡ true = ap has_known_kind read ∙ due_known (g.D.Disk.content c.args.disk.now) c.args.log.now c.in-Some.place index honest below in
    ap row_of (c.settle_row.ensures.known known) ∙ read ∙ due_is (g.D.Disk.content c.args.disk.now) c.args.log.now c.args.slot c.in-Some.field-0-0 c.in-Some.place entry below
