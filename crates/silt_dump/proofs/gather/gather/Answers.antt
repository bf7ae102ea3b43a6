use Rattle.silt_dump.proofs.Common.{hashed_rows, held_stores, held_shown, logged_rows}
use Rattle.silt_dump.proofs.Noting.{no_spots, notes_all, notes_more}
use Rattle.silt_dump.proofs.gather.gather.Goals as goal

pub returns-clause-spots : goal.returns-clause-spots
returns-clause-spots g c =
    let content = g.D.Disk.content c.args.disk.now in
    let s = held_stores c.args.held.now in
    (notes_more content s (hashed_rows content s) (logged_rows content s) c.new-spots.result c.note_hashes.new.spots c.note_logs.new.spots
    c.in_ok-note_hashes.ensures.notes c.in_ok-note_logs.ensures.notes).spots
    (no_spots content s c.new-spots.result c.new-spots.ensures.empty)

pub returns-clause-notes : goal.returns-clause-notes
returns-clause-notes g c = λ honest.
    let content = g.D.Disk.content c.args.disk.now in
    let s = held_stores c.args.held.now in
    notes_all content s c.new-spots.result c.note_logs.new.spots (held_shown content s c.requires.holds) honest c.new-spots.ensures.empty
    (notes_more content s (hashed_rows content s) (logged_rows content s) c.new-spots.result c.note_hashes.new.spots c.note_logs.new.spots
    c.in_ok-note_hashes.ensures.notes c.in_ok-note_logs.ensures.notes)
