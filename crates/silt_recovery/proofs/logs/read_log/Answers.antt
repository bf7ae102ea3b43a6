use Rattle.silt_recovery.proofs.Searches.{crowded_row, damaged_row, rebuilt_sound}
use Rattle.silt_recovery.proofs.logs.read_log.Goals as goal

pub returns-in-Ok-clause-sound : goal.returns-in-Ok-clause-sound
returns-in-Ok-clause-sound g c = λ h.
    let region = c.in-Ok.ensures.region in
    rebuilt_sound (g.D.Disk.content c.args.disk.now) c.args.geometry c.args.region c.in-Ok.store region.0 region.1 (c.in-Ok.ensures.rebuilt h)

pub returns-in-Err-Damaged-clause-cause : goal.returns-in-Err-Damaged-clause-cause
returns-in-Err-Damaged-clause-cause g c = λ h.
    let refused = rw c.in-Err-Damaged.field-0-is at c.in-Err-Damaged.ensures.err in
    damaged_row c.args.geometry (g.D.Disk.content c.args.disk.now).shown c.args.region c.in-Err-Damaged.row (refused h)

pub returns-in-Err-Crowded-clause-cause : goal.returns-in-Err-Crowded-clause-cause
returns-in-Err-Crowded-clause-cause g c = λ h.
    let refused = rw c.in-Err-Crowded.field-0-is at c.in-Err-Crowded.ensures.err in
    let first = refused h in
    crowded_row c.args.geometry (g.D.Disk.content c.args.disk.now).shown c.args.region first.0 first.1

pub returns-in-Ok-clause-read : goal.returns-in-Ok-clause-read
returns-in-Ok-clause-read g c = record {
  has_shape = c.in-Ok.ensures.region.0;
  bounds = c.puts-known.ensures.held.bounds;
  settled = c.in-Ok.ensures.region.2;
  scanned = λ h. let rebuilt = c.in-Ok.ensures.rebuilt h in rebuilt.scanned;
  indexed = c.in-Ok.ensures.index;
}
