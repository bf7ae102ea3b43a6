use Rattle.silt_dump.proofs.Common.{held_stores, held_good, refl}
use Rattle.silt_dump.proofs.Opened.{streams_opened}
use Rattle.silt_dump.proofs.stream.EntryStream.open.Goals as goal

pub returns-in-Ok-gather-clause-streams : goal.returns-in-Ok-gather-clause-streams
returns-in-Ok-gather-clause-streams g c = streams_opened (g.D.Disk.content c.args.disk.now) _ (record {
  holds = c.in_ok-held.ensures.holds;
  spots = c.in-Ok-gather.ensures.spots;
  notes = c.in-Ok-gather.ensures.notes;
  fits = c.in-Ok.ensures.piece;
  first = c.in-Ok.ensures.empty.0;
  empty = c.in-Ok.ensures.empty.1;
  row = c.in-Ok.ensures.row;
  place = refl;
  last = refl;
})

pub returns-in-Ok-gather-clause-good : goal.returns-in-Ok-gather-clause-good
returns-in-Ok-gather-clause-good g c = λ honest. held_good (g.D.Disk.content c.args.disk.now) (held_stores c.in_ok-held.held) c.in_ok-held.ensures.holds honest
