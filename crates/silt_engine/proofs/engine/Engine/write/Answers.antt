use Rattle.silt_engine.proofs.Common.{inl, ap, command_of, stored_row}
use Rattle.silt_engine.proofs.Appends.{waits_behind}
use Rattle.silt_engine.proofs.engine.Engine.write.Goals as goal

pub returns-in-Ok-clause-current : goal.returns-in-Ok-clause-current
returns-in-Ok-clause-current g c = inl (record {
  has_place = c.in-Ok.ensures.row.place;
  current = ap (λ m. m.current) c.in-Ok.ensures.row.others.manifest;
  waits = λ h. waits_behind (command_of (stored_row c.args.kind c.args.key.now c.args.value.now)) (g.D.Disk.content c.args.disk.now) (g.D.Disk.content
      c.write_active.new.disk) c.args.self.now c.write_active.new.self (c.in-Ok.ensures.works.advances.moves h) (c.in-Ok.ensures.row.waits h);
})
