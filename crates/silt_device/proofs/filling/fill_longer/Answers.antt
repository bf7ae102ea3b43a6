use Rattle.silt_device.proofs.Filled.{grown_on, never, sized_fits}
use Rattle.silt_device.proofs.filling.fill_longer.Goals as goal

pub write_again-requires-clause-fits : goal.write_again-requires-clause-fits
write_again-requires-clause-fits g c = sized_fits _ _ _ c.in_ok-resize.ensures.content

pub returns-clause-filled : goal.returns-clause-filled
returns-clause-filled g c =
    grown_on g.F.RandomAccessFile.content g.F.RandomAccessFile.written_at g.F.RandomAccessFile.synced c.args.file.now c.resize.new.self c.write_again.new.file c.settle.new.self
    c.args.len c.settle.result c.in_ok-resize.ensures.content c.in_ok-write_again.ensures.same c.in_ok-write_again.ensures.written c.settle.ensures.synced c.settle.ensures.settled

pub returns-clause-too_long : goal.returns-clause-too_long
returns-clause-too_long g c = λ long. never (c.in_ok-resize.ensures.too_long long)
