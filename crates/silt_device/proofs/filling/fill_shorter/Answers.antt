use Rattle.silt_device.proofs.Filled.{never, shrunk_on}
use Rattle.silt_device.proofs.filling.fill_shorter.Goals as goal

pub returns-clause-filled : goal.returns-clause-filled
returns-clause-filled g c =
    shrunk_on g.F.RandomAccessFile.content g.F.RandomAccessFile.written_at g.F.RandomAccessFile.synced c.args.file.now c.write_again.new.file c.settle.new.self c.resize.new.self
    c.settle-2.new.self c.args.len c.settle-2.result c.in_ok-write_again.ensures.same c.in_ok-write_again.ensures.written c.in_ok-settle.ensures.settled c.in_ok-resize.ensures.content
    c.settle-2.ensures.synced c.settle-2.ensures.settled

pub returns-clause-too_long : goal.returns-clause-too_long
returns-clause-too_long g c = λ long. never (c.in_ok-resize.ensures.too_long long)
