use Rattle.silt_device.proofs.Common.{rules, arith, length}
use Rattle.silt_device.proofs.Filled.{piece_written}
use Rattle.silt_device.proofs.filling.write_piece.Goals as goal

pub returns-clause-same : goal.returns-clause-same
returns-clause-same g c =
    piece_written c.args.at (length c.args.piece.now) c.read_all_from.new.buf (g.F.RandomAccessFile.content c.args.file.now) (g.F.RandomAccessFile.content c.write_whole_at.new.self)
    c.write_whole_at.result (search (rules, arith)) c.requires c.in_ok-read_all_from.ensures.bytes c.write_whole_at.ensures.honest c.write_whole_at.ensures.written
