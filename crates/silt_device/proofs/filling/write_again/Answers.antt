use Rattle.silt_device.proofs.Common.{rules, refl, arith}
use Rattle.silt_device.proofs.Filled.{alike_twice, none_written, one_more}
use Rattle.silt_device.proofs.filling.write_again.Goals as goal

pub loop-at-init : goal.loop-at-init
loop-at-init g c = record {
  upto = search (rules, arith);
  piece = refl;
  alike = record { honest = refl; shown = λ _. refl };
  written = none_written g.F.RandomAccessFile.written_at c.args.file.now;
}

pub loop-at-preserved : goal.loop-at-preserved
loop-at-preserved g c = record {
  upto = search (rules, arith);
  piece = search (rules, arith);
  alike = alike_twice _ _ _ c.loop-at.invariant.alike c.in_ok-write_piece.ensures.same;
  written = one_more g.F.RandomAccessFile.written_at c.args.file.now c.loop-at.file c.write_piece.new.file c.loop-at.at c.write_piece.new.piece _ c.loop-at.invariant.written
      c.in_ok-write_piece.ensures.written (search (rules, arith));
}
