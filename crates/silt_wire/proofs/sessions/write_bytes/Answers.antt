use Rattle.silt_wire.proofs.Answering.{wrote-front, wrote-piece, Appends-piece, IsBeginning-take, within-piece}
use Rattle.silt_wire.proofs.Streams.{Appends-keeps}
use Rattle.silt_wire.proofs.sessions.write_bytes.Goals.{in-Ok, in-Err}
use Rattle.silt_wire.proofs.sessions.write_bytes.Goals as goal

pub returns-in-Ok-eq0-clause-some : goal.returns-in-Ok-eq0-clause-some
returns-in-Ok-eq0-clause-some g c =
    wrote-piece c.args.bytes.now c.loop.done c.in-Ok-eq0.field-0 _ _ _ c.loop.invariant.written (rw c.in-Ok-eq0.is at c.write.ensures.bytes)

pub returns-in-Err-2-clause-some : goal.returns-in-Err-2-clause-some
returns-in-Err-2-clause-some g c = wrote-front c.args.bytes.now c.loop.done _ _ _ c.loop.invariant.written c.in-Err-2.ensures.bytes

pub loop-preserved : goal.loop-preserved
loop-preserved g c =
    elim c.match-write.branch [
      | in-Ok w ↦
          rw w.done-is (record {
            within = within-piece c.args.bytes.now c.loop.done w.in-Ok.count c.loop.invariant.within w.in-Ok.ensures.bound;
            written = Appends-piece c.args.bytes.now c.loop.done w.in-Ok.count _ _ _ c.loop.invariant.written w.in-Ok.ensures.bytes;
          })
      | in-Err w ↦
          rw w.done-is (record {
            within = c.loop.invariant.within;
            written = Appends-keeps _ _ _ _ c.loop.invariant.written w.in-Err.ensures.bytes;
          })
    ]

pub returns-clause-some : goal.returns-clause-some
returns-clause-some g c = (_, IsBeginning-take c.args.bytes.now c.loop.done, c.loop.invariant.written)
