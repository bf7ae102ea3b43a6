use Rattle.std.proofs.Common.{arith}
use Rattle.silt_resp.proofs.Takes.{takes_part}
use Rattle.silt_resp.proofs.command_buffer.CommandBuffer.take.Goals as goal

pub returns-then-taken-clause-takes : goal.returns-then-taken-clause-takes
returns-then-taken-clause-takes c = λ s h.
    let count = c.in_ok-taken.taken.count in
    let new = c.take_piece.new.self in
    rw c.if-taken.true at (takes_part s c.args.bytes.now _ c.loop-done.done count c.in_ok-taken.taken.ends_command c.loop-done.self new
    (c.loop-done.invariant.taken s h) c.split_at.ensures.back (λ t k. c.in_ok-taken.ensures.takes t k))

pub loop-done-preserved : goal.loop-done-preserved
loop-done-preserved c =
    let count = c.in_ok-taken.taken.count in
    let new = c.take_piece.new.self in
    let rest = c.split_at.ensures.back_len in
    let most = c.in_ok-taken.ensures.count.1 in
    record {
      within = omega (arith, rest, most);
      taken = λ s h. rw c.if-taken.false at (takes_part s c.args.bytes.now _ c.loop-done.done count c.in_ok-taken.taken.ends_command c.loop-done.self new (c.loop-done.invariant.taken s h)
          c.split_at.ensures.back (λ t k. c.in_ok-taken.ensures.takes t k));
    }
