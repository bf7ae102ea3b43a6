use Rattle.silt_wire.proofs.Common.{sym, ◌∙◌}
use Rattle.silt_wire.proofs.Streams.{taken-line, taken-rest}
use Rattle.silt_wire.proofs.line_buffer.LineBuffer.take.Goals as goal

pub returns-in_ok-append-in-Some-clause-takes : goal.returns-in_ok-append-in-Some-clause-takes
returns-in_ok-append-in-Some-clause-takes c = λ begun h.
    taken-line begun c.args.bytes.now c.in-Some.at _ c.append.new.self (sym c.feed_at.ensures ∙ c.in-Some.is) c.split_at.ensures.front (c.in_ok-append-in-Some.ensures begun h)

pub returns-in_ok-append-in-None-clause-takes : goal.returns-in_ok-append-in-None-clause-takes
returns-in_ok-append-in-None-clause-takes c = λ begun h.
    taken-rest begun c.args.bytes.now c.append-in-None.new.self (sym c.feed_at.ensures ∙ c.in-None.is) (c.in_ok-append-in-None.ensures begun h)
