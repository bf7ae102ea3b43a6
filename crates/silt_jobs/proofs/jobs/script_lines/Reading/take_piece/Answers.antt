use Rattle.silt_jobs.proofs.Readings.{TakesBytes-line}
use Rattle.silt_jobs.proofs.jobs.script_lines.Reading.take_piece.Goals as goal

pub returns-in_ok-take_line-clause-takes : goal.returns-in_ok-take_line-clause-takes
returns-in_ok-take_line-clause-takes c = λ begun h.
    TakesBytes-line c.args.value_len begun c.args.bytes.now c.in_ok-taken.taken c.take.new.self c.args.self.now c.take_line.new.self c.if-taken.true (c.in_ok-taken.ensures.takes begun h)
    (λ line holds. c.in_ok-take_line.ensures.takes line holds)
