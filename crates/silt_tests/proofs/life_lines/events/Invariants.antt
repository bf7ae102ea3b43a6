use Rattle.std.specs.Prelude.{All}
use Rattle.silt_event.specs.Events.{HasValueOf}
use Rattle.silt_tests.proofs.life_lines.events.Given as goal

-- the events so far put values of two bytes
abbrev pub invariant-loop-line : goal.invariant-loop-line
invariant-loop-line l = record { all : All (HasValueOf 2) l.events.items }
