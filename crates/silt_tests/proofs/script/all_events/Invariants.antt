use Rattle.std.specs.Prelude.{All}
use Rattle.silt_event.specs.Events.{HasValueOf}
use Rattle.silt_tests.proofs.script.all_events.Given as goal

-- the lives so far put values of two bytes
abbrev pub invariant-loop-lines : goal.invariant-loop-lines
invariant-loop-lines l = record { all : All (λ life. All (HasValueOf 2) life.items) l.lives.items }
