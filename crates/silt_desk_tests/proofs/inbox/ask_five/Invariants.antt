use Rattle.std.proofs.Common.{◌≤◌}
use Rattle.silt_desk_tests.proofs.inbox.ask_five.Given as goal

abbrev pub invariant-loop-number : goal.invariant-loop-number
invariant-loop-number g l = l.answered ≤ l.number
