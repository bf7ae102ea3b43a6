use Rattle.silt_resp.proofs.Common.{◌≡◌, ◌++◌, take, Get}
use Rattle.std.proofs.Common.{map}
use Rattle.silt_resp.proofs.key_commands.push_looks.Given as goal

-- the events of the keys so far are there
abbrev pub invariant-loop-key : goal.invariant-loop-key
invariant-loop-key l = l.events.items ≡ l.fn.events.items ++ map (λ key. Get key) (take l.key-index l.keys)
