use Rattle.silt_resp.proofs.Common.{◌≡◌, ◌++◌, take, shown_byte}
use Rattle.std.proofs.Common.{map}
use Rattle.silt_resp.proofs.asked_for.push_name.Given as goal

-- the bytes so far are there
abbrev pub invariant-loop-byte : goal.invariant-loop-byte
invariant-loop-byte l = l.out.items ≡ l.fn.out.items ++ map shown_byte (take l.byte-index l.shown)
