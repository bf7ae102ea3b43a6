use Rattle.silt_wire.proofs.Common.{◌≤◌, length, take, Appends}
use Rattle.silt_wire.proofs.sessions.write_bytes.Given as goal

abbrev pub invariant-loop : goal.invariant-loop
invariant-loop g l =
    record {
      within : l.done ≤ length l.bytes;
      written : Appends (g.W.Write.contents l.initial.writer) (g.W.Write.contents l.writer) (take l.done l.bytes);
    }
