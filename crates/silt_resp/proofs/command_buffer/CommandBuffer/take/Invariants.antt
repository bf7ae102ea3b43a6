use Rattle.silt_resp.proofs.Common.{◌≤◌, false, length, take, ◌-◌, HoldsStream, TakesInput, Stream}
use Rattle.silt_resp.proofs.command_buffer.CommandBuffer.take.Given as goal

-- the bytes so far end no command
abbrev pub invariant-loop-done : goal.invariant-loop-done
invariant-loop-done l = record {
  within : l.done ≤ length l.bytes;
  taken : (s : Stream) → HoldsStream l.fn.self s → TakesInput s (take l.done l.bytes) false l.self;
}

abbrev pub decreases-loop-done : goal.decreases-loop-done
decreases-loop-done l = length l.bytes - l.done
