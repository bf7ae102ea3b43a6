use Rattle.silt_wire.proofs.Common.{◌≡◌, ◌++◌, flat_map, string_bytes, take, line_of}
use Rattle.silt_wire.proofs.batch.push_replies.Given as goal

abbrev pub invariant-loop-reply : goal.invariant-loop-reply
invariant-loop-reply l = string_bytes l.texts ≡ string_bytes l.initial.texts ++ flat_map line_of (take l.reply-index l.replies)
