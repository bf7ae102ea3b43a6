use Rattle.silt_manifest.proofs.Common.{◌≡◌, ◌+◌, ◌*◌, ◌++◌, length, take, big_bytes, id_bytes}
use Rattle.silt_manifest.proofs.body.put_ids.Given as goal

abbrev pub invariant-loop-k : goal.invariant-loop-k
invariant-loop-k l = take (l.fn.at + 4 + 4 * l.k) l.bytes ≡ take l.fn.at l.fn.bytes ++ big_bytes 4 (length l.ids) ++ id_bytes (take l.k l.ids)
