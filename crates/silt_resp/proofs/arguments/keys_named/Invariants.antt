use Rattle.silt_resp.proofs.Common.{◌≡◌, drop, keys_named}
use Rattle.silt_resp.proofs.Named.{keys_with}
use Rattle.silt_resp.proofs.arguments.keys_named.Given as goal

-- all keys are those so far and those of the rest
abbrev pub invariant-loop-index : goal.invariant-loop-index
invariant-loop-index l = keys_named l.args ≡ keys_with l.keys.items (drop l.index l.args)
