use Rattle.silt_engine.proofs.Common.{◌≡◌, ◌++◌, map, take, option_to_list, digest_of, padded}
use Rattle.silt_engine.proofs.digests.digests_with.Given as goal

-- the digests of the stores so far are there
abbrev pub invariant-loop-index : goal.invariant-loop-index
invariant-loop-index l = l.hashed ≡ padded (option_to_list l.fn.first ++ map digest_of (take l.index l.stores))
