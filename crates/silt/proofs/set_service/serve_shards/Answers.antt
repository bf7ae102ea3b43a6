use Rattle.std.proofs.Common.{◌≡◌, inl, rules}
use Rattle.silt.proofs.set_service.serve_shards.Goals as goal

pub returns-in-Some-clause-served : goal.returns-in-Some-clause-served
returns-in-Some-clause-served g c =
    let all : c.as_slice.result.now ≡ c.args.cores.items = search rules in
    inl (c.new.ensures.items, inl (c.in-Some.hashes, rw all at c.in-Some.ensures.few, c.refuse-ended.ensures))
