use Rattle.silt_server.proofs.Names.{◌≡◌, ◌%◌, ◌^◌, arith, inl, inr, length, vec_len, rules, sum}
use Rattle.silt_server.proofs.Sets.{each_none, led_each}
use Rattle.silt_server.proofs.serve_set.SetServer.serve_made.Goals as goal

pub returns-in-Some-clause-served : goal.returns-in-Some-clause-served
returns-in-Some-clause-served g c =
    λ is.
    let printed = rw c.in-Some.is at (c.serve_shards-desks.ensures.served is) in
    let given = rw c.in-Some.is at c.serve_shards-desks.ensures.given in
    let count : vec_len c.disks_of.result ≡ vec_len c.args.made.shards = omega (arith, c.disks_of.ensures.count, given.0) in
    let long : length c.disks_of.result.items ≡ vec_len c.disks_of.result = search rules in
    (printed.0, printed.1, sum printed.2 % 2 ^ 64, printed.4, omega (arith, count, long), c.disks_of.ensures.left)

pub returns-in-None-clause-served : goal.returns-in-None-clause-served
returns-in-None-clause-served g c = λ is. absurd (rw c.in-None.is at (c.serve_shards-desks.ensures.served is))

pub returns-in-Some-clause-count : goal.returns-in-Some-clause-count
returns-in-Some-clause-count g c =
    let given = rw c.in-Some.is at c.serve_shards-desks.ensures.given in
    inr (omega (arith, c.disks_of.ensures.count, given.0))

pub returns-in-None-clause-count : goal.returns-in-None-clause-count
returns-in-None-clause-count g c = inl c.requires.none.1

pub returns-in-Some-clause-led : goal.returns-in-Some-clause-led
returns-in-Some-clause-led g c =
    let given = rw c.in-Some.is at c.serve_shards-desks.ensures.given in
    led_each g.D.Disk g.T.Trace.counts (λ desk. desk.core) (λ desk. desk.trace) g.N.Anchor.first c.in-Some.desks.items c.disks_of.result.items given.1 c.disks_of.ensures.led

pub returns-in-None-clause-led : goal.returns-in-None-clause-led
returns-in-None-clause-led g c = each_none g.D.Disk g.N.Anchor.first c.args.room.disks.items c.requires.none.1
