use Rattle.silt_server.proofs.Names.{◌≡◌, ap, arith, length, rules, subst, sym, All, vec_len, into_iter_items, All-rest, IsNamedFor}
use Rattle.silt_server.proofs.serve_set.Shards+D+Anchored+Count+N+N.new.Goals as goal

pub loop-store-init : goal.loop-store-init
loop-store-init g c =
    let given = c.into_iter-store-iterator.ensures.into_iter_gives in
    let long : length c.args.stores.items ≡ vec_len c.args.stores = search rules in
    let shards = c.in_ok-shards.ensures in
    let crews = c.in_ok-crews.ensures in
    record {
      can = tt;
      finite = tt;
      named = subst (All (λ store. IsNamedFor g.D.Disk g.N.Anchor.first g.N.Anchor.calls store.core store.log)) (sym given.0) c.requires.named;
      made = omega (arith, shards.len);
      crews = omega (arith, shards.len, crews.len);
      shard_room = omega (arith, shards.room, c.len.ensures, ap length given.0, long);
      crew_room = omega (arith, crews.room, c.len-2.ensures, ap length given.0, long);
    }

pub loop-store-preserved : goal.loop-store-preserved
loop-store-preserved g c =
    let before = c.loop-store.invariant in
    let items = c.in-Some.ensures.steps.0 in
    record {
      can = tt;
      finite = tt;
      named = All-rest (λ store. IsNamedFor g.D.Disk g.N.Anchor.first g.N.Anchor.calls store.core store.log) c.in-Some.store (into_iter_items c.next.new.self) _ items before.named;
      made = search rules;
      crews = search rules;
      shard_room = search rules;
      crew_room = search rules;
    }
