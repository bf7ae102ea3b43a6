use Rattle.silt_server.proofs.Names.{◌≡◌, ◌∙◌, ap, length, map, refl, rules, sym, vec_len, seen_at}
use Rattle.silt_server.proofs.Sets.{as_many, leaves_each, named_all}
use Rattle.silt_server.proofs.serve_set.SetServer.serve.Goals as goal

pub serve_named-requires-clause-named : goal.serve_named-requires-clause-named
serve_named-requires-clause-named g c κs within = named_all g.D.Disk (λ store. store.core) (λ store. store.log) c.in-Some.stores.items c.in-Some.ensures.logs

pub returns-in-Some-clause-served : goal.returns-in-Some-clause-served
returns-in-Some-clause-served g c =
    λ is. let served = c.serve_named.ensures.served is in (served.0, served.1, served.2, served.3, served.4 ∙ c.in-Some.ensures.count, served.5)

pub returns-in-Some-clause-count : goal.returns-in-Some-clause-count
returns-in-Some-clause-count g c = as_many _ _ _ _ _ refl c.in-Some.ensures.count c.serve_named.ensures.count

pub returns-in-Some-clause-led : goal.returns-in-Some-clause-led
returns-in-Some-clause-led g c =
    let disks = c.serve_named.result.0 in
    let long : length disks.items ≡ vec_len disks = search rules in
    let cores : length c.args.cores.items ≡ vec_len c.args.cores = search rules in
    leaves_each g.D.Disk (seen_at g.D.Disk (map (λ store. store.core) c.in-Some.stores.items)) c.args.cores.items disks.items
    (λ i. ap (λ l. seen_at g.D.Disk l i) c.in-Some.ensures.cores) (as_many _ _ _ _ _ long (c.in-Some.ensures.count ∙ sym cores) c.serve_named.ensures.count) c.serve_named.ensures.led
