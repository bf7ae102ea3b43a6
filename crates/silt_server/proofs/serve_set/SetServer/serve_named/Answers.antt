use Rattle.silt_server.proofs.Names.{◌∙◌, refl, rules}
use Rattle.silt_server.proofs.Sets.{as_many, each_none}
use Rattle.silt_server.proofs.serve_set.SetServer.serve_named.Goals as goal

pub returns-in-Some-clause-served : goal.returns-in-Some-clause-served
returns-in-Some-clause-served g c =
    λ is. let served = c.serve_made.ensures.served is in (served.0, served.1, served.2, served.3, served.4 ∙ c.in-Some.ensures.count, served.5)

pub returns-in-Some-clause-count : goal.returns-in-Some-clause-count
returns-in-Some-clause-count g c = as_many _ _ _ _ _ refl c.in-Some.ensures.count c.serve_made.ensures.count

pub returns-in-None-clause-led : goal.returns-in-None-clause-led
returns-in-None-clause-led g c = each_none g.D.Disk g.N.Anchor.first _ (search rules)
