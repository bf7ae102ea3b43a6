use Rattle.silt_server.proofs.Names.{◌≡◌, inl, rules, status_told}
use Rattle.silt_server.proofs.serve_set.SetServer.serve_begun.Goals as goal

pub returns-clause-calls : goal.returns-clause-calls
returns-clause-calls g c =
    let all : c.as_slice-2.result.now ≡ c.in-Some.desks.items = search rules in
    λ is. rw all at (c.end-status.ensures.calls is)

pub returns-in_default-clause-printed : goal.returns-in_default-clause-printed
returns-in_default-clause-printed g c = status_told c.refuse.result (λ printed. inl printed) c.refuse.ensures
