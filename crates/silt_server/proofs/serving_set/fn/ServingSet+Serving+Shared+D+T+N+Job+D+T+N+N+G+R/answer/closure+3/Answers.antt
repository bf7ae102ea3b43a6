use Rattle.silt_server.proofs.serving_set.fn.ServingSet+Serving+Shared+D+T+N+Job+D+T+N+N+G+R.answer.closure+3.Goals as goal

pub returns-in-Ok : goal.returns-in-Ok
returns-in-Ok g c = λ events asks. let all = c.in-Ok.ensures c.captures.at.now.told events asks in (c.in-Ok.field-0-1, all.0, all.1, all.2)
