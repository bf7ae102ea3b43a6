use Rattle.silt_server.proofs.Names.{◌<◌, ◌≤◌, [], ◌∷◌, ◌++◌, arith, length, refl}
use Rattle.silt_server.proofs.Sets.{calls_all, calls_next, sum_more}
use Rattle.silt_server.proofs.serve_set.calls_at.Goals as goal

pub loop-desk-init : goal.loop-desk-init
loop-desk-init g c = ([], tt, refl)

pub loop-desk-preserved : goal.loop-desk-preserved
loop-desk-preserved g c =
    let before = c.loop-desk.invariant in
    let desks = c.args.desks.now in
    let i = c.loop-desk.desk-index in
    let within : i < length desks = omega arith in
    let (n, m, counts) = c.trace.ensures.counts in
    let number = (c.numbers-calls.ensures n m (rw c.trace.ensures.trace counts)).0 in (
      before.0 ++ n ∷ [],
      calls_next g.T.Trace.counts (λ desk. desk.trace) desks i c.desk-item.result before.0 n m within c.desk-item.is before.1 counts,
      omega (arith, sum_more before.0 n, before.2, number),
    )

pub returns : goal.returns
returns g c =
    let before = c.loop-desk.invariant in
    let desks = c.args.desks.now in
    let over : length desks ≤ c.loop-desk.desk-index = omega arith in
    (before.0, calls_all g.T.Trace.counts (λ desk. desk.trace) desks c.loop-desk.desk-index before.0 over before.1, before.2)
