use Rattle.silt_recovery.proofs.Common.{◌+◌, ℕ, IsTrue, List, [], ◌∷◌, get_or, take, subst, sym, ◌∙◌, arith, take_all, err_from_is_err_and, GaveAny, LogStoreState, AreReadLogs, HasFirstFinding}
use Rattle.silt_recovery.proofs.Frozen.{next_finding, one_more_read}
use Rattle.silt_recovery.proofs.Refusals.{refused_weaker}
use Rattle.silt_recovery.proofs.logs.read_frozen.Goals as goal

pub returns-in_err-store-clause-cause : goal.returns-in_err-store-clause-cause
returns-in_err-store-clause-cause g c =
    let content = g.D.Disk.content c.args.disk.now in
    let shape = c.args.geometry in
    let regions = c.args.regions.now in
    let refused = err_from_is_err_and c.from_residual.result c.from_residual.ensures.1 in
    rw (refused.1, refused.2) (refused_weaker (λ finding. IsTrue content.honest → HasFirstFinding shape content.shown (get_or regions c.loop-region.region-index 0 ∷ []) finding)
    (λ finding. IsTrue content.honest → HasFirstFinding shape content.shown regions finding) (GaveAny g.D.Disk.gave c.args.disk.now) c.in_err-store.field-0.0
    (next_finding content shape regions c.loop-region.region-index c.loop-region.stores.items c.loop-region.puts c.loop-region-test.true c.loop-region.invariant.read) c.in_err-store.ensures.cause)

pub loop-region-preserved : goal.loop-region-preserved
loop-region-preserved g c =
    let content = g.D.Disk.content c.args.disk.now in
    let next = c.in_ok-store.ensures in
    let read = one_more_read content c.args.geometry c.args.regions.now c.loop-region.region-index c.loop-region.stores.items
    c.loop-region.puts c.in_ok-store.store c.from-puts.result c.loop-region-test.true c.loop-region.invariant.read
    next.region next.read next.sound (λ h. c.from-puts.ensures ∙ c.puts.ensures.value ∙ next.counted h) in
    record {
      read = subst (λ (stores : List LogStoreState). AreReadLogs content c.args.geometry (take (c.loop-region.region-index + 1) c.args.regions.now)
          stores (c.loop-region.puts + c.from-puts.result)) (sym {A = List LogStoreState} c.in-Ok-push.ensures.items) read;
      most = omega (arith, next.most, c.from-puts.ensures, c.puts.ensures.value, c.loop-region.invariant.most);
      room = omega (arith, c.in-Ok-push.ensures.capacity, c.loop-region.invariant.room);
    }

pub returns-clause-read : goal.returns-clause-read
returns-clause-read g c =
    let all = take_all c.loop-region.region-index c.args.regions.now c.loop-region-test.false in
    subst (λ (regions : List ℕ). AreReadLogs (g.D.Disk.content c.args.disk.now) c.args.geometry regions c.loop-region.stores.items c.loop-region.puts) all c.loop-region.invariant.read
