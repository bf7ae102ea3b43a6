use Rattle.silt_recovery.proofs.Common.{◌+◌, ℕ, IsTrue, List, get_or, take, subst, sym, ◌∙◌, arith, take_all, err_from_is_err_and, GaveAny, HashState, bytes_said, AreReadHashes, HasFirstSlot}
use Rattle.silt_recovery.proofs.Common.{HasFirstInRegion}
use Rattle.silt_recovery.proofs.HashSearches.{next_slot_finding, one_more_hash}
use Rattle.silt_recovery.proofs.Refusals.{refused_weaker}
use Rattle.silt_recovery.proofs.hashes.read_hashes.Goals as goal

pub returns-in_err-rebuilt-clause-cause : goal.returns-in_err-rebuilt-clause-cause
returns-in_err-rebuilt-clause-cause g c =
    let content = g.D.Disk.content c.args.disk.now in
    let shape = c.args.geometry in
    let regions = c.args.regions.now in
    let refused = err_from_is_err_and c.from_residual.result c.from_residual.ensures.1 in
    rw (refused.1, refused.2) (refused_weaker (λ finding. IsTrue content.honest → HasFirstInRegion shape (bytes_said c.hash_said.result) content.shown (get_or regions c.loop-place.place 0) finding)
    (λ finding. IsTrue content.honest → HasFirstSlot shape c.args.said.now content.shown regions finding) (GaveAny g.D.Disk.gave c.args.disk.now) c.in_err-rebuilt.field-0.0
    (next_slot_finding content shape c.args.said.now regions c.loop-place.place c.loop-place.stores.items c.loop-place.puts c.loop-place.rows c.loop-place-test.true c.loop-place.invariant.read
    (bytes_said c.hash_said.result) c.hash_said.ensures) c.in_err-rebuilt.ensures.cause)

pub loop-place-preserved : goal.loop-place-preserved
loop-place-preserved g c =
    let content = g.D.Disk.content c.args.disk.now in
    let next = c.in_ok-rebuilt.ensures in
    let read = one_more_hash content c.args.geometry c.args.said.now c.args.regions.now c.loop-place.place c.loop-place.stores.items
    c.loop-place.puts c.loop-place.rows c.loop-place-test.true c.loop-place.invariant.read
    (bytes_said c.hash_said.result) c.hash_said.ensures c.in_ok-rebuilt.rebuilt.store c.from-puts.result c.in_ok-rebuilt.rebuilt.rows
    next.region next.read next.sound (c.from-puts.ensures ∙ c.puts.ensures.value) next.counted in
    record {
      read = subst (λ (stores : List HashState). AreReadHashes content c.args.geometry c.args.said.now (take (c.loop-place.place + 1) c.args.regions.now)
          stores (c.loop-place.puts + c.from-puts.result) (c.loop-place.rows + c.in_ok-rebuilt.rebuilt.rows)) (sym {A = List HashState} c.in-Ok-push.ensures.items) read;
      most_puts = omega (arith, next.most.0, c.from-puts.ensures, c.puts.ensures.value, c.loop-place.invariant.most_puts);
      most_rows = omega (arith, next.most.1, c.loop-place.invariant.most_rows);
      room = omega (arith, c.in-Ok-push.ensures.capacity, c.loop-place.invariant.room);
    }

pub returns-clause-read : goal.returns-clause-read
returns-clause-read g c =
    let all = take_all c.loop-place.place c.args.regions.now c.loop-place-test.false in
    subst (λ (regions : List ℕ). AreReadHashes (g.D.Disk.content c.args.disk.now) c.args.geometry c.args.said.now regions
    c.loop-place.stores.items c.loop-place.puts c.loop-place.rows) all c.loop-place.invariant.read
