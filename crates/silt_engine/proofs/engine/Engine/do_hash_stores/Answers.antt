use Rattle.silt_engine.proofs.Common.{◌-◌, sym, arith}
use Rattle.silt_engine.proofs.Folds.{does_log}
use Rattle.silt_engine.proofs.Lookups.{known_in}
use Rattle.silt_engine.proofs.engine.Engine.do_hash_stores.Goals as goal

pub loop-index-preserved : goal.loop-index-preserved
loop-index-preserved g c = λ honest. does_log (known_in (g.D.Disk.content c.args.disk.now)) c.self.inside.hashes.items (c.loop-index.index - 1) c.loop-index.index c.index.result.now
    c.args.entries.now c.loop-index.entries c.do_hash_store.new.entries (omega (arith, c.loop-index-test.true))
    (omega (arith, c.loop-index-test.true, c.loop-index.auto.index, c.len-index.ensures, c.self.inside.hashes.ok)) (sym c.index.ensures) (c.loop-index.invariant honest)
    (c.in_ok-do_hash_store.ensures.ok honest)
