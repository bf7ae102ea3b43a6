use Rattle.silt_engine.proofs.Common.{ap, arith, Shape}
use Rattle.silt_engine.proofs.Folds.{does_no_slot, does_slot, does_slots}
use Rattle.silt_engine.proofs.entries.do_hash_store.Goals as goal

pub loop-slot-init : goal.loop-slot-init
loop-slot-init g c = λ honest. does_no_slot c.args.store.now.shape c.args.store.now.region (g.D.Disk.content c.args.disk.now).shown c.args.entries.now

pub loop-slot-preserved : goal.loop-slot-preserved
loop-slot-preserved g c = λ honest. does_slot c.args.store.now.shape c.args.store.now.region (g.D.Disk.content c.args.disk.now).shown c.loop-slot.slot c.args.entries.now c.loop-slot.entries
    c.do_slot.new.entries (c.loop-slot.invariant honest) (c.in_ok-do_slot.ensures.ok honest)

pub returns-clause-ok : goal.returns-clause-ok
returns-clause-ok g c = λ honest. does_slots c.args.store.now.shape c.args.store.now.region (g.D.Disk.content c.args.disk.now).shown c.loop-slot.slot c.args.entries.now c.loop-slot.entries
    (omega (arith, c.loop-slot-test.false, c.loop-slot.auto.slot-end, c.buckets-slot-end.ensures.value, ap (λ (s : Shape). s.buckets) c.geometry.ensures.value)) (c.loop-slot.invariant honest)
