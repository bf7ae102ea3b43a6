use Rattle.silt_hash_store.proofs.Common.{◌≡◌, ℕ, ◌+◌, subst, ◌∙◌, refl, arith, err_from_is_err_and, IsGrown}
use Rattle.silt_hash_store.proofs.Chunks.{head_held, refused_in}
use Rattle.silt_hash_store.proofs.rebuild.Rebuilt.add_slots.Goals as goal

pub loop-i-init : goal.loop-i-init
loop-i-init g c =
    let start : c.args.first ≡ c.args.first + 0 = omega arith in
    record {
      shape = refl;
      number = refl;
      puts = c.requires.counts.0;
      rows = omega (arith, c.requires.counts.1);
      grown = λ honest holds is. subst (λ (n : ℕ). IsGrown c.args.self.now (g.D.Disk.content c.args.disk.now).shown n) start is;
    }

pub loop-i-preserved : goal.loop-i-preserved
loop-i-preserved g c =
    let i = c.loop-i.i in
    let old = c.args.self.now in
    let shown = (g.D.Disk.content c.args.disk.now).shown in
    let next : c.args.first + i + 1 ≡ c.args.first + (i + 1) = omega arith in
    record {
      shape = c.add_slot.ensures.region.0 ∙ c.loop-i.invariant.shape;
      number = c.add_slot.ensures.region.1 ∙ c.loop-i.invariant.number;
      puts = c.add_slot.ensures.counts.0;
      rows = omega (arith, c.add_slot.ensures.counts.1);
      grown = λ honest holds is.
          let has = head_held old.store.shape old.store.region c.args.first c.args.count c.args.len i shown c.args.bytes.now c.loop-i.self.store
          c.head_in-head.result c.loop-i.invariant.shape c.loop-i.invariant.number c.requires.len c.loop-i-test.true holds c.head_in-head.ensures in
          subst (λ (n : ℕ). IsGrown c.add_slot.new.self shown n) next (c.in_ok-add_slot.ensures.ok honest has (c.loop-i.invariant.grown honest holds is));
    }

pub returns-clause-ok : goal.returns-clause-ok
returns-clause-ok g c = λ honest holds is.
    let all : c.args.first + c.loop-i.i ≡ c.args.first + c.args.count = omega (arith, c.loop-i-test.false, c.loop-i.auto.i-end) in
    subst (λ (n : ℕ). IsGrown c.loop-i.self (g.D.Disk.content c.args.disk.now).shown n) all (c.loop-i.invariant.grown honest holds is)

pub returns-in_err-add_slot-clause-err : goal.returns-in_err-add_slot-clause-err
returns-in_err-add_slot-clause-err g c =
    let i = c.loop-i.i in
    let old = c.args.self.now in
    let content = g.D.Disk.content c.args.disk.now in
    let refused = err_from_is_err_and c.from_residual.result c.from_residual.ensures.1 in
    rw (refused.1, refused.2) (refused_in content c.loop-i.self old.store.shape old.store.region (c.args.first + i) c.head_in-head.result _ _ _ c.in_err-add_slot.field-0.0 c.loop-i.invariant.shape
    c.loop-i.invariant.number (omega (arith, c.loop-i-test.true, c.requires.within.0)) (λ honest holds. head_held old.store.shape old.store.region c.args.first c.args.count c.args.len i
    content.shown c.args.bytes.now c.loop-i.self.store c.head_in-head.result c.loop-i.invariant.shape c.loop-i.invariant.number c.requires.len c.loop-i-test.true holds c.head_in-head.ensures)
    c.loop-i.invariant.grown c.in_err-add_slot.ensures.err)
