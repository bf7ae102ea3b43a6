use Rattle.silt_hash_store.proofs.Common.{◌≡◌, ℕ, refl, subst, arith, err_from_is_err_and, IsFed, IsGrown}
use Rattle.silt_hash_store.proofs.Bytes.{none_fed}
use Rattle.silt_hash_store.proofs.Chunks.{refused_later}
use Rattle.silt_hash_store.proofs.rebuild.Rebuilt.add_all.Goals as goal

pub loop-slot-init : goal.loop-slot-init
loop-slot-init g c = record {
  upto = omega arith;
  room = refl;
  shape = refl;
  number = refl;
  puts = omega (arith, c.requires.counts.0);
  rows = omega (arith, c.requires.counts.1);
  grown = λ honest is. is;
  fed = λ honest. none_fed c.new-hasher.result c.args.self.now.store (g.D.Disk.content c.args.disk.now).shown c.new-hasher.ensures;
}

pub returns-clause-ok : goal.returns-clause-ok
returns-clause-ok g c = λ honest is.
    let all : c.loop-slot.slot ≡ c.args.count = omega (arith, c.loop-slot-test.false, c.loop-slot.invariant.upto) in
    subst (λ (n : ℕ). IsGrown c.loop-slot.self (g.D.Disk.content c.args.disk.now).shown n) all (c.loop-slot.invariant.grown honest is)

pub returns-in_err-add_read-clause-err : goal.returns-in_err-add_read-clause-err
returns-in_err-add_read-clause-err g c =
    let refused = err_from_is_err_and c.from_residual.result c.from_residual.ensures.1 in
    rw (refused.1, refused.2) (refused_later (g.D.Disk.content c.args.disk.now) c.loop-slot.self c.args.self.now.store.shape c.args.self.now.store.region c.loop-slot.slot _ _
    c.in_err-add_read.field-0.0 c.loop-slot.invariant.shape c.loop-slot.invariant.number c.loop-slot.invariant.grown c.in_err-add_read.ensures.err)

pub returns-clause-digest : goal.returns-clause-digest
returns-clause-digest g c = λ honest.
    let all : c.loop-slot.slot ≡ c.args.count = omega (arith, c.loop-slot-test.false, c.loop-slot.invariant.upto) in
    c.finalize.ensures _ (subst (λ (n : ℕ). IsFed c.loop-slot.hasher c.args.self.now.store (g.D.Disk.content c.args.disk.now).shown n) all (c.loop-slot.invariant.fed honest))
