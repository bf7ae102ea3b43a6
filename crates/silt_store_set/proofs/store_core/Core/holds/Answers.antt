use Rattle.silt_store_set.proofs.Common.{Ok, ap, refl, Decides-eqb}
use Rattle.std.proofs.lemmas.Slice.Eq.{slice_eq-Decides}
use Rattle.silt_store_set.proofs.Swaps.{holds_found, holds_none, holds_other}
use Rattle.silt_store_set.proofs.store_core.Core.holds.Goals as goal

pub returns-in-Some-clause-holds : goal.returns-in-Some-clause-holds
returns-in-Some-clause-holds g c =
    let stands = c.self.invariant.stands (rw (← c.self.view_is) at c.requires.working) in
    rw (← c.self.view_is, c.in-Some.is) (holds_found g.D.Disk _ _ c.self.inside.count _ stands c.in-Some.value.now c.eq.result c.get.new.out (c.in-Ok-true.ensures.found stands (ap Ok
    c.in-Ok-true.field-0-test)) (slice_eq-Decides Decides-eqb c.get.new.out c.in-Some.value.now c.eq.result c.eq.ensures))

pub returns-in-None-clause-holds : goal.returns-in-None-clause-holds
returns-in-None-clause-holds g c =
    let stands = c.self.invariant.stands (rw (← c.self.view_is) at c.requires.working) in
    rw (← c.self.view_is, c.in-None.is) (holds_other g.D.Disk _ _ c.self.inside.count _ stands c.get.new.out (c.in-Ok-true.ensures.found stands (ap Ok c.in-Ok-true.field-0-test)))

pub returns-in-Ok-false-clause-holds : goal.returns-in-Ok-false-clause-holds
returns-in-Ok-false-clause-holds g c =
    let stands = c.self.invariant.stands (rw (← c.self.view_is) at c.requires.working) in
    rw (← c.self.view_is) (holds_none g.D.Disk _ _ c.self.inside.count _ stands (λ v. v.now) c.args.value c.is_none.result c.is_none.ensures
    (c.in-Ok-false.ensures.none stands (ap Ok c.in-Ok-false.field-0-test)))

pub returns-in-Err-clause-fault : goal.returns-in-Err-clause-fault
returns-in-Err-clause-fault g c = rw (← c.self.view_is) (record { given = c.in-Err.ensures.fault; working = rw (← c.self.view_is) at c.requires.working; same = refl })
