use Rattle.silt_engine.proofs.Common.{◌≡◌, ◌+◌, ℕ, ap, rules}
use Rattle.silt_engine.proofs.Appends.{appended, appended_waits, has_place, not_taken}
use Rattle.silt_engine.proofs.Exits.{on_error, state_of, same_disk, went_so}
use Rattle.silt_engine.proofs.engine.Engine.write_active.Goals as goal

pub invariant_of-self-2 : goal.invariant_of-self-2
invariant_of-self-2 g c =
    let stands = rw (← c.self.view_is) at c.requires.stands in
    let most = rw (← c.self.view_is) at c.requires.charge in
    let goes = appended _ _ _ _ _ _ _ _ stands c.take.ensures.wrote.size
    c.in_ok-take.ensures.store.0.room c.take.ensures.wrote.changes c.take.ensures.images c.in_ok-take.ensures.store.1 (ap (λ (n : ℕ). c.self.inside.charge + n) c.puts.ensures.value) most in
    record { whole = goes.stands.whole; enough = c.self.invariant.enough; enough_hashes = c.self.invariant.enough_hashes }

pub returns-in_err-take-clause-err : goal.returns-in_err-take-clause-err
returns-in_err-take-clause-err g c =
    let stands = rw (← c.self.view_is) at c.requires.stands in
    on_error _ _ _ c.from_residual.ensures.1 (rw (← c.self.view_is) (not_taken g.D.Disk _ _ (state_of c.self.inside) _ c.args.kind c.args.key.now c.args.value.now
    stands c.take.ensures.wrote.size c.take.ensures.wrote.changes c.take.ensures.images c.in_err-take.ensures.store c.in_err-take.field-0.0 c.in_err-take.ensures.wrote.failures))

pub returns-in_err-take-clause-first : goal.returns-in_err-take-clause-first
returns-in_err-take-clause-first g c = rw (← c.self.view_is) (λ (none : c.self.inside.active.log.used ≡ 0). on_error _ _ _ c.from_residual.ensures.1 (c.in_err-take.ensures.first none))

pub returns-clause-works : goal.returns-clause-works
returns-clause-works g c =
    let stands = rw (← c.self.view_is) at c.requires.stands in
    let most = rw (← c.self.view_is) at c.requires.charge in
    rw (← c.self.view_is) (went_so g.D.Disk _ _ _ _ _ _ (same_disk c.take.ensures.wrote) stands c.in_ok-take.ensures.wrote.failures (appended _ _ _ _ _ _ _ _
    stands c.take.ensures.wrote.size c.in_ok-take.ensures.store.0.room c.take.ensures.wrote.changes c.take.ensures.images c.in_ok-take.ensures.store.1 (ap (λ (n
    : ℕ). c.self.inside.charge + n) c.puts.ensures.value) most) c.in_ok-take.ensures.wrote.made)

pub returns-clause-row : goal.returns-clause-row
returns-clause-row g c =
    let stands = rw (← c.self.view_is) at c.requires.stands in
    let most = rw (← c.self.view_is) at c.requires.charge in
    let place = has_place _ _ _ stands c.in_ok-take.ensures.store.0 in
    let waits = appended_waits _ _ _ _ _ _ _ _ stands c.take.ensures.wrote.size c.in_ok-take.ensures.store.0.room c.take.ensures.wrote.changes c.take.ensures.images
    c.in_ok-take.ensures.store.1 (ap (λ (n : ℕ). c.self.inside.charge + n) c.puts.ensures.value) most in
    rw (← c.self.view_is) (record { place = place; waits = waits; others = search rules; charge = ap (λ (n : ℕ). c.self.inside.charge + n) c.puts.ensures.value })
