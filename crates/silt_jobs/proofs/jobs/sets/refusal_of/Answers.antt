use Rattle.silt_jobs.proofs.Common.{◌≡◌, ◌+◌, ◌∙◌, ℕ, Option, ap, drop, suc, sym, subst, arith, PlainRefusal, first_refusal, refusal_or}
use Rattle.silt_jobs.proofs.SetParts.{first_at}
use Rattle.silt_jobs.proofs.jobs.sets.refusal_of.Goals as goal

pub loop-store-preserved : goal.loop-store-preserved
loop-store-preserved g c =
    let at = first_at c.args.stores.now c.loop-store.store-index c.store-item.result c.loop-store-test.true c.store-item.is in
    let next : suc c.loop-store.store-index ≡ c.loop-store.store-index + 1 = omega arith in
    let same = sym (at ∙ ap (λ (r : Option PlainRefusal). refusal_or r (first_refusal (drop (suc c.loop-store.store-index) c.args.stores.now)))
    (sym c.refusal.ensures ∙ c.in-None.is)) ∙ c.loop-store.invariant in
    subst (λ (n : ℕ). first_refusal (drop n c.args.stores.now) ≡ first_refusal c.args.stores.now) next same
