use Rattle.silt_jobs.proofs.Common.{◌∙◌, ℕ, refl, ap, sym, subst, length, empty, LeavesOnly, memory_content, IsSafe, LivesRun, memory_facts}
use Rattle.silt_jobs.proofs.NewStores.{new_is_safe, stays_leaves}
use Rattle.silt_jobs.proofs.jobs.script.run_lives.Goals as goal

pub returns-in-Ok-clause-ran : goal.returns-in-Ok-clause-ran
returns-in-Ok-clause-ran c =
    let disk = c.arm-disk.result in
    let images = stays_leaves (memory_content c.in_ok-new_store.field-0) (memory_content disk) _ c.arm-disk.ensures.content c.in_ok-new_store.ensures.images in
    let was = new_is_safe (memory_content disk) c.args.geometry images in
    let safe = subst (λ (n : ℕ). LeavesOnly (memory_content disk) (IsSafe n empty)) (sym c.value_len.ensures.value) was in
    let fits = ap length (c.arm-disk.ensures.content.shown refl) ∙ c.in_ok-new_store.ensures.size in
    let ran = subst (λ (n : ℕ). LivesRun memory_facts n c.args.events.now c.in-Ok.replies.items disk) c.value_len.ensures.value c.in-Ok.ensures.ran in
    (c.in-Ok.ensures.history empty (record { honest = refl; safe = safe }), (disk, record { fits = fits; images = images; armed = c.arm-disk.ensures.lives }, ran))
