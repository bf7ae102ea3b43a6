use Rattle.silt_store_set.proofs.Common.{◌≡◌, ℕ, ap, sym, subst, ◌∙◌, Shape, slice_index_or, HasValueOf}
use Rattle.silt_store_set.proofs.Histories.{life_unopened, life_idle, life_ran, opened_len}
use Rattle.silt_store_set.proofs.Livings.{ends_idle, ends_other, ends_ran, ends_refused}
use Rattle.silt_store_set.proofs.life.live.Goals as goal

pub returns-in-Err-clause-life : goal.returns-in-Err-clause-life
returns-in-Err-clause-life g c = λ m starts. life_unopened g.D.Disk (g.D.Disk.content c.args.disk) c.args.value_len m starts.honest starts.safe c.args.events.now
    c.in-Err.field-0.disk c.in-Err.field-0.refusal (g.D.Disk.content c.restart.result) c.in-Err.ensures.images c.in-Err.ensures.cause c.restart.ensures.content

pub returns-then-value_len-clause-life : goal.returns-then-value_len-clause-life
returns-then-value_len-clause-life g c = λ m starts. absurd (c.if-value_len.true (c.value_len.ensures.value ∙ ap (λ (s : Shape). s.value_len) c.geometry.ensures
    ∙ opened_len g.D.Disk (g.D.Disk.content c.args.disk) c.args.value_len m starts.honest starts.safe c.args.events.now c.in-Ok.core c.in-Ok.ensures.ok))

pub returns-in-Ok-run-clause-life : goal.returns-in-Ok-run-clause-life
returns-in-Ok-run-clause-life g c = λ m starts. life_ran g.D.Disk (g.D.Disk.content c.args.disk) c.args.value_len m starts.honest starts.safe c.args.events.now c.in-Ok.core c.run.new.self
    c.in-Ok-run.replies (g.D.Disk.content c.stop-in-Ok-run.result) c.in-Ok.ensures.ok c.in-Ok-run.ensures.runs c.stop-in-Ok-run.ensures c.run.ensures.same

pub returns-in-Err-run-clause-life : goal.returns-in-Err-run-clause-life
returns-in-Err-run-clause-life g c = λ m starts.
    let restarts = rw c.in-Err-run.ensures.err at c.stop-in-Err-run.ensures in
    life_idle g.D.Disk (g.D.Disk.content c.args.disk) c.args.value_len m starts.honest starts.safe c.args.events.now
    c.in-Ok.core (g.D.Disk.content c.stop-in-Err-run.result) c.in-Ok.ensures.ok restarts

pub run-requires-after_bounds : goal.run-requires-after_bounds
run-requires-after_bounds g c κs within = λ k d below.
    let same : c.args.value_len ≡ c.in-Ok.core.shape.value_len = sym c.if-value_len.false ∙ c.value_len.ensures.value ∙ ap (λ (s : Shape). s.value_len) c.geometry.ensures in
    subst (λ (n : ℕ). HasValueOf n (slice_index_or c.args.events.now k d)) same (c.requires k d below)

-- ---- what the life did

pub returns-in-Err-clause-ran : goal.returns-in-Err-clause-ran
returns-in-Err-clause-ran g c = ends_refused g.D.Disk c.args.value_len c.args.events.now c.in-Err.field-0.refusal c.args.disk c.in-Err.field-0.disk c.restart.result
    c.in-Err.ensures.same c.in-Err.ensures.images c.in-Err.ensures.cause c.restart.ensures.content

pub returns-then-value_len-clause-ran : goal.returns-then-value_len-clause-ran
returns-then-value_len-clause-ran g c =
    let len = c.value_len.ensures.value ∙ ap (λ (s : Shape). s.value_len) c.geometry.ensures in
    ends_other g.D.Disk c.args.value_len c.args.events.now c.args.disk c.stop.result c.in-Ok.core c.in-Ok.ensures.ok (λ e. c.if-value_len.true (len ∙ e)) c.stop.ensures

pub returns-in-Ok-run-clause-ran : goal.returns-in-Ok-run-clause-ran
returns-in-Ok-run-clause-ran g c =
    let same : c.in-Ok.core.shape.value_len ≡ c.args.value_len = sym (c.value_len.ensures.value ∙ ap (λ (s : Shape). s.value_len) c.geometry.ensures) ∙ c.if-value_len.false in
    ends_ran g.D.Disk c.args.value_len c.args.events.now c.in-Ok-run.replies c.args.disk c.stop-in-Ok-run.result
    c.in-Ok.core c.run.new.self c.in-Ok.ensures.ok same c.in-Ok-run.ensures.runs c.stop-in-Ok-run.ensures

pub returns-in-Err-run-clause-ran : goal.returns-in-Err-run-clause-ran
returns-in-Err-run-clause-ran g c =
    let same : c.in-Ok.core.shape.value_len ≡ c.args.value_len = sym (c.value_len.ensures.value ∙ ap (λ (s : Shape). s.value_len) c.geometry.ensures) ∙ c.if-value_len.false in
    let restarts = rw c.in-Err-run.ensures.err at c.stop-in-Err-run.ensures in
    ends_idle g.D.Disk c.args.value_len c.args.events.now c.args.disk c.stop-in-Err-run.result c.in-Ok.core c.in-Ok.ensures.ok same restarts
