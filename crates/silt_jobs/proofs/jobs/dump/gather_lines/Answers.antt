use Rattle.silt_jobs.proofs.Common.{◌≡◌, List, ℕ, length, drop, refl, ◌∙◌, arith, take-append-le, take_all}
use Rattle.silt_jobs.proofs.Dumps.{gathers_all, gathers_more, gathers_none, gathers_some}
use Rattle.silt_jobs.proofs.jobs.dump.gather_lines.Goals as goal

pub loop-key-init : goal.loop-key-init
loop-key-init g c = gathers_none _ _ _ _ _ c.requires.streams c.requires.first (c.in_ok-value.ensures.len ∙ c.value_len.ensures) c.requires.none

pub loop-key-preserved : goal.loop-key-preserved
loop-key-preserved g c =
    let bytes : List ℕ = c.next.new.value in
    let room : ℕ = c.loop-key.value.len in
    let long : length bytes ≡ room = omega (arith, c.next.auto.value, c.deref_mut.ensures.len) in
    let value_is : c.deref.result.now ≡ bytes =
    c.deref.ensures.value ∙ take-append-le room bytes (drop (length bytes) c.loop-key.value.items) (omega (arith, long)) ∙ take_all room bytes (omega (arith, long)) in
    gathers_more _ _ _ _ _ _ c.loop-key.invariant c.next.new.self c.in-Ok-Some.key c.deref.result.now _ _ _ (rw c.in-Ok-Some.field-0-is at c.in-Ok-Some.ensures.passes)
    (λ honest. rw value_is (rw c.in-Ok-Some.field-0-is at c.in-Ok-Some.ensures.entry honest)) refl c.in_ok-write_put-in-Ok-Some.ensures

pub loop-key-smaller : goal.loop-key-smaller
loop-key-smaller g c = (rw c.in-Ok-Some.field-0-is at c.in-Ok-Some.ensures.passes).fewer

pub returns-in-Ok-None : goal.returns-in-Ok-None
returns-in-Ok-None g c =
    gathers_all g.D.Disk c.args.disk.now c.loop-key.stream _ _ _ _ c.loop-key.invariant c.next.new.value (λ honest. rw c.in-Ok-None.field-0-is at c.in-Ok-None.ensures.entry honest)

pub returns-in-Err : goal.returns-in-Err
returns-in-Err g c = gathers_some g.D.Disk c.args.disk.now c.loop-key.stream _ _ _ _ c.loop-key.invariant c.in-Err.error c.in-Err.ensures.cause
