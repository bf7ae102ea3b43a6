use Rattle.silt_jobs.proofs.Common.{refl, sym, ◌∙◌, arith, Convert, Merge, TendsDue, begins, is_idle}
use Rattle.silt_jobs.proofs.BackgroundWork.{due_done, due_error, due_out, due_refused, going_more, going_two, none_going, paused_due, rests_so}
use Rattle.silt_jobs.proofs.jobs.background_work.tend_due.Goals.{then-is_paused+in_ok-merge, else-is_paused}
use Rattle.silt_jobs.proofs.jobs.background_work.tend_due.Goals as goal

pub loop-turn-init : goal.loop-turn-init
loop-turn-init g c = none_going g.D.Disk c.args.least c.args.core.now

pub returns-in_err-converted : goal.returns-in_err-converted
returns-in_err-converted g c =
    due_error (TendsDue g.D.Disk c.args.least c.args.core.now c.convert.new.self) c.from_residual.result c.in_err-converted.field-0.0 c.from_residual.ensures.1
    (due_refused g.D.Disk _ _ _ _ Convert _ _ refl c.loop-turn.invariant (rw c.in_err-converted.was at c.convert.ensures))

pub returns-then-rests : goal.returns-then-rests
returns-then-rests g c =
    let rests = rests_so (is_idle c.in_ok-converted.converted) (begins c.convert.new.self c.args.least) (sym c.rests.ensures ∙ c.if-rests.true) in
    due_done g.D.Disk _ _ _ _ _ _ c.loop-turn.invariant (rw c.in_ok-converted.was at c.convert.ensures) rests.0 rests.1

pub returns-in_err-merge : goal.returns-in_err-merge
returns-in_err-merge g c =
    let converts = rw c.in_ok-converted.was at c.convert.ensures in
    let due = paused_due g.D.Disk _ _ _ _ converts (sym c.is_paused.ensures ∙ c.if-is_paused.true) (sym c.rests.ensures ∙ c.if-rests.false) in
    due_error (TendsDue g.D.Disk c.args.least c.args.core.now c.merge.new.self) c.from_residual-in_err-merge.result c.in_err-merge.field-0.0 c.from_residual-in_err-merge.ensures.1
    (due_refused g.D.Disk _ _ _ _ Merge _ _ due (going_more g.D.Disk _ _ _ _ Convert _ _ refl c.loop-turn.invariant converts) (rw c.in_err-merge.was at c.merge.ensures))

pub loop-turn-preserved : goal.loop-turn-preserved
loop-turn-preserved g c =
    let converts = rw c.in_ok-converted.was at c.convert.ensures in
    elim c.if-is_paused.branch [
      | then-is_paused+in_ok-merge w ↦
          rw w.core-is (going_two g.D.Disk _ _ _ _ _ _ _ _ c.loop-turn.invariant converts
          (paused_due g.D.Disk _ _ _ _ converts (sym c.is_paused.ensures ∙ w.if-is_paused.true) (sym c.rests.ensures ∙ c.if-rests.false)) (rw w.in_ok-merge.was at w.merge.ensures))
      | else-is_paused w ↦ rw w.core-is (going_more g.D.Disk _ _ _ _ Convert _ _ refl c.loop-turn.invariant converts)
    ]

pub returns : goal.returns
returns g c = due_out g.D.Disk c.args.least c.args.core.now c.loop-turn.core c.loop-turn._turn (omega (arith, c.loop-turn-test.false)) c.loop-turn.invariant
