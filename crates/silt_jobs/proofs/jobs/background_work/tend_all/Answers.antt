use Rattle.silt_jobs.proofs.Common.{refl, sym, ◌∙◌, ap, arith, Convert, Merge, is_refused, due_at_once}
use Rattle.silt_engine.proofs.Exits.{on_error}
use Rattle.silt_store_set.specs.Replies.{progress_reply}
use Rattle.silt_jobs.proofs.BackgroundWork.{counted_all, counted_more, none_counted, stops_more}
use Rattle.silt_jobs.proofs.jobs.background_work.tend_all.Goals.{then-wants_convert+in_ok-convert, else-wants_convert+then-merges+in_ok-merge}
use Rattle.silt_jobs.proofs.jobs.background_work.tend_all.Goals as goal

pub loop-turn-init : goal.loop-turn-init
loop-turn-init g c = none_counted g.D.Disk c.args.least c.args.core.now

pub returns-in_err-convert-clause-refused : goal.returns-in_err-convert-clause-refused
returns-in_err-convert-clause-refused g c =
    on_error c.from_residual.result c.in_err-convert.field-0.0 _ c.from_residual.ensures.1
    (stops_more g.D.Disk (due_at_once c.args.least) _ _ _ Convert _ (sym c.wants_convert.ensures ∙ c.if-wants_convert.true) c.loop-turn.invariant.taken c.loop-turn.invariant.fine
    (rw c.in_err-convert.was at c.convert.ensures))

pub returns-in_err-merge-clause-refused : goal.returns-in_err-merge-clause-refused
returns-in_err-merge-clause-refused g c =
    on_error c.from_residual-in_err-merge.result c.in_err-merge.field-0.0 _ c.from_residual-in_err-merge.ensures.1
    (stops_more g.D.Disk (due_at_once c.args.least) _ _ _ Merge _ (sym c.merges.ensures ∙ c.if-merges.true) c.loop-turn.invariant.taken c.loop-turn.invariant.fine
    (rw c.in_err-merge.was at c.merge.ensures))

pub returns-else-merges-clause-done : goal.returns-else-merges-clause-done
returns-else-merges-clause-done g c =
    counted_all g.D.Disk _ _ _ _ _ c.loop-turn.invariant (λ _. (sym c.wants_convert.ensures ∙ c.if-wants_convert.false, sym c.merges.ensures ∙ c.if-merges.false))

pub loop-turn-preserved : goal.loop-turn-preserved
loop-turn-preserved g c =
    elim c.if-wants_convert.branch [
      | then-wants_convert+in_ok-convert w ↦
          rw (w.core-is, w.steps-is) (counted_more g.D.Disk _ _ _ _ Convert _ _ _ _ _ _ c.loop-turn.invariant (sym c.wants_convert.ensures ∙ w.if-wants_convert.true)
          refl (omega arith) (omega arith) (ap (λ result. is_refused (progress_reply result)) w.in_ok-convert.was) w.convert.ensures)
      | else-wants_convert+then-merges+in_ok-merge w ↦
          rw (w.core-is, w.steps-is) (counted_more g.D.Disk _ _ _ _ Merge _ _ _ _ _ _ c.loop-turn.invariant (sym w.merges.ensures ∙ w.if-merges.true)
          (omega arith) refl (omega arith) (ap (λ result. is_refused (progress_reply result)) w.in_ok-merge.was) w.merge.ensures)
    ]

pub returns-clause-done : goal.returns-clause-done
returns-clause-done g c =
    counted_all g.D.Disk _ _ _ _ _ c.loop-turn.invariant (λ few. absurd (omega (arith, few, c.loop-turn.invariant.all, c.loop-turn-test.false)))
