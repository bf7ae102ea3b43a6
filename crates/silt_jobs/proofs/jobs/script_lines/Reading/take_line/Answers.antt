use Rattle.silt_jobs.proofs.Common.{sym, ◌∙◌}
use Rattle.silt_jobs.proofs.Readings.{TakesLine-asked, asked_fits, on_ok-weaker, on_ok_both}
use Rattle.silt_jobs.proofs.jobs.script_lines.Reading.take_line.Goals as goal

pub returns-in-None-clause-takes : goal.returns-in-None-clause-takes
returns-in-None-clause-takes c =
    on_ok-weaker c.take_asked.result (on_ok_both _ _ c.take_asked.result c.take_asked.ensures.takes c.take_asked.ensures.printed) (λ both line h.
    TakesLine-asked c.args.value_len line c.parse.result c.args.self.now c.take_asked.new.self (sym (c.is_blank.ensures line h) ∙ c.if-is_blank.false)
    (sym (c.stop_reported.ensures line h) ∙ c.in-None.is)
    (c.parse.ensures.asked line h) both.1 both.0)

pub returns-in-None-clause-fits : goal.returns-in-None-clause-fits
returns-in-None-clause-fits c = on_ok-weaker _ c.take_asked.ensures.takes (λ takes. asked_fits c.args.value_len c.parse.result c.args.self.now c.take_asked.new.self c.parse.ensures.fits takes)
