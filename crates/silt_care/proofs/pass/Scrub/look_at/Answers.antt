use Rattle.silt_care.specs.declared.looks.Live.{Live}
use Rattle.silt_care.proofs.Looking.{live_verdict}
use Rattle.silt_care.proofs.pass.Scrub.look_at.Goals as goal

pub returns-clause-verdict : goal.returns-clause-verdict
returns-clause-verdict g c =
    live_verdict g.V.View (λ (s : Live g.row.V.Denot). s.view.now) (record { view = c.args.self.now.view }) g.F.Finds c.args.geometry.now c.args.finds.now c.args.part c.judge.result
    c.judge.new.looks c.judge.ensures.verdict
