-- The plan is that of the rule.
use Rattle.silt_cuckoo.proofs.Common.{◌≡◌, refl, ap, ◌∙◌, plan_for, unpacked_all}
use Rattle.silt_cuckoo.proofs.Paths.{plan_stands, plan_gives_up}
use Rattle.silt_cuckoo.proofs.cuckoo.Table.plan.Goals as goal

pub returns : goal.returns
returns c =
    let is : c.find_path.result ≡ plan_for c.args.self.now c.args.first c.args.second =
    c.find_path.ensures ∙ ap (λ s. plan_for (unpacked_all s) c.args.first c.args.second) c.as_slice.ensures.value ∙ ap (λ s. plan_for s c.args.first c.args.second) c.self.view_is in
    rw is (record {
      plan = refl;
      stands = plan_stands c.args.self.now c.args.first c.args.second c.requires.first_there c.requires.second_there;
      gives_up = λ place. plan_gives_up c.args.self.now c.args.first c.args.second place;
    })
