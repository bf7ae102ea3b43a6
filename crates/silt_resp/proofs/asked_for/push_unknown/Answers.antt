use Rattle.silt_resp.proofs.Common.{[], ◌∷◌, ◌++◌, ◌∙◌, ap, append_assoc, sym}
use Rattle.std.proofs.Common.{codes}
use Rattle.silt_resp.specs.Commands.{shown_name}
use Rattle.silt_resp.proofs.Doing.{three_appended}
use Rattle.silt_resp.proofs.asked_for.push_unknown.Goals as goal

pub returns : goal.returns
returns c =
    three_appended c.args.out.now.items _ _ _ _ _ _ c.in_ok-extend_from_slice.ensures.items c.in_ok-push_shown.ensures c.in_ok-extend_from_slice-2.ensures.items
    ∙ ap (λ t. c.args.out.now.items ++ (45 ∷ (codes "ERR unknown command '" ++ t))) (sym (append_assoc (shown_name c.args.words.now) (39 ∷ []) (13 ∷ 10 ∷ [])))
