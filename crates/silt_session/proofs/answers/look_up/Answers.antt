use Rattle.silt_session.proofs.Common.{◌≡◌, ◌∙◌, ℕ, List, ap, arith, length, refl, sym, Refused, subst, Looks, shown_of, Shown, written_back}
use Rattle.silt_session.proofs.Pipelines.{look_shows}
use Rattle.silt_session.proofs.answers.look_up.Goals as goal

pub returns-in-Ok : goal.returns-in-Ok
returns-in-Ok g c =
    let found = c.in-Ok.ensures in
    let len : length c.look.new.out ≡ length c.args.out.items = omega arith in
    let back = written_back c.args.out.items c.look.new.out c.args.out.items c.args.out.len len refl c.args.out.ok.0 in
    subst (λ (s : Shown). Looks g.D.Disk c.args.settles c.args.key.now s) (sym (c.shown.ensures ∙ ap (λ (value : List ℕ). shown_of c.args.settles value c.in-Ok.look) back))
    (look_shows g.D.Disk c.args.settles c.args.desk.now.core c.args.key.now c.look.new.out c.in-Ok.look found.reply found.count found.settled found.kept)

pub returns-in-Err : goal.returns-in-Err
returns-in-Err g c =
    rw (c.now.ensures, c.plain.ensures) (c.args.desk.now.core, (Refused c.in-Err.refusal, c.in-Err.ensures.reply, refl), λ yes_settles honest. refl)
