use Rattle.silt_recovery.proofs.Common.{IsTrue, sym, ap, ◌∙◌, subst, GaveAny, IsFound, IsRefusedLook, damage_finding, IsNotRead, refusal_of}
use Rattle.silt_recovery.proofs.Manifests.{damage_verdict, current_digests_of, current_stores}
use Rattle.silt_recovery.proofs.Refusals.{look_refused}
use Rattle.silt_recovery.proofs.examination.read_manifest.Goals as goal

pub returns-in-Err-Damaged-clause-cause : goal.returns-in-Err-Damaged-clause-cause
returns-in-Err-Damaged-clause-cause g c =
    let content = g.D.Disk.content c.args.disk.now in
    let gave = GaveAny g.D.Disk.gave c.args.disk.now in
    let refused = subst (IsNotRead content c.args.geometry gave) c.in-Err-Damaged.field-0-is c.in-Err-Damaged.ensures.refused in
    let found : IsTrue content.honest → IsFound content.shown (damage_finding c.in-Err-Damaged.damage) =
    λ h. damage_verdict c.args.geometry content.shown c.in-Err-Damaged.damage (c.requires.shape h) (refused.holds h) in
    subst (IsRefusedLook (λ finding. IsTrue content.honest → IsFound content.shown finding) gave)
    (ap refusal_of (sym c.finding_of.ensures) ∙ sym c.from.ensures)
    (look_refused (λ finding. IsTrue content.honest → IsFound content.shown finding) gave (damage_finding c.in-Err-Damaged.damage) found)

pub returns-in-Ok-clause-named : goal.returns-in-Ok-clause-named
returns-in-Ok-clause-named g c = λ h.
    current_stores c.args.geometry (g.D.Disk.content c.args.disk.now).shown c.in-Ok.manifest (c.requires.shape h) c.in-Ok.ensures.shape.0 (c.in-Ok.ensures.shown.holds h)

pub returns-in-Ok-clause-says : goal.returns-in-Ok-clause-says
returns-in-Ok-clause-says g c = λ h.
    let image = (g.D.Disk.content c.args.disk.now).shown in
    current_digests_of c.args.geometry image c.in-Ok.manifest
    (current_stores c.args.geometry image c.in-Ok.manifest (c.requires.shape h) c.in-Ok.ensures.shape.0 (c.in-Ok.ensures.shown.holds h)) c.in-Ok.ensures.shape.0
    (c.in-Ok.ensures.shown.holds h)
