use Rattle.silt_recovery.proofs.Common.{◌≡◌, IsTrue, Err, err_from_is_err_and, GaveAny, size, header_of, shape_found, IsFound}
use Rattle.silt_recovery.proofs.Manifests.{header_verdict}
use Rattle.silt_recovery.proofs.Refusals.{refused_weaker}
use Rattle.silt_recovery.proofs.examination.examine.Goals as goal

pub returns-in_err-header-clause-cause : goal.returns-in_err-header-clause-cause
returns-in_err-header-clause-cause g c =
    let content = g.D.Disk.content c.args.disk.now in
    let refused = err_from_is_err_and c.from_residual.result c.from_residual.ensures.1 in
    rw (refused.1, refused.2) (refused_weaker (λ finding. IsTrue content.honest → shape_found (size content) (header_of content.shown) ≡ Err finding)
    (λ finding. IsTrue content.honest → IsFound content.shown finding)
    (GaveAny g.D.Disk.gave c.args.disk.now) c.in_err-header.field-0.0 (λ finding found h. header_verdict content.shown finding (found h)) c.in_err-header.ensures.cause)
