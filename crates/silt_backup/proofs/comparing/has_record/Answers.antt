use Rattle.silt_backup.proofs.Common.{◌≡◌, sym, ◌∙◌, rules}
use Rattle.silt_backup.proofs.Records.{body_equal}
use Rattle.silt_backup.proofs.comparing.has_record.Goals as goal

pub returns-then-eq : goal.returns-then-eq
returns-then-eq c =
    λ both.
    let shape : c.args.held.now.manifest.shape ≡ c.args.moment.now.geometry = search rules in
    (shape, sym c.current.ensures.value ∙ body_equal c.current.result c.args.moment.now.body c.eq-then-eq.result c.eq-then-eq.ensures both)
