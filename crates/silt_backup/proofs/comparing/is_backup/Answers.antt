use Rattle.silt_backup.proofs.Common.{rules}
use Rattle.silt_backup.proofs.Comparisons.{of_ok, shows_backup}
use Rattle.silt_backup.proofs.comparing.is_backup.Goals as goal

pub returns-clause-backup : goal.returns-clause-backup
returns-clause-backup g c =
    of_ok c.has_logs.result
    (λ is same yes.
    shows_backup _ _ _ c.in_ok-held.ensures.holds (c.is_like-is_like.ensures (search rules))
    (rw (c.as_slice.ensures.value, c.as_slice-2.ensures.value) at (same yes)))
    c.has_logs.ensures.same
