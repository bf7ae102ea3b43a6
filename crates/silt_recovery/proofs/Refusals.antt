-- Refusals in other words.
use Rattle.silt_recovery.proofs.Common.{arith, Finding, IsRefusedLook, OpenError, refusal_of}
use Rattle.silt_recovery.specs.declared.fault.OpenError.TheVariants.{NotFormatted, Damaged, Crowded}
use Rattle.silt_event.specs.declared.damage.Finding.TheVariants as finding

-- a look is refused for a finding in other words, and by the same faults
pub refused_weaker : {F : Type 0} (P Q : Finding → Type 0) (W : F → Type 0) (error : OpenError F) → ((found : Finding) → P found → Q found) → IsRefusedLook P W error → IsRefusedLook Q W error
refused_weaker P Q W error step refused = search arith

-- an examination is refused for the finding that it reports
pub look_refused : {F : Type 0} (P : Finding → Type 0) (W : F → Type 0) (found : Finding) → P found → IsRefusedLook P W (refusal_of found)
look_refused P W finding.NotFormatted is = is
look_refused P W (finding.Damaged place) is = is
look_refused P W finding.Crowded is = is
