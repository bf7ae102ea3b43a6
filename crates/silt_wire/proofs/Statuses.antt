-- What is known of a status.
use Rattle.silt_wire.proofs.Common.{◌≡◌, ℕ, Result, Ok, Err, arith, inl, inr, refl, IfOk}
use Rattle.silt_wire.specs.Statuses.{IsStatus}

-- a weaker statement than the one reported with status 1
pub told_weaker : {E P Q : Type 0} (result : Result ℕ E) → (P → Q) → IfOk result (IsStatus P) → IfOk result (IsStatus Q)
told_weaker (Ok status) step (inl done) = inl done
told_weaker (Ok status) step (inr h) = inr (h.0, step h.1)
told_weaker (Err error) step h = h

-- only status 1, with what was reported
pub status_told : {E P Q : Type 0} (result : Result ℕ E) → (P → Q) → IfOk result (λ status. (status ≡ 1) × P) → IfOk result (IsStatus Q)
status_told (Ok status) step h = inr (h.0, step h.1)
status_told (Err error) step h = h

ok-is : {E : Type 0} (result : Result ℕ E) (status : ℕ) → result ≡ Ok status → result ≡ Ok 0 → status ≡ 0
ok-is result status known is = cc

-- so it is not 0
pub never_done : {E Q : Type 0} (P : Type 0) (result : Result ℕ E) → IfOk result (λ status. (status ≡ 1) × P) → result ≡ Ok 0 → Q
never_done P (Ok status) h is =
    let zero : status ≡ 0 = ok-is (Ok status) status refl is in
    absurd (omega (arith, h.0, zero))
never_done P (Err error) h is = absurd (cc)
