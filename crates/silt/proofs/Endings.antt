-- How the program ends.
use Rattle.std.proofs.Common.{◌≡◌, ◌∙◌, ◌⊎◌, ℕ, List, None, Result, Ok, Err, ap, refl, inl, inr}
use Rattle.std.proofs.lemmas.Result.{IfOk-weaker}
use Rattle.std.specs.Prelude.{IfOk, IsOkAnd}
use Rattle.silt_wire.specs.Statuses.{IsStatus}
use Rattle.silt_words.specs.Commands.{job_named}
use Rattle.silt_words.specs.declared.job.WordsError.{WordsError}
use Rattle.silt_words.specs.declared.job.WordsError.TheVariants.{Usage, NoMemory}
use Rattle.silt.specs.Programs.{NamesNoJob}

-- no job was read
pub unread : (words : List (List ℕ)) (error : WordsError) → (error ≡ Usage → job_named words ≡ None) → NamesNoJob words error
unread words Usage none = none refl
unread words NoMemory none = tt

-- what a server with this status ended with, and what is quiet at status 0, if it ends with 1 where a merge was refused
pub quiet_ended : {E : Type 0} (Quiet Unserved Served Refused : Type 0) (status ended : Result ℕ E) → IfOk status (IsStatus Unserved) → (status ≡ Ok 0 → Quiet) → (status ≡ Ok 0 → Served)
    → IfOk ended (λ now. IsOkAnd status (λ before. (now ≡ before) ⊎ ((before ≡ 0) × (now ≡ 1) × Refused)))
    → IfOk ended (λ now. ((now ≡ 0) × Quiet × Served) ⊎ ((now ≡ 1) × (Unserved ⊎ Served)))
quiet_ended Quiet Unserved Served Refused status (Err error) known quiet done h = tt
quiet_ended Quiet Unserved Served Refused (Err error) (Ok now) known quiet done h = absurd h
quiet_ended Quiet Unserved Served Refused (Ok before) (Ok now) (inl zero) quiet done (inl same) = inl (same ∙ zero, quiet (ap Ok zero), done (ap Ok zero))
quiet_ended Quiet Unserved Served Refused (Ok before) (Ok now) (inr unserved) quiet done (inl same) = inr (same ∙ unserved.0, inl unserved.1)
quiet_ended Quiet Unserved Served Refused (Ok before) (Ok now) known quiet done (inr refused) = inr (refused.1, inr (done (ap Ok refused.0)))

-- the same, without what is quiet
pub served_ended : {E : Type 0} (Unserved Served Refused : Type 0) (status ended : Result ℕ E) → IfOk status (IsStatus Unserved) → (status ≡ Ok 0 → Served)
    → IfOk ended (λ now. IsOkAnd status (λ before. (now ≡ before) ⊎ ((before ≡ 0) × (now ≡ 1) × Refused))) → IfOk ended (IsStatus (Unserved ⊎ Served))
served_ended Unserved Served Refused status ended known done h =
    IfOk-weaker ended _ _ (λ now so. elim so [ inl quiet ↦ inl quiet.0 | inr broken ↦ inr broken ])
    (quiet_ended (Unit {0}) Unserved Served Refused status ended known (λ _. tt) done h)

-- what is known at status 0, and what at 1
pub at_status : {E : Type 0} (Bound Quiet Served Unserved : Type 0) (status : Result ℕ E) → IfOk status (IsStatus Unserved) → (status ≡ Ok 0 → Bound) → (status ≡ Ok 0 → Quiet)
    → (status ≡ Ok 0 → Served) → IfOk status (λ now. ((now ≡ 0) × Bound × Quiet × Served) ⊎ ((now ≡ 1) × Unserved))
at_status Bound Quiet Served Unserved (Ok now) (inl zero) bound quiet served = inl (zero, bound (ap Ok zero), quiet (ap Ok zero), served (ap Ok zero))
at_status Bound Quiet Served Unserved (Ok now) (inr unserved) bound quiet served = inr unserved
at_status Bound Quiet Served Unserved (Err error) known bound quiet served = tt
