-- The line of a refusal, and scripts that end with it.
use Rattle.silt_jobs.proofs.Common.{Err, IfOk, ◌≡◌, [], ◌∷◌, ◌++◌, List, ℕ, Option, ap, arith, sym, Result, Ok, inr, Appends, Refusal, Shape, MemFault, NewStoreCause, codes, Refused, reply_line}
use Rattle.silt_jobs.proofs.Common.{AnswersScript, ScriptCause}
use Rattle.std.proofs.lemmas.Fmt.{decimal_digit}
use Rattle.silt_event.specs.declared.refusal.Refusal.TheVariants.{NoMemory, Device}

pub no_memory_line : (F : Type 0) → codes "refused 6 NoMemory\n" ≡ reply_line {F = F} (Refused NoMemory)
no_memory_line F = ap (λ (digits : List ℕ). (codes "refused " ++ (digits ++ codes " NoMemory")) ++ 10 ∷ []) (sym (decimal_digit 6 (search (arith))))

-- this line reports that memory ran out
pub reports_no_memory : {F : Type 0} (refusal : Refusal F) (before after : Option (List ℕ)) → refusal ≡ NoMemory → Appends before after (codes "refused 6 NoMemory\n")
    → Appends before after (reply_line (Refused refusal))
reports_no_memory {F} refusal before after is reported = rw is (rw (no_memory_line F) at reported)

-- a script is refused as a new store is
pub refused_as_new : (shape : Shape) (refusal : Refusal MemFault) → NewStoreCause shape refusal → ScriptCause shape refusal
refused_as_new shape NoMemory cause = cause
refused_as_new shape (Device fault) cause = cause
refused_as_new shape refusal cause = absurd cause

-- with this refusal, for its cause, the whole was refused
pub reported_refused : {E : Type 0} (shape : Shape) (result : Result ℕ E) (remaining left before after : Option (List ℕ)) (refusal : Refusal MemFault) → ScriptCause shape refusal
    → IfOk result (λ status. (status ≡ 1) × Appends before after (reply_line (Refused refusal))) → IfOk result (AnswersScript shape remaining left before after)
reported_refused shape (Ok status) remaining left before after refusal cause h = inr (h.0, (refusal, cause, h.1))
reported_refused shape (Err error) remaining left before after refusal cause h = h
