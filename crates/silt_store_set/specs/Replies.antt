-- Results of calls as replies.
use Rattle.std.specs.Prelude.{Bool, true, false, List, ℕ, Option, Some, None, Result, Ok, Err}
use Rattle.silt_event.specs.declared.progress.Progress.{Progress as ProgressOf}
use Rattle.silt_event.specs.declared.refusal.Refusal.{Refusal}
use Rattle.silt_event.specs.declared.refusal.Refusal.TheVariants.{Device, NoMemory}
use Rattle.silt_event.specs.declared.reply.Reply.{Reply}
use Rattle.silt_event.specs.declared.reply.Reply.TheVariants.{Accepted, Acknowledged, Found, Absent, Differs, Progress, Refused}
use Rattle.silt_store_set.specs.declared.store_core.Look.{Look}

abbrev pub change_reply : {F : Type 0} → Result ℕ (Refusal F) → Reply F
change_reply (Ok n) = Accepted n
change_reply (Err refusal) = Refused refusal

-- the number of an accepted swap, else Differs
abbrev pub swap_reply : {F : Type 0} → Result (Option ℕ) (Refusal F) → Reply F
swap_reply (Ok (Some n)) = Accepted n
swap_reply (Ok None) = Differs
swap_reply (Err refusal) = Refused refusal

abbrev pub flush_reply : {F : Type 0} → Result ℕ (Refusal F) → Reply F
flush_reply (Ok n) = Acknowledged n
flush_reply (Err refusal) = Refused refusal

-- the value in the buffer if the get found the key, else Absent
abbrev pub get_reply : {F : Type 0} → List ℕ → Result Bool (Refusal F) → Reply F
get_reply out (Ok true) = Found out
get_reply out (Ok false) = Absent
get_reply out (Err refusal) = Refused refusal

-- whether a look found a value
abbrev pub found_of : {F : Type 0} → Result Look (Refusal F) → Result Bool (Refusal F)
found_of (Ok look) = Ok look.found
found_of (Err refusal) = Err refusal

-- the reply for the result of a read
abbrev pub read_reply : {F : Type 0} → Result (Option (List ℕ)) (Refusal F) → Reply F
read_reply (Ok (Some value)) = Found value
read_reply (Ok None) = Absent
read_reply (Err refusal) = Refused refusal

abbrev pub progress_reply : {F : Type 0} → Result ProgressOf (Refusal F) → Reply F
progress_reply (Ok progress) = Progress progress
progress_reply (Err refusal) = Refused refusal

-- why a read is refused: out of memory, or a fault that the device gave
abbrev pub ReadCause : {F : Type 0} → (F → Type 0) → Refusal F → Type 0
ReadCause gave NoMemory = Unit {0}
ReadCause gave (Device fault) = gave fault
ReadCause gave refusal = ⊥
