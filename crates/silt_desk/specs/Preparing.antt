-- Why a further call cannot be recorded.
use Rattle.silt_event.specs.declared.refusal.Refusal.{Refusal}
use Rattle.silt_event.specs.declared.refusal.Refusal.TheVariants as refusal
use Rattle.silt_desk.specs.declared.trace.NotPrepared.{NotPrepared}
use Rattle.silt_desk.specs.declared.trace.NotPrepared.TheVariants.{Full, NoMemory}

-- the history is full, or its records need memory and an allocation was refused
abbrev pub NotPreparedCause : Type 0 → Type 0 → NotPrepared → Type 0
NotPreparedCause full takes Full = full
NotPreparedCause full takes NoMemory = takes

-- the refusal that reports this
abbrev pub unprepared_refusal : {F : Type 0} → NotPrepared → Refusal F
unprepared_refusal Full = refusal.HistoryFull
unprepared_refusal NoMemory = refusal.NoMemory
