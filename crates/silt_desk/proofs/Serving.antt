-- A call at a desk, from what the store does and what is noted.
use Rattle.silt_desk.proofs.Common.{◌≡◌, ◌+◌, Bool, true, false, IsTrue, Option, Some, None, Ok, Err, Result, IfSome, arith, rules, refl, ap, Map, CoreState, Cause, Does, Durable, map_of, Counts}
use Rattle.silt_desk.proofs.Common.{Step, accepted_command, is_fault, plain, change_reply, flush_reply, get_reply, progress_reply, swap_reply, Event, Swap, Refusal, Reply, RecordedCall}
use Rattle.silt_desk.proofs.Common.{accepted_by, plain_answer, SeatState, Totals, counted, NoneWaits, SeenStep, SeenStore, seen}
use Rattle.std.proofs.Common.{ℕ, List}
use Rattle.silt_disk.specs.declared.disk.Disk.{Ghosts}
use Rattle.silt_event.specs.declared.progress.Progress.{Progress as ProgressOf}
use Rattle.silt_store_set.proofs.Runs.{does_step}
use Rattle.silt_event.specs.declared.refusal.Refusal.TheVariants.{Device, NoMemory, HistoryFull}
use Rattle.silt_event.specs.declared.reply.Reply.TheVariants.{Accepted, Acknowledged, Refused}
use Rattle.silt_store_set.proofs.Keeps.{own_counts}
use Rattle.silt_desk.specs.declared.trace.Trace.{Ghosts as TraceOf}
use Rattle.silt_desk.specs.DeskState.{CountsCalls, DeskState, Notes, Serves}
use Rattle.std.specs.Option.{option_map}
use Rattle.silt_desk.proofs.Spending.{spends_by}

-- ---- replies without their faults

pub change_plain : {F : Type 0} (answer : Result ℕ (Refusal F)) → change_reply (plain_answer answer) ≡ plain (change_reply answer)
change_plain (Ok n) = refl
change_plain (Err refusal) = refl

pub swap_plain : {F : Type 0} (answer : Result (Option ℕ) (Refusal F)) → swap_reply (plain_answer answer) ≡ plain (swap_reply answer)
swap_plain (Ok (Some n)) = refl
swap_plain (Ok None) = refl
swap_plain (Err refusal) = refl

pub flush_plain : {F : Type 0} (answer : Result ℕ (Refusal F)) → flush_reply (plain_answer answer) ≡ plain (flush_reply answer)
flush_plain (Ok n) = refl
flush_plain (Err refusal) = refl

pub get_plain : {F : Type 0} (value : List ℕ) (answer : Result Bool (Refusal F)) → get_reply value (plain_answer answer) ≡ plain (get_reply value answer)
get_plain value (Ok true) = refl
get_plain value (Ok false) = refl
get_plain value (Err refusal) = refl

pub progress_plain : {F : Type 0} (answer : Result ProgressOf (Refusal F)) → progress_reply (plain_answer answer) ≡ plain (progress_reply answer)
progress_plain (Ok progress) = refl
progress_plain (Err refusal) = refl

-- if a map gives a reply, it gives the same reply without the fault
step_plain : {F : Type 0} (m : Map) (event : Event) (reply : Reply F) (to : Map) → Step m event reply to → Step m event (plain reply) to
step_plain m event reply to step = grind arith

counts_plain : {F : Type 0} (old new : ℕ) (reply : Reply F) → Counts old reply new → Counts old (plain reply) new
counts_plain old new (Accepted n) counts = counts
counts_plain old new reply counts = counts

-- a reply adds the same commands without its fault
adds_plain : {F : Type 0} (event : Event) (reply : Reply F) → accepted_command event (plain reply) ≡ accepted_command event reply
adds_plain event reply = grind arith

-- a device's fault is one without it too
fault_plain : {F : Type 0} (reply : Reply F) → IsTrue (is_fault reply) → IsTrue (is_fault (plain reply))
fault_plain (Refused (Device fault)) is = refl
fault_plain reply is = absurd (cc)

-- the books count on
books_after : (books : Option Totals) (calls accepted more : ℕ) → IfSome books (λ totals. (totals.calls ≡ calls) × (totals.accepted ≡ accepted))
    → IfSome (option_map (counted more) books) (λ totals. (totals.calls ≡ calls + 1) × (totals.accepted ≡ accepted + more))
books_after None calls accepted more held = tt
books_after (Some totals) calls accepted more held = (ap (λ n. n + 1) held.0, ap (λ n. n + more) held.1)

module _ {D F : Type 0} (facts : Ghosts D F) where
  -- after an acknowledging reply no command waits
  none_plain : (core : CoreState D) (reply : Reply F) → Durable core reply → NoneWaits (seen facts core) (plain reply)
  none_plain core (Acknowledged n) none = none
  none_plain core reply none = tt

  -- what a trace sees of a call
  pub seen_step : (old new : CoreState D) (event : Event) (reply : Reply F) → Does facts old new event reply → SeenStep (seen facts old) (seen facts new) event (plain reply)
  seen_step old new event reply does = record {
    honest = does.disk.honest;
    counts = counts_plain old.count new.count reply does.counts;
    step = λ h. step_plain (map_of old) event reply (map_of new) (does_step facts old new event reply h does);
    shape = does.shape;
    adds = search (arith, own_counts, adds_plain);
    failed = search (arith, does.failed);
    faulted = λ working fails. fault_plain reply (does.faulted working fails);
    moves = search (arith, adds_plain, does.moves);
    settles = λ h. none_plain new reply (does.settles h);
    safe = does.safe;
    crash = does.crash;
    keeps_basis = does.keeps_basis;
    spends = spends_by facts old new event reply does;
  }

  -- no store says that a history is full
  never_full : (old new : CoreState D) (event : Event) → Cause facts old new event (Refused HistoryFull) → ⊥
  never_full old new (Swap key expected (Some value)) cause = cause.1.1
  never_full old new event cause = search rules

  -- a call that was out of memory changes nothing
  lacks : (old new : CoreState D) (event : Event) → Does facts old new event (Refused NoMemory) → new ≡ old
  lacks old new event does = grind (arith, does.failed, does.stays, does.faulted)

  module _ {T : Type 0} (trace : TraceOf T) (c0 c1 : CoreState D) (t0 t1 : T) (totals after_totals : Option Totals) (seat after : SeatState) (event : Event) where
    abbrev desk : CoreState D → T → DeskState D T
    desk core kept = record { core = core; trace = kept }

    -- the store did the event, and the call was noted
    pub serves : (reply : Reply F) (told : Reply (Unit {0})) → told ≡ plain reply → Does facts c0 c1 event reply → Notes trace t0 t1 totals after_totals seat after event told
        → Serves facts trace (desk c0 t0) (desk c1 t1) seat after event reply
    serves reply told is does notes = search (arith, lacks, never_full)

    module _ (agrees_after : (a b : T) (c : RecordedCall) (s t : SeenStore) → trace.agrees a s → trace.extends a c b → SeenStep s t c.event c.reply → trace.agrees b t)
        (counts_after : (a b : T) (c : RecordedCall) (n m k l : ℕ) → trace.counts a n m → trace.extends a c b → k ≡ n + 1 → l ≡ m + accepted_by c.reply → trace.counts b k l) where
      counts_more : (c : RecordedCall) → trace.extends t0 c t1 → after_totals ≡ option_map (counted (accepted_by c.reply)) totals → CountsCalls trace.counts t0 totals
          → CountsCalls trace.counts t1 after_totals
      counts_more c more books (calls, accepted, counts, held) = (
        calls + 1,
        accepted + accepted_by c.reply,
        counts_after t0 t1 c calls accepted (calls + 1) (accepted + accepted_by c.reply) counts more refl refl,
        rw books (books_after totals calls accepted (accepted_by c.reply) held),
      )

      -- the trace agrees with the store on, and counts on
      pub keeps : (reply : Reply F) (told : Reply (Unit {0})) → told ≡ plain reply → Does facts c0 c1 event reply → Notes trace t0 t1 totals after_totals seat after event told
          → trace.agrees t0 (seen facts c0) × CountsCalls trace.counts t0 totals → trace.agrees t1 (seen facts c1) × CountsCalls trace.counts t1 after_totals
      keeps (Refused NoMemory) told is does notes held =
          let noted = rw is at notes in
          rw (noted.0, noted.1, lacks c0 c1 event does) held
      keeps (Refused HistoryFull) told is does notes held = absurd (never_full c0 c1 event does.cause)
      keeps reply told is does notes held =
          let noted = rw is at notes in search (arith, seen_step, counts_more)
