-- The steps of a conversion, at their exits.
use Rattle.silt_engine.proofs.Common.{◌≡◌, ◌<◌, ℕ, ◌+◌, ◌-◌, ◌*◌, ◌^◌, ◌==◌, true, if◌then◌else◌, List, [], length, replicate, Option, Some, None, refl, ap, sym, ◌∙◌, subst, arith, eq-eqb, ne_eqb}
use Rattle.silt_engine.proofs.Common.{get_or_from_slice_get, slice_get_within, ChangesWithin, Content, CountsFault, size, Ghosts, InLimits, row_len, IsFrozenStore, LogStoreState, bucket_count_is}
use Rattle.silt_engine.proofs.Common.{is_well_formed, current_slot, Body, Digests, Digest, HashState, ConversionState, HasWritten, IsDigestOf, hash_slot_at, Progress, Finished, Idle, Moved}
use Rattle.silt_engine.proofs.Common.{AreWhole, IsUnderWay, EngineState, names_hash, oldest_log, Stands, Advances, Breaks, Remaps, AreAllHashesNamed, EndsConversion, convert_turn, converted_body}
use Rattle.silt_engine.proofs.Common.{cases_eq, GaveAny, FailsStep, Steps, Waiting, digests_with, ConvertErrorCause, Converts, IsLowestFreeHash, progress_due, written_by}
use Rattle.std.specs.Prelude.{slice_get}
use Rattle.std.proofs.lemmas.Option.{slice_get_cases}
use Rattle.silt_conversion.specs.declared.conversion.StepError.{StepError}
use Rattle.silt_engine.specs.Conversion.{refusal_of_step}
use Rattle.silt_engine.proofs.Counting.{hash_free, no_hash_free}
use Rattle.silt_engine.proofs.ConvertDone.{has_written, oldest_stands, way}
use Rattle.silt_engine.proofs.ConvertSlots.{slot_advances, slot_breaks, slot_map}

-- ---- values that were read

-- the last of the frozen logs is the oldest
pub last_log : (s : EngineState) (log : LogStoreState) → Some log ≡ slice_get s.frozen (length s.frozen - 1) → (0 < length s.frozen) × (log ≡ oldest_log s)
last_log s log is = search (arith, slice_get_within, get_or_from_slice_get)

-- a list without a last element has none
no_last : {X : Type 0} (xs : List X) → slice_get xs (length xs - 1) ≡ None → length xs ≡ 0
no_last xs last = search (arith, slice_get_cases)

-- ---- the progress that is due

module _ (s : EngineState) where
  abbrev due : Option ConversionState → Progress
  due o = progress_due (length s.frozen) (length s.hashes) s.manifest.shape.hashes (4 * s.manifest.shape.buckets) (written_by o)

  -- the next slot of a conversion that moves on is there
  pub moves_below : (conversion : ConversionState) → s.converting ≡ Some conversion → IsUnderWay s conversion → convert_turn s ≡ Moved → conversion.next < 4 * conversion.shape.buckets
  moves_below conversion was way turn = search (arith, way, cases_eq, eq-eqb)

  -- all slots of one that finishes are written
  all_written : (conversion : ConversionState) → s.converting ≡ Some conversion → IsUnderWay s conversion → convert_turn s ≡ Finished → conversion.next ≡ 4 * conversion.shape.buckets
  all_written conversion was way turn = search (arith, way, cases_eq, ne_eqb)

  -- without frozen logs, as the last one of what was read shows, and with no conversion in progress
  pub idle_turn : s.converting ≡ None → (read : List LogStoreState) → read ≡ s.frozen → slice_get read (length read - 1) ≡ None → convert_turn s ≡ Idle
  idle_turn none read same last = cc (none, eq-eqb (length s.frozen) 0 (ap length (sym same) ∙ no_last read last))

  -- with frozen logs, no conversion in progress, and this many hash stores
  pub begins_turn : s.converting ≡ None → 0 < length s.frozen → convert_turn s ≡ (if length s.hashes == s.manifest.shape.hashes then Waiting else Moved)
  begins_turn none some = cc (none, ne_eqb (length s.frozen) 0 (λ e. absurd (omega (arith, e, some))))

  -- every hash region is in use
  pub waits_turn : s.converting ≡ None → 0 < length s.frozen → length s.hashes ≡ s.manifest.shape.hashes → convert_turn s ≡ Waiting
  waits_turn none some all = cc (begins_turn none some, eq-eqb (length s.hashes) s.manifest.shape.hashes all)

  -- one is free
  pub moves_turn : s.converting ≡ None → 0 < length s.frozen → length s.hashes < s.manifest.shape.hashes → convert_turn s ≡ Moved
  moves_turn none some fewer = cc (begins_turn none some, ne_eqb (length s.hashes) s.manifest.shape.hashes (λ e. absurd (omega (arith, e, fewer))))

-- ---- the end

-- a conversion that finishes may end with the next body and these digests
pub may_finish : (s : EngineState) (body : Body) (digests : Digests) (conversion : ConversionState) (digest sorted : Digest) (hashes : List HashState) → AreWhole s
    → s.converting ≡ Some conversion → convert_turn s ≡ Finished → s.manifest.current.generation < 2 ^ 63 - 1 → body ≡ converted_body s.manifest.current conversion.region
    → IsDigestOf conversion.hasher digest.0 → hashes ≡ s.hashes → sorted.0 ≡ s.digest → digests ≡ digests_with (Some digest) hashes sorted → EndsConversion s body digests
may_finish s body digests conversion digest sorted hashes whole was turn unspent is digested hashes_are sorted_is digests_are = record {
  conversion = conversion;
  was = was;
  done = search (arith, all_written);
  unspent = unspent;
  is = is;
  digest = digest.0;
  digested = digested;
  digests_are = search (arith, hashes_are);
}

-- ---- a slot

module _ (old new : Content) (s : EngineState) (log : LogStoreState) (before after : ConversionState) (stands : Stands old s) (log_is : log ≡ oldest_log s) (way : IsUnderWay s before)
    (below : before.next < 4 * before.shape.buckets) (was_written : HasWritten old log before) (sizes : size new ≡ size old)
    (changes : ChangesWithin (hash_slot_at before.shape before.region before.next) (row_len before.shape) old new) where
  -- in the words of the stores
  next_below : before.next < 4 * s.manifest.shape.buckets
  next_below = rw way.has_shape at below

  slot_changes : ChangesWithin (hash_slot_at s.manifest.shape before.region before.next) (row_len s.manifest.shape) old new
  slot_changes = rw way.has_shape at changes

  -- ---- it was not written

  pub failed_breaks : Breaks old new s
  failed_breaks = slot_breaks old new s _ _ stands way.free way.there next_below sizes slot_changes None tt tt

  pub failed_map : (converting : Option ConversionState) → Remaps [] old new s (record s { converting = converting })
  failed_map converting = slot_map old new s _ _ stands way.free way.there next_below sizes slot_changes None tt tt

  -- ---- it was written

  module _ (steps : Steps log old new before after) (written : IsFrozenStore old log → HasWritten old log before → HasWritten new log after) where
    -- the conversion is in progress
    pub way_after : IsUnderWay s after
    way_after = search (arith, way, next_below)

    pub step_advances : Advances [] old new s (record s { converting = Some after })
    step_advances = slot_advances old new s _ _ stands way.free way.there next_below sizes slot_changes _ way_after
        (rw log_is at (written (subst (IsFrozenStore old) (sym log_is) (oldest_stands old s stands way.some_frozen)) was_written))

-- ---- the next slot of the conversion under way

module _ (old new : Content) (s : EngineState) (log : LogStoreState) (before after : ConversionState) (stands : Stands old s) (read : Some log ≡ slice_get s.frozen (length s.frozen - 1))
    (was : s.converting ≡ Some before) (turn : convert_turn s ≡ Moved) (sizes : size new ≡ size old)
    (changes : ChangesWithin (hash_slot_at before.shape before.region before.next) (row_len before.shape) old new) where
  going : IsUnderWay s before
  going = way old s stands before was

  more : before.next < 4 * before.shape.buckets
  more = moves_below s before was going turn

  wrote : HasWritten old log before
  wrote = rw (← (last_log s log read).1) at (has_written old s stands before was)

  pub next_failed_breaks : Breaks old new s
  next_failed_breaks = failed_breaks old new s log before after stands (last_log s log read).1 going more wrote sizes changes

  pub next_failed_map : (converting : Option ConversionState) → Remaps [] old new s (record s { converting = converting })
  next_failed_map = failed_map old new s log before after stands (last_log s log read).1 going more wrote sizes changes

  module _ (steps : Steps log old new before after) (written : IsFrozenStore old log → HasWritten old log before → HasWritten new log after) where
    pub next_advances : Advances [] old new s (record s { converting = Some after })
    next_advances = step_advances old new s log before after stands (last_log s log read).1 going more wrote sizes changes steps written

-- of the stores in memory with the conversion one slot on
pub next_converts : (s : EngineState) (before after : ConversionState) (tags : List (Option ℕ)) → s.converting ≡ Some before → convert_turn s ≡ Moved
    → after ≡ record before { next = before.next + 1; tags = tags; puts = after.puts; hasher = after.hasher } → Converts Moved s (record s { converting = Some after })
next_converts s before after tags was turn next = search arith

-- ---- the first slot of a new one

-- no conversion is in progress, and this was read of the stores: their oldest log, their body and the number of hash regions
pub record MayBegin (s : EngineState) (log : LogStoreState) (current : Body) (hashes : ℕ) : Type 0 where
  pub read : Some log ≡ slice_get s.frozen (length s.frozen - 1)
  pub none : s.converting ≡ None
  pub whole : AreWhole s
  pub sound : is_well_formed s.manifest.shape (current_slot s.manifest) s.manifest.current ≡ true
  pub same_current : current ≡ s.manifest.current
  pub hashes_are : hashes ≡ s.manifest.shape.hashes

-- the first step begins one in a free region
module _ (s : EngineState) (log : LogStoreState) (current : Body) (hashes region : ℕ) (may : MayBegin s log current hashes) where
  some : 0 < length s.frozen
  some = (last_log s log may.read).0

  -- no region is free
  pub begin_waits : AreAllHashesNamed hashes current → Converts Waiting s s
  begin_waits all = record { due = sym (waits_turn s may.none some (no_hash_free s _ may.whole may.sound (rw (may.same_current, may.hashes_are) at all))); done = refl }

  module _ (lowest_read : IsLowestFreeHash hashes current region) where
    pub lowest_here : IsLowestFreeHash s.manifest.shape.hashes s.manifest.current region
    lowest_here = rw (may.same_current, may.hashes_are) at lowest_read

    pub begin_turn : convert_turn s ≡ Moved
    begin_turn = moves_turn s may.none some (hash_free s _ region may.whole may.sound lowest_here.below lowest_here.free)

    module _ (started : ConversionState) (is : started ≡ record
        { shape = log.log.shape; region = region; tags = replicate (4 * log.log.shape.buckets) None; next = 0; puts = 0; hasher = started.hasher }) (limits : InLimits s.manifest.shape) where
      pub started_shape : started.shape ≡ s.manifest.shape
      started_shape = cc (is, (last_log s log may.read).1, (may.whole.settled (length s.frozen - 1) s.active (omega (arith, some))).has_shape)

      started_region : started.region ≡ region
      started_region = ap (λ (v : ConversionState). v.region) is

      started_none : started.next ≡ 0
      started_none = ap (λ (v : ConversionState). v.next) is

      started_way : IsUnderWay s started
      started_way = record {
        has_shape = started_shape;
        some_frozen = some;
        there = rw (← started_region) at lowest_here.below;
        free = ap (names_hash s.manifest.current) started_region ∙ lowest_here.free;
        most = omega (arith, started_none);
      }

      started_below : started.next < 4 * started.shape.buckets
      started_below = search (arith, bucket_count_is, started_shape, started_none)

      -- of the stores in memory with a conversion one slot on
      module _ (after : ConversionState) (tags : List (Option ℕ)) (next : after ≡ record started { next = started.next + 1; tags = tags; puts = after.puts; hasher = after.hasher }) where
        pub begin_converts : Converts Moved s (record s { converting = Some after })
        begin_converts = search (arith, begin_turn, started_region, lowest_here, started_none)

      module _ (old new : Content) (after : ConversionState) (stands : Stands old s) (wrote : HasWritten old log started) (sizes : size new ≡ size old)
          (changes : ChangesWithin (hash_slot_at started.shape started.region started.next) (row_len started.shape) old new) where
        pub first_failed_breaks : Breaks old new s
        first_failed_breaks = failed_breaks old new s log _ after stands (last_log s log may.read).1 started_way started_below wrote sizes changes

        pub first_failed_map : Remaps [] old new s s
        first_failed_map = failed_map old new s log started after stands (last_log s log may.read).1 started_way started_below wrote sizes changes s.converting

        module _ (steps : Steps log old new started after) (written : IsFrozenStore old log → HasWritten old log started → HasWritten new log after) where
          pub first_advances : Advances [] old new s (record s { converting = Some after })
          first_advances = step_advances old new s log _ after stands (last_log s log may.read).1 started_way started_below wrote sizes changes steps written

-- ---- why it was not

module _ {D F : Type 0} (facts : Ghosts D F) (old new : D) (before after : EngineState) where
  -- the cause in place of that of the step
  pub step_cause : (error : StepError F) → FailsStep (GaveAny facts.gave) (CountsFault facts.failures facts.gave old new) old new error
      → after ≡ before → convert_turn before ≡ Moved → Breaks (facts.content old) (facts.content new) before
      → Remaps [] (facts.content old) (facts.content new) before after → ConvertErrorCause facts old new before after (refusal_of_step error)
  step_cause error fails same turn breaks remaps = search arith
