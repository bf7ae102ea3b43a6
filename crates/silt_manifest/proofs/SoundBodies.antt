-- What a body that is well formed has, and a record that is sound.
use Rattle.silt_manifest.proofs.Common.{eqb-true, leb-true, ltb-true, ◌≡◌, ℕ, ◌%◌, ◌^◌, ◌<◌, ◌≤◌, ◌⊎◌, true, false, List, [], ◌∷◌, length, Some, refl, ap, ◌∙◌, arith, cases_Bool, and_parts, Shape}
use Rattle.silt_manifest.proofs.Common.{InLimits, Version, FitsSlot, is_well_formed, is_sound_record, Body, SlotRecord, is_some, all_below, has_due_digests}
use Rattle.silt_disk.specs.declared.header.Version.TheVariants.{One, Two}

-- the numbers of a body that is well formed
pub record SoundParts (s : Shape) (slot : ℕ) (b : Body) : Type 0 where
  pub generation : b.generation < 2 ^ 63
  pub slot_is : b.generation % 2 ≡ slot
  pub frozen_count : length b.frozen < s.logs
  pub active : b.active < s.logs
  pub frozen : all_below s.logs b.frozen ≡ true
  pub hashed_count : length b.hashed ≤ s.hashes
  pub hashed : all_below s.hashes b.hashed ≡ true
  pub sorted : b.sorted < 2
  pub sorted_count : b.sorted_count ≤ s.sorted_capacity

-- the parts of the test
pub sound_parts : (s : Shape) (slot : ℕ) (b : Body) → is_well_formed s slot b ≡ true → SoundParts s slot b
sound_parts s slot b sound =
    let p1 = and_parts _ _ sound in
    let p2 = and_parts _ _ p1.0 in
    let p3 = and_parts _ _ p2.0 in
    let p4 = and_parts _ _ p3.0 in
    let p5 = and_parts _ _ p4.0 in
    let l1 = and_parts _ _ p4.1 in
    let l2 = and_parts _ _ l1.0 in
    let l3 = and_parts _ _ l2.0 in
    let l4 = and_parts _ _ l3.0 in
    let h1 = and_parts _ _ p3.1 in
    let h2 = and_parts _ _ h1.0 in
    record {
      generation = ltb-true _ _ p5.0;
      slot_is = eqb-true _ _ p5.1;
      frozen_count = ltb-true _ _ l4.0;
      active = ltb-true _ _ l4.1;
      frozen = l3.1;
      hashed_count = leb-true _ _ h2.0;
      hashed = h2.1;
      sorted = ltb-true _ _ p2.1;
      sorted_count = leb-true _ _ p1.1;
    }

-- a body with more ids than regions is not well formed
pub too_many_ids : (s : Shape) (slot : ℕ) (b : Body) → (s.logs ≤ length b.frozen) ⊎ (s.hashes < length b.hashed) → is_well_formed s slot b ≡ false
too_many_ids s slot b many = search (arith, cases_Bool, sound_parts)

-- numbers below a bound are below a greater one
all_below_more : (low high : ℕ) (ids : List ℕ) → low ≤ high → all_below low ids ≡ true → all_below high ids ≡ true
all_below_more low high [] more below = refl
all_below_more low high (id ∷ ids) more below = grind (arith, all_below_more low high ids more, and_parts)

-- within the limits its numbers fit the fields of a slot
pub fits_slot : (s : Shape) (slot : ℕ) (b : Body) → InLimits s → is_well_formed s slot b ≡ true → FitsSlot b
fits_slot s slot b limits sound =
    let parts = sound_parts s slot b sound in
    record {
      generation = omega (arith, parts.generation);
      active = omega (arith, parts.active, limits.logs_most);
      frozen_count = omega (arith, parts.frozen_count, limits.logs_most);
      frozen = all_below_more s.logs (256 ^ 4) b.frozen (omega (arith, limits.logs_most)) parts.frozen;
      hashed_count = omega (arith, parts.hashed_count, limits.hashes_most);
      hashed = all_below_more s.hashes (256 ^ 4) b.hashed (omega (arith, limits.hashes_most)) parts.hashed;
      sorted = omega (arith, parts.sorted);
      sorted_count = omega (arith, parts.sorted_count, limits.sorted_capacity_most);
    }

-- a body lies in the slot of its generation
pub own_slot : (s : Shape) (slot : ℕ) (b : Body) → is_well_formed s slot b ≡ true → is_well_formed s (b.generation % 2) b ≡ true
own_slot s slot b sound = ap (λ (at : ℕ). is_well_formed s at b) (sound_parts s slot b sound).slot_is ∙ sound

-- a record's body is well formed
pub sound_body : (s : Shape) (version : Version) (slot : ℕ) (found : SlotRecord) → is_sound_record s version slot (Some found) ≡ true → is_well_formed s slot found.body ≡ true
sound_body s version slot found sound = (and_parts _ _ sound).1

-- a record without the required digests is not sound
pub without_digests : (s : Shape) (version : Version) (slot : ℕ) (found : SlotRecord) → has_due_digests version found.digests ≡ false → is_sound_record s version slot (Some found) ≡ false
without_digests s version slot found lacks = rw lacks refl

-- nor is one whose body is not well formed
pub without_body : (s : Shape) (version : Version) (slot : ℕ) (found : SlotRecord) → is_well_formed s slot found.body ≡ false → is_sound_record s version slot (Some found) ≡ false
without_body s version slot found unsound = grind (arith, cases_Bool)

-- a record with a well-formed body and the digests that are due is sound
pub with_both : (s : Shape) (version : Version) (slot : ℕ) (found : SlotRecord) → has_due_digests version found.digests ≡ true
    → is_well_formed s slot found.body ≡ true → is_sound_record s version slot (Some found) ≡ true
with_both s version slot found due sound = rw (due, sound) refl

-- a record with digests is allowed on a device of any version
pub long_sound : (s : Shape) (version : Version) (slot : ℕ) (found : SlotRecord) → is_some found.digests ≡ true
    → is_well_formed s slot found.body ≡ true → is_sound_record s version slot (Some found) ≡ true
long_sound s One slot found has sound = sound
long_sound s Two slot found has sound = rw has sound
