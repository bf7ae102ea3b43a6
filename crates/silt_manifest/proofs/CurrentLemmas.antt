-- The current record, from what the two slots hold.
use Rattle.silt_manifest.proofs.Common.{◌≡◌, ℕ, ◌+◌, ◌⊎◌, inl, inr, true, false, nat_lt, List, Option, Some, None, Err, refl, sym, ap, ◌∙◌, arith, cases_Bool, cases_eq, nat_tests, header_of}
use Rattle.silt_manifest.proofs.Common.{version_of, Shape, Version, is_sound_record, manifest_found, open_record, current_manifest, where_found, Slot, SlotRecord, Ok}
use Rattle.silt_manifest.specs.Current.{record_found}

-- of two, the second is newer
pub newer_second : (s : Shape) (v : Version) (a b : SlotRecord) → is_sound_record s v 0 (Some a) ≡ true → is_sound_record s v 1 (Some b) ≡ true
    → nat_lt a.body.generation b.body.generation ≡ true → record_found s v (Some a) (Some b) ≡ Ok b
unfolding record_found
newer_second s v a b sound_a sound_b newer = rw (sound_a, sound_b, newer) refl

-- of two, the first is newer
pub newer_first : (s : Shape) (v : Version) (a b : SlotRecord) → is_sound_record s v 0 (Some a) ≡ true → is_sound_record s v 1 (Some b) ≡ true
    → nat_lt a.body.generation b.body.generation ≡ false → record_found s v (Some a) (Some b) ≡ Ok a
unfolding record_found
newer_first s v a b sound_a sound_b newer = rw (sound_a, sound_b, newer) refl

-- what the slots hold, and the version
pub found_at : (s : Shape) (v : Version) (image : List ℕ) (first second : Option SlotRecord) → version_of (header_of image) ≡ v
    → open_record image 0 ≡ first → open_record image 1 ≡ second → manifest_found s image ≡ record_found s v first second
found_at s v image first second is is_first is_second = cc

-- no record is current if a slot is damaged
none_is_current : (s : Shape) (v : Version) (first second : Option SlotRecord) (slot : ℕ) (b : SlotRecord)
    → record_found s v first second ≡ Err (Slot slot) → where_found (record_found s v first second) ≡ Some b → ⊥
none_is_current s v first second slot b refused is_current = let none : where_found (record_found s v first second) ≡ None = ap where_found refused in absurd (cc)

-- if there is a current record, the first slot is sound
first_is_sound : (s : Shape) (v : Version) (first second : Option SlotRecord) (b : SlotRecord) → where_found (record_found s v first second) ≡ Some b → is_sound_record s v 0 first ≡ true
unfolding record_found
first_is_sound s v first second b is_current = grind (arith, cases_Bool, none_is_current)

-- and the second
second_is_sound : (s : Shape) (v : Version) (first second : Option SlotRecord) (b : SlotRecord) → where_found (record_found s v first second) ≡ Some b → is_sound_record s v 1 second ≡ true
unfolding record_found
second_is_sound s v first second b is_current = grind (arith, first_is_sound, cases_Bool, none_is_current)

-- what holds of the slots 0 and 1, in both orders, holds of each slot and the other one
either : (P : ℕ → ℕ → Type 0) → P 0 1 → P 1 0 → (r o : ℕ) → r + o ≡ 1 → P r o
either P first second r o slots = grind (arith, cases_eq)

-- the current record of an image is sound in its slot
pub current_is_sound : (s : Shape) (r o : ℕ) (b : SlotRecord) (image : List ℕ) → r + o ≡ 1 → open_record image r ≡ Some b
    → current_manifest s image ≡ Some b → is_sound_record s (version_of (header_of image)) r (Some b) ≡ true
current_is_sound s r o b image slots stands is_current =
    let v = version_of (header_of image) in
    let zeroth = open_record image 0 in
    let first = open_record image 1 in
    either (λ r o. open_record image r ≡ Some b → is_sound_record s v r (Some b) ≡ true) (λ here. ap (is_sound_record s v 0) (sym here) ∙ first_is_sound s v zeroth first b is_current)
    (λ here. ap (is_sound_record s v 1) (sym here) ∙ second_is_sound s v zeroth first b is_current) r o slots stands

-- a record is found whose slot is the only open one
pub alone_found : (s : Shape) (v : Version) (r o : ℕ) (b : SlotRecord) (image : List ℕ) → version_of (header_of image) ≡ v → r + o ≡ 1
    → is_sound_record s v r (Some b) ≡ true → open_record image r ≡ Some b → open_record image o ≡ None → manifest_found s image ≡ Ok b
unfolding record_found
alone_found s v r o b image is =
    either (λ r o. is_sound_record s v r (Some b) ≡ true → open_record image r ≡ Some b → open_record image o ≡ None → manifest_found s image ≡ Ok b)
    (λ sound here closed. let found : record_found s v (Some b) None ≡ Ok b = rw sound refl in found_at s v image (Some b) None is here closed ∙ found)
    (λ sound here closed. let found : record_found s v None (Some b) ≡ Ok b = rw sound refl in found_at s v image None (Some b) is closed here ∙ found) r o

-- a record is current if it is newer than the other
pub newer_is_current : (s : Shape) (v : Version) (r o : ℕ) (a b : SlotRecord) (image : List ℕ) → version_of (header_of image) ≡ v → r + o ≡ 1 → is_sound_record s v r (Some a) ≡ true
    → is_sound_record s v o (Some b) ≡ true → b.body.generation ≡ a.body.generation + 1 → open_record image r ≡ Some a → open_record image o ≡ Some b → current_manifest s image ≡ Some b
newer_is_current s v r o a b image is slots sound_a sound_b next =
    let newer : nat_lt a.body.generation b.body.generation ≡ true = grind (arith, nat_tests) in
    let older : nat_lt b.body.generation a.body.generation ≡ false = grind (arith, nat_tests) in
    either (λ r o. is_sound_record s v r (Some a) ≡ true → is_sound_record s v o (Some b) ≡ true → open_record image r ≡ Some a → open_record image o ≡ Some b
    → current_manifest s image ≡ Some b) (λ sound_a sound_b here there. cc (newer_second s v a b sound_a sound_b newer))
    (λ sound_a sound_b here there. cc (newer_first s v b a sound_b sound_a older)) r o slots sound_a sound_b

-- images of one version whose slots hold the same have the same current record
pub same_is_current : (s : Shape) (r o : ℕ) (before after : List ℕ) → version_of (header_of after) ≡ version_of (header_of before) → r + o ≡ 1
    → open_record after r ≡ open_record before r → open_record after o ≡ open_record before o → current_manifest s after ≡ current_manifest s before
same_is_current s r o before after is =
    either (λ r o. open_record after r ≡ open_record before r → open_record after o ≡ open_record before o
    → current_manifest s after ≡ current_manifest s before) (λ zeroth first. cc) (λ first zeroth. cc) r o

-- a record stays current if its slot stays, and the other one is closed or stays too
pub stays_current : (s : Shape) (r o : ℕ) (b : SlotRecord) (before after : List ℕ) → version_of (header_of after) ≡ version_of (header_of before)
    → r + o ≡ 1 → open_record before r ≡ Some b → current_manifest s before ≡ Some b → open_record after r ≡ open_record before r
    → (open_record after o ≡ None) ⊎ (open_record after o ≡ open_record before o) → current_manifest s after ≡ Some b
stays_current s r o b before after is slots stands is_current same_r other =
    elim other [
      | inl closed ↦ ap where_found (alone_found s _ r o b after is slots (current_is_sound s r o b before slots stands is_current) (same_r ∙ stands) closed)
      | inr same_o ↦ same_is_current s r o before after is slots same_r same_o ∙ is_current
    ]
