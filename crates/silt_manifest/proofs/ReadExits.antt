-- What a read of the slots means for the shown bytes.
use Rattle.silt_manifest.proofs.Common.{◌≡◌, ℕ, ◌+◌, ◌%◌, true, false, not, nat_lt, List, slice_index, Option, Some, None, Err, refl, sym, ap, subst, ◌∙◌, inl, inr, arith, cases_Bool, Content}
use Rattle.silt_manifest.proofs.Common.{Shows, header_of, version_of, Shape, Version, is_open, record_behind, is_slot_open, is_sound_record, open_record, current_manifest, slot_of, where_found}
use Rattle.silt_manifest.proofs.Common.{IsCurrentIn, ManifestState, with_current, SlotRecord, Slot, Bool, if◌then◌else◌, IsTrue, ok_or, IfOk, IfErr, HasSlot, manifest_of, NoSlot}
use Rattle.silt_manifest.specs.Faults.{IsNotRead, IsDamaged, IsSlotRefused, IsUnsound}
use Rattle.silt_manifest.specs.Current.{record_found}
use Rattle.silt_manifest.specs.declared.slot.Damage.{Damage}
use Rattle.silt_manifest.specs.declared.slot.ReadFault.{ReadFault}
use Rattle.silt_manifest.specs.declared.slot.ReadFault.TheVariants.{Damaged, Device}
use Rattle.silt_manifest.proofs.SlotImages.{opened_record}
use Rattle.silt_manifest.proofs.SoundBodies.{sound_body, sound_parts}
use Rattle.silt_manifest.proofs.CurrentLemmas.{alone_found, found_at, newer_first, newer_second}
use Rattle.silt_manifest.proofs.CommitExits.{holds_open}

-- what was read are a slot's bytes
abbrev pub ReadsSlot : Content → ℕ → List ℕ → Type 0
ReadsSlot content slot bytes = IsTrue content.honest → bytes ≡ slot_of content.shown slot

-- a slot that is closed, or whose record is sound
pub reads_held : (content : Content) (s : Shape) (v : Version) (slot : ℕ) (bytes : List ℕ) (held : Option SlotRecord)
    → ReadsSlot content slot bytes → record_behind bytes ≡ held → is_sound_record s v slot held ≡ true → Shows content (HasSlot s v slot held)
reads_held content s v slot bytes held reads is sound = grind arith

-- a slot that is open, and whose record is not sound
pub reads_damage : (content : Content) (s : Shape) (v : Version) (slot : ℕ) (bytes : List ℕ) (damage : Damage) → ReadsSlot content slot bytes
    → damage ≡ Slot slot → is_sound_record s v slot (record_behind bytes) ≡ false → Shows content (IsUnsound s v slot damage)
reads_damage content s v slot bytes damage reads place unsound = grind arith

-- the version is that of the header that is shown
abbrev pub HasVersion : Content → Version → Type 0
HasVersion content v = IsTrue content.honest → v ≡ version_of (header_of content.shown)

-- the first slot is damaged
first_damage : (s : Shape) (v : Version) (damage : Damage) (image : List ℕ) → version_of (header_of image) ≡ v → IsUnsound s v 0 damage image → IsDamaged s damage image
unfolding record_found
first_damage s v damage image is unsound =
    let refused : record_found s v (open_record image 0) (open_record image 1) ≡ Err (Slot 0) = rw unsound.unsound refl in
    record { found = found_at s v image (open_record image 0) (open_record image 1) is refl refl ∙ refused ∙ ap Err (sym unsound.place) }

-- the second slot is damaged
second_damage : (s : Shape) (v : Version) (damage : Damage) (first : Option SlotRecord) (image : List ℕ) → version_of (header_of image) ≡ v
    → HasSlot s v 0 first image → IsUnsound s v 1 damage image → IsDamaged s damage image
unfolding record_found
second_damage s v damage first image is has unsound =
    let refused : record_found s v first (open_record image 1) ≡ Err (Slot 1) = rw (has.sound, unsound.unsound) refl in
    record { found = found_at s v image first (open_record image 1) is has.held refl ∙ refused ∙ ap Err (sym unsound.place) }

-- no slot is open
no_slot : (s : Shape) (v : Version) (image : List ℕ) → version_of (header_of image) ≡ v → HasSlot s v 0 None image → HasSlot s v 1 None image → IsDamaged s NoSlot image
unfolding record_found
no_slot s v image is first second = record { found = found_at s v image None None is first.held second.held }

-- the read of the first slot is refused
pub first_refused : {F : Type 0} (content : Content) (s : Shape) (v : Version) (W : F → Type 0) (e : ReadFault F) → HasVersion content v → IsSlotRefused content s v W 0 e → IsNotRead content s W e
first_refused content s v W (Damaged damage) is refused = record { holds = λ honest. first_damage s v damage content.shown (sym (is honest)) (refused.holds honest) }
first_refused content s v W (Device fault) is refused = refused

-- the read of the second slot is refused
pub second_refused : {F : Type 0} (content : Content) (s : Shape) (v : Version) (W : F → Type 0) (first : Option SlotRecord) (e : ReadFault F)
    → HasVersion content v → Shows content (HasSlot s v 0 first) → IsSlotRefused content s v W 1 e → IsNotRead content s W e
second_refused content s v W first (Damaged damage) is has refused =
    record { holds = λ honest. second_damage s v damage first content.shown (sym (is honest)) (has.holds honest) (refused.holds honest) }
second_refused content s v W first (Device fault) is has refused = refused

-- both slots are closed
pub none_refused : (content : Content) (s : Shape) (v : Version) (first second : Option SlotRecord) (made : Option ManifestState)
    → HasVersion content v → Shows content (HasSlot s v 0 first) → Shows content (HasSlot s v 1 second) → made ≡ manifest_of s first second → made ≡ None → Shows content (IsDamaged s NoSlot)
none_refused content s v None None made version one two is none = record { holds = λ honest. no_slot s v content.shown (sym (version honest)) (one.holds honest) (two.holds honest) }
none_refused content s v first second made version one two is none = grind arith

-- a slot that holds nothing is closed
holds_closed : (bytes : List ℕ) → record_behind bytes ≡ None → is_open (slice_index bytes 0) ≡ false
holds_closed bytes holds = elim (cases_Bool (is_open (slice_index bytes 0))) [ inl opened ↦ absurd (cc (opened_record bytes opened)) | inr closed ↦ closed ]

-- the record of the one slot is current, if the commit byte of the other is as given
current_so : (s : Shape) (v : Version) (r o : ℕ) (b : SlotRecord) (spare_closed : Bool) (image : List ℕ) → r + o ≡ 1 → HasSlot s v r (Some b) image
    → current_manifest s image ≡ Some b → is_slot_open image o ≡ not spare_closed → IsCurrentIn (with_current s b spare_closed) image
current_so s v r o b spare_closed image slots has is_current spare =
    let own : b.body.generation % 2 ≡ r = (sound_parts s r b.body (sound_body s v r b has.sound)).slot_is in
    let other : (b.body.generation + 1) % 2 ≡ o = omega arith in
    record { current = is_current; stands = cc (has.held); spare = cc }

-- the manifest of two slots is what an image has
current_in_image : (s : Shape) (v : Version) (first second : Option SlotRecord) (m : ManifestState) (image : List ℕ)
    → version_of (header_of image) ≡ v → HasSlot s v 0 first image → HasSlot s v 1 second image → manifest_of s first second ≡ Some m → IsCurrentIn m image
current_in_image s v None None m image version one two is = absurd (cc)
current_in_image s v None (Some b) m image version one two is =
    let same : with_current s b true ≡ m = cc in
    subst (λ state. IsCurrentIn state image) same
    (current_so s v 1 0 b true image refl two (ap where_found (alone_found s v 1 0 b image version refl two.sound two.held one.held)) (holds_closed (slot_of image 0) one.held))
current_in_image s v (Some a) None m image version one two is =
    let same : with_current s a true ≡ m = cc in
    subst (λ state. IsCurrentIn state image) same
    (current_so s v 0 1 a true image refl one (ap where_found (alone_found s v 0 1 a image version refl one.sound one.held two.held)) (holds_closed (slot_of image 1) two.held))
current_in_image s v (Some a) (Some b) m image version one two is =
    elim (cases_Bool (nat_lt a.body.generation b.body.generation)) [
      | inl newer ↦
          let chosen : (if nat_lt a.body.generation b.body.generation then with_current s b false else with_current s a false) ≡ with_current s b false = rw newer refl in
          let same : with_current s b false ≡ m = cc in
          subst (λ state. IsCurrentIn state image) same (current_so s v 1 0 b false image refl two (ap where_found (found_at s v image (Some a) (Some b) version
          one.held two.held ∙ newer_second s v a b one.sound two.sound newer)) (holds_open (slot_of image 0) a one.held))
      | inr older ↦
          let chosen : (if nat_lt a.body.generation b.body.generation then with_current s b false else with_current s a false) ≡ with_current s a false = rw older refl in
          let same : with_current s a false ≡ m = cc in
          subst (λ state. IsCurrentIn state image) same (current_so s v 0 1 a false image refl one (ap where_found (found_at s v image (Some a) (Some b) version
          one.held two.held ∙ newer_first s v a b one.sound two.sound older)) (holds_open (slot_of image 1) b two.held))
    ]

-- the manifest of the slots is current in what is shown
pub slots_are_current : (content : Content) (s : Shape) (v : Version) (first second : Option SlotRecord) (made : Option ManifestState) (m : ManifestState)
    → HasVersion content v → Shows content (HasSlot s v 0 first) → Shows content (HasSlot s v 1 second) → made ≡ manifest_of s first second → made ≡ Some m → Shows content (IsCurrentIn m)
slots_are_current content s v first second made m version one two is some =
    record { holds = λ honest. current_in_image s v first second m content.shown (sym (version honest)) (one.holds honest) (two.holds honest) (sym is ∙ some) }

-- what was found, or else the refusal
pub where_some : {X E : Type 0} (o : Option X) (e : E) (P : X → Type 0) → ((x : X) → o ≡ Some x → P x) → IfOk (ok_or o e) P
where_some None e P step = tt
where_some (Some x) e P step = step x refl

-- the refusal, if nothing was found
pub where_none : {X E : Type 0} (o : Option X) (e : E) (Q : E → Type 0) → (o ≡ None → Q e) → IfErr (ok_or o e) Q
where_none None e Q step = step refl
where_none (Some x) e Q step = tt
