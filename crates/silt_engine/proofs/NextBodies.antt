-- A change of the manifest: each possible crash image has the stores that were, or those that the next record names.
use Rattle.silt_engine.proofs.Common.{◌≡◌, ◌<◌, ◌⊎◌, ℕ, true, IsTrue, List, [], Some, None, Ok, inl, inr, refl, ap, sym, ◌∙◌, subst, arith, ChangesWithin, Content, Left, LeavesOnly, Torn, size}
use Rattle.silt_engine.proofs.Common.{slot_at, shown_left, within_wider, current_manifest, ManifestState, IsCurrent, RecordIsCurrent, current_record, spare_slot, Body, Digests, SlotRecord}
use Rattle.silt_engine.proofs.Common.{StandsFor, image_map, image_stores, EngineState, Stands, base_map, shown_stores, waiting_commands, Advances, Breaks, Remaps, MayBecomeCurrent, BecomesCurrent}
use Rattle.silt_engine.proofs.Common.{within_trans, OldOrNewIsCurrent}
use Rattle.std.proofs.lemmas.List.{append-nil}
use Rattle.silt_manifest.specs.Digests.{long_record}
use Rattle.silt_engine.proofs.Facts.{active_is, base_is, base_stands}
use Rattle.silt_engine.proofs.Named.{named_shape, says_current, stands_for, stores_map}
use Rattle.silt_engine.proofs.Standing.{Fits, fits_stand, shown_are}
use Rattle.silt_engine.proofs.Turns.{begun_none, quiet_remap, current_named, same_named, waiting_remap}
use Rattle.silt_engine.proofs.Elsewhere.{honest_old, honest_new}

-- in an image this record is current
abbrev NextIsCurrent : EngineState → Body → Digests → List ℕ → Type 0
NextIsCurrent s body digests image = current_manifest s.manifest.shape image ≡ Some (long_record body digests)

-- in an image the old record is current, or this one
abbrev EitherIsCurrent : EngineState → Body → Digests → List ℕ → Type 0
EitherIsCurrent s body digests image = RecordIsCurrent s.manifest image ⊎ NextIsCurrent s body digests image

-- ---- the two steps

-- before the commit byte is opened the old record is current
pub before_commit : (new : Content) (s : EngineState) (body : Body) (digests : Digests) → LeavesOnly new (RecordIsCurrent s.manifest) → LeavesOnly new (EitherIsCurrent s body digests)
before_commit new s body digests each = record { each = λ h image left. inl (each.each h image left) }

module _ (s : EngineState) (body : Body) (digests : Digests) (m : ManifestState) (is : m ≡ record s.manifest { spare_closed = true; prepared = Some (long_record body digests) }) where
  -- at the commit byte either
  pub at_commit : (new : Content) → LeavesOnly new (OldOrNewIsCurrent m) → LeavesOnly new (EitherIsCurrent s body digests)
  at_commit new each = rw is at each

  -- both steps change the spare slot alone
  pub both_steps : (old middle new : Content) → ChangesWithin (slot_at (spare_slot s.manifest)) 4096 old middle
      → ChangesWithin (slot_at (spare_slot m)) 1 middle new → ChangesWithin (slot_at (spare_slot s.manifest)) 4096 old new
  both_steps old middle new first second = search (arith, within_trans, within_wider)

  -- after them the next record is current
  pub becomes_current : (old middle new : Content) (after : ManifestState) → ChangesWithin (slot_at (spare_slot s.manifest)) 4096 old middle → ChangesWithin (slot_at (spare_slot m)) 1 middle new
      → IsCurrent after new → after.shape ≡ m.shape → Some (current_record after) ≡ m.prepared → after.prepared ≡ None → BecomesCurrent old new s body digests after
  becomes_current old middle new after first second is_current same_shape opened idle =
      let next : current_record after ≡ long_record body digests = (let e : Some (current_record after) ≡ Some (long_record body digests) = opened ∙ ap (λ (n : ManifestState). n.prepared) is in cc) in
      record {
        current = is_current;
        has_shape = same_shape ∙ ap (λ (n : ManifestState). n.shape) is;
        has_body = ap (λ (r : SlotRecord). r.body) next;
        has_digests = ap (λ (r : SlotRecord). r.digests) next;
        idle = idle;
        changes = both_steps old middle new first second;
      }

-- ---- at every exit

module _ (old new : Content) (s : EngineState) (body : Body) (digests : Digests) (stands : Stands old s) (may : MayBecomeCurrent old s body digests) (sizes : size new ≡ size old)
    (changes : ChangesWithin (slot_at (spare_slot s.manifest)) 4096 old new) where
  slot_below : spare_slot s.manifest < 2
  slot_below = omega arith

  -- an image in which the record is current has the stores that it names
  next_named : (h : IsTrue new.honest) (before image : List ℕ) → Left old before → Torn (slot_at (spare_slot s.manifest)) 4096 before image
      → NextIsCurrent s body digests image → image_stores image ≡ Ok may.stores
  next_named h before image left torn is_current =
      current_named old new s _ slot_below stands sizes changes h before image _ (stands.named.each (honest_old changes h) before left) torn is_current
      ∙ ap Ok (may.names.each (honest_old changes h) before left)

  -- an image has the stores that were, and the old record is current
  abbrev StaysNamed : List ℕ → Type 0
  StaysNamed image = (image_stores image ≡ Ok (shown_stores old s)) × RecordIsCurrent s.manifest image

  -- or it has the next ones, and the next record is current
  abbrev TurnsNamed : List ℕ → Type 0
  TurnsNamed image = (image_stores image ≡ Ok may.stores) × NextIsCurrent s body digests image

  module _ (each : LeavesOnly new (EitherIsCurrent s body digests)) where
    -- each image has the stores that were or these
    old_or_new : LeavesOnly new (λ image. StaysNamed image ⊎ TurnsNamed image)
    old_or_new = record {
      each = λ h image left.
          let from = changes.left (honest_old changes h) image left in
          elim (each.each h image left) [
            | inl stays ↦ inl (same_named old new s _ slot_below stands sizes changes h from.0 image (stands.named.each (honest_old changes h) from.0 from.1) from.2 stays, stays)
            | inr turns ↦ inr (next_named h from.0 image from.1 from.2 turns, turns)
          ];
    }

    next_stands : IsTrue old.honest → (image : List ℕ) → TurnsNamed image → StandsFor s.manifest.shape (base_map old s) image
    next_stands h image (is, is_current) = stands_for s.manifest.shape may.stores (Some digests) (base_map old s) image is may.has_shape (may.sound h) (may.said h)
        (says_current _ _ _ image is may.has_shape is_current) (may.same_map h)

    -- each possible crash image represents the base
    pub manifest_breaks : Breaks old new s
    manifest_breaks = record {
      each = λ h image left. elim (old_or_new.each h image left) [
        | inl stays ↦ begun_none old s image (base_stands old s stands (honest_old changes h) image stays.0 stays.1)
        | inr turns ↦ begun_none old s image (next_stands (honest_old changes h) image turns)
      ];
    }

    -- the map of what is shown
    shown_base : IsTrue old.honest → image_map new.shown ≡ base_map old s
    shown_base h = elim (old_or_new.each (honest_new changes h) new.shown (shown_left new)) [
      | inl stays ↦ stores_map _ _ stays.0 ∙ sym (base_is old s)
      | inr turns ↦ stores_map _ _ turns.0 ∙ may.same_map h
    ]

    -- and of the full image: no row waits, or the same rows wait in the same log
    pub manifest_map : Remaps [] old new s s
    manifest_map h = elim may.waiting [
      | inl quiet ↦ quiet_remap old new s _ slot_below stands sizes changes quiet s quiet.settled h (shown_base h)
      | inr same ↦ elim (old_or_new.each (honest_new changes h) new.shown (shown_left new)) [
        | inl stays ↦ waiting_remap old new s _ slot_below stands sizes changes s _ refl (named_shape _ _ _) (active_is old s stands) h stays.0 (sym (base_is old s))
        | inr turns ↦ waiting_remap old new s _ slot_below stands sizes changes s _ refl may.has_shape (ap (λ (b : Body). b.active) may.has_body ∙ same) h turns.0 (may.same_map h)
      ]
    ]

-- ---- once the record is_current

module _ (old new : Content) (s : EngineState) (body : Body) (digests : Digests) (stands : Stands old s) (may : MayBecomeCurrent old s body digests)
    (sizes : size new ≡ size old) (m : ManifestState) (now : BecomesCurrent old new s body digests m) where
  -- each image has the stores that it names
  pub now_named : LeavesOnly new (λ image. image_stores image ≡ Ok may.stores)
  now_named = record {
    each = λ h image left.
        let from = now.changes.left (subst IsTrue now.changes.honest h) image left in
        next_named old new s body _ stands may sizes now.changes h from.0 image from.1 from.2 (cc (now.has_shape, (now.current.each h image left).current, now.has_body, now.has_digests));
  }

  -- stores that fit the disk with them, and with the same waiting rows, stand
  pub succeeds : (after : EngineState) → Fits new after may.stores → after.manifest.shape ≡ s.manifest.shape
      → (IsTrue old.honest → waiting_commands new after ≡ waiting_commands old s) → Advances [] old new s after
  succeeds after fits same_shape waiting = record {
    stands = fits_stand new after _ fits;
    shape = same_shape;
    moves = λ h. record {
      moved = [];
      rest = waiting h ∙ sym (append-nil (waiting_commands old s));
      base = cc (base_is new after, shown_are new after may.stores fits.same_shape fits.same_body fits.named (subst IsTrue (sym now.changes.honest) h), may.same_map h);
    };
  }
