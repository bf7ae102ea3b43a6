-- A slot of a conversion, written, and the slots settled.
use Rattle.silt_engine.proofs.Common.{◌≡◌, ◌≢◌, ◌<◌, ℕ, ◌+◌, ◌*◌, false, IsTrue, List, [], Option, Ok, inl, inr, refl, ap, ◌∙◌, subst, arith, IfSome, ChangesWithin, Content, LeavesOnly, LiesOutside}
use Rattle.silt_engine.proofs.Common.{Torn, size, Shape, entries_len, commits_at, hash_at, hash_size, log_len, row_len, slots_len, sorted_at, shown_left, torn_wider, regions_apart, up_least}
use Rattle.silt_engine.proofs.Common.{current_record_elsewhere, Stores, image_stores, pieces_apart, ConversionState, HasWritten, hash_slot_at, IsUnderWay, EngineState, names_hash, oldest_log}
use Rattle.silt_engine.proofs.Common.{Stands, shown_stores, Advances, Breaks, Remaps, SameDisk, Settles, Stays, failed_sync_within, left_after_failed_sync, left_after_sync, sync_within}
use Rattle.silt_engine.proofs.Common.{free_hash_law, behind_logs}
use Rattle.silt_hash_store.proofs.Reading.{slot_inside}
use Rattle.silt_engine.proofs.Named.{named_body, named_shape}
use Rattle.silt_engine.proofs.Facts.{active_below}
use Rattle.silt_engine.proofs.Elsewhere.{named_below, not_among, IsApart, IsPastEntries, on_some}
use Rattle.silt_engine.proofs.Chains.{advances_break, advances_remap}
use Rattle.silt_engine.proofs.Freezes.{merged_on, stays_on, stays_with}

-- ---- places

-- a slot of another hash region
slot_elsewhere : (shape : Shape) (region other slot : ℕ) → region ≢ other → slot < 4 * shape.buckets
    → LiesOutside (hash_at shape region) (slots_len shape) (hash_slot_at shape other slot) (row_len shape)
slot_elsewhere shape region other slot differ below =
    let rows = up_least (4 * shape.buckets * row_len shape) in
    elim (pieces_apart (hash_at shape 0) region other (hash_size shape) differ) [
      | inl before ↦ inr (omega (arith, before, rows))
      | inr behind ↦ inl (omega (arith, behind, rows, slot_inside shape other slot (hash_at shape other + 4 * shape.buckets * row_len shape) (omega arith) below))
    ]

-- the entries of each sorted region lie behind the slots
entries_behind : (shape : Shape) (region slot sorted : ℕ) → region < shape.hashes → slot < 4 * shape.buckets
    → LiesOutside (sorted_at shape sorted) (entries_len shape) (hash_slot_at shape region slot) (row_len shape)
entries_behind shape region slot sorted there below =
    let regions = regions_apart shape in
    inl (omega (arith, slot_inside shape region slot (hash_at shape region + 4 * shape.buckets * row_len shape) (omega arith) below, regions.hashes region shape.hashes there, regions.hash_end sorted))

-- a slot lies in its region
in_region : (shape : Shape) (region slot : ℕ) (before image : List ℕ) → slot < 4 * shape.buckets
    → Torn (hash_slot_at shape region slot) (row_len shape) before image → Torn (hash_at shape region) (hash_size shape) before image
in_region shape region slot before image below torn =
    torn_wider (hash_at shape region) (hash_size shape) (omega arith)
    (omega (arith, slot_inside shape region slot (hash_at shape region + 4 * shape.buckets * row_len shape) (omega arith) below, up_least (4 * shape.buckets * row_len shape))) torn

-- ---- a slot is written

module _ (old new : Content) (s : EngineState) (region slot : ℕ) (stands : Stands old s) (free : names_hash s.manifest.current region ≡ false)
    (there : region < s.manifest.shape.hashes) (below : slot < 4 * s.manifest.shape.buckets)
    (sizes : size new ≡ size old) (changes : ChangesWithin (hash_slot_at s.manifest.shape region slot) (row_len s.manifest.shape) old new) where
  slot_disk : SameDisk old new
  slot_disk = record { size = sizes; honest = changes.honest }

  -- each possible crash image has the same stores
  slot_named : LeavesOnly new (λ image. image_stores image ≡ Ok (shown_stores old s))
  slot_named = record {
    each = λ h image left.
        let o : IsTrue old.honest = subst IsTrue changes.honest h in
        let t : Stores = shown_stores old s in
        let t_shape : t.shape ≡ s.manifest.shape = named_shape _ _ _ in
        let from = changes.left o image left in
        free_hash_law from.0 image t region (stands.named.each o from.0 from.1) (rw (← t_shape) at there) (cc (named_body s.manifest.shape s.manifest.current
        old.shown)) (rw (← t_shape) at (in_region s.manifest.shape region slot from.0 image below from.2));
  }

  slot_apart : IsTrue old.honest → IsApart s.manifest.shape s.manifest.current (hash_slot_at s.manifest.shape region slot) (row_len s.manifest.shape)
  slot_apart h = search (arith, behind_logs, named_below, slot_elsewhere, not_among, entries_behind)

  outside_active : LiesOutside (commits_at s.manifest.shape s.manifest.current.active) (log_len s.manifest.shape) (hash_slot_at s.manifest.shape region slot) (row_len s.manifest.shape)
  outside_active = behind_logs s.manifest.shape s.manifest.current.active region slot (active_below old s stands)

  -- the stores still stand, with the conversion as it is then
  pub slot_advances : (converting : Option ConversionState) → IfSome converting (IsUnderWay s) → IfSome converting (HasWritten new (oldest_log s))
      → Advances [] old new s (record s { converting = converting })
  slot_advances converting under_way written = stays_with old new s _ _ stands sizes changes slot_apart outside_active _ _ _ refl refl refl stands.idle
      (current_record_elsewhere _ _ _ old new (omega (arith, stands.has_size)) (inr (omega arith)) changes stands.current) slot_named under_way written
      stands.whole.merging (merged_on old new s _ _ stands sizes changes slot_apart outside_active (λ h. search (arith, on_some, entries_behind)))

  pub slot_map : (converting : Option ConversionState) → IfSome converting (IsUnderWay s) → IfSome converting (HasWritten new (oldest_log s))
      → Remaps [] old new s (record s { converting = converting })
  slot_map converting under_way written = advances_remap [] old new s _ slot_disk stands (slot_advances _ under_way written)

  pub slot_breaks : (converting : Option ConversionState) → IfSome converting (IsUnderWay s) → IfSome converting (HasWritten new (oldest_log s)) → Breaks old new s
  slot_breaks converting under_way written = advances_break old new s _ slot_disk (slot_advances _ under_way written)

-- ---- the slots are settled

module _ (old new : Content) (s : EngineState) (stands : Stands old s) (sizes : size new ≡ size old) where
  -- if nothing is changed, and each image has the same stores, the stores still stand
  still_advances : ChangesWithin 0 0 old new → LeavesOnly new (λ image. image_stores image ≡ Ok (shown_stores old s)) → Advances [] old new s s
  still_advances changes named = stays_on old new s 0 0 stands sizes changes (search arith) (inl (omega arith)) (search (arith, on_some)) (λ h. on_some (IsPastEntries s.manifest.shape 0 0) _ (λ
      merge. inl (omega arith))) _ refl refl refl stands.idle (current_record_elsewhere _ 0 0 old new (omega (arith, stands.has_size)) (inl (omega arith)) changes stands.current) named

  pub sync_advances : Settles old new → Advances [] old new s s
  sync_advances settles = still_advances (sync_within 0 0 settles) (record {
    each = λ h image left.
        let o : IsTrue old.honest = subst IsTrue settles.honest h in
        ap image_stores (left_after_sync settles o image left) ∙ stands.named.each o old.shown (shown_left old);
  })

  pub failed_advances : Stays old new → Advances [] old new s s
  failed_advances stays = still_advances (failed_sync_within 0 0 stays) (record {
    each = λ h image left.
        let o : IsTrue old.honest = subst IsTrue stays.honest h in
        stands.named.each o image (left_after_failed_sync stays o image left);
  })
