-- An entry of a merge, written into the sorted region that the body does not name.
use Rattle.silt_engine.proofs.Common.{◌≡◌, ◌≢◌, ◌<◌, ℕ, ◌*◌, IsTrue, [], Option, Some, None, Ok, inl, inr, refl, ap, sym, ◌∙◌, subst, arith, IfSome, ChangesWithin, Content, LeavesOnly, LiesOutside}
use Rattle.silt_engine.proofs.Common.{size, Shape, entries_len, entry_len, commits_at, hash_at, hash_size, log_len, log_size, row_len, slots_len, sorted_at, sorted_size, regions_apart, up_least}
use Rattle.silt_engine.proofs.Common.{current_record_elsewhere, Body, ConversionState, Stores, image_stores, pieces_apart, MergeState, SortedState, IsMerging, IsUnderWay, EngineState, HasGathered}
use Rattle.silt_engine.proofs.Common.{Stands, shown_stores, Advances, Breaks, Remaps, SameDisk, free_sorted_law, log_ends_before}
use Rattle.silt_engine.proofs.Named.{named_body, named_shape}
use Rattle.silt_engine.proofs.Facts.{active_below}
use Rattle.silt_engine.proofs.Elsewhere.{hash_below, named_below, written_all_elsewhere, IsApart, IsOutsideConversion, IsPastSlots}
use Rattle.silt_engine.proofs.Chains.{advances_break, advances_remap}
use Rattle.silt_engine.proofs.Freezes.{stays_with}

-- ---- places

-- a sorted region lies behind each log
behind_log : (shape : Shape) (region sorted : ℕ) → region < shape.logs → LiesOutside (commits_at shape region) (log_len shape) (sorted_at shape sorted) (sorted_size shape)
behind_log shape region sorted below =
    inr (omega (arith, log_ends_before (log_size shape) shape.logs region (shape.hashes * hash_size shape) (sorted * sorted_size shape) below, up_least (shape.log_capacity * row_len shape)))

-- and behind each hash region
behind_hash : (shape : Shape) (region sorted : ℕ) → region < shape.hashes → LiesOutside (hash_at shape region) (slots_len shape) (sorted_at shape sorted) (sorted_size shape)
behind_hash shape region sorted below = search (arith, regions_apart)

-- the other sorted region lies outside
other_sorted : (shape : Shape) (region other : ℕ) → region ≢ other → LiesOutside (sorted_at shape region) (entries_len shape) (sorted_at shape other) (sorted_size shape)
other_sorted shape region other differ =
    elim (pieces_apart (sorted_at shape 0) region other (sorted_size shape) differ) [
      | inl before ↦ inr (omega (arith, before, up_least (shape.sorted_capacity * entry_len shape)))
      | inr behind ↦ inl (omega (arith, behind))
    ]

-- ---- an entry is written

module _ (old new : Content) (s : EngineState) (region : ℕ) (stands : Stands old s) (there : region < 2) (apart : s.sorted.region ≢ region) (sizes : size new ≡ size old)
    (changes : ChangesWithin (sorted_at s.manifest.shape region) (sorted_size s.manifest.shape) old new) where
  entry_disk : SameDisk old new
  entry_disk = record { size = sizes; honest = changes.honest }

  -- the body names the other region
  not_named : s.manifest.current.sorted ≢ region
  not_named same = apart (ap (λ (t : SortedState). t.region) stands.whole.sorted ∙ same)

  -- each possible crash image has the same stores
  entry_named : LeavesOnly new (λ image. image_stores image ≡ Ok (shown_stores old s))
  entry_named = record {
    each = λ h image left.
        let o : IsTrue old.honest = subst IsTrue changes.honest h in
        let t : Stores = shown_stores old s in
        let t_shape : t.shape ≡ s.manifest.shape = named_shape _ _ _ in
        let t_sorted : t.body.sorted ≡ s.manifest.current.sorted = ap (λ (b : Body). b.sorted) (named_body _ _ _) in
        let from = changes.left o image left in
        free_sorted_law from.0 image t region (stands.named.each o from.0 from.1) there (λ same. not_named (sym (same ∙ t_sorted))) (rw (← t_shape) at from.2);
  }

  entry_apart : IsTrue old.honest → IsApart s.manifest.shape s.manifest.current (sorted_at s.manifest.shape region) (sorted_size s.manifest.shape)
  entry_apart h = search (arith, behind_log, named_below, behind_hash, hash_below, other_sorted, not_named)

  outside_active : LiesOutside (commits_at s.manifest.shape s.manifest.current.active) (log_len s.manifest.shape) (sorted_at s.manifest.shape region) (sorted_size s.manifest.shape)
  outside_active = behind_log _ _ region (active_below old s stands)

  outside_conversion : IsOutsideConversion s (sorted_at s.manifest.shape region) (sorted_size s.manifest.shape)
  outside_conversion = behind _ stands.whole.under_way
    where
      behind : (o : Option ConversionState) → IfSome o (IsUnderWay s) → IfSome o (IsPastSlots s.manifest.shape (sorted_at s.manifest.shape region) (sorted_size s.manifest.shape))
      behind None way = tt
      behind (Some conversion) way =
          let is : IsUnderWay s conversion = way in
          behind_hash _ _ region is.there

  -- the stores still stand, with the merge as it is then
  pub entry_advances : (merging : Option MergeState) → IfSome merging (IsMerging s) → IfSome merging (HasGathered new s) → Advances [] old new s (record s { merging = merging })
  entry_advances merging is_merging merged = stays_with old new s _ _ stands sizes changes entry_apart outside_active _ _ _ refl refl refl stands.idle
      (current_record_elsewhere _ _ _ old new (omega (arith, stands.has_size)) (inr (omega arith)) changes stands.current) entry_named stands.whole.under_way
      (written_all_elsewhere old new s _ _ stands changes entry_apart _ (λ h. outside_conversion) stands.whole.under_way stands.written) is_merging merged

  pub entry_map : (merging : Option MergeState) → IfSome merging (IsMerging s) → IfSome merging (HasGathered new s) → Remaps [] old new s (record s { merging = merging })
  entry_map merging is_merging merged = advances_remap [] old new s _ entry_disk stands (entry_advances _ is_merging merged)

  -- also if it was not written
  pub entry_breaks : Breaks old new s
  entry_breaks = advances_break old new s _ entry_disk (entry_advances None tt tt)

  pub entry_failed_map : Remaps [] old new s s
  entry_failed_map = entry_map None tt tt
