-- The map of the rows that wait, by the bytes of keys.
use Rattle.silt_merge.proofs.Common.{◌≡◌, ◌≢◌, ℕ, false, true, cond, List, Option, Some, None, refl, ap, ◌∙◌, bytes_eq, Less, slice_cmp, is_eq-slice_cmp, Key, Row, Gathers, source_at, Source}
use Rattle.silt_merge.proofs.Common.{BTreeMap, is_some, is_gt, nat_cmp, ordering_reverse, key_cmp}
use Rattle.std.specs.Cmp.Lexicographic.{nat_list_cmp_total}
use Rattle.silt_merge.proofs.Newest.{key_is, prefer}
use Rattle.std.specs.BTreeMap as tree

-- no row waits for a key below the first
pub first_least : (waiting : BTreeMap Key Source) (key : Key) → tree.IsLowerBound key_cmp waiting key → (other : List ℕ) (its : Source)
    → source_at waiting.entries other ≡ Some its → slice_cmp nat_cmp other key.0 ≢ Less
first_least waiting key least other its is less =
    let not_above : is_gt (slice_cmp nat_cmp key.0 other) ≡ false = least (record { 0 = other }) (ap is_some is) in
    let above : is_gt (slice_cmp nat_cmp key.0 other) ≡ true = ap is_gt (nat_list_cmp_total.antisymm key.0 other ∙ ap ordering_reverse less) in
    absurd (cc)

-- a row that is kept
pub kept_row : (store slot : ℕ) (row : Row) (before after : BTreeMap Key Source) → is_some (source_at before.entries row.key.0) ≡ false
    → tree.Updates key_cmp before after row.key (Some (record { kind = row.kind; store = store; slot = slot })) → Gathers store slot (Some row) before.entries after.entries
kept_row store slot row before after lacks updates key =
    let source : Source = record { kind = row.kind; store = store; slot = slot } in
    updates.0 (record { 0 = key })
    ∙ ap (λ b. cond b (Some source) (source_at before.entries key)) (is_eq-slice_cmp row.key.0 key)
    ∙ prefer _ source _ (λ same. nothing _ (cc (key_is row.key.0 key same)))
  where
    nothing : (o : Option Source) → is_some o ≡ false → o ≡ None
    nothing None none = refl
    nothing (Some source) none = absurd (cc)

-- a row that is let go
pub remove_waiting : (key : Key) (before after : BTreeMap Key Source) → tree.UpdatesBy key_cmp (key_cmp key) before after None
    → (other : List ℕ) → source_at after.entries other ≡ cond (bytes_eq key.0 other) None (source_at before.entries other)
remove_waiting key before after updates other = cc (updates.0 (record { 0 = other }), is_eq-slice_cmp key.0 other)
