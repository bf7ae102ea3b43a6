-- The disk after the write of an entry.
use Rattle.silt_sorted_store.proofs.Common.{◌≡◌, ℕ, ◌+◌, ◌*◌, ◌<◌, ◌≤◌, ◌&&◌, nat_lt, Bool, true, false, cond, IsTrue, List, ◌++◌, length, take, sym, subst, ap, ◌∙◌, arith, append-nil, le-ltb}
use Rattle.silt_sorted_store.proofs.Common.{lt-ltb, length-append, take-append-le, take_all, ChangesWithin, Content, Tears, Writes, size, Shape, device_size, entry_len, sorted_at, splice_slice}
use Rattle.silt_sorted_store.proofs.Common.{within_wider, write_within, sorted_rows, sorted_entry_at}
use Rattle.silt_sorted_store.specs.Region.{due_rows, is_written}
use Rattle.silt_sorted_store.proofs.Elsewhere.{entries_before, entries_inside, entry_more}
use Rattle.silt_sorted_store.proofs.Entries.{entry_count, part_inside}

module _ (s : Shape) (region place : ℕ) where
  -- if there is no entry to write, nothing is written
  pub none_due : (image bytes : List ℕ) (due : Bool) → place ≤ s.sorted_capacity → due ≡ false
      → sorted_rows s region place image ≡ take s.sorted_capacity (sorted_rows s region place image ++ due_rows due bytes)
  none_due image bytes due most none = search (arith, entry_count, append-nil, take_all)

  -- nor if the region is full
  pub none_more : (image bytes : List ℕ) (due : Bool) → place ≡ s.sorted_capacity → sorted_rows s region place image ≡ take s.sorted_capacity (sorted_rows s region place image ++ due_rows due bytes)
  none_more image bytes due full = search (arith, entry_count, take-append-le, take_all)

  module _ (at : ℕ) (bytes : List ℕ) (old new : Content) (here : at ≡ sorted_entry_at s region place) (long : length bytes ≡ entry_len s) (tears : Tears at (length bytes) old new) where
    -- only the entry is changed
    pub entry_changes : ChangesWithin (sorted_entry_at s region place) (entry_len s) old new
    entry_changes = subst (λ a. ChangesWithin a (entry_len s) old new) here (subst (λ n. ChangesWithin at n old new) long (write_within tears))

    -- which is one of the region's
    pub region_changes : place < s.sorted_capacity → ChangesWithin (sorted_at s region) (s.sorted_capacity * entry_len s) old new
    region_changes below =
        let inside = part_inside (sorted_at s region) (entry_len s) s.sorted_capacity place (sorted_at s region + s.sorted_capacity * entry_len s) (omega arith) below in
        within_wider (sorted_at s region) (s.sorted_capacity * entry_len s) (omega arith) inside entry_changes

    -- the entries before it stay
    pub entries_kept : region < 2 → place < s.sorted_capacity → device_size s ≤ size old → IsTrue old.honest → sorted_rows s region place new.shown ≡ sorted_rows s region place old.shown
    entries_kept there below fits honest = entries_before s region place old.shown new.shown (omega (arith, entries_inside s region there)) (omega arith) (entry_changes.shown honest)

    -- and it is the next one
    pub entry_written : (due : Bool) → due ≡ true → region < 2 → place < s.sorted_capacity → device_size s ≤ size old → Writes at bytes old new → IsTrue old.honest
        → sorted_rows s region (place + 1) new.shown ≡ take s.sorted_capacity (sorted_rows s region place old.shown ++ due_rows due bytes)
    entry_written due is there below fits writes honest =
        let ends = entries_inside s region there in
        let inside = part_inside (sorted_at s region) (entry_len s) _ place (size old) (omega (arith, ends)) below in
        search (arith, entry_count, length-append, splice_slice, entry_more, entries_kept, take_all, writes.shown)

-- an entry that is not due is not written
pub not_due : (due : Bool) (place capacity : ℕ) → due ≡ false → is_written due place capacity ≡ false
not_due due place capacity none = ap (λ d. d && nat_lt place capacity) none

-- nor one that the region has no place for
pub not_there : (due : Bool) (place capacity : ℕ) → due ≡ true → place ≡ capacity → is_written due place capacity ≡ false
not_there due place capacity is full = ap (λ d. d && nat_lt place capacity) is ∙ le-ltb place capacity (omega (arith, full))

-- one that is due is written if there is a place for it
pub due_there : (due : Bool) (place capacity : ℕ) → due ≡ true → place < capacity → is_written due place capacity ≡ true
due_there due place capacity is below = ap (λ d. d && nat_lt place capacity) is ∙ lt-ltb place capacity below

-- the number of entries after an entry that is not written, and after one that is
pub none_counted : (written : Bool) (place : ℕ) → written ≡ false → place ≡ place + cond written 1 0
none_counted written place none = subst (λ w. place ≡ place + cond w 1 0) (sym none) (omega arith)

pub one_counted : (written : Bool) (place : ℕ) → written ≡ true → place + 1 ≡ place + cond written 1 0
one_counted written place one = subst (λ w. place + 1 ≡ place + cond w 1 0) (sym one) (omega arith)
