-- What calls on other parts of the disk leave of a hash store.
use Rattle.silt_hash_store.proofs.Common.{◌≡◌, ℕ, ◌+◌, ◌*◌, ◌≤◌, ◌<◌, IsTrue, List, length, sym, ap, ◌∙◌, inl, inr, arith, LiesOutside, Torn, size, Shape, device_size, commits_at, hash_at}
use Rattle.silt_hash_store.proofs.Common.{log_len, row_len, slots_len, row_of, hash_rows, hash_slot_at, map_range_same, HashElsewhereLaw}
use Rattle.silt_disk.proofs.Images.{torn_slice_after, torn_slice_before}
use Rattle.silt_hash_store.specs.Slots.{rows_before, slot_row}
use Rattle.silt_hash_store.proofs.Reading.{slot_inside}
use Rattle.silt_hash_store.proofs.Slotting.{all_before}

-- the slots of a hash region lie within the device
pub slots_inside : (s : Shape) (region : ℕ) → region < s.hashes → hash_at s region + 4 * s.buckets * row_len s ≤ device_size s
slots_inside s region there = grind arith

-- and after every log
pub behind_logs : (s : Shape) (log_region region slot : ℕ) → log_region < s.logs → LiesOutside (commits_at s log_region) (log_len s) (hash_slot_at s region slot) (row_len s)
behind_logs s log_region region slot there = grind arith

-- a change outside the slots leaves each row
pub slot_outside : (s : Shape) (region slot at count : ℕ) (old new : List ℕ) → hash_at s region + 4 * s.buckets * row_len s ≤ length old
    → slot < 4 * s.buckets → LiesOutside (hash_at s region) (slots_len s) at count
    → Torn at count old new → slot_row s region new slot ≡ slot_row s region old slot
unfolding slot_row
slot_outside s region slot at count old new fits below outside torn =
    let inside = slot_inside s region slot (length old) fits below in
    elim outside [
      | inl before ↦ ap row_of (torn_slice_after at count old new torn (hash_slot_at s region slot) (hash_slot_at s region slot + row_len s) (omega (arith, before)) inside)
      | inr behind ↦
          let ends = slot_inside s region slot at behind below in
          ap row_of (torn_slice_before at count old new torn (hash_slot_at s region slot) (hash_slot_at s region slot + row_len s) ends inside)
    ]

-- and so all rows
rows_same : (s : Shape) (region at count : ℕ) (old new : List ℕ) → hash_at s region + 4 * s.buckets * row_len s ≤ length old
    → LiesOutside (hash_at s region) (slots_len s) at count → Torn at count old new
    → hash_rows s region new ≡ hash_rows s region old
unfolding rows_before
rows_same s region at count old new fits outside torn =
    all_before s region new
    ∙ map_range_same (slot_row s region new) (slot_row s region old) 0 (4 * s.buckets) (λ slot low high. slot_outside s region slot at count old new fits (omega arith) outside torn)
    ∙ sym (all_before s region old)

-- a hash store still matches the disk
pub hash_elsewhere : HashElsewhereLaw
hash_elsewhere store old new at count held fits outside changes is =
    let inside : hash_at store.shape store.region + 4 * store.shape.buckets * row_len store.shape ≤ size old = omega (arith, slots_inside store.shape store.region held.there, fits) in record {
      sound = λ honest.
          let was : IsTrue old.honest = sym changes.honest ∙ honest in
          cc (rows_same store.shape store.region at count old.shown new.shown inside outside (changes.shown was), is.sound was);
      tagged = λ honest slot below.
          let was : IsTrue old.honest = sym changes.honest ∙ honest in
          cc (is.tagged was slot below, slot_outside store.shape store.region slot at count old.shown new.shown inside below outside (changes.shown was));
      counted = λ honest.
          let was : IsTrue old.honest = sym changes.honest ∙ honest in
          cc (is.counted was, rows_same store.shape store.region at count old.shown new.shown inside outside (changes.shown was));
      digested = λ honest.
          let was : IsTrue old.honest = sym changes.honest ∙ honest in
          cc (is.digested was, rows_same store.shape store.region at count old.shown new.shown inside outside (changes.shown was));
    }
