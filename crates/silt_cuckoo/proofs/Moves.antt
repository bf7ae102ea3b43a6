-- Laws of moving entries along a path.
use Rattle.silt_cuckoo.proofs.Common.{◌≡◌, ◌≢◌, ℕ, suc, ◌+◌, ◌<◌, ◌≤◌, List, [], ◌∷◌, length, drop, slice_set, slice_index, Option, None, refl, sym, ◌∙◌, arith, get_or-set_other, length-drop}
use Rattle.silt_cuckoo.proofs.Common.{Slots, Entry, entry_at, moved_entry, get_or-drop, drop_more}
use Rattle.silt_cuckoo.specs.Placing.{moved_along}

-- a slot that is not behind the path's first keeps its entry
pub moved_other : (slots : Slots) (path : List ℕ) (x : ℕ) → ((j : ℕ) → 1 ≤ j → j < length path → slice_index path j ≢ x) → entry_at (moved_along slots path) x ≡ entry_at slots x
unfolding moved_along
moved_other slots [] x apart = refl
moved_other slots (s ∷ []) x apart = refl
moved_other slots (s ∷ u ∷ path) x apart =
    let not_u : x ≢ u = λ e. apart 1 (omega arith) (omega arith) (sym e) in
    get_or-set_other (moved_along slots (u ∷ path)) u x (moved_entry slots s) None not_u
    ∙ moved_other slots (u ∷ path) x (λ j low high. apart (suc j) (omega arith) (omega arith))

-- one entry more
pub moved_more : (slots : Slots) (path : List ℕ) (k : ℕ) → k + 1 < length path
    → moved_along slots (drop k path) ≡ slice_set (moved_along slots (drop (k + 1) path)) (slice_index path (k + 1)) (moved_entry slots (slice_index path k))
unfolding moved_along
moved_more slots path k long = rw (drop_more path k 0 (omega arith), drop_more path (k + 1) 0 (omega arith))

-- the last slot alone moves nothing
pub moved_last : (slots : Slots) (path : List ℕ) → length path ≤ 1 → moved_along slots path ≡ slots
unfolding moved_along
moved_last slots [] short = refl
moved_last slots (s ∷ []) short = refl
moved_last slots (s ∷ u ∷ path) short = absurd (omega arith)

-- a turn of the loop: the entry of the slot before goes to its place
pub moved_turn : (slots now : Slots) (path : List ℕ) (k : ℕ) (entry : Option Entry) → now ≡ moved_along slots (drop (k + 1) path) → k + 1 < length path
    → ((i j : ℕ) → i < j → j < length path → slice_index path j ≢ slice_index path i)
    → entry ≡ moved_entry now (slice_index path k) → slice_set now (slice_index path (k + 1)) entry ≡ moved_along slots (drop k path)
moved_turn slots now path k entry so_far long apart is = search (arith, moved_other, get_or-drop, length-drop, moved_more)
