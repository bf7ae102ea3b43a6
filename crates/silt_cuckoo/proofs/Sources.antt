-- The slot that the entry of each slot comes from, when entries move along a path.
use Rattle.silt_cuckoo.proofs.Common.{◌≡◌, ◌≢◌, ◌⊎◌, inl, inr, ℕ, ◌/◌, ◌<◌, ◌==◌, if◌then◌else◌, min, max, List, [], ◌∷◌, length, Option, Some, None, option_map, refl, sym, subst, ap, ◌∙◌, arith}
use Rattle.silt_cuckoo.proofs.Common.{get_or-set_other, get_or-set_same, length-set, cases_eq, Slots, Entry, IsTable, bucket_count, entry_at, tag_at, place_at, moved_entry, pair_at, pair_of}
use Rattle.silt_cuckoo.proofs.Common.{unwrap_or, eq-eqb, ne_eqb}
use Rattle.silt_cuckoo.proofs.Search.{some_or_none}
use Rattle.silt_cuckoo.specs.Placing.{moved_along}
use Rattle.silt_cuckoo.proofs.Paths.{IsOn, NoneTwice, LeadsOn, HasTag}

-- the slot from which the entry of a slot came
abbrev pub source : List ℕ → ℕ → ℕ
source [] x = x
source (s ∷ []) x = x
source (s ∷ u ∷ path) x = if x == u then s else source (u ∷ path) x

-- the next slot has the entry of the slot before it
pub source_next : (s u : ℕ) (path : List ℕ) (x : ℕ) → x ≡ u → source (s ∷ u ∷ path) x ≡ s
source_next s u path x same = let test = eq-eqb x u same in rw test refl

-- every other slot has what it has without that move
pub source_other : (s u : ℕ) (path : List ℕ) (x : ℕ) → x ≢ u → source (s ∷ u ∷ path) x ≡ source (u ∷ path) x
source_other s u path x other = let test = ne_eqb x u other in rw test refl

-- equal slots are on the same paths
on_same : (a b : ℕ) (path : List ℕ) → a ≡ b → IsOn a path → IsOn b path
on_same a b path same on = subst (λ x. IsOn x path) same on

-- an entry comes from its own slot or from one of the path
pub source_on : (path : List ℕ) (x : ℕ) → (source path x ≡ x) ⊎ IsOn (source path x) path
source_on [] x = inl refl
source_on (s ∷ []) x = inl refl
source_on (s ∷ u ∷ path) x = search (arith, source_on (u ∷ path) x, cases_eq, source_next, source_other, on_same)

-- an entry off the path stays
pub source_off : (path : List ℕ) (x : ℕ) → ¬ IsOn x path → source path x ≡ x
source_off [] x off = refl
source_off (s ∷ []) x off = refl
source_off (s ∷ u ∷ path) x off = search (arith, source_off (u ∷ path) x, source_other)

-- behind the path's first slot no other entry comes from it
source_not_first : (s u : ℕ) (path : List ℕ) (y : ℕ) → NoneTwice (s ∷ u ∷ path) → y ≢ s → source (u ∷ path) y ≢ s
source_not_first s u path y twice other same = elim (source_on (u ∷ path) y) [
  | inl stays ↦ other (sym stays ∙ same)
  | inr on ↦ twice.0 (on_same (source (u ∷ path) y) s (u ∷ path) same on)
]

-- but for the path's first slot, no two slots have their entries from one
pub source_apart : (s : ℕ) (path : List ℕ) (x y : ℕ) → NoneTwice (s ∷ path) → x ≢ s → y ≢ s → source (s ∷ path) x ≡ source (s ∷ path) y → x ≡ y
source_apart s [] x y twice x_not y_not same = same
source_apart s (u ∷ path) x y twice x_not y_not same = search (arith, source_apart u path x y twice.1, cases_eq, source_not_first, source_other, source_next)

-- each entry goes to a slot other than the path's first
pub target : (slots : Slots) (s : ℕ) (path : List ℕ) (y : ℕ) (e : Entry) → LeadsOn slots (s ∷ path) → NoneTwice (s ∷ path) → entry_at slots y ≡ Some e → (x : ℕ) × (x ≢ s) × (source (s ∷ path) x ≡ y)
target slots s [] y e leads twice is = search arith
target slots s (u ∷ path) y e leads twice is = elim (cases_eq y s) [
  | inl same ↦ (u, λ is_s. twice.0 (inl (sym is_s)), source_next s u path u refl ∙ sym same)
  | inr other ↦
      search (arith, target slots u path y e leads.1 twice.1 is, source_not_first, source_off, source_other)
]

-- the moves keep the number of slots
pub length_moved : (slots : Slots) (path : List ℕ) → length (moved_along slots path) ≡ length slots
unfolding moved_along
length_moved slots [] = refl
length_moved slots (s ∷ []) = refl
length_moved slots (s ∷ u ∷ path) = search (arith, length_moved slots (u ∷ path), length-set)

-- the place of an entry that moves
place_moved : (slots : Slots) (s : ℕ) → option_map (λ (e : Entry). e.1) (moved_entry slots s) ≡ place_at slots s
place_moved slots s = elim (some_or_none (entry_at slots s)) [ inl none ↦ rw none | inr (e, is) ↦ rw is ]

-- two buckets in either order are one pair
pub pair_of-swap : (a b : ℕ) → pair_of a b ≡ pair_of b a
pair_of-swap a b = let low : min a b ≡ min b a = omega arith in let high : max a b ≡ max b a = omega arith in cc

-- the pair of an entry that moves to the bucket of its tag
pair_moved : (slots : Slots) (s u : ℕ) → HasTag slots s (u / 4) → option_map (λ (e : Entry). pair_of (u / 4) e.0) (moved_entry slots s) ≡ pair_at slots s
pair_moved slots s u (e, is, tag) = rw is (ap Some (pair_of-swap (u / 4) (s / 4) ∙ ap (pair_of (s / 4)) (sym tag)))

-- after the moves each slot has the place that its source had
pub place_at-moved_along : (slots : Slots) (path : List ℕ) (x : ℕ) → ((s : ℕ) → IsOn s path → s < length slots) → place_at (moved_along slots path) x ≡ place_at slots (source path x)
unfolding moved_along
place_at-moved_along slots [] x inside = refl
place_at-moved_along slots (s ∷ []) x inside = refl
place_at-moved_along slots (s ∷ u ∷ path) x inside = elim (cases_eq x u) [
  | inl same ↦
      let long : u < length (moved_along slots (u ∷ path)) = omega (arith, length_moved slots (u ∷ path), inside u (inr (inl refl))) in
      cc (get_or-set_same (moved_along slots (u ∷ path)) u (moved_entry slots s) None long, place_moved slots s, source_next s u path x same)
  | inr other ↦
      let rest = place_at-moved_along slots (u ∷ path) x (λ t on. inside t (inr on)) in
      cc (get_or-set_other (moved_along slots (u ∷ path)) u x (moved_entry slots s) None other, source_other s u path x other)
]

-- and the pair that its source had
pub pair_at-moved_along : (slots : Slots) (path : List ℕ) (x : ℕ) → LeadsOn slots path → ((s : ℕ) → IsOn s path → s < length slots) → pair_at (moved_along slots path) x ≡ pair_at slots (source path x)
unfolding moved_along
pair_at-moved_along slots [] x leads inside = refl
pair_at-moved_along slots (s ∷ []) x leads inside = refl
pair_at-moved_along slots (s ∷ u ∷ path) x leads inside = elim (cases_eq x u) [
  | inl same ↦
      let long : u < length (moved_along slots (u ∷ path)) = omega (arith, length_moved slots (u ∷ path), inside u (inr (inl refl))) in
      rw (same, source_next s u path u refl, get_or-set_same (moved_along slots (u ∷ path)) u (moved_entry slots s) None long) (pair_moved slots s u leads.0)
  | inr other ↦
      rw (source_other s u path x other, get_or-set_other (moved_along slots (u ∷ path)) u x (moved_entry slots s) None other)
      (pair_at-moved_along slots (u ∷ path) x leads.1 (λ t on. inside t (inr on)))
]

-- the tags after the moves are numbers of buckets
pub tag_at-moved_along : (slots : Slots) (path : List ℕ) (x : ℕ) → IsTable slots → ((s : ℕ) → IsOn s path → s < length slots) → tag_at (moved_along slots path) x < bucket_count slots
unfolding moved_along
tag_at-moved_along slots [] x table inside = table.tags_below x
tag_at-moved_along slots (s ∷ []) x table inside = table.tags_below x
tag_at-moved_along slots (s ∷ u ∷ path) x table inside = elim (cases_eq x u) [
  | inl same ↦
      let long : u < length (moved_along slots (u ∷ path)) = omega (arith, length_moved slots (u ∷ path), inside u (inr (inl refl))) in
      let there = get_or-set_same (moved_along slots (u ∷ path)) u (moved_entry slots s) None long in
      let here : s < length slots = inside s (inl refl) in
      let low : unwrap_or (option_map (λ (e : Entry). e.0) (moved_entry slots s)) 0 < bucket_count slots =
      moved_tag (entry_at slots s) s (omega (arith, table.four_each)) (omega (arith, table.buckets.least)) in
      rw (same, there) low
  | inr other ↦ rw (get_or-set_other (moved_along slots (u ∷ path)) u x (moved_entry slots s) None other) (tag_at-moved_along slots (u ∷ path) x table (λ t on. inside t (inr on)))
]
  where
    moved_tag : (o : Option Entry) (s : ℕ) → s / 4 < bucket_count slots → 0 < bucket_count slots
        → unwrap_or (option_map (λ (e : Entry). e.0) (option_map (λ (e : Entry). (s / 4, e.1)) o)) 0 < bucket_count slots
    moved_tag None s low some = some
    moved_tag (Some e) s low some = low
