-- The table after a new entry was put along a path.
use Rattle.silt_cuckoo.proofs.Common.{◌≡◌, ◌≢◌, ◌⊎◌, inl, inr, ℕ, ◌/◌, ◌<◌, ◌==◌, true, List, [], ◌∷◌, length, Option, Some, None, option_map, refl, sym, ap, ◌∙◌, arith, get_or-set_other}
use Rattle.silt_cuckoo.proofs.Common.{get_or-set_same, length-set, cases_eq, cases_Bool, Slots, Entry, IsTable, PlacesApart, HoldsPlace, bucket_count, entry_at, place_at, moved_along}
use Rattle.silt_cuckoo.proofs.Common.{other_bucket, pair_at, pair_of, has_place, AddsPair, eq-eqb, ne_eqb, eqb-true, path_for, slot_of_place, PairLaw, TableLaw}
use Rattle.silt_cuckoo.specs.Placing.{put_along, placed}
use Rattle.silt_cuckoo.specs.Pairs.{table_pairs}
use Rattle.silt_cuckoo.proofs.Search.{found_in_range, none_in_range, some_or_none}
use Rattle.silt_cuckoo.proofs.Paths.{Displaces, IsOn, NoneTwice, path_displaces, entry_inside}
use Rattle.silt_cuckoo.proofs.Sources.{source, source_apart, target, length_moved, pair_of-swap, place_at-moved_along, pair_at-moved_along, tag_at-moved_along}

-- an entry with this place
pub has_entry : (slots : Slots) (slot place : ℕ) → place_at slots slot ≡ Some place → (e : Entry) × (entry_at slots slot ≡ Some e) × (e.1 ≡ place)
has_entry slots slot place h = elim (some_or_none (entry_at slots slot)) [ inl none ↦ absurd (cc) | inr (e, is) ↦ (e, is, cc) ]

-- the test finds a slot with the place, and no other
pub has_place_is : (slots : Slots) (place slot : ℕ) → has_place slots place slot ≡ true → place_at slots slot ≡ Some place
has_place_is slots place slot h = elim (some_or_none (entry_at slots slot)) [ inl none ↦ absurd (cc) | inr (e, is) ↦ cc (eqb-true e.1 place (cc)) ]

-- and a slot with the place passes it
pub is_has_place : (slots : Slots) (place slot : ℕ) → place_at slots slot ≡ Some place → has_place slots place slot ≡ true
is_has_place slots place slot h = elim (some_or_none (entry_at slots slot)) [ inl none ↦ absurd (cc) | inr (e, is) ↦ cc (eq-eqb e.1 place (cc)) ]

-- a slot that has a place is found
place_found : (slots : Slots) (place slot : ℕ) → place_at slots slot ≡ Some place → slot_of_place slots place ≢ None
place_found slots place slot is none =
    let entry = has_entry slots slot place is in
    let there = entry_inside slots slot entry.0 entry.1 in
    let fails = none_in_range (has_place slots place) 0 (length slots) none slot (omega arith) (omega arith) in
    absurd (cc (is_has_place slots place slot is))

-- the pair of a place that is held is that of its slot
pub table_pairs-held : (slots : Slots) (slot place : ℕ) → PlacesApart slots → place_at slots slot ≡ Some place → table_pairs slots place ≡ pair_at slots slot
unfolding table_pairs
table_pairs-held slots slot place apart is = search (arith, some_or_none, place_found, has_place_is, found_in_range)

-- a place that no slot has has no pair
pub table_pairs-not_held : (slots : Slots) (place : ℕ) → ¬ HoldsPlace slots place → table_pairs slots place ≡ None
unfolding table_pairs
table_pairs-not_held slots place not_held = search (arith, some_or_none, has_place_is, found_in_range)

-- a place is held or not
pub cases_held : (slots : Slots) (place : ℕ) → HoldsPlace slots place ⊎ ¬ HoldsPlace slots place
cases_held slots place = elim (some_or_none (slot_of_place slots place)) [
  | inl none ↦ inr (λ (slot, is). place_found slots place slot is none)
  | inr (slot, found) ↦ inl (slot, has_place_is slots place slot (found_in_range (has_place slots place) 0 (length slots) slot found).2)
]

-- the new entry's pair is that of its two buckets
new_pair : (slot first second : ℕ) → (slot / 4 ≡ first) ⊎ (slot / 4 ≡ second) → pair_of (slot / 4) (other_bucket first second slot) ≡ pair_of first second
new_pair slot first second where_it = search (arith, cases_eq, eq-eqb, ne_eqb, pair_of-swap)

-- the new entry's tag is one of its two buckets
new_tag : (slot first second count : ℕ) → first < count → second < count → other_bucket first second slot < count
new_tag slot first second count first_there second_there = elim (cases_Bool (slot / 4 == first)) [ inl is ↦ rw is second_there | inr is ↦ rw is first_there ]

-- a table with a new entry in the first slot of a path along which the others moved
pub record Put (old new : Slots) (first second place s : ℕ) (path : List ℕ) : Type 0 where
  pub size : length new ≡ length old
  pub here : entry_at new s ≡ Some (other_bucket first second s, place)
  pub others : (x : ℕ) → x ≢ s → entry_at new x ≡ entry_at (moved_along old (s ∷ path)) x

-- what is put along a path is such a table
put_is : (slots : Slots) (first second place s : ℕ) (path : List ℕ) → Displaces slots first second (s ∷ path) → Put slots (put_along slots first second place (s ∷ path)) first second place s path
unfolding put_along
put_is slots first second place s path along =
    let moved : Slots = moved_along slots (s ∷ path) in
    let entry : Option Entry = Some (other_bucket first second s, place) in
    let size = length_moved slots (s ∷ path) in
    let there = along.inside s (inl refl) in record {
      size = length-set moved s entry ∙ size;
      here = get_or-set_same moved s entry None (omega arith);
      others = λ x other. get_or-set_other moved s x entry None other;
    }

-- what was put, if the path stays inside the table
module _ {old new : Slots} {first second place s : ℕ} {path : List ℕ} (put : Put old new first second place s path) (inside : (x : ℕ) → IsOn x (s ∷ path) → x < length old) where
  -- what each slot but the path's first has then
  pub put_place : (x : ℕ) → x ≢ s → place_at new x ≡ place_at old (source (s ∷ path) x)
  put_place x other = cc (put.others x other, place_at-moved_along old (s ∷ path) x inside)

  -- a place that is held then is the new one, or the slot's source had it
  pub put_held : (x p : ℕ) → place_at new x ≡ Some p → ((x ≡ s) × (p ≡ place)) ⊎ ((x ≢ s) × (place_at old (source (s ∷ path) x) ≡ Some p))
  put_held x p is = elim (cases_eq x s) [
    | inl same ↦ let here = put.here in inl (same, cc)
    | inr other ↦ inr (other, sym (put_place x other) ∙ is)
  ]

  -- no place is held twice then
  put_apart : PlacesApart old → ¬ HoldsPlace old place → NoneTwice (s ∷ path) → PlacesApart new
  put_apart apart is_new twice i j p i_is j_is = elim (put_held i p i_is) [
    | inl i_new ↦ elim (put_held j p j_is) [ inl j_new ↦ i_new.0 ∙ sym j_new.0 | inr j_old ↦ absurd (is_new (_, j_old.1 ∙ ap Some i_new.1)) ]
    | inr i_old ↦ elim (put_held j p j_is) [
      | inl j_new ↦ absurd (is_new (_, i_old.1 ∙ ap Some j_new.1))
      | inr j_old ↦ source_apart s path i j twice i_old.0 j_old.0 (apart _ _ p i_old.1 j_old.1)
    ]
  ]

  -- it is a table then
  pub put_table : IsTable old → first < bucket_count old → second < bucket_count old → ¬ HoldsPlace old place → NoneTwice (s ∷ path) → IsTable new
  put_table table first_there second_there is_new twice =
      let count : bucket_count new ≡ bucket_count old = ap (λ n. n / 4) put.size in
      record {
        buckets = rw count table.buckets;
        four_each = rw (count, put.size) table.four_each;
        tags_below = λ x. rw count (elim (cases_eq x s) [
          | inl same ↦ rw (same, put.here) (new_tag s first second (bucket_count old) first_there second_there)
          | inr other ↦ rw (put.others x other) (tag_at-moved_along old (s ∷ path) x table inside)
        ]);
        places_apart = put_apart table.places_apart is_new twice;
      }

  -- the new place has the pair of its slot
  pub put_new : PlacesApart new → table_pairs new place ≡ Some (pair_of (s / 4) (other_bucket first second s))
  put_new apart = table_pairs-held new s place apart (ap (option_map (λ (e : Entry). e.1)) put.here) ∙ ap (option_map (λ (e : Entry). pair_of (s / 4) e.0)) put.here

  -- and the others keep theirs, if the path leads to a free slot
  put_pairs : IsTable old → PlacesApart new → Displaces old first second (s ∷ path) → AddsPair old new place first second
  put_pairs table after along p = elim (cases_eq p place) [
    | inl same ↦ let test = eq-eqb p place same in rw (test, same) (put_new after ∙ ap Some (new_pair s first second along.begins))
    | inr other ↦
        rw (ne_eqb p place other) (elim (cases_held old p) [
          | inl (y, is) ↦
              let entry = has_entry old y p is in
              let to = target old s path y entry.0 along.leads along.twice entry.1 in
              table_pairs-held new to.0 p after (put_place to.0 to.1 ∙ ap (place_at old) to.2 ∙ is)
              ∙ ap (option_map (λ (e : Entry). pair_of (to.0 / 4) e.0)) (put.others to.0 to.1)
              ∙ pair_at-moved_along old (s ∷ path) to.0 along.leads along.inside ∙ ap (pair_at old) to.2 ∙ sym (table_pairs-held old y p table.places_apart is)
          | inr not_held ↦
              table_pairs-not_held new p (λ (x, is). elim (put_held x p is) [ inl it ↦ other it.1 | inr it ↦ not_held (_, it.1) ]) ∙ sym (table_pairs-not_held old p not_held)
        ])
  ]

-- what placing gives is such a table
placed_is : (slots new : Slots) (first second place : ℕ) → IsTable slots → first < bucket_count slots → second < bucket_count slots → placed slots first second place ≡ Some new
    → (s : ℕ) × (path : List ℕ) × Displaces slots first second (s ∷ path) × Put slots new first second place s path
unfolding placed
placed_is slots new first second place table first_there second_there e = elim (some_or_none (path_for slots first second)) [
  | inl none ↦ absurd (cc)
  | inr ([], is) ↦ absurd (path_displaces slots first second [] table first_there second_there is).leads
  | inr (s ∷ path, is) ↦
      let along = path_displaces slots first second (s ∷ path) table first_there second_there is in
      let same : put_along slots first second place (s ∷ path) ≡ new = cc in
      (s, path, along, rw (← same) (put_is slots first second place s path along))
]

-- what is placed is a table of the same size
pub table_law : TableLaw
table_law slots new first second place table first_there second_there is_new e =
    let (s, path, along, put) = placed_is slots new first second place table first_there second_there e in
    (put_table put along.inside table first_there second_there is_new along.twice, put.size)

-- what is placed adds its pair and changes none
pub pair_law : PairLaw
pair_law slots new first second place table first_there second_there is_new e =
    let (s, path, along, put) = placed_is slots new first second place table first_there second_there e in
    put_pairs put along.inside table (put_table put along.inside table first_there second_there is_new along.twice).places_apart along
