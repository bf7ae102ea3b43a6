-- A path that the placing rule finds leads from entry to entry, names no slot twice and stays inside the table.
use Rattle.silt_cuckoo.proofs.Common.{◌≡◌, ◌≢◌, ◌⊎◌, inl, inr, ℕ, zero, suc, ◌+◌, ◌*◌, ◌/◌, ◌%◌, ◌<◌, ◌≤◌, true, false, ◌==◌, List, [], ◌∷◌, ◌++◌, length, slice_index, slice_set, Some, None, ◌↔◌}
use Rattle.silt_cuckoo.proofs.Common.{option_map, refl, sym, subst, ap, ◌∙◌, arith, length-append, cases_lt, get_or_past, Slots, Entry, IsTable, bucket_count, entry_at, tag_at, can_move}
use Rattle.silt_cuckoo.proofs.Common.{ended_walk, bucket_after, plan_for, moved_along, other_bucket, IsNone, IfSome, is_none, list_any, eq-eqb, not-true, and_parts, PathPlan}
use Rattle.std.proofs.Math.Bool.{or-true}
use Rattle.silt_cuckoo.specs.Placing.{free_slot, victim, turns, shortest_walk, path_for, IsPlanFor, placed, put_along}
use Rattle.silt_cuckoo.proofs.Search.{found_in_range, none_in_range, found_among, first_is, some_or_none}

-- a slot of the path
abbrev pub IsOn : ℕ → List ℕ → Type 0
IsOn slot [] = ⊥
IsOn slot (s ∷ path) = (slot ≡ s) ⊎ IsOn slot path

-- no slot occurs twice
abbrev pub NoneTwice : List ℕ → Type 0
NoneTwice [] = Unit {0}
NoneTwice (s ∷ path) = ¬ IsOn s path × NoneTwice path

-- the slot has an entry with this tag
abbrev pub HasTag : Slots → ℕ → ℕ → Type 0
HasTag slots slot tag = (e : Entry) × (entry_at slots slot ≡ Some e) × (e.0 ≡ tag)

-- each slot has an entry whose other bucket is that of the next slot, and the last is free
abbrev pub LeadsOn : Slots → List ℕ → Type 0
LeadsOn slots [] = ⊥
LeadsOn slots (s ∷ []) = entry_at slots s ≡ None
LeadsOn slots (s ∷ next ∷ path) = HasTag slots s (next / 4) × LeadsOn slots (next ∷ path)

-- the path begins in this bucket, and each slot has an entry whose other bucket is that of the next slot
abbrev pub Chain : Slots → ℕ → List ℕ → Type 0
Chain slots bucket [] = Unit {0}
Chain slots bucket (s ∷ path) = (s / 4 ≡ bucket) × HasTag slots s (tag_at slots s) × Chain slots (tag_at slots s) path

-- what a path of the placing rule keeps
pub record Displaces (slots : Slots) (first second : ℕ) (path : List ℕ) : Type 0 where
  pub leads : LeadsOn slots path
  pub twice : NoneTwice path
  pub inside : (s : ℕ) → IsOn s path → s < length slots
  pub begins : (slice_index path 0 / 4 ≡ first) ⊎ (slice_index path 0 / 4 ≡ second)

-- an entry has a tag
pub has_tag : (slots : Slots) (slot : ℕ) → is_none (entry_at slots slot) ≡ false → HasTag slots slot (tag_at slots slot)
has_tag slots slot full = elim (some_or_none (entry_at slots slot)) [ inl none ↦ absurd (cc) | inr (e, is) ↦ (e, is, cc) ]

-- a slot with an entry is one of the table's
pub entry_inside : (slots : Slots) (slot : ℕ) (e : Entry) → entry_at slots slot ≡ Some e → slot < length slots
entry_inside slots slot e is = elim (cases_lt slot (length slots)) [ inl there ↦ there | inr past ↦ absurd (cc (get_or_past slots slot None past)) ]

-- a free slot of a bucket
pub free_slot_is : (slots : Slots) (bucket slot : ℕ) → free_slot slots bucket ≡ Some slot → (entry_at slots slot ≡ None) × (slot / 4 ≡ bucket)
unfolding free_slot
free_slot_is slots bucket slot e = search (arith, found_in_range, some_or_none)

-- each slot of a full bucket has an entry
pub full_bucket : (slots : Slots) (bucket slot : ℕ) → free_slot slots bucket ≡ None → slot / 4 ≡ bucket → HasTag slots slot (tag_at slots slot)
unfolding free_slot
full_bucket slots bucket slot none there = has_tag slots slot (search (arith, none_in_range))

-- the test finds a slot that is on the path
on_passes : (slot : ℕ) (path : List ℕ) → IsOn slot path → list_any (λ s. slot == s) path ≡ true
on_passes slot [] on = absurd on
on_passes slot (s ∷ path) (inl same) = let test = eq-eqb slot s same in rw test refl
on_passes slot (s ∷ path) (inr on) = let rest = on_passes slot path on in rw rest (or-true (slot == s))

-- the entry that a turn moves is in the bucket and not on the path
pub victim_is : (slots : Slots) (path : List ℕ) (bucket turn slot : ℕ) → victim slots path bucket turn ≡ Some slot → (slot / 4 ≡ bucket) × ¬ IsOn slot path
unfolding victim
victim_is slots path bucket turn slot e =
    let found = found_among (can_move slots path bucket) (λ k. 4 * bucket + (turn + k) % 4) 0 4 slot e in
    search (arith, not-true, and_parts, on_passes)

-- a place of two lists
pub on_append : (x : ℕ) (xs ys : List ℕ) → IsOn x (xs ++ ys) → IsOn x xs ⊎ IsOn x ys
on_append x [] ys on = inr on
on_append x (s ∷ xs) ys (inl same) = inl (inl same)
on_append x (s ∷ xs) ys (inr on) = elim (on_append x xs ys on) [ inl there ↦ inl (inr there) | inr there ↦ inr there ]

-- two lists with no place in common
pub none_twice_append : (xs ys : List ℕ) → NoneTwice xs → NoneTwice ys → ((x : ℕ) → IsOn x xs → IsOn x ys → ⊥) → NoneTwice (xs ++ ys)
none_twice_append [] ys left right apart = right
none_twice_append (s ∷ xs) ys left right apart = (
  λ on. elim (on_append s xs ys on) [ inl there ↦ left.0 there | inr there ↦ apart s (inl refl) there ],
  none_twice_append xs ys left.1 right (λ x there on. apart x (inr there) on),
)

-- a slot that is not on the path may join it
pub none_twice_push : (path : List ℕ) (slot : ℕ) → NoneTwice path → ¬ IsOn slot path → NoneTwice (path ++ slot ∷ [])
none_twice_push path slot twice off = none_twice_append path (slot ∷ []) twice (λ on. on, tt) (λ x there on. elim on [ inl same ↦ off (rw same at there) | inr on ↦ on ])

-- a chain with one slot more
chain_push : (slots : Slots) (bucket : ℕ) (path : List ℕ) (slot : ℕ) → Chain slots bucket path → slot / 4 ≡ bucket_after slots bucket path
    → HasTag slots slot (tag_at slots slot) → Chain slots bucket (path ++ slot ∷ [])
chain_push slots bucket [] slot chain here full = (here, full, tt)
chain_push slots bucket (s ∷ path) slot chain here full = (chain.0, chain.1, chain_push slots (tag_at slots s) path slot chain.2 here full)

-- a chain leads on to a free slot of the bucket after it
pub chain_leads : (slots : Slots) (bucket : ℕ) (path : List ℕ) (free : ℕ) → Chain slots bucket path → free / 4 ≡ bucket_after slots bucket path
    → entry_at slots free ≡ None → LeadsOn slots (path ++ free ∷ [])
chain_leads slots bucket [] free chain here none = none
chain_leads slots bucket (s ∷ []) free chain here none = ((chain.1.0, chain.1.1, chain.1.2 ∙ sym here), none)
chain_leads slots bucket (s ∷ u ∷ path) free chain here none = ((chain.1.0, chain.1.1, chain.1.2 ∙ sym chain.2.0), chain_leads slots (tag_at slots s) (u ∷ path) free chain.2 here none)

-- a slot of a chain has an entry
pub chain_entry : (slots : Slots) (bucket : ℕ) (path : List ℕ) (slot : ℕ) → Chain slots bucket path → IsOn slot path → HasTag slots slot (tag_at slots slot)
chain_entry slots bucket [] slot chain on = absurd on
chain_entry slots bucket (s ∷ path) slot chain (inl same) = rw same chain.1
chain_entry slots bucket (s ∷ path) slot chain (inr on) = chain_entry slots (tag_at slots s) path slot chain.2 on

-- the buckets of the turns before turn n have no free slot
abbrev pub FullBefore : Slots → ℕ → ℕ → Type 0
FullBefore slots bucket n = (k : ℕ) (path : List ℕ) → k < n → turns slots bucket k ≡ Some path → free_slot slots (bucket_after slots bucket path) ≡ None

-- the slots of some turns are a chain, none twice
pub turns_are : (slots : Slots) (bucket n : ℕ) (path : List ℕ) → FullBefore slots bucket n → turns slots bucket n ≡ Some path → Chain slots bucket path × NoneTwice path × (length path ≡ n)
unfolding turns
turns_are slots bucket zero path full e = let empty : [] ≡ path = cc in rw (← empty) (tt, tt, refl)
turns_are slots bucket (suc n) path full e = elim (some_or_none (turns slots bucket n)) [
  | inl none ↦ absurd (cc)
  | inr (p, is) ↦ elim (some_or_none (victim slots p (bucket_after slots bucket p) n)) [
    | inl none ↦ absurd (cc)
    | inr (slot, there) ↦
        let longer : p ++ slot ∷ [] ≡ path = cc in
        let earlier = turns_are slots bucket n p (λ k q low. full k q (omega arith)) is in
        let it = victim_is slots p (bucket_after slots bucket p) n slot there in
        let entry = full_bucket slots (bucket_after slots bucket p) slot (full n p (omega arith) is) it.0 in
        rw (← longer) (chain_push slots bucket p slot earlier.0 it.0 entry, none_twice_push p slot earlier.1 it.1, omega (arith, length-append p (slot ∷ []), earlier.2))
  ]
]

-- a walk that has not ended is at a full bucket
pub full_here : (slots : Slots) (bucket n : ℕ) (path : List ℕ) → ended_walk slots bucket n ≡ None → turns slots bucket n ≡ Some path → free_slot slots (bucket_after slots bucket path) ≡ None
full_here slots bucket n path none is = elim (some_or_none (free_slot slots (bucket_after slots bucket path))) [ inl full ↦ full | inr (slot, free) ↦ absurd (cc) ]

-- the parts of a walk that ended: some turns, and then a free slot
record Parts (slots : Slots) (bucket : ℕ) (walk : List ℕ) : Type 0 where
  path : List ℕ
  free : ℕ
  is : walk ≡ path ++ free ∷ []
  chain : Chain slots bucket path
  twice : NoneTwice path
  some : 1 ≤ length path
  ends : free_slot slots (bucket_after slots bucket path) ≡ Some free

-- before the first walk that ends every bucket is full
full_before : (slots : Slots) (bucket m : ℕ) → free_slot slots bucket ≡ None → ((k : ℕ) → 1 ≤ k → k < m → ended_walk slots bucket k ≡ None) → FullBefore slots bucket m
unfolding turns
full_before slots bucket m full none zero p low is = let empty : [] ≡ p = cc in rw (← empty) full
full_before slots bucket m full none (suc k) p low is = full_here slots bucket (suc k) p (none (suc k) (omega arith) low) is

-- each walk that ended has such parts
ended_parts : (slots : Slots) (bucket m : ℕ) (walk : List ℕ) → 1 ≤ m → FullBefore slots bucket m → ended_walk slots bucket m ≡ Some walk → Parts slots bucket walk
ended_parts slots bucket m walk low before e = elim (some_or_none (turns slots bucket m)) [
  | inl none ↦ absurd (cc)
  | inr (path, is) ↦ elim (some_or_none (free_slot slots (bucket_after slots bucket path))) [
    | inl none ↦ absurd (cc)
    | inr (free, there) ↦
        let are = turns_are slots bucket m path before is in
        record { path = path; free = free; is = cc; chain = are.0; twice = are.1; some = omega (arith, are.2); ends = there }
  ]
]

-- and so has the shortest
walk_parts : (slots : Slots) (bucket : ℕ) (walk : List ℕ) → free_slot slots bucket ≡ None → shortest_walk slots bucket ≡ Some walk → Parts slots bucket walk
unfolding shortest_walk
walk_parts slots bucket walk full e =
    let first = first_is (ended_walk slots bucket) 1 128 walk e in
    ended_parts slots bucket first.0 walk first.1 (full_before slots bucket first.0 full first.3) first.2

-- a slot of a bucket of the table is one of the table's
bucket_inside : (slots : Slots) (slot : ℕ) → IsTable slots → slot / 4 < bucket_count slots → slot < length slots
bucket_inside slots slot table there = omega (arith, table.four_each)

-- a walk stays in the buckets of the table
bucket_after_below : (slots : Slots) (bucket : ℕ) (path : List ℕ) → IsTable slots → bucket < bucket_count slots → bucket_after slots bucket path < bucket_count slots
bucket_after_below slots bucket [] table there = there
bucket_after_below slots bucket (s ∷ path) table there = bucket_after_below slots (tag_at slots s) path table (table.tags_below s)

-- a path to a free slot
free_displaces : (slots : Slots) (first second bucket slot : ℕ) → IsTable slots → bucket < bucket_count slots → (bucket ≡ first)
    ⊎ (bucket ≡ second) → free_slot slots bucket ≡ Some slot → Displaces slots first second (slot ∷ [])
free_displaces slots first second bucket slot table there which e =
    let is = free_slot_is slots bucket slot e in record {
      leads = is.0;
      twice = (λ on. on, tt);
      inside = λ s on. elim on [ inl same ↦ bucket_inside slots s table (omega (arith, is.1)) | inr on ↦ absurd on ];
      begins = elim which [ inl f ↦ inl (is.1 ∙ f) | inr s ↦ inr (is.1 ∙ s) ];
    }

-- a path by a walk
walk_displaces : (slots : Slots) (first second : ℕ) (walk : List ℕ) → IsTable slots → first < bucket_count slots → Parts slots first walk → Displaces slots first second walk
walk_displaces slots first second walk table there parts =
    let end = free_slot_is slots (bucket_after slots first parts.path) parts.free parts.ends in
    let below = bucket_after_below slots first parts.path table there in
    rw parts.is (record {
      leads = chain_leads slots first parts.path parts.free parts.chain end.1 end.0;
      twice = none_twice_push parts.path parts.free parts.twice (λ on. let entry = chain_entry slots first parts.path parts.free parts.chain on in let is = entry.1 in let none = end.0 in absurd (cc));
      inside = λ s on. elim (on_append s parts.path (parts.free ∷ []) on) [
        | inl there ↦ let entry = chain_entry slots first parts.path s parts.chain there in entry_inside slots s entry.0 entry.1
        | inr (inl last) ↦ bucket_inside slots s table (omega (arith, end.1, below))
        | inr (inr never) ↦ absurd never
      ];
      begins = inl (begins_in parts.path parts.chain parts.some);
    })
  where
    begins_in : (path : List ℕ) → Chain slots first path → 1 ≤ length path → slice_index (path ++ parts.free ∷ []) 0 / 4 ≡ first
    begins_in [] chain some = absurd (omega arith)
    begins_in (s ∷ path) chain some = chain.0

-- each path of the rule
pub path_displaces : (slots : Slots) (first second : ℕ) (path : List ℕ) → IsTable slots → first < bucket_count slots
    → second < bucket_count slots → path_for slots first second ≡ Some path → Displaces slots first second path
unfolding path_for
path_displaces slots first second path table first_there second_there e = elim (some_or_none (free_slot slots first)) [
  | inr (slot, is) ↦ let same : slot ∷ [] ≡ path = cc in rw (← same) (free_displaces slots first second first slot table first_there (inl refl) is)
  | inl full ↦ elim (some_or_none (free_slot slots second)) [
    | inr (slot, is) ↦ let same : slot ∷ [] ≡ path = cc in rw (← same) (free_displaces slots first second second slot table second_there (inr refl) is)
    | inl none ↦ walk_displaces slots first second path table first_there (walk_parts slots first path full (cc))
  ]
]

-- the slot at each index is on the path
pub on_index : (path : List ℕ) (k : ℕ) → k < length path → IsOn (slice_index path k) path
on_index [] k low = absurd (omega arith)
on_index (s ∷ path) zero low = inl refl
on_index (s ∷ path) (suc k) low = inr (on_index path k (omega arith))

-- the slots at two indices differ
pub index_apart : (path : List ℕ) (i j : ℕ) → NoneTwice path → i < j → j < length path → slice_index path j ≢ slice_index path i
index_apart [] i j twice low high = absurd (omega arith)
index_apart (s ∷ path) i zero twice low high = absurd (omega arith)
index_apart (s ∷ path) zero (suc j) twice low high = λ same. twice.0 (subst (λ x. IsOn x path) same (on_index path j (omega arith)))
index_apart (s ∷ path) (suc i) (suc j) twice low high = index_apart path i j twice.1 (omega arith) (omega arith)

-- a path has a first slot
pub path_begins : (slots : Slots) (path : List ℕ) → LeadsOn slots path → 0 < length path
path_begins slots [] leads = absurd leads
path_begins slots (s ∷ path) leads = omega arith

-- what the path of a plan keeps
pub plan_displaces : (slots : Slots) (plan : PathPlan) (path : List ℕ) → IsTable slots → IsPlanFor slots plan → path ≡ plan.slots → Displaces slots plan.first plan.second path
plan_displaces slots plan path table planned same =
    path_displaces slots plan.first plan.second path table planned.first_there planned.second_there (planned.path ∙ ap Some (sym same))

-- its slots are the table's
pub plan_inside : (slots : Slots) (plan : PathPlan) (path : List ℕ) → IsTable slots → IsPlanFor slots plan → path ≡ plan.slots → (k : ℕ) → k < length path → slice_index path k < length slots
plan_inside slots plan path table planned same k low = (plan_displaces slots plan path table planned same).inside (slice_index path k) (on_index path k low)

-- no two of its slots are one
pub plan_apart : (slots : Slots) (plan : PathPlan) (path : List ℕ) → IsTable slots → IsPlanFor slots plan → path ≡ plan.slots
    → (i j : ℕ) → i < j → j < length path → slice_index path j ≢ slice_index path i
plan_apart slots plan path table planned same i j low high = index_apart path i j (plan_displaces slots plan path table planned same).twice low high

-- it has a first slot
pub plan_begins : (slots : Slots) (plan : PathPlan) (path : List ℕ) → IsTable slots → IsPlanFor slots plan → path ≡ plan.slots → 0 < length path
plan_begins slots plan path table planned same = path_begins slots path (plan_displaces slots plan path table planned same).leads

-- the table of a plan
pub plan_placed : (slots : Slots) (plan : PathPlan) (path : List ℕ) (place : ℕ) → IsPlanFor slots plan → path ≡ plan.slots
    → placed slots plan.first plan.second place ≡ Some (slice_set (moved_along slots path) (slice_index path 0) (Some (other_bucket plan.first plan.second (slice_index path 0), place)))
unfolding placed put_along
plan_placed slots plan path place planned same = cc (planned.path)

-- a plan belongs to the table that it was made of
pub plan_stands : (slots : Slots) (first second : ℕ) → first < bucket_count slots → second < bucket_count slots → IfSome (plan_for slots first second) (IsPlanFor slots)
plan_stands slots first second first_there second_there = search (arith, some_or_none)

-- there is no plan if and only if nothing is placed
pub plan_gives_up : (slots : Slots) (first second place : ℕ) → IsNone (plan_for slots first second) ↔ (placed slots first second place ≡ None)
unfolding placed
plan_gives_up slots first second place = search (arith, some_or_none)

-- the path to a free slot of the first bucket
pub plan_first : (slots : Slots) (first second slot : ℕ) → free_slot slots first ≡ Some slot → plan_for slots first second ≡ Some (record { first = first; second = second; slots = slot ∷ [] })
unfolding path_for
plan_first slots first second slot is = rw is refl

-- the path to a free slot of the second bucket
pub plan_second : (slots : Slots) (first second slot : ℕ) → free_slot slots first ≡ None → free_slot slots second ≡ Some slot
    → plan_for slots first second ≡ Some (record { first = first; second = second; slots = slot ∷ [] })
unfolding path_for
plan_second slots first second slot full is = rw (full, is) refl

-- the path by a walk
pub plan_walk : (slots : Slots) (first second : ℕ) → free_slot slots first ≡ None → free_slot slots second ≡ None
    → plan_for slots first second ≡ option_map (λ (path : List ℕ). record { first = first; second = second; slots = path }) (shortest_walk slots first)
unfolding path_for
plan_walk slots first second full also = rw (full, also) refl
