-- Candidates, slot by slot.
use Rattle.silt_cuckoo.proofs.Common.{◌≡◌, ◌≢◌, ◌⊎◌, inl, inr, ℕ, zero, suc, ◌+◌, ◌*◌, ◌/◌, ◌<◌, ◌≤◌, ◌==◌, ◌↔◌, if◌then◌else◌, Bool, true, false, List, [], ◌∷◌, ◌++◌, Option, Some, None}
use Rattle.silt_cuckoo.proofs.Common.{option_map, refl, sym, subst, ap, ◌∙◌, arith, append-nil, range_with_len, filter_map, cons_option, cases_eq, Candidate, Slots, Entry, PlacesApart, entry_at}
use Rattle.silt_cuckoo.proofs.Common.{place_at, pair_of, table_pairs, match_at, matches_in, places_of, All, AllPairs, Contains, eq-eqb, ne_eqb, All-nil, All-cons, All-append}
use Rattle.silt_cuckoo.proofs.Search.{some_or_none}
use Rattle.std.proofs.lemmas.Grind.{get_or_default_zero}
use Rattle.silt_cuckoo.specs.Lookup.{candidates_of}
use Rattle.silt_cuckoo.proofs.Paths.{IsOn, NoneTwice, none_twice_append, on_append, on_index, index_apart}
use Rattle.silt_cuckoo.proofs.Sources.{pair_of-swap}
use Rattle.silt_cuckoo.proofs.Placed.{table_pairs-held, table_pairs-not_held, cases_held}

-- what a function gives of one number more
pub filter_map_more : {X : Type 0} (f : ℕ → Option X) (a n j : ℕ) → a + n ≡ j → filter_map f (range_with_len a (n + 1)) ≡ filter_map f (range_with_len a n) ++ cons_option (f j) []
filter_map_more f a zero j e = let same : a ≡ j = omega arith in rw same
filter_map_more f a (suc n) j e = search (arith, filter_map_more f (a + 1) n j, some_or_none)

-- what a match means: the slot has an entry with this tag and place
pub match_is : (slots : Slots) (tag slot : ℕ) (c : Candidate) → match_at slots tag slot ≡ Some c → (c.slot ≡ slot) × (entry_at slots slot ≡ Some (tag, c.place))
match_is slots tag slot c e = search (arith, some_or_none, cases_eq, eq-eqb, ne_eqb)

-- an entry with this tag is a match
pub is_match : (slots : Slots) (tag slot place : ℕ) → entry_at slots slot ≡ Some (tag, place) → match_at slots tag slot ≡ Some (record { slot = slot; place = place })
is_match slots tag slot place is = let test = eq-eqb tag tag refl in rw (is, test) refl

-- a place among the matches of some slots is that of an entry with the tag
pub match_found : (slots : Slots) (tag place a n : ℕ) → IsOn place (places_of (filter_map (match_at slots tag) (range_with_len a n)))
    → (slot : ℕ) × (a ≤ slot) × (slot < a + n) × (entry_at slots slot ≡ Some (tag, place))
match_found slots tag place a zero on = absurd on
match_found slots tag place a (suc n) on = search (arith, match_found slots tag place (a + 1) n, match_is)

-- the place of each entry with the tag is among the matches
pub found_match : (slots : Slots) (tag place a n slot : ℕ) → a ≤ slot → slot < a + n → entry_at slots slot ≡ Some (tag, place)
    → IsOn place (places_of (filter_map (match_at slots tag) (range_with_len a n)))
found_match slots tag place a zero slot low high is = absurd (omega arith)
found_match slots tag place a (suc n) slot low high is = search (arith, found_match slots tag place (a + 1) n slot, cases_eq, is_match)

-- no place is twice among the matches
pub matches_apart : (slots : Slots) (tag a n : ℕ) → PlacesApart slots → NoneTwice (places_of (filter_map (match_at slots tag) (range_with_len a n)))
matches_apart slots tag a zero apart = tt
matches_apart slots tag a (suc n) apart = go (match_at slots tag a) refl (matches_apart slots tag (a + 1) n apart)
  where
    go : (o : Option Candidate) → match_at slots tag a ≡ o → NoneTwice (places_of (filter_map (match_at slots tag) (range_with_len (a + 1) n)))
        → NoneTwice (places_of (cons_option o (filter_map (match_at slots tag) (range_with_len (a + 1) n))))
    go None is rest = rest
    go (Some c) is rest = (
      λ on.
          let it = match_is slots tag a c is in
          let there = match_found slots tag c.place (a + 1) n on in
          let same = apart a there.0 c.place (ap (option_map (λ (e : Entry). e.1)) it.1) (ap (option_map (λ (e : Entry). e.1)) there.3) in
          absurd (omega (arith, there.1)),
      rest,
    )

-- a place of the first list
pub on_left : (x : ℕ) (xs ys : List ℕ) → IsOn x xs → IsOn x (xs ++ ys)
on_left x [] ys on = absurd on
on_left x (s ∷ xs) ys (inl same) = inl same
on_left x (s ∷ xs) ys (inr on) = inr (on_left x xs ys on)

-- a place of the second list
pub on_right : (x : ℕ) (xs ys : List ℕ) → IsOn x ys → IsOn x (xs ++ ys)
on_right x [] ys on = on
on_right x (s ∷ xs) ys on = inr (on_right x xs ys on)

-- the places of two lists
places_of-append : (xs ys : List Candidate) → places_of (xs ++ ys) ≡ places_of xs ++ places_of ys
places_of-append [] ys = refl
places_of-append (c ∷ xs) ys = rw (places_of-append xs ys)

-- the candidates of two buckets that differ
candidates_differ : (slots : Slots) (first second : ℕ) → first ≢ second → places_of (candidates_of slots first second) ≡ places_of (matches_in slots first second)
    ++ places_of (matches_in slots second first)
unfolding candidates_of
candidates_differ slots first second other = let test = ne_eqb first second other in rw test (places_of-append (matches_in slots first second) (matches_in slots second first))

-- the candidates of one bucket
candidates_same : (slots : Slots) (first second : ℕ) → first ≡ second → candidates_of slots first second ≡ matches_in slots first second
unfolding candidates_of
candidates_same slots first second same = let test = eq-eqb first second same in rw test (append-nil (matches_in slots first second))

-- each candidate's place has the pair
candidate_pair : (slots : Slots) (first second place : ℕ) → PlacesApart slots → IsOn place (places_of (candidates_of slots first second)) → table_pairs slots place ≡ Some (pair_of first second)
candidate_pair slots first second place apart on = elim (cases_eq first second) [
  | inl same ↦ from first second (subst (λ (cs : List Candidate). IsOn place (places_of cs)) (candidates_same slots first second same) on)
  | inr other ↦ elim (on_append place _ _ (subst (IsOn place) (candidates_differ slots first second other) on)) [
    | inl there ↦ from first second there
    | inr there ↦ from second first there ∙ ap Some (pair_of-swap second first)
  ]
]
  where
    from : (bucket tag : ℕ) → IsOn place (places_of (matches_in slots bucket tag)) → table_pairs slots place ≡ Some (pair_of bucket tag)
    from bucket tag on =
        let found = match_found slots tag place _ 4 on in
        let here : found.0 / 4 ≡ bucket = omega (arith, found.1, found.2) in
        cc (table_pairs-held slots found.0 place apart (ap (option_map (λ (e : Entry). e.1)) found.3), found.3)

-- equal pairs are of the same two buckets
same_pair : (a b c d : ℕ) → pair_of a b ≡ pair_of c d → ((a ≡ c) × (b ≡ d)) ⊎ ((a ≡ d) × (b ≡ c))
same_pair a b c d same = search (arith, cases_eq)

-- each place with the pair is among the candidates
pub pair_candidate : (slots : Slots) (first second place : ℕ) → PlacesApart slots → table_pairs slots place ≡ Some (pair_of first second) → IsOn place (places_of (candidates_of slots first second))
pair_candidate slots first second place apart is = elim (cases_held slots place) [
  | inl (slot, held) ↦ at slot (entry_at slots slot) refl held (sym (table_pairs-held slots slot place apart held) ∙ is)
  | inr not_held ↦ let none = table_pairs-not_held slots place not_held in absurd (cc)
]
  where
    found : (bucket tag slot : ℕ) → slot / 4 ≡ bucket → entry_at slots slot ≡ Some (tag, place) → IsOn place (places_of (matches_in slots bucket tag))
    found bucket tag slot here entry = found_match slots tag place _ 4 slot (omega arith) (omega arith) entry

    in_first : IsOn place (places_of (matches_in slots first second)) → IsOn place (places_of (candidates_of slots first second))
    in_first on = elim (cases_eq first second) [
      | inl same ↦ subst (λ (cs : List Candidate). IsOn place (places_of cs)) (sym (candidates_same slots first second same)) on
      | inr other ↦ subst (IsOn place) (sym (candidates_differ slots first second other)) (on_left place _ _ on)
    ]

    in_second : IsOn place (places_of (matches_in slots second first)) → IsOn place (places_of (candidates_of slots first second))
    in_second on = elim (cases_eq first second) [
      | inl same ↦ in_first (rw same (rw same at on))
      | inr other ↦ subst (IsOn place) (sym (candidates_differ slots first second other)) (on_right place _ _ on)
    ]

    at : (slot : ℕ) (o : Option Entry) → entry_at slots slot ≡ o → option_map (λ (e : Entry). e.1) o ≡ Some place → option_map (λ (e : Entry). pair_of (slot / 4) e.0) o ≡ Some (pair_of first second)
        → IsOn place (places_of (candidates_of slots first second))
    at slot None entry held pair = absurd (cc)
    at slot (Some e) entry held pair =
        let place_is : e.1 ≡ place = cc in
        let pair_is : pair_of (slot / 4) e.0 ≡ pair_of first second = cc in
        elim (same_pair _ e.0 first second pair_is) [
          | inl (here, tag) ↦ in_first (found first second slot here (entry ∙ rw (← tag, ← place_is) refl))
          | inr (here, tag) ↦ in_second (found second first slot here (entry ∙ rw (← tag, ← place_is) refl))
        ]

-- no candidate's place occurs twice
candidates_apart : (slots : Slots) (first second : ℕ) → PlacesApart slots → NoneTwice (places_of (candidates_of slots first second))
candidates_apart slots first second apart = elim (cases_eq first second) [
  | inl same ↦ subst (λ (cs : List Candidate). NoneTwice (places_of cs)) (sym (candidates_same slots first second same)) (matches_apart slots second (4 * first) 4 apart)
  | inr other ↦ subst NoneTwice (sym (candidates_differ slots first second other)) (none_twice_append (places_of (matches_in slots first second)) (places_of
      (matches_in slots second first)) (matches_apart slots second (4 * first) 4 apart) (matches_apart slots first (4 * second) 4 apart) (λ x on also.
      let here = match_found slots second x (4 * first) 4 on in
      let there = match_found slots first x (4 * second) 4 also in
      let same = apart here.0 there.0 x (ap (option_map (λ (e : Entry). e.1)) here.3) (ap (option_map (λ (e : Entry). e.1)) there.3) in
      let is : first ≡ second = omega (arith, here.1, here.2, there.1, there.2) in
      other is))
]

-- a number on a list is one that it contains
contains_on : (xs : List ℕ) (x : ℕ) → Contains xs x → IsOn x xs
contains_on xs x (k, low, is) = subst (λ y. IsOn y xs) (sym (get_or_default_zero xs k x low) ∙ is) (on_index xs k low)

-- and the converse
on_contains : (xs : List ℕ) (x : ℕ) → IsOn x xs → Contains xs x
on_contains [] x on = absurd on
on_contains (s ∷ xs) x (inl same) = (0, omega arith, sym same)
on_contains (s ∷ xs) x (inr on) = let rest = on_contains xs x on in (suc rest.0, omega (arith, rest.1), rest.2)

-- the candidates are exactly the places with the pair
pub candidates_exact : (slots : Slots) (first second place : ℕ) → PlacesApart slots → Contains (places_of (candidates_of slots first second)) place
    ↔ (table_pairs slots place ≡ Some (pair_of first second))
candidates_exact slots first second place apart = search (arith, candidate_pair, contains_on, on_contains, pair_candidate)

-- each once
pub candidates_once : (slots : Slots) (first second : ℕ) → PlacesApart slots → AllPairs (λ p q. p ≢ q) (places_of (candidates_of slots first second))
candidates_once slots first second apart = search (arith, candidates_apart, index_apart, get_or_default_zero)

-- the candidate's slot has its place
abbrev pub Stands : Slots → Candidate → Type 0
Stands slots c = place_at slots c.slot ≡ Some c.place

-- each candidate is in its slot
pub candidates_standing : (slots : Slots) (first second : ℕ) → All (Stands slots) (candidates_of slots first second)
unfolding candidates_of
candidates_standing slots first second = go (first == second)
  where
    some_stand : (tag a n : ℕ) → All (Stands slots) (filter_map (match_at slots tag) (range_with_len a n))
    some_stand tag a zero = All-nil (Stands slots)
    some_stand tag a (suc n) = more (match_at slots tag a) refl (some_stand tag (a + 1) n)
      where
        more : (o : Option Candidate) → match_at slots tag a ≡ o → All (Stands slots) (filter_map (match_at slots tag) (range_with_len (a + 1) n))
            → All (Stands slots) (cons_option o (filter_map (match_at slots tag) (range_with_len (a + 1) n)))
        more None is rest = rest
        more (Some c) is rest =
            let it = match_is slots tag a c is in
            All-cons (Stands slots) c (filter_map (match_at slots tag) (range_with_len (a + 1) n)) (ap (place_at slots) it.0 ∙ ap (option_map (λ (e : Entry). e.1)) it.1) rest

    go : (b : Bool) → All (Stands slots) (matches_in slots first second ++ (if b then [] else matches_in slots second first))
    go true = All-append (Stands slots) (matches_in slots first second) [] (some_stand second (4 * first) 4) (All-nil (Stands slots))
    go false = All-append (Stands slots) (matches_in slots first second) (matches_in slots second first) (some_stand second (4 * first) 4) (some_stand first (4 * second) 4)
