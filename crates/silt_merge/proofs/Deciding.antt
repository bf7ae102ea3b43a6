-- Which key is decided next, by what row, and what is due after it.
use Rattle.silt_merge.proofs.Common.{◌≡◌, ◌≢◌, ℕ, zero, suc, ◌+◌, ◌<◌, ◌≤◌, ◌⊎◌, nat_lt, Bool, true, false, ◌||◌, cond, List, [], ◌∷◌, ◌++◌, filter, length, take, slice_get, Option, Some, None}
use Rattle.silt_merge.proofs.Common.{inl, inr, refl, sym, ap, ◌∙◌, arith, bytes_eq, Less, option_or, slice_cmp, cases_Bool, cases_lt, cond-true, cond-false, le-ltb, ltb-false, take_more}
use Rattle.silt_merge.proofs.Common.{slice_get_within, newest_row, StoredRow, is_put_row, key_of_row, key_at, has_row_with, newest_rows, nat_cmp, rules, is_some, cases_eq, cases_order, lt-ltb}
use Rattle.silt_merge.proofs.Common.{length-take-le, take-append-le, take_all, filter-append, list_any-append, get_or_from_slice_get, row_inside}
use Rattle.std.specs.Cmp.Lexicographic.{nat_list_cmp_total}
use Rattle.silt_merge.proofs.Newest.{Above, Rises, find_newest, key_below, key_is, key_itself, newest_append, newest_rising, rises_at, rises_newest, row_with}

-- ---- rows that rise, by places

-- a row that is above a key
above_there : (key : List ℕ) (rows : List StoredRow) (place : ℕ) (row : StoredRow) → Above key rows → slice_get rows place ≡ Some row → slice_cmp nat_cmp key row.key ≡ Less
above_there key [] place row above there = absurd (cc)
above_there key (first ∷ rest) zero row above there = let same : first ≡ row = cc in cc (above.0)
above_there key (first ∷ rest) (suc place) row above there = above_there key rest place row above.1 there

-- a key that rows above another have is above it
above_found : (key : List ℕ) (rows : List StoredRow) (asked : List ℕ) (row : StoredRow) → Above key rows → row_with asked rows ≡ Some row → slice_cmp nat_cmp key asked ≡ Less
above_found key [] asked row above is = absurd (cc)
above_found key (first ∷ rest) asked row above is =
    let further = above_found key rest asked row above.1 in
    elim (cases_Bool (bytes_eq first.key asked)) [
      | inl same ↦ ap (slice_cmp nat_cmp key) (sym (key_is _ asked same)) ∙ above.0
      | inr other ↦ further (sym (cond-false _ _ _ other) ∙ is)
    ]

-- a row at a place is that of its key
pub find_at : (rows : List StoredRow) (place : ℕ) (row : StoredRow) → Rises rows → slice_get rows place ≡ Some row → row_with row.key rows ≡ Some row
find_at [] place row rises there = absurd (cc)
find_at (first ∷ rest) zero row rises there = search (arith, key_itself)
find_at (first ∷ rest) (suc place) row rises there = search (arith, find_at rest place row rises.1 there, key_below, above_there)

-- and no row before it has its key
pub none_before : (rows : List StoredRow) (place : ℕ) (row : StoredRow) → Rises rows → slice_get rows place ≡ Some row → has_row_with row.key (take place rows) ≡ false
none_before [] place row rises there = absurd (cc)
none_before (first ∷ rest) zero row rises there = refl
none_before (first ∷ rest) (suc place) row rises there = cc (key_below first.key row.key (above_there first.key rest place row rises.0 there), none_before rest place row rises.1 there)

-- the row of a key has a place
pub place_found : (key : List ℕ) (rows : List StoredRow) (row : StoredRow) → row_with key rows ≡ Some row → (place : ℕ) × (slice_get rows place ≡ Some row) × (row.key ≡ key)
place_found key [] row is = absurd (cc)
place_found key (first ∷ rest) row is =
    let further = place_found key rest row in
    elim (cases_Bool (bytes_eq first.key key)) [
      | inl same ↦
          search (arith, key_is)
      | inr other ↦ let later = further (sym (cond-false _ _ _ other) ∙ is) in (suc later.0, later.1, later.2)
    ]

-- a row is found exactly if one has the key
pub found_where_has : (key : List ℕ) (rows : List StoredRow) → has_row_with key rows ≡ is_some (row_with key rows)
found_where_has key [] = refl
found_where_has key (first ∷ rest) = search (arith, found_where_has key rest)

-- a key that is not among the first rows is that of the next one, or above it
pub next_at : (rows : List StoredRow) (count : ℕ) (key : List ℕ) (found : StoredRow) → Rises rows → row_with key rows ≡ Some found → has_row_with key (take count rows) ≡ false
    → (row : StoredRow) × (slice_get rows count ≡ Some row) × ((row.key ≡ key) ⊎ (slice_cmp nat_cmp row.key key ≡ Less))
next_at (first ∷ rest) (suc count) key found rises is none = search (arith, next_at rest count key found rises.1)
next_at rows count key found rises is none = search (rules, arith, above_found)

-- the first rows and one more
take_one : (rows : List StoredRow) (count : ℕ) (row : StoredRow) → slice_get rows count ≡ Some row → take (count + 1) rows ≡ take count rows ++ row ∷ []
take_one rows count row there = cc (take_more rows count row (slice_get_within rows count row there), get_or_from_slice_get rows count row row there)

-- one row more
pub has_more : (rows : List StoredRow) (count : ℕ) (row : StoredRow) (key : List ℕ) → slice_get rows count ≡ Some row
    → has_row_with key (take (count + 1) rows) ≡ (has_row_with key (take count rows) || bytes_eq row.key key)
has_more rows count row key there =
    let last : (b : Bool) → (b || false) ≡ b = elim [ true ↦ refl | false ↦ refl ] in
    cc (take_one rows count row there, list_any-append (λ (r : StoredRow). bytes_eq r.key key) (take count rows) (row ∷ []), last (bytes_eq row.key key))

-- a key of the first rows is below that of the next one
pub before_at : (rows : List StoredRow) (count : ℕ) (key : List ℕ) (row : StoredRow) → Rises rows → has_row_with key (take count rows) ≡ true
    → slice_get rows count ≡ Some row → slice_cmp nat_cmp key row.key ≡ Less
before_at (first ∷ rest) (suc count) key row rises has there =
    let further = before_at rest count key row rises.1 in
    elim (cases_Bool (bytes_eq first.key key)) [
      | inl same ↦ ap (λ k. slice_cmp nat_cmp k row.key) (sym (key_is _ key same)) ∙ above_there _ rest count row rises.0 there
      | inr other ↦ further (sym (ap (λ b. b || has_row_with key (take count rest)) other) ∙ has) there
    ]
before_at rows count key row rises has there = absurd (cc)

-- ---- choices

-- a choice that finds
pub cond_some : {A : Type 0} (b : Bool) (o : Option A) (x : A) → cond b None o ≡ Some x → (b ≡ false) × (o ≡ Some x)
cond_some true o x is = absurd (cc)
cond_some false o x is = (refl, is)

-- a choice finds something if its last part does
or_some : {A : Type 0} (o : Option A) (x : A) → (y : A) × (option_or o (Some x) ≡ Some y)
or_some None x = (x, refl)
or_some (Some y) x = (y, refl)

-- and if its first part does
or_first : {A : Type 0} (o p : Option A) (x : A) → o ≡ Some x → option_or o p ≡ Some x
or_first o p x is = ap (λ q. option_or q p) is

-- two tests in a row
cond_twice : {A : Type 0} (a b : Bool) (o : Option A) → cond b None (cond a None o) ≡ cond (a || b) None o
cond_twice true true o = refl
cond_twice true false o = refl
cond_twice false true o = refl
cond_twice false false o = refl

-- nothing in both parts of a choice
or_nothing : {A : Type 0} (o p : Option A) → option_or o p ≡ None → o ≡ None
or_nothing None p none = refl
or_nothing (Some x) p none = absurd (cc)

-- ---- what is decided

-- Of entries and the rows of hash stores, so many keys are decided: `waits` gives the newest row of each key that is not decided and has
-- one in a hash store, and so many entries have keys that are decided.
pub record IsDecided (entries hashed : List StoredRow) (decided passed : ℕ) (waits : List ℕ → Option StoredRow) : Type 0 where
  pub waiting : (key : List ℕ) → waits key ≡ cond (has_row_with key (take decided (newest_rows (entries ++ hashed)))) None (newest_row hashed key)
  pub passing : (place : ℕ) → place < length entries → has_row_with (key_at entries place) (take decided (newest_rows (entries ++ hashed))) ≡ nat_lt place passed

-- a key for which a row waits, or which the next entry has, and no lower key is such
pub record IsLowest (entries : List StoredRow) (passed : ℕ) (waits : List ℕ → Option StoredRow) (key : List ℕ) : Type 0 where
  pub is : ((row : StoredRow) × (waits key ≡ Some row)) ⊎ ((passed < length entries) × (key_at entries passed ≡ key))
  pub rows : (other : List ℕ) (row : StoredRow) → waits other ≡ Some row → slice_cmp nat_cmp other key ≢ Less
  pub entry : passed < length entries → slice_cmp nat_cmp (key_at entries passed) key ≢ Less

module _ (entries hashed : List StoredRow) (decided passed : ℕ) (waits : List ℕ → Option StoredRow) (rises : Rises entries) (so_far : IsDecided entries hashed decided passed waits) where
  abbrev all : List StoredRow
  all = newest_rows (entries ++ hashed)

  -- the newest row of a key
  newest_of : (key : List ℕ) → row_with key all ≡ option_or (newest_row hashed key) (newest_row entries key)
  newest_of key = find_newest (entries ++ hashed) key ∙ newest_append entries hashed key

  -- that of an entry's key, among the entries
  newest_entry : (place : ℕ) (row : StoredRow) (key : List ℕ) → slice_get entries place ≡ Some row → row.key ≡ key → newest_row entries key ≡ Some row
  newest_entry place row key there same = cc (newest_rising entries rises key, find_at entries place row rises there)

  -- a row waits for no key that is decided
  waits_for : (key : List ℕ) (row : StoredRow) → waits key ≡ Some row → (has_row_with key (take decided all) ≡ false) × (newest_row hashed key ≡ Some row)
  waits_for key row is = cond_some _ _ row (sym (so_far.waiting key) ∙ is)

  -- an entry that is not passed over has a key that is not decided
  entry_waits : (place : ℕ) (key : List ℕ) → passed ≤ place → place < length entries → key_at entries place ≡ key → has_row_with key (take decided all) ≡ false
  entry_waits place key past inside at = cc (so_far.passing place inside, le-ltb place passed past)

  -- the next entry is above each key that is decided
  pub next_above : (key : List ℕ) → has_row_with key (take decided all) ≡ true → passed < length entries → slice_cmp nat_cmp key (key_at entries passed) ≡ Less
  next_above key has below =
      let row = row_inside entries passed below in
      let its : List ℕ = key_at entries passed in
      let here = newest_entry passed row.0 its row.1 (sym (key_of_row entries passed row.0 row.1)) in
      let some = or_some (newest_row hashed its) row.0 in
      let apart = entry_waits passed its (omega arith) below refl in
      let next = next_at all decided its some.0 (rises_newest (entries ++ hashed)) (newest_of its ∙ ap (option_or (newest_row hashed its)) here ∙ some.1) apart in
      let lower = before_at all decided key next.0 (rises_newest (entries ++ hashed)) has next.1 in
      elim next.2 [ inl same ↦ ap (slice_cmp nat_cmp key) (sym same) ∙ lower | inr less ↦ nat_list_cmp_total.trans key next.0.key its lower less ]

  -- the lowest key has a row, and is not decided
  lowest_waits : (key : List ℕ) → IsLowest entries passed waits key → ((row : StoredRow) × (row_with key all ≡ Some row)) × (has_row_with key (take decided all) ≡ false)
  lowest_waits key lowest = elim lowest.is [
    | inl found ↦ let it = waits_for key _ found.1 in ((found.0, newest_of key ∙ or_first _ _ _ it.1), it.0)
    | inr next ↦
        let row = row_inside _ passed next.0 in
        let here = newest_entry passed row.0 key row.1 (sym (key_of_row entries passed row.0 row.1) ∙ next.1) in
        let some = or_some _ row.0 in
        ((some.0, newest_of key ∙ ap (option_or (newest_row hashed key)) here ∙ some.1), entry_waits passed key (omega arith) next.0 next.1)
  ]

  -- no key below it is that of the next row
  not_lower : (key : List ℕ) (row : StoredRow) → IsLowest entries passed waits key → slice_get all decided ≡ Some row → slice_cmp nat_cmp row.key key ≡ Less → ⊥
  not_lower key row lowest there less =
      let rising = rises_newest (entries ++ hashed) in
      let apart = none_before all decided row rising there in
      let found = sym (newest_of row.key) ∙ find_at all decided row rising there in
      go apart (newest_row hashed row.key) refl found
    where
      behind : (place : ℕ) → slice_get entries place ≡ Some row → has_row_with row.key (take decided all) ≡ false → ⊥
      behind place at apart =
          let inside = slice_get_within entries place row at in
          let its : key_at entries place ≡ row.key = key_of_row entries place row at in
          let past : passed ≤ place = ltb-false place passed (sym (so_far.passing place inside) ∙ ap (λ k. has_row_with k (take decided all)) its ∙ apart) in
          elim (cases_eq passed place) [
            | inl same ↦ lowest.entry (omega arith) (ap (λ p. slice_cmp nat_cmp (key_at entries p) key) same ∙ ap (λ k. slice_cmp nat_cmp k key) its ∙ less)
            | inr other ↦
                let under : slice_cmp nat_cmp (key_at entries passed) row.key ≡ Less =
                ap (slice_cmp nat_cmp (key_at entries passed)) (sym its) ∙ rises_at _ rises passed place (omega arith) inside in
                lowest.entry (omega arith) (nat_list_cmp_total.trans (key_at entries passed) row.key key under less)
          ]

      go : has_row_with row.key (take decided all) ≡ false → (o : Option StoredRow) → newest_row hashed row.key ≡ o → option_or o (newest_row entries row.key) ≡ Some row → ⊥
      go apart (Some other) is found = lowest.rows row.key other (so_far.waiting row.key ∙ cond-false _ _ _ apart ∙ is) less
      go apart None is found = let at = place_found _ _ row (sym (newest_rising _ rises _) ∙ found) in behind at.0 at.1 apart

  -- it is that of the next row
  pub lowest_next : (key : List ℕ) → IsLowest entries passed waits key → (row : StoredRow) × (slice_get all decided ≡ Some row) × (row.key ≡ key)
  lowest_next key lowest = search (arith, lowest_waits, next_at, rises_newest, not_lower)

  -- which is the row that waits
  pub next_waits : (row found : StoredRow) → slice_get all decided ≡ Some row → waits row.key ≡ Some found → row ≡ found
  next_waits row found there is =
      let one : Some row ≡ Some found = sym (find_at all decided row (rises_newest (entries ++ hashed)) there) ∙ newest_of row.key ∙ or_first _ _ found (waits_for row.key found is).1 in
      cc

  -- or the next entry, if no row waits
  pub next_enters : (row entry : StoredRow) → slice_get all decided ≡ Some row → waits row.key ≡ None → slice_get entries passed ≡ Some entry → entry.key ≡ row.key → row ≡ entry
  next_enters row entry there none at same =
      let rising = rises_newest (entries ++ hashed) in
      let lacks : newest_row hashed row.key ≡ None = sym (so_far.waiting row.key ∙ cond-false _ _ _ (none_before all decided row rising there)) ∙ none in
      let one : Some row ≡ Some entry = cc (find_at all decided row rising there, newest_of row.key, newest_entry passed entry row.key at same) in
      cc

  -- ---- with one key more

  -- the waiting rows, once those of the key are dropped
  waits_after : (row : StoredRow) (after : List ℕ → Option StoredRow) → slice_get all decided ≡ Some row → ((key : List ℕ) → after key ≡ cond (bytes_eq row.key key) None (waits key))
      → (key : List ℕ) → after key ≡ cond (has_row_with key (take (decided + 1) all)) None (newest_row hashed key)
  waits_after row after there gone key = search (arith, cond_twice, has_more)

  -- an entry's key
  passes_at : (row : StoredRow) (place : ℕ) → slice_get all decided ≡ Some row → place < length entries
      → has_row_with (key_at entries place) (take (decided + 1) all) ≡ (nat_lt place passed || bytes_eq row.key (key_at entries place))
  passes_at row place there inside = cc (has_more all decided row (key_at entries place) there, so_far.passing place inside)

  -- so many entries and one more have decided keys, if the next entry has the key
  pub decided_with : (row : StoredRow) (after : List ℕ → Option StoredRow) → slice_get all decided ≡ Some row → passed < length entries → key_at entries passed ≡ row.key
      → ((key : List ℕ) → after key ≡ cond (bytes_eq row.key key) None (waits key)) → IsDecided entries hashed (decided + 1) (passed + 1) after
  decided_with row after there below at gone = record {
    waiting = waits_after row after there gone;
    passing = λ place inside. passes_at row place there inside ∙ elim (cases_order place passed) [
      | inl same ↦
          let last : (b : Bool) → (b || true) ≡ true = elim [ true ↦ refl | false ↦ refl ] in
          ap (λ b. nat_lt place passed || b) (key_itself _ _ (sym (ap (key_at entries) same ∙ at))) ∙ last (nat_lt place passed) ∙ sym (lt-ltb place (passed + 1) (omega arith))
      | inr (inl lower) ↦ ap (λ b. b || bytes_eq row.key (key_at entries place)) (lt-ltb place passed lower) ∙ sym (lt-ltb place (passed + 1) (omega arith))
      | inr (inr higher) ↦
          cc (
            le-ltb place passed (omega arith),
            key_below row.key (key_at entries place) (ap (λ k. slice_cmp nat_cmp k (key_at entries place)) (sym at) ∙ rises_at entries rises passed place higher inside),
            le-ltb place (passed + 1) (omega arith),
          )
    ];
  }

  -- as many, if its key is greater
  pub decided_without : (row : StoredRow) (after : List ℕ → Option StoredRow) → slice_get all decided ≡ Some row → (passed < length entries → slice_cmp nat_cmp row.key (key_at entries passed) ≡ Less)
      → ((key : List ℕ) → after key ≡ cond (bytes_eq row.key key) None (waits key)) → IsDecided entries hashed (decided + 1) passed after
  decided_without row after there above gone = record {
    waiting = waits_after row after there gone;
    passing = λ place inside. passes_at row place there inside ∙ elim (cases_order place passed) [
      | inl same ↦
          ap (λ b. b || bytes_eq row.key (key_at entries place)) (le-ltb place passed (omega arith))
          ∙ key_below row.key (key_at entries place) (ap (λ p. slice_cmp nat_cmp row.key (key_at entries p)) same ∙ above (omega arith)) ∙ sym (le-ltb place passed (omega arith))
      | inr (inl lower) ↦ ap (λ b. b || bytes_eq row.key (key_at entries place)) (lt-ltb place passed lower) ∙ sym (lt-ltb place passed lower)
      | inr (inr higher) ↦
          cc (
            le-ltb place passed (omega arith),
            key_below row.key (key_at entries place) (nat_list_cmp_total.trans row.key (key_at entries passed) (key_at entries place) (above (omega arith)) (rises_at
                entries rises passed place higher inside)),
          )
    ];
  }

  -- ---- all keys

  -- if no row waits and all entries are skipped, all keys are decided
  pub all_decided : ((key : List ℕ) → waits key ≡ None) → length entries ≤ passed → length all ≤ decided
  all_decided none past = elim (cases_lt decided (length all)) [
    | inr most ↦ most
    | inl below ↦ let next = row_inside all decided below in absurd (no_next next.0 next.1)
  ]
    where
      no_next : (row : StoredRow) → slice_get all decided ≡ Some row → ⊥
      no_next row there =
          let rising = rises_newest (entries ++ hashed) in
          let apart = none_before all decided row rising there in
          let lacks : newest_row hashed row.key ≡ None = sym (so_far.waiting row.key ∙ cond-false _ _ _ apart) ∙ none row.key in
          let found : newest_row entries row.key ≡ Some row = cc (newest_of row.key, find_at all decided row rising there) in
          let at = place_found row.key entries row (sym (newest_rising entries rises row.key) ∙ found) in
          let inside = slice_get_within entries at.0 row at.1 in
          let passed_over : nat_lt at.0 passed ≡ true = lt-ltb at.0 passed (omega arith) in
          let has = so_far.passing at.0 inside ∙ passed_over in
          let lacks_it = ap (λ k. has_row_with k (take decided all)) (key_of_row entries at.0 row at.1) ∙ apart in
          absurd (cc)

  -- and the other way round
  pub none_waits : length all ≤ decided → ((key : List ℕ) → waits key ≡ None) × (length entries ≤ passed)
  none_waits most = (
    λ key. cc (so_far.waiting key, take_all decided all most, all_known key (has_row_with key all) refl),
    elim (cases_lt passed (length entries)) [
      | inr past ↦ past
      | inl below ↦
          let row = row_inside _ passed below in
          let key : List ℕ = key_at entries passed in
          let here = newest_entry passed row.0 key row.1 (sym (key_of_row entries passed row.0 row.1)) in
          let has : has_row_with key all ≡ true = cc (found_where_has key all, newest_of key, (or_some _ row.0).1) in
          let lacks : has_row_with key all ≡ false = cc (take_all decided all most, so_far.passing passed below, le-ltb passed passed (omega arith)) in
          absurd (cc)
    ],
  )
    where
      all_known : (key : List ℕ) (b : Bool) → has_row_with key all ≡ b → cond (has_row_with key all) None (newest_row hashed key) ≡ None
      all_known key true has = cond-true _ _ _ has
      all_known key false lacks =
          let none : (o : Option StoredRow) → is_some o ≡ false → o ≡ None = elim [ None ↦ λ e. refl | Some r ↦ λ e. absurd (cc) ] in
          cond-false _ _ _ lacks ∙ or_nothing _ _ (sym (newest_of key) ∙ none (row_with key all) (sym (found_where_has key all) ∙ lacks))

-- ---- what is written

-- of a beginning and more, a beginning
pub take_both : (most : ℕ) (xs ys : List StoredRow) → take most (take most xs ++ ys) ≡ take most (xs ++ ys)
take_both most xs ys = search (arith, take_all, length-take-le, take-append-le)

-- one row more that is due, or not
pub due_more : (rows : List StoredRow) (count most : ℕ) (row : StoredRow) (before due after : List StoredRow) → slice_get rows count ≡ Some row
    → before ≡ take most (filter is_put_row (take count rows))
    → due ≡ filter is_put_row (row ∷ []) → after ≡ take most (before ++ due) → after ≡ take most (filter is_put_row (take (count + 1) rows))
due_more rows count most row before due after there is more made =
    cc (is, take_both most (filter is_put_row (take count rows)) (filter is_put_row (row ∷ [])), filter-append is_put_row (take count rows) (row ∷ []), take_one rows count row there)
