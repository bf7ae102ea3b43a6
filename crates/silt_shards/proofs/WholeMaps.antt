-- Each list of maps of which every key asks one is a map.
use Rattle.silt_shards.proofs.Common.{◌≡◌, ◌<◌, ℕ, zero, suc, ◌+◌, ◌%◌, ◌==◌, Bool, true, false, cond, Option, Some, None, List, [], ◌∷◌, ◌++◌, inl, inr, refl, ap, sym, ◌∙◌, arith, slice_cmp}
use Rattle.silt_shards.proofs.Common.{option_or, filter, option_and_then, slice_get, cases_Bool, eq-eqb, ne_eqb, nat_list_cmp_total, bytes_eq-Decides, Map, same_key}
use Rattle.std.specs.FinMap.{entries, find, from_entries, get, get-entries, get-from_entries}
use Rattle.std.specs.Ordering.{nat_cmp, eq_by_cmp}
use Rattle.silt_disk.specs.Numbers.{number_at}

-- entries of keys and values
abbrev Entries : Type 0
Entries = List (List ℕ × List ℕ)

-- the value of the first entry of a key
abbrev first_of : List ℕ → Entries → Option (List ℕ)
first_of q es = find (slice_cmp nat_cmp) q es

-- keys that tie are the same
tie_same : (q key : List ℕ) → eq_by_cmp (slice_cmp nat_cmp) q key ≡ true → q ≡ key
tie_same q key tie = sym ((bytes_eq-Decides key q).0 (sym (same_key q key) ∙ tie))

-- the first entry of a key in two lists
first_append : (q : List ℕ) (es more : Entries) → first_of q (es ++ more) ≡ option_or (first_of q es) (first_of q more)
first_append q [] more = refl
first_append q (e ∷ es) more = search (arith, first_append q es more, cases_Bool)

-- other keys do not tie
other_tie : (q key : List ℕ) → (q ≡ key → ⊥) → eq_by_cmp (slice_cmp nat_cmp) q key ≡ false
other_tie q key differ = elim (cases_Bool (eq_by_cmp (slice_cmp nat_cmp) q key)) [ inl tie ↦ absurd (differ (tie_same q key tie)) | inr apart ↦ apart ]

module _ (test : List ℕ → Bool) where
  -- the entries whose keys pass
  abbrev passing : Entries → Entries
  passing es = filter (λ (e : List ℕ × List ℕ). test e.0) es

  -- a key that passes has its entry among them
  first_passing : (q : List ℕ) (es : Entries) → test q ≡ true → first_of q (passing es) ≡ first_of q es
  first_passing q [] passes = refl
  first_passing q (e ∷ es) passes = elim (cases_Bool (test e.0)) [
    | inl stays ↦ rw stays (ap (cond (eq_by_cmp (slice_cmp nat_cmp) q e.0) (Some e.1)) (first_passing q es passes))
    | inr goes ↦ cc (first_passing q es passes, other_tie q e.0 (λ same. let no : true ≡ false = sym passes ∙ ap test same ∙ goes in cc))
  ]

  -- a key that does not has none
  first_failing : (q : List ℕ) (es : Entries) → test q ≡ false → first_of q (passing es) ≡ None
  first_failing q [] fails = refl
  first_failing q (e ∷ es) fails = elim (cases_Bool (test e.0)) [
    | inl stays ↦ cc (first_failing q es fails, other_tie q e.0 (λ same. let no : false ≡ true = sym fails ∙ ap test same ∙ stays in cc))
    | inr goes ↦ cc (first_failing q es fails)
  ]

module _ {C : Type 0} (map_in : C → Map) (count : ℕ) where
  -- the shard of a key's bytes
  abbrev shard_in : List ℕ → ℕ
  shard_in q = number_at 4 4 q % count

  -- the entries of each store whose keys belong to it, from this shard on
  abbrev own_entries : ℕ → List C → Entries
  own_entries next [] = []
  own_entries next (core ∷ cores) = passing (λ q. shard_in q == next) (entries (map_in core)) ++ own_entries (suc next) cores

  -- a key of an earlier shard has no entry
  first_past : (q : List ℕ) (next : ℕ) (cores : List C) → shard_in q < next → first_of q (own_entries next cores) ≡ None
  first_past q next [] past = refl
  first_past q next (core ∷ cores) past = search (arith, first_past q (suc next) cores, first_append, first_failing, ne_eqb)

  -- nothing behind an entry
  or_none : (o : Option (List ℕ)) → option_or o None ≡ o
  or_none None = refl
  or_none (Some value) = refl

  -- a key has what its own store has
  first_own : (q : List ℕ) (next ahead : ℕ) (cores : List C) → shard_in q ≡ next + ahead
      → first_of q (own_entries next cores) ≡ option_and_then (λ (core : C). get (map_in core) q) (slice_get cores ahead)
  first_own q next ahead [] is = refl
  first_own q next zero (core ∷ cores) is = search (arith, first_append, first_past, or_none, first_passing, eq-eqb, get-entries)
  first_own q next (suc ahead) (core ∷ cores) is = search (arith, first_append, first_failing, ne_eqb, first_own q (suc next) ahead cores)

  -- the map of all own entries
  pub whole_map : List C → Map
  whole_map cores = from_entries (own_entries 0 cores)

  pub whole_get : (cores : List C) (q : List ℕ) → get (whole_map cores) q ≡ option_and_then (λ (core : C). get (map_in core) q) (slice_get cores (shard_in q))
  unfolding whole_map
  whole_get cores q = get-from_entries nat_list_cmp_total (own_entries 0 cores) q ∙ first_own q 0 (shard_in q) cores (omega arith)
