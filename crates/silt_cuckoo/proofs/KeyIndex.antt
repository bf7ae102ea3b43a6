-- The keys of an index, and one key more.
use Rattle.silt_cuckoo.proofs.Common.{◌≡◌, ℕ, List, [], ◌∷◌, ◌++◌, fold, Option, Some, None, refl, append_assoc, append-nil, empty_slots, option_and_then, arith, PushLaw}
use Rattle.silt_cuckoo.specs.Index.{Index, added, indexed}
use Rattle.silt_cuckoo.proofs.Search.{some_or_none}
use Rattle.std.proofs.lemmas.List.Sums.{fold-append}

-- one more key, if there is a table
abbrev pub next_index : ℕ → Option Index → List ℕ → Option Index
next_index buckets index key = option_and_then (λ i. added buckets i key) index

-- keys after others
pub indexed_append : (buckets : ℕ) (xs ys : List (List ℕ)) → indexed buckets (xs ++ ys) ≡ fold (next_index buckets) (indexed buckets xs) ys
unfolding indexed
indexed_append buckets xs ys = fold-append (next_index buckets) _ xs ys

-- once the rule has found no place, no table comes back
pub stays_none : (buckets : ℕ) (keys : List (List ℕ)) → fold (next_index buckets) None keys ≡ None
stays_none buckets [] = refl
stays_none buckets (key ∷ keys) = stays_none buckets keys

-- an index holds the keys that it was made of
fold_keys : (buckets : ℕ) (keys : List (List ℕ)) (i j : Index) → fold (next_index buckets) (Some i) keys ≡ Some j → j.keys ≡ i.keys ++ keys
unfolding added
fold_keys buckets [] i j e = cc (append-nil i.keys)
fold_keys buckets (key ∷ keys) i j e = search (arith, fold_keys buckets keys, some_or_none, stays_none, append_assoc)

-- the index of some keys holds these keys
pub indexed_keys : (buckets : ℕ) (keys : List (List ℕ)) (j : Index) → indexed buckets keys ≡ Some j → j.keys ≡ keys
unfolding indexed
indexed_keys buckets keys j e = fold_keys buckets keys (record { keys = []; slots = empty_slots buckets }) j e

-- the table of some keys and one more
pub push_law : PushLaw
unfolding added
push_law buckets keys key = search (arith, indexed_append, indexed_keys)
