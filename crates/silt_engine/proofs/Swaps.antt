-- What is exchanged in memory at the end of a conversion.
use Rattle.silt_engine.proofs.Common.{◌≡◌, ℕ, ◌+◌, ◌-◌, ◌++◌, ◌∷◌, List, [], get_or, length, take, Option, Some, None, refl, ap, sym, ◌∙◌, subst, arith, IfSome, option_to_list, length-map}
use Rattle.silt_engine.proofs.Common.{take-append_seam, LogStoreState, ConversionState, IsDigestOf, HashState, IsHeldHash, ManifestState, AreWhole, EngineState, hash_region_of, MayReplace}
use Rattle.silt_engine.proofs.Common.{ReplacesOldest, oldest_replaced, store_of, drop, length-drop, take_all, MergeState, IndexedState, MayStandFor, puts_in, sorted_replaced, insert, IsSome}
use Rattle.silt_engine.proofs.Common.{same_Some, sorted_in, oldest_log}
use Rattle.std.proofs.Common.{length-append}

-- a list with an element put in front
pub in_front : {X : Type 0} (xs : List X) (x : X) → insert xs 0 x ≡ x ∷ xs
in_front [] x = refl
in_front (y ∷ ys) x = refl

-- a conversion in progress is the one that was
pub same_conversion : (a b : ConversionState) (o : Option ConversionState) → o ≡ Some a → o ≡ Some b → a ≡ b
same_conversion a b o first second = let e : Some a ≡ Some b = sym first ∙ second in cc

-- the last element of a list, taken off its end
pub last_off : {X : Type 0} (xs rest : List X) (x d : X) (o : Option X) → xs ≡ rest ++ option_to_list o → o ≡ Some x → (rest ≡ take (length xs - 1) xs) × (x ≡ get_or xs (length xs - 1) d)
last_off xs rest x d o both some =
    let is : xs ≡ rest ++ x ∷ [] = both ∙ ap (λ (p : Option _). rest ++ option_to_list p) some in
    let long : length rest ≡ length xs - 1 = omega (arith, ap length is, length-append rest (x ∷ [])) in (
      sym (ap (λ (l : List _). take (length xs - 1) l) is ∙ ap (λ (n : ℕ). take n (rest ++ x ∷ [])) (sym long) ∙ take-append_seam rest (x ∷ [])),
      sym (ap (λ (l : List _). get_or l (length xs - 1) d) is ∙ ap (λ (n : ℕ). get_or (rest ++ x ∷ []) n d) (sym long) ∙ last_of rest),
    )
  where
    last_of : (front : List _) → get_or (front ++ x ∷ []) (length front) d ≡ x
    last_of [] = refl
    last_of (y ∷ ys) = last_of ys

-- ---- the oldest log and the hash store

-- the body then names one hash store more
pub named_more : (s : EngineState) (m : ManifestState) (may : MayReplace s m) (ended : ConversionState) (taken : Option ConversionState) → taken ≡ s.converting → taken ≡ Some ended
    → (made : HashState) (digest : List ℕ) → made ≡ store_of ended digest → IsHeldHash made → length m.current.hashed ≡ length s.hashes + 1
named_more s m may ended taken taken_is taken_some made digest made_is held =
    let same : ended ≡ may.conversion = same_conversion ended _ _ (sym taken_is ∙ taken_some) may.was in
    let is_store : made ≡ store_of may.conversion digest = made_is ∙ ap (λ (v : ConversionState). store_of v digest) same in
    let whole = may.whole digest (subst IsHeldHash is_store held) in
    omega (arith, ap length whole.hash_regions, length-map (store_of may.conversion digest ∷ s.hashes) hash_region_of)

module _ (s : EngineState) (m : ManifestState) (may : MayReplace s m) (ended : ConversionState) (taken : Option ConversionState) (taken_is : taken ≡ s.converting) (taken_some : taken ≡ Some ended)
    (log : LogStoreState) (frozen : List LogStoreState) (popped : Option LogStoreState) (frozen_items : s.frozen ≡ frozen ++ option_to_list popped) (popped_some : popped ≡ Some log)
    (made : HashState) (digest : List ℕ) (made_is : made ≡ store_of ended digest) (made_digested : IsDigestOf ended.hasher digest)
    (made_held : IsHeldHash made) (hashes : List HashState) (hashes_are : hashes ≡ insert s.hashes 0 made)
    (converting : Option ConversionState) (converting_is : converting ≡ None) (log_puts puts dropped charge : ℕ) (log_puts_are : log_puts ≡ log.puts) (puts_are : puts ≡ ended.puts)
    (dropped_is : dropped ≡ log_puts - puts) (charge_is : charge ≡ s.charge - dropped) where
  same : ended ≡ may.conversion
  same = same_conversion ended _ _ (sym taken_is ∙ taken_some) may.was

  is_store : made ≡ store_of may.conversion digest
  is_store = cc same

  off : (frozen ≡ take (length s.frozen - 1) s.frozen) × (log ≡ oldest_log s)
  off = last_off _ frozen log _ popped frozen_items popped_some

  -- the stores afterwards
  abbrev now : EngineState
  now = record s { manifest = m; frozen = frozen; hashes = hashes; converting = converting; charge = charge }

  pub replaced_are : now ≡ oldest_replaced s m may.conversion digest
  replaced_are = cc (same, off.0, off.1, in_front s.hashes made)

  -- are whole
  pub replaced_whole : AreWhole now
  replaced_whole = rw replaced_are (may.whole digest (rw is_store at made_held))

  -- and the hash store has the digest of its conversion
  pub replaces : IfSome s.converting (ReplacesOldest s m now)
  replaces = rw may.was (record { digest = digest; digested = rw same at made_digested; is = replaced_are })

-- ---- a merge

-- a merge in progress is the one that was
pub same_merge : (a b : MergeState) (o : Option MergeState) → o ≡ Some a → o ≡ Some b → a ≡ b
same_merge a b o first second = let e : Some a ≡ Some b = sym first ∙ second in cc

-- the merge that ends has made its index
pub is_sealed : (s : EngineState) (m : ManifestState) (store : IndexedState) (may : MayStandFor s m store) (merge : MergeState) (taken : Option MergeState)
    → taken ≡ s.merging → taken ≡ Some merge → IsSome merge.index.sealed
is_sealed s m store may merge taken taken_is taken_some = search (arith, same_merge)

-- what a list has from a place on, as a slice
pub from_on : (place : ℕ) (stores : List HashState) → take (length stores - place) (drop place stores) ≡ drop place stores
from_on place stores = take_all (length stores - place) (drop place stores) (omega (arith, length-drop place stores))

-- the store that a merge has become is the one that may stand for it
pub store_is : (s : EngineState) (m : ManifestState) (store made : IndexedState) (may : MayStandFor s m store) (merge : MergeState) (taken : Option MergeState) (digest : List ℕ)
    → taken ≡ s.merging → taken ≡ Some merge → store.digest ≡ digest → made.sorted ≡ sorted_in merge → merge.index.sealed ≡ Some made.index → made.digest ≡ digest → store ≡ made
store_is s m store made may merge taken digest taken_is taken_some has_digest sorted index made_digest = search (arith, same_merge, same_Some)

module _ (s : EngineState) (m : ManifestState) (store : IndexedState) (may : MayStandFor s m store) (ended : MergeState)
    (taken : Option MergeState) (taken_is : taken ≡ s.merging) (taken_some : taken ≡ Some ended) (count newer : ℕ) (count_is : count ≡ ended.stores)
    (newer_is : newer ≡ length s.hashes - count) (merged hashes : List HashState) (merged_are : merged ≡ drop newer s.hashes)
    (hashes_are : hashes ≡ take newer s.hashes) (merging : Option MergeState) (merging_is : merging ≡ None)
    (entries written without left gone dropped charge : ℕ) (entries_are : entries ≡ s.sorted.count) (written_is : written ≡ store.sorted.count)
    (without_is : without ≡ s.charge - puts_in merged) (left_is : left ≡ without - entries)
    (gone_is : gone ≡ s.charge - left) (dropped_is : dropped ≡ gone - written) (charge_is : charge ≡ s.charge - dropped) where
  -- the stores afterwards
  abbrev after : EngineState
  after = record s { manifest = m; hashes = hashes; sorted = store.sorted; index = store.index; digest = store.digest; merging = merging; charge = charge }

  sorted_are : after ≡ sorted_replaced s m may.merge.stores store
  sorted_are = cc (same_merge ended may.merge s.merging (sym taken_is ∙ taken_some) may.was)

  pub replaced : IfSome s.merging (λ merge. after ≡ sorted_replaced s m merge.stores store)
  replaced = rw may.was sorted_are

  -- are whole
  pub sorted_whole : AreWhole after
  sorted_whole = rw sorted_are may.whole
