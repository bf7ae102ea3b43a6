-- What a get returns.
use Rattle.silt_store_set.proofs.Common.{◌≡◌, ℕ, Bool, true, false, IsTrue, List, Option, Some, None, Ok, refl, ap, sym, ◌∙◌, get, GaveAny, Ghosts, Key, Map, image_map, Stands, base_map}
use Rattle.silt_store_set.proofs.Common.{current_map, full_image, waiting_commands, EngineState, meaning, Step, Get, Refusal, Found, Absent, Refused, Does, none_made, not, Device, NoMemory}
use Rattle.silt_engine.specs.Lookup.{changes_key}
use Rattle.silt_engine.proofs.Waits.{others_stay}
use Rattle.silt_store_set.specs.Replies.{ReadCause, get_reply}
use Rattle.silt_store_set.proofs.Calls.{seen, answered, refused}

-- a test that is not passed
not_changed : (changes : Bool) → not changes ≡ true → changes ≡ false
not_changed true is = absurd (cc)
not_changed false is = refl

module _ {D F : Type 0} (facts : Ghosts D F) (disk : D) (stores : EngineState) (count : ℕ) (key : Key) (stands : Stands (facts.content disk) stores) where
  -- the map that lookups read is that of the full image
  pub looked_up : (value : Option (List ℕ)) → (IsTrue (facts.content disk).honest → get (current_map (facts.content disk) stores) key.0 ≡ value)
      → IsTrue (facts.content disk).honest → get (image_map (full_image (facts.content disk) stores)) key.0 ≡ value
  looked_up value found h = ap (λ (m : Map). get m key.0) ((meaning (facts.content disk) stores stands).full h) ∙ found h

  pub get_found : (value : List ℕ) → (IsTrue (facts.content disk).honest → get (current_map (facts.content disk) stores) key.0 ≡ Some value)
      → Does facts (seen facts disk stores count) (seen facts disk stores count) (Get key) (Found value)
  get_found value found = answered facts disk stores count (Get key) (Found value) stands refl refl refl (refl, refl) none_made (λ h. (looked_up (Some value) found h, refl)) (λ _. tt)

  pub get_absent : (IsTrue (facts.content disk).honest → get (current_map (facts.content disk) stores) key.0 ≡ None)
      → Does facts (seen facts disk stores count) (seen facts disk stores count) (Get key) Absent
  get_absent none = answered facts disk stores count (Get key) Absent stands refl refl refl (refl, refl) none_made (λ h. (looked_up None none h, refl)) (λ _. tt)

  -- a lookup returned
  pub get_answered : (found : Bool) (out : List ℕ) → (found ≡ true → IsTrue (facts.content disk).honest → get (current_map (facts.content disk) stores) key.0 ≡ Some out)
      → (found ≡ false → IsTrue (facts.content disk).honest → get (current_map (facts.content disk) stores) key.0 ≡ None)
      → Does facts (seen facts disk stores count) (seen facts disk stores count) (Get key) (get_reply {F = F} out (Ok found))
  get_answered true out there none = get_found out (there refl)
  get_answered false out there none = get_absent (none refl)

  -- if no waiting command changes the key, the base has what the map has
  kept : (value : Option (List ℕ)) → changes_key (waiting_commands (facts.content disk) stores) key.0 ≡ false → IsTrue (facts.content disk).honest
      → get (current_map (facts.content disk) stores) key.0 ≡ value → get (image_map (facts.content disk).shown) key.0 ≡ value
  kept value none h found = cc ((meaning (facts.content disk) stores stands).shown h, others_stay (base_map (facts.content disk) stores) (waiting_commands (facts.content disk) stores) key.0 none)

  -- so it gives the answer of the lookup
  pub get_kept : (found is_settled : Bool) (out : List ℕ) → (found ≡ true → IsTrue (facts.content disk).honest → get (current_map (facts.content disk) stores) key.0 ≡ Some out)
      → (found ≡ false → IsTrue (facts.content disk).honest → get (current_map (facts.content disk) stores) key.0 ≡ None)
      → (IsTrue (facts.content disk).honest → is_settled ≡ not (changes_key (waiting_commands (facts.content disk) stores) key.0)) → IsTrue (facts.content disk).honest → is_settled ≡ true
      → Step (image_map (facts.content disk).shown) (Get key) (get_reply {F = F} out (Ok found)) (image_map (facts.content disk).shown)
  get_kept true is_settled out there none says h is = (kept (Some out) (not_changed (changes_key (waiting_commands (facts.content disk) stores) key.0) (sym (says h) ∙ is)) h (there refl h), refl)
  get_kept false is_settled out there none says h is = (kept None (not_changed (changes_key (waiting_commands (facts.content disk) stores) key.0) (sym (says h) ∙ is)) h (none refl h), refl)

  -- a read failed
  pub get_faulted : (fault : F) → GaveAny facts.gave disk fault → Does facts (seen facts disk stores count) (seen facts disk stores count) (Get key) (Refused (Device fault))
  get_faulted fault given = refused facts disk stores count (Get key) (Device fault) stands refl (record { given = given; working = refl; same = refl })

  -- a value was not read
  pub get_refused : (refusal : Refusal F) (value : List ℕ) → (IsTrue (facts.content disk).honest → get (current_map (facts.content disk) stores) key.0 ≡ Some value)
      → ReadCause (GaveAny facts.gave disk) refusal → Does facts (seen facts disk stores count) (seen facts disk stores count) (Get key) (Refused refusal)
  get_refused (Device fault) value found given = get_faulted fault given
  get_refused NoMemory value found none = refused facts disk stores count (Get key) NoMemory stands refl (refl, λ h. (value, looked_up (Some value) found h))
  get_refused refusal value found cause = absurd cause
