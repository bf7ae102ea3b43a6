-- Whether a key has the value that a swap expects, and what a swap does if it has another one or none can be read.
use Rattle.silt_store_set.proofs.Common.{◌≡◌, ◌≢◌, ℕ, Bool, true, false, IsTrue, inl, List, Option, Some, None, refl, ap, ◌∙◌, is_some, get, Ghosts, Key, Swap, Refusal, Differs, Refused}
use Rattle.silt_store_set.proofs.Common.{Stands, current_map, full_image, EngineState, image_map, Does, none_made, ◌↔◌, not, option_map, Device, IsRefusedRead}
use Rattle.silt_store_set.proofs.Calls.{seen, answered, refused}
use Rattle.silt_store_set.proofs.Gets.{looked_up}

module _ {D F : Type 0} (facts : Ghosts D F) where
  module _ (disk : D) (stores : EngineState) (count : ℕ) (key : Key) (stands : Stands (facts.content disk) stores) where
    -- a value was found, and one is expected: the key has that one exactly if both are equal
    pub holds_found : (expected : List ℕ) (same : Bool) (out : List ℕ) → (IsTrue (facts.content disk).honest → get (current_map (facts.content disk) stores) key.0 ≡ Some out)
        → IsTrue same ↔ (out ≡ expected) → IsTrue (facts.content disk).honest → IsTrue same ↔ (get (image_map (full_image (facts.content disk) stores)) key.0 ≡ Some expected)
    holds_found expected same out there is h =
        let has_out = looked_up facts disk stores count key stands (Some out) there h in
        (λ t. has_out ∙ ap Some (is.0 t), λ has. is.1 (cc))

    -- a value was found, but none is expected
    pub holds_other : (out : List ℕ) → (IsTrue (facts.content disk).honest → get (current_map (facts.content disk) stores) key.0 ≡ Some out)
        → IsTrue (facts.content disk).honest → IsTrue false ↔ (get (image_map (full_image (facts.content disk) stores)) key.0 ≡ None)
    holds_other out there h = let has_out = looked_up facts disk stores count key stands (Some out) there h in (λ t. absurd (cc), λ has. absurd (cc))

    -- no value was found: the key has the expected one exactly if none is expected
    pub holds_none : {A : Type 0} (bytes : A → List ℕ) (expected : Option A) (none_expected : Bool) → is_some expected ≡ not none_expected
        → (IsTrue (facts.content disk).honest → get (current_map (facts.content disk) stores) key.0 ≡ None)
        → IsTrue (facts.content disk).honest → IsTrue none_expected ↔ (get (image_map (full_image (facts.content disk) stores)) key.0 ≡ option_map bytes expected)
    holds_none bytes None true is none h = (λ _. looked_up facts disk stores count key stands None none h, λ _. refl)
    holds_none bytes (Some value) false is none h = let has_none = looked_up facts disk stores count key stands None none h in (λ t. absurd (cc), λ has. absurd (cc))
    holds_none bytes expected none_expected is none h = absurd (cc)

    -- the key has not the expected value
    pub swap_differs : (expected value : Option (List ℕ)) → (IsTrue (facts.content disk).honest → get (image_map (full_image (facts.content disk) stores)) key.0 ≢ expected)
        → Does facts (seen facts disk stores count) (seen facts disk stores count) (Swap key expected value) Differs
    swap_differs expected value other = answered facts disk stores count (Swap key expected value) Differs stands refl refl refl (refl, refl) none_made (λ h. (other h, refl)) (λ _. tt)

    -- a read failed before it is known whether the key has the expected value
    pub swap_unread : (expected value : Option (List ℕ)) (refusal : Refusal F) → IsRefusedRead facts (seen facts disk stores count) refusal
        → Does facts (seen facts disk stores count) (seen facts disk stores count) (Swap key expected value) (Refused refusal)
    swap_unread expected value (Device fault) fails = refused facts disk stores count (Swap key expected value) (Device fault) stands refl (inl fails)
    swap_unread expected value refusal fails = absurd fails
