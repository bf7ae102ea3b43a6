-- Which sections words name, one word after the other.
use Rattle.silt_resp.proofs.Common.{◌≡◌, ◌<◌, ◌+◌, ℕ, Bool, List, length, drop, get_or, Some, ap, ◌∙◌, slice_get, list_any, slice_get-get_or, long}
use Rattle.std.specs.Prelude.{◌||◌}
use Rattle.silt_resp.specs.Stream.{Word}
use Rattle.silt_resp.proofs.Named.{drop_there}

module _ (test : Word → Bool) (args : List Word) where
  -- whether the word that is there passes, or one of those behind it
  pub any_step : (passes : Bool) (index : ℕ) → index < length args → ((word : Word) → slice_get args index ≡ Some word → test word ≡ passes)
      → list_any test args ≡ list_any test (drop index args) → list_any test args ≡ (passes || list_any test (drop (index + 1) args))
  any_step passes index within each h =
      let word = get_or args index long in
      let found = slice_get-get_or args index long within in
      h ∙ ap (list_any test) (drop_there args index word found) ∙ ap (λ b. b || list_any test (drop (index + 1) args)) (each word found)
