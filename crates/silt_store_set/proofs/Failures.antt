-- A store that failed after an acknowledged flush.
use Rattle.silt_store_set.proofs.Common.{arith, ◌≡◌, ℕ, false, List, [], ◌∷◌, ◌++◌, refl, ap, sym, ◌∙◌, Ghosts, Command, map_after, Flush, Acknowledged, CoreState, Does}
use Rattle.silt_store_set.specs.FailedLaw.{FailedLaw}

-- a beginning of nothing is nothing
begins_none : (kept rest all : List Command) → all ≡ [] → kept ++ rest ≡ all → kept ≡ []
begins_none [] rest all none is = refl
begins_none (c ∷ kept) rest all none is = absurd (let no : c ∷ kept ++ rest ≡ [] = is ∙ none in cc)

module _ {D F : Type 0} (facts : Ghosts D F) where
  -- by an acknowledging reply no store fails
  works_on : (old flushed : CoreState D) (n : ℕ) → Does facts old flushed Flush (Acknowledged n) → flushed.failed ≡ false
  works_on old flushed n does = search arith

  pub failed_law : FailedLaw facts
  failed_law old flushed failed n event reply acknowledges fails is h image begun =
      let working : flushed.failed ≡ false = works_on old flushed n acknowledges in
      let basis = fails.keeps_basis working is in
      let none : flushed.waiting ≡ [] = acknowledges.settles h in
      let kept : begun.kept ≡ [] = begins_none begun.kept begun.begins.rest failed.waiting (basis.1 ∙ none) begun.begins.is in
      begun.stands.has_map ∙ ap (map_after failed.base) kept ∙ basis.0 ∙ sym (acknowledges.has_map working h ∙ ap (map_after flushed.base) none)
