-- The first bucket count that passes a test, one count after another.
use Rattle.silt_jobs.proofs.Common.{option_map, sym, ◌≡◌, ◌+◌, ◌<◌, ◌≤◌, ℕ, Bool, true, false, drop, get_or, length, List, [], ◌∷◌, Option, Some, None, refl, ap, ◌∙◌, Shape, shape_planned}
use Rattle.silt_jobs.proofs.Common.{if◌then◌else◌, at_drop_more, drop_all, PlanRequest}
use Rattle.silt_jobs.specs.Plans.{first_with}

module _ (test : ℕ → Bool) where
  first_more : (n : ℕ) (ns : List ℕ) → first_with test (n ∷ ns) ≡ (if test n then Some n else first_with test ns)
  unfolding first_with
  first_more n ns = refl

  first_none : first_with test [] ≡ None
  unfolding first_with
  first_none = refl

module _ (test : ℕ → Bool) (counts : List ℕ) (at : ℕ) (rest : first_with test counts ≡ first_with test (drop at counts)) where
  -- what is found is the next count, if it passes, and else it is found behind that
  pub first_here : at < length counts → first_with test counts ≡ (if test (get_or counts at 0) then Some (get_or counts at 0) else first_with test (drop (at + 1) counts))
  first_here inside = rest ∙ at_drop_more (first_with test) counts at 0 inside ∙ first_more test (get_or counts at 0) (drop (at + 1) counts)

  -- a count that passes is the first one
  pub it_passes : at < length counts → test (get_or counts at 0) ≡ true → first_with test counts ≡ Some (get_or counts at 0)
  it_passes inside passes = cc (first_here inside)

  -- one that does not is passed over
  pub it_fails : at < length counts → test (get_or counts at 0) ≡ false → first_with test counts ≡ first_with test (drop (at + 1) counts)
  it_fails inside fails = cc (first_here inside)

  -- behind the last count nothing is found
  pub none_here : length counts ≤ at → first_with test counts ≡ None
  none_here past = rest ∙ ap (first_with test) (drop_all at counts past) ∙ first_none test

module _ (r : PlanRequest) (n : ℕ) (first rest : Option ℕ) where
  -- what was planned is the geometry of the first count
  pub chosen : (planned : Bool) (geometry : Shape) → first ≡ (if planned then Some n else rest) → Some geometry ≡ (if planned then Some (shape_planned r n) else None)
      → Some geometry ≡ option_map (shape_planned r) first
  chosen true geometry found is = is ∙ ap (option_map (shape_planned r)) (sym found)
  chosen false geometry found is = absurd (cc)

  -- if nothing was planned, the first count is behind this one
  pub not_chosen : (planned : Bool) → first ≡ (if planned then Some n else rest) → None ≡ (if planned then Some (shape_planned r n) else None) → first ≡ rest
  not_chosen true found is = absurd (cc)
  not_chosen false found is = found
