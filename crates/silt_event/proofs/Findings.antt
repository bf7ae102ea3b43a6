-- Findings one after the other.
use Rattle.std.proofs.Common.{◌≡◌, Bool, true, false, not, List, [], ◌∷◌, ◌++◌, refl, ap, ◌∙◌}
use Rattle.silt_event.specs.Findings.{finding_if}
use Rattle.silt_event.specs.declared.damage.Finding.{Finding}

-- the parts of nothing
pub nothing_first : {X : Type 0} (xs ys : List X) → xs ++ ys ≡ [] → xs ≡ []
nothing_first [] ys e = refl
nothing_first (x ∷ xs) ys e = absurd (cc)

pub nothing_second : {X : Type 0} (xs ys : List X) → xs ++ ys ≡ [] → ys ≡ []
nothing_second [] ys e = e
nothing_second (x ∷ xs) ys e = absurd (cc)

-- nothing and nothing
pub nothing_both : {X : Type 0} (xs ys : List X) → xs ≡ [] → ys ≡ [] → xs ++ ys ≡ []
nothing_both xs ys first second = ap (λ l. l ++ ys) first ∙ second

-- a test that gives a finding if it fails
pub passes_where_nothing : (test : Bool) (f : Finding) → finding_if (not test) f ≡ [] → test ≡ true
passes_where_nothing true f e = refl
passes_where_nothing false f e = absurd (cc)

pub nothing_where_passes : (test : Bool) (f : Finding) → test ≡ true → finding_if (not test) f ≡ []
nothing_where_passes true f e = refl
nothing_where_passes false f e = absurd (cc)
