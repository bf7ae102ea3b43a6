use Rattle.silt_dump.proofs.Common.{◌≡◌, ◌⊎◌, List, ℕ, Option, true, false, IsSome, inl, inr, refl, ap, sym, ◌∙◌, subst, is_gt, is_lt, nat_cmp, BTreeMap, IsLowerBound, slice_cmp, Ordering, Less}
use Rattle.silt_dump.proofs.Common.{Equal, Greater, key_cmp, Key, AreAllAbove, IsBelow, Spot}
use Rattle.silt_dump.proofs.Keys.{below_greater, below_trans, compared}
use Rattle.std.specs.BTreeMap as tree
use Rattle.silt_dump.proofs.order.take_lowest.Goals as goal

-- a key that compares as less is below
below_lt : (o : Ordering) → is_lt o ≡ true → o ≡ Less
below_lt Less lower = refl
below_lt Equal lower = absurd (let no : false ≡ true = lower in cc)
below_lt Greater lower = absurd (let no : false ≡ true = lower in cc)

-- what is below the lowest key is below all of them
below_all : (spots : BTreeMap Key Spot) (next first q : Key) → IsLowerBound key_cmp spots first → IsBelow next first → IsSome (tree.get key_cmp spots q) → IsBelow next q
below_all spots next first q least below some = elim (compared first q) [
  | inl lower ↦ below_trans next first q below lower
  | inr (inl same) ↦ subst (λ (bytes : List ℕ). slice_cmp nat_cmp next.0 bytes ≡ Less) same below
  | inr (inr higher) ↦ absurd (let no : true ≡ false = sym (ap is_gt (below_greater first q higher)) ∙ least q some in cc)
]

pub returns-in-Some : goal.returns-in-Some
returns-in-Some c =
    let lower : is_lt (key_cmp c.in-Some.next c.in_ok-first.first.now) ≡ true = ap is_lt (sym c.cmp.ensures) ∙ sym c.is_lt.ensures ∙ c.if-is_lt.true in
    let below : IsBelow c.in-Some.next c.in_ok-first.first.now = below_lt _ lower in (
      refl,
      subst (λ (e : Option Key). AreAllAbove e c.args.spots.now) (sym c.in-Some.is)
          (λ q some. below_all c.args.spots.now c.in-Some.next c.in_ok-first.first.now q c.in_ok-first.ensures.least below some),
    )
