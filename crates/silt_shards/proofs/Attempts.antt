-- Attempts that become the stores of a set.
use Rattle.silt_shards.proofs.Common.{take-append_seam, ◌≡◌, ◌<◌, ℕ, suc, List, [], ◌∷◌, ◌++◌, length, append_assoc, Result, Ok, Err, refl, ap, sym, ◌∙◌, arith, rules, AllZip, append-nil}
use Rattle.silt_shards.proofs.Common.{AllZip-long, IfOk, IfSome, drop, slice_get, slice_index_or, take, Ghosts, CoreState, Opens, IsAttemptOn, CausedAt, IsRefusedSet, SetCause}
use Rattle.silt_recovery.specs.Opening.{LeavesNoOther}
use Rattle.silt_shards.specs.declared.attempt.Attempt.{Attempt}
use Rattle.silt_shards.proofs.Openings.{open_more, refused_next}

-- ---- lists

-- each item became another one, to which the same things belong
pub zip_changed : {X Y : Type 0} (R : X → Y → Type 0) (xs : List X) (ys zs : List Y) → length zs ≡ length ys
    → ((i : ℕ) (d : Y) → i < length ys → (x : X) → R x (slice_index_or ys i d) → R x (slice_index_or zs i d)) → AllZip R xs ys → AllZip R xs zs
zip_changed R (x ∷ xs) (y ∷ ys) (z ∷ zs) same change every = (
  change 0 y (omega arith) x every.0,
  zip_changed R xs ys zs (omega (arith, same)) (λ i d within other on. change (suc i) d (omega (arith, within)) other on) every.1,
)
zip_changed R xs ys zs same change every = search (rules, arith)

-- what belongs to the first item, and what to the others
pub zip_front : {X Y : Type 0} (R : X → Y → Type 0) (xs : List X) (y : Y) (ys : List Y) → AllZip R xs (y ∷ ys)
    → (x : X) × (rest : List X) × (xs ≡ x ∷ rest) × R x y × AllZip R rest ys
zip_front R [] y ys every = absurd every
zip_front R (x ∷ xs) y ys every = (x, xs, refl, every.0, every.1)

-- the pairs so far are all pairs
pub zip_whole : {X Y : Type 0} (R : X → Y → Type 0) (xs done rest : List X) (ys : List Y) → done ++ rest ≡ xs → length rest ≡ 0 → AllZip R done ys → AllZip R xs ys
zip_whole R xs done [] ys is none every = rw (← is, append-nil done) every
zip_whole R xs done (r ∷ rest) ys is none every = absurd (omega (arith, none))

-- a list whose items were all changed in place is the list of the new ones
pub all_back : {X : Type 0} (len : ℕ) (new old : List X) → length new ≡ length old → len ≡ length old → take len (new ++ drop (length new) old) ≡ new
all_back len new old same is = search (arith, take-append_seam)

-- what holds anyway holds of a result too
pub ok_anyway : {A E : Type 0} (P : Type 0) (result : Result A E) → P → IfOk result (λ (a : A). P)
ok_anyway P (Ok a) here = here
ok_anyway P (Err e) here = tt

-- ---- attempts in their order

module _ {D F : Type 0} (facts : Ghosts D F) where
  -- the first of these disks have these open stores, and the other ones these attempts
  pub record Gathers (disks : List D) (cores : List (CoreState D)) (left : List (Attempt D F)) : Type 0 where
    pub done : List D
    pub rest : List D
    pub all : done ++ rest ≡ disks
    pub opened : AllZip (λ disk (core : CoreState D). Opens facts (facts.content disk) core) done cores
    pub on : AllZip (IsAttemptOn facts) rest left

  -- none is open yet
  pub gathers_none : (disks : List D) (cores : List (CoreState D)) (left : List (Attempt D F)) → cores ≡ [] → AllZip (IsAttemptOn facts) disks left → Gathers disks cores left
  gathers_none disks cores left none every = record { done = []; rest = disks; all = refl; opened = rw none tt; on = every }

  -- the next attempt is one on some disk
  pub gathers_next : (disks : List D) (cores : List (CoreState D)) (attempt : Attempt D F) (left : List (Attempt D F)) → Gathers disks cores (attempt ∷ left)
      → (disk : D) × IsAttemptOn facts disk attempt
  gathers_next disks cores attempt left now = let front = zip_front (IsAttemptOn facts) now.rest attempt left now.on in (front.0, front.3)

  -- it gave one more store
  pub gathers_more : (disks : List D) (cores : List (CoreState D)) (attempt : Attempt D F) (left : List (Attempt D F)) (core : CoreState D) → Gathers disks cores (attempt ∷ left)
      → ((disk : D) → IsAttemptOn facts disk attempt → Opens facts (facts.content disk) core) → Gathers disks (cores ++ core ∷ []) left
  gathers_more disks cores attempt left core now opens =
      let front = zip_front (IsAttemptOn facts) now.rest attempt left now.on in
      record {
        done = now.done ++ front.0 ∷ [];
        rest = front.1;
        all = append_assoc now.done (front.0 ∷ []) front.1 ∙ ap (λ (l : List D). now.done ++ l) (sym front.2) ∙ now.all;
        opened = open_more facts now.done cores front.0 core now.opened (opens front.0 front.3);
        on = front.4;
      }

  -- all are open
  pub gathers_all : (disks : List D) (cores : List (CoreState D)) (left : List (Attempt D F)) → Gathers disks cores left → length left ≡ 0
      → AllZip (λ disk (core : CoreState D). Opens facts (facts.content disk) core) disks cores
  gathers_all disks cores left now none =
      let same : length left ≡ length now.rest = AllZip-long (IsAttemptOn facts) now.rest left now.on in
      zip_whole (λ disk (core : CoreState D). Opens facts (facts.content disk) core) disks now.done now.rest cores now.all (omega (arith, same, none)) now.opened

  -- it gave none: its shard is refused
  pub gathers_refused : (disks : List D) (cores : List (CoreState D)) (attempt : Attempt D F) (left : List (Attempt D F)) (shard : ℕ) (back : D) (cause : SetCause F)
      → Gathers disks cores (attempt ∷ left) → shard ≡ length cores
      → ((disk : D) → IsAttemptOn facts disk attempt → (count : ℕ) (first : D) → IfSome (slice_get cores 0) (Opens facts (facts.content first))
      → CausedAt facts count (length cores) first disk back cause)
      → ((disk : D) → IsAttemptOn facts disk attempt → LeavesNoOther (facts.content disk) (facts.content back)) → IsRefusedSet facts disks shard back cause
  gathers_refused disks cores attempt left shard back cause now number caused images =
      let front = zip_front (IsAttemptOn facts) now.rest attempt left now.on in
      refused_next facts disks now.done front.1 front.0 back cores shard cause (rw front.2 at now.all) now.opened number (caused front.0 front.3) (images front.0 front.3)
