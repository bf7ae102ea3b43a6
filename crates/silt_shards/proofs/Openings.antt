-- Disks that open as a set, one after the other.
use Rattle.silt_shards.proofs.Common.{◌≡◌, ◌<◌, ◌≤◌, ℕ, ◌+◌, ◌&&◌, nat_le, true, IsTrue, Option, Some, None, List, [], ◌∷◌, ◌++◌, length, Result, Ok, Err, Vec, inl, inr, refl, ap, sym, ◌∙◌, arith}
use Rattle.silt_shards.proofs.Common.{rules, AllZip, IfOk, IfSome, slice_get, and_parts, cases_eq, nat_tests, All-append, All-cons, All-nil, same_Some, slice_get_within, AllZip-long, Content}
use Rattle.silt_shards.proofs.Common.{shape_of, Shape, Ghosts, CoreState, Opens, AreOfOneShape, AreShards, CausedAt, IsLike, IsRefusedSet, Says, IsShardCount, AreAlike, SetCause, Mark, Marked}
use Rattle.std.specs.declared.alloc.Global.{Global}
use Rattle.silt_recovery.specs.Opening.{LeavesNoOther}

-- a set has at least two shards, and at most 64
pub count_least : (count : ℕ) → IsShardCount count → 2 ≤ count
count_least count is = let test : (nat_le 2 count && nat_le count 64) ≡ true = is in grind (arith, nat_tests, and_parts)

pub count_most : (count : ℕ) → IsShardCount count → count ≤ 64
count_most count is = let test : (nat_le 2 count && nat_le count 64) ≡ true = is in grind (arith, nat_tests, and_parts)

-- ---- lists

-- the item behind others
get_behind : {X : Type 0} (front : List X) (x : X) (rest : List X) → slice_get (front ++ x ∷ rest) (length front) ≡ Some x
get_behind [] x rest = refl
get_behind (y ∷ front) x rest = get_behind front x rest

-- one more pair
pub zip_more : {X Y : Type 0} (R : X → Y → Type 0) (xs : List X) (ys : List Y) (x : X) (y : Y) → AllZip R xs ys → R x y → AllZip R (xs ++ x ∷ []) (ys ++ y ∷ [])
zip_more R (a ∷ xs) (b ∷ ys) x y every one = (every.0, zip_more R xs ys x y every.1 one)
zip_more R xs ys x y every one = search (rules, arith)

-- ---- stores of one geometry

-- none yet
pub shape_none : {D : Type 0} → AreOfOneShape {D = D} []
shape_none {D} =
    let any : Shape = record { value_len = 0; buckets = 0; log_capacity = 0; logs = 0; hashes = 0; sorted_capacity = 0 } in
    (any, All-nil (λ (c : CoreState D). c.shape ≡ any))

-- one more store like the first of the others
pub shape_more : {D : Type 0} (cores : List (CoreState D)) (core : CoreState D) → AreOfOneShape cores → IsLike cores core → AreOfOneShape (cores ++ core ∷ [])
shape_more [] core same like = (core.shape, All-cons (λ c. c.shape ≡ core.shape) core [] refl (All-nil (λ c. c.shape ≡ core.shape)))
shape_more {D} (first ∷ cores) core same like =
    let here : first.shape ≡ same.0 = same.1 0 first (omega arith) in (
      same.0,
      All-append (λ (c : CoreState D). c.shape ≡ same.0) (first ∷ cores) (core ∷ []) same.1 (search (arith, All-cons, All-nil)),
    )

-- stores of one geometry have values of one length
pub shape_alike : {D : Type 0} (cores : List (CoreState D)) → AreOfOneShape cores → AreAlike (λ core. core.shape.value_len) cores
shape_alike [] same = All-nil (λ core. core.shape.value_len ≡ 0)
shape_alike {D} (first ∷ cores) same = λ k d within. ap (λ (s : Shape). s.value_len) (same.1 k d within ∙ sym (same.1 0 first (omega arith)))

-- ---- why they are refused

-- what was not changed leaves nothing else
pub no_other : (content : Content) → LeavesNoOther content content
no_other content = record { each = λ honest image left. inl left }

module _ {D F : Type 0} (facts : Ghosts D F) where
  -- the disks before this one are shards of one set
  abbrev pub EachSays : List D → List ℕ → ℕ → Type 0
  EachSays disks set next =
      (shard : ℕ) (disk : D) → shard < next → slice_get disks shard ≡ Some disk → Says facts disk (Marked (record { count = length disks; shard = shard; set = set }))

  pub says_none : (disks : List D) (set : List ℕ) → EachSays disks set 0
  says_none disks set = λ shard disk below there. absurd (omega (arith, below))

  -- one more disk
  pub says_more : (disks : List D) (set : List ℕ) (next : ℕ) (disk : D) (mark : Mark) → EachSays disks set next → slice_get disks next ≡ Some disk
      → mark.count ≡ length disks → mark.shard ≡ next → mark.set ≡ set → Says facts disk (Marked mark) → EachSays disks set (next + 1)
  says_more disks set next disk mark before there counted numbered named says = λ shard other below at. elim (cases_eq shard next) [
    | inl same ↦
        search (arith, same_Some)
    | inr apart ↦ before shard other (omega (arith, below, apart)) at
  ]

  -- all disks
  pub says_all : (disks : List D) (set : List ℕ) (next : ℕ) → EachSays disks set next → length disks ≤ next → AreShards facts disks
  says_all disks set next every over = record {
    set = set;
    each = λ shard disk there. every shard disk (omega (arith, over, slice_get_within disks shard disk there)) there;
  }

  -- a store on a disk of the geometry of the first one is like the first one
  like_first : (o : Option (CoreState D)) (core : CoreState D) (first disk : D) → IfSome o (Opens facts (facts.content first)) → Opens facts (facts.content disk) core
      → IsTrue (facts.content first).honest → IsTrue (facts.content disk).honest → shape_of (facts.content disk).shown ≡ shape_of (facts.content first).shown
      → IfSome o (λ (c : CoreState D). core.shape ≡ c.shape)
  like_first None core first disk opened opens h_first h_disk same = tt
  like_first (Some c) core first disk opened opens h_first h_disk same = opens.has_shape h_disk ∙ same ∙ sym (opened.has_shape h_first)

  pub other_shape : (cores : List (CoreState D)) (core : CoreState D) (first disk : D) → (IsLike cores core → ⊥) → IfSome (slice_get cores 0) (Opens facts (facts.content first))
      → Opens facts (facts.content disk) core → IsTrue (facts.content first).honest → IsTrue (facts.content disk).honest
      → shape_of (facts.content disk).shown ≡ shape_of (facts.content first).shown → ⊥
  other_shape cores core first disk unlike opened opens h_first h_disk same = unlike (like_first (slice_get cores 0) core first disk opened opens h_first h_disk same)

  -- the next disk is refused, after some that were opened
  pub refused_next : (disks done rest : List D) (disk left : D) (cores : List (CoreState D)) (shard : ℕ) (cause : SetCause F) → done ++ disk ∷ rest ≡ disks
      → AllZip (λ d (core : CoreState D). Opens facts (facts.content d) core) done cores → shard ≡ length cores
      → ((count : ℕ) (first : D) → IfSome (slice_get cores 0) (Opens facts (facts.content first)) → CausedAt facts count (length cores) first disk left cause)
      → LeavesNoOther (facts.content disk) (facts.content left) → IsRefusedSet facts disks shard left cause
  refused_next disks [] rest disk left [] shard cause is opened number caused images =
      record { first = disk; disk = disk; at_first = rw (← is) refl; at_shard = rw (number, ← is) refl; caused = rw number (caused (length disks) disk tt); images = images }
  refused_next disks (d ∷ done) rest disk left (c ∷ cores) shard cause is opened number caused images =
      let same : length cores ≡ length done = AllZip-long (λ d (core : CoreState D). Opens facts (facts.content d) core) done cores opened.1 in record {
        first = d;
        disk = disk;
        at_first = rw (← is) refl;
        at_shard = rw (number, same, ← is) (get_behind (d ∷ done) disk rest);
        caused = rw number (caused (length disks) d opened.0);
        images = images;
      }
  refused_next disks done rest disk left cores shard cause is opened number caused images = absurd opened

  -- one more store is open
  pub open_more : (done : List D) (cores : List (CoreState D)) (disk : D) (core : CoreState D) → AllZip (λ d (c : CoreState D). Opens facts (facts.content d) c) done cores
      → Opens facts (facts.content disk) core → AllZip (λ d (c : CoreState D). Opens facts (facts.content d) c) (done ++ disk ∷ []) (cores ++ core ∷ [])
  open_more done cores disk core opened one = zip_more (λ d (c : CoreState D). Opens facts (facts.content d) c) done cores disk core opened one

-- the stores that were opened, if they were
pub result_alike : {D E : Type 0} (result : Result (Vec (CoreState D) Global) E) → IfOk result (λ cores. AreOfOneShape cores.items)
    → IfOk result (λ cores. AreAlike (λ (core : CoreState D). core.shape.value_len) cores.items)
result_alike (Ok cores) same = shape_alike cores.items same
result_alike (Err fault) same = tt
