-- Marks: what is written is read, what a crash leaves, and that stores do not see them.
use Rattle.silt_shards.proofs.Common.{◌≡◌, ◌≤◌, ◌<◌, ◌⊎◌, inl, inr, ℕ, ◌+◌, ◌-◌, ◌^◌, Bool, true, ◌&&◌, nat_le, IsTrue, List, [], ◌∷◌, length, get_or, slice_range, slice_index, take, drop, ap}
use Rattle.silt_shards.proofs.Common.{sym, ◌∙◌, subst, arith, if◌then◌else◌, cases_Bool, cases_eq, ne_eqb, and_parts, nat_tests, ext_get_or, length-drop, length-take, take_all, ChangesWithin}
use Rattle.silt_shards.proofs.Common.{Content, LeavesOnly, Rests, Torn, Writes, size, header_shape, Shape, left_at_rest, rests_leaves, splice_byte, splice_slice, torn_wider, within_leaves, Map}
use Rattle.silt_shards.proofs.Common.{StandsFor, Mark, Unmarked, Marked}
use Rattle.std.proofs.lemmas.List.Edits.{get_or-between}
use Rattle.byteorder.specs.Endian.{big_number, big_bytes}
use Rattle.byteorder.specs.Numbers.{big_number-reads_back}
use Rattle.silt_image.specs.Laws.{Agree}
use Rattle.silt_image.proofs.Frame.{frame_law, meaning_law, torn_same}
use Rattle.silt_manifest.specs.Current.{record_behind}
use Rattle.silt_recovery.proofs.Formats.{slice_join}
use Rattle.silt_shards.specs.Marks.{IsHalfMarked, IsShardMark, IsMarkClosed, IsMarkedOrNot, FileMarkLaw, is_shard, mark_bytes, mark_part, marking_in, marking_of}

-- ---- a range apart from a change

-- the range has as many bytes in lists of one length
range_len : (xs ys : List ℕ) (from to : ℕ) → length xs ≡ length ys → length (slice_range xs from to) ≡ length (slice_range ys from to)
range_len xs ys from to same = search (arith, length-take, length-drop)

-- a place of the range lies before its end
range_within : (xs : List ℕ) (from to place : ℕ) → place < length (slice_range xs from to) → from + place < to
range_within xs from to place inside = omega (arith, inside, length-take (to - from) (drop from xs))

-- it has the same bytes before and after the change
pub range_stays : (at count from to : ℕ) (before after : List ℕ) → Torn at count before after → (to ≤ at) ⊎ (at + count ≤ from)
    → slice_range after from to ≡ slice_range before from to
range_stays at count from to before after torn apart =
    ext_get_or 0 (slice_range after from to) (slice_range before from to) (range_len after before from to torn.size) (λ place inside.
    let near : from + place < to = range_within after from to place inside in
    let same : get_or after (from + place) 0 ≡ get_or before (from + place) 0 = elim apart [
      | inl ends ↦ torn.before (from + place) (omega (arith, ends, near))
      | inr begins ↦ torn.after (from + place) (omega (arith, begins))
    ] in
    get_or-between after from to place 0 near ∙ same ∙ sym (get_or-between before from to place 0 near))

-- a range of one byte
one_byte : (xs : List ℕ) (at : ℕ) → at < length xs → slice_range xs at (at + 1) ≡ get_or xs at 0 ∷ []
one_byte xs at inside =
    ext_get_or 0 (slice_range xs at (at + 1)) (get_or xs at 0 ∷ []) (omega (arith, length-take (at + 1 - at) (drop at xs), length-drop at xs, inside))
    (λ place within.
    let first : place ≡ 0 = omega (arith, range_within xs at (at + 1) place within) in
    get_or-between xs at (at + 1) place 0 (range_within xs at (at + 1) place within)
    ∙ ap (λ (i : ℕ). get_or xs i 0) (omega (arith, first)) ∙ sym (ap (λ (i : ℕ). get_or (get_or xs at 0 ∷ []) i 0) first))

-- ---- the store in a file

-- a change of the mark's bytes leaves all that means something
mark_agrees : (before after : List ℕ) → Torn 2048 37 before after → Agree before after
mark_agrees before after torn = record {
  size = torn.size;
  header = range_stays 2048 37 0 37 before after torn (inl (omega arith));
  first_slot = ap record_behind (range_stays 2048 37 4096 4557 before after torn (inr (omega arith)));
  second_slot = ap record_behind (range_stays 2048 37 8192 8653 before after torn (inr (omega arith)));
  regions = search (arith, torn_same);
}

pub mark_law : FileMarkLaw
mark_law before after torn =
    let same = frame_law before after (mark_agrees before after torn) in
    (same.0, meaning_law before after same.0 same.1)

-- the image represents the same map
stands_after : (shape : Shape) (map : Map) (before after : List ℕ) → StandsFor shape map before → Torn 2048 37 before after → StandsFor shape map after
stands_after shape map before after stands torn =
    let same = mark_law before after torn in
    record {
      good = same.1.verdict ∙ stands.good;
      has_shape = ap header_shape (range_stays 2048 37 0 37 before after torn (inl (omega arith))) ∙ stands.has_shape;
      has_map = same.1.map ∙ stands.has_map;
    }

pub stands_stays : (at count : ℕ) (old new : Content) → ChangesWithin at count old new → 2048 ≤ at → at + count ≤ 2085 → (shape : Shape) (map : Map)
    → LeavesOnly old (StandsFor shape map) → LeavesOnly new (StandsFor shape map)
stands_stays at count old new changes low high shape map stands = search (arith, within_leaves, stands_after, torn_wider)

-- ---- a mark reads back

-- a number of four bytes reads back
reads : (x : ℕ) → x < 256 ^ 4 → big_number 4 (big_bytes 4 x) ≡ x
reads x fits = big_number-reads_back 4 x [] fits

-- the bytes of a mark are 36
pub mark_bytes_len : (mark : Mark) → IsShardMark mark → length (mark_bytes mark) ≡ 36
mark_bytes_len mark is = omega (arith, is.set)

-- numbers of a shard are less than 65
count_most : (mark : Mark) → IsShardMark mark → mark.count ≤ 64
count_most mark is = let counts : (nat_le 2 mark.count && nat_le mark.count 64) ≡ true = is.count in grind (arith, nat_tests, and_parts)

valid_shard : (mark : Mark) → IsShardMark mark → is_shard mark.count mark.shard ≡ true
valid_shard mark is = let counts : (nat_le 2 mark.count && nat_le mark.count 64) ≡ true = is.count in let below = is.shard in grind (arith, nat_tests, and_parts)

pub read_open : (mark : Mark) → IsShardMark mark → marking_in (167 ∷ mark_bytes mark) ≡ Marked mark
read_open mark is =
    let counted = reads mark.count (omega (arith, count_most mark is)) in
    let numbered = reads mark.shard (omega (arith, count_most mark is, is.shard)) in
    let named : take 16 mark.set ≡ mark.set = take_all 16 mark.set (omega (arith, is.set)) in
    search (arith, valid_shard)

-- ---- the commit byte

-- the first byte of the mark
commit_at : (image : List ℕ) → slice_index (mark_part image) 0 ≡ get_or image 2048 0
commit_at image = get_or-between image 2048 2085 0 0 (omega arith)

pub closed_unmarked : (image : List ℕ) → IsMarkClosed image → marking_of image ≡ Unmarked
closed_unmarked image closed = search (arith, commit_at, ne_eqb, cases_Bool)

-- an open commit byte with the mark behind it
opened_marked : (mark : Mark) (image : List ℕ) → IsShardMark mark → 2085 ≤ length image → mark_part image ≡ 167 ∷ mark_bytes mark → marking_of image ≡ Marked mark
opened_marked mark image is long part =
    let test : nat_le 2085 (length image) ≡ true = grind (arith, nat_tests) in
    ap (λ (b : Bool). if b then marking_in (mark_part image) else Unmarked) test ∙ ap marking_in part ∙ read_open mark is

-- it is closed once that is settled
pub commit_closed : (old new : Content) → 2085 ≤ size old → Writes 2048 (0 ∷ []) old new → Rests new → LeavesOnly new IsMarkClosed
commit_closed old new least writes rests = rests_leaves rests (record {
  holds = λ honest opened.
      let h : IsTrue old.honest = sym writes.honest ∙ honest in
      let byte : get_or new.shown 2048 0 ≡ 0 = cc (writes.shown h, splice_byte 2048 (0 ∷ []) old.shown 0 (omega (arith, least)) (omega arith)) in
      search arith;
})

-- it stays closed under a change behind it
commit_kept : (at count : ℕ) (old new : Content) → 2049 ≤ at → ChangesWithin at count old new → LeavesOnly old IsMarkClosed → LeavesOnly new IsMarkClosed
commit_kept at count old new behind changes closed =
    within_leaves changes closed (λ before after shut torn opened. shut (sym (torn.before 2048 (omega (arith, behind))) ∙ opened))

-- ---- the exits of writing a mark

-- behind the closed commit byte
pub mark_behind : (mark : Mark) (at count : ℕ) (old new : Content) → 2049 ≤ at → ChangesWithin at count old new → LeavesOnly old IsMarkClosed → LeavesOnly new (IsMarkedOrNot mark)
mark_behind mark at count old new behind changes closed =
    record { each = λ honest image left. inl (closed_unmarked image ((commit_kept at count old new behind changes closed).each honest image left)) }

-- the mark with any commit byte
module _ (mark : Mark) (old between new : Content) (is : IsShardMark mark) (least : 2085 ≤ size old) (writes : Writes 2049 (mark_bytes mark) old between)
    (rests : Rests between) (same : size between ≡ size old) where
  -- the bytes behind the commit byte
  body_written : IsTrue between.honest → slice_range between.shown 2049 2085 ≡ mark_bytes mark
  body_written honest =
      let h : IsTrue old.honest = sym writes.honest ∙ honest in
      let len = mark_bytes_len mark is in
      let fits : 2049 + length (mark_bytes mark) ≤ length old.shown = omega (arith, len, least) in
      let end : 2085 ≡ 2049 + length (mark_bytes mark) = omega (arith, len) in
      cc (writes.shown h, splice_slice 2049 (mark_bytes mark) old.shown fits)

  -- an image with this commit byte
  torn_open : IsTrue between.honest → (image : List ℕ) → Torn 2048 1 between.shown image → get_or image 2048 0 ≡ 167 → marking_of image ≡ Marked mark
  torn_open honest image torn opened =
      let long : length image ≡ length old.shown = torn.size ∙ same in
      let body : slice_range image 2049 2085 ≡ mark_bytes mark = range_stays 2048 1 2049 2085 _ image torn (inr (omega arith)) ∙ body_written honest in
      let first : slice_range image 2048 2049 ≡ 167 ∷ [] = cc (one_byte image 2048 (omega (arith, long, least))) in
      opened_marked mark image is (omega (arith, long, least)) (cc (slice_join image 2048 2049 2085 (omega arith) (omega arith)))

  pub mark_committed : ChangesWithin 2048 1 between new → LeavesOnly new (IsMarkedOrNot mark)
  mark_committed changes = record {
    each = λ honest image left.
        let h : IsTrue between.honest = sym changes.honest ∙ honest in
        let from = changes.left h image left in
        let torn : Torn 2048 1 between.shown image = subst (λ (before : List ℕ). Torn 2048 1 before image) (left_at_rest rests h from.0 from.1) from.2 in
        elim (cases_eq (get_or image 2048 0) 167) [
          | inl opened ↦ inr (torn_open h image torn opened)
          | inr other ↦ inl (closed_unmarked image other)
        ];
  }

  -- the mark, once its commit byte is settled
  pub mark_settled : Writes 2048 (167 ∷ []) between new → ChangesWithin 2048 1 between new → Rests new → LeavesOnly new (λ image. marking_of image ≡ Marked mark)
  mark_settled commit changes settled = rests_leaves settled (record {
    holds = λ honest.
        let h : IsTrue between.honest = sym commit.honest ∙ honest in
        let long = same in
        let byte : get_or new.shown 2048 0 ≡ 167 = cc (commit.shown h, splice_byte 2048 (167 ∷ []) between.shown 0 (omega (arith, long, least)) (omega arith)) in
        torn_open h _ (changes.shown h) byte;
  })

-- at the first commit byte
pub left_but_for_mark : (mark : Mark) (old new : Content) → ChangesWithin 2048 1 old new → LeavesOnly new (IsHalfMarked old mark)
left_but_for_mark mark old new changes = record {
  each = λ honest image left.
      let from = changes.left (sym changes.honest ∙ honest) image left in
      inl (record { before = from.0; left = from.1; torn = from.2 });
}

-- and behind it
pub left_marked_or_not : (mark : Mark) (old new : Content) → LeavesOnly new (IsMarkedOrNot mark) → LeavesOnly new (IsHalfMarked old mark)
left_marked_or_not mark old new leaves = record { each = λ honest image left. inr (leaves.each honest image left) }
