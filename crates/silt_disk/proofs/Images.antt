-- The possible crash images after each call, one image at a time.
use Rattle.std.proofs.Common.{◌≡◌, ℕ, ◌+◌, ◌≤◌, ◌<◌, true, false, cond, List, length, get_or, map, slice_range, IsTrue, refl, sym, ap, ◌∙◌, arith}
use Rattle.std.specs.List.{range_with_len}
use Rattle.std.proofs.lemmas.List.{ext_get_or, get_or_past, append_assoc, length-append, length-take-le, length-drop, get_or_append_left, get_or-append_right, get_or-take, get_or-drop}
use Rattle.std.proofs.lemmas.List.{take_at, drop_at}
use Rattle.std.proofs.lemmas.List.FromFn.{length-map-range_with_len, get_or-map-range_with_len}
use Rattle.std.proofs.lemmas.List.Edits.{length-between, get_or-between}
use Rattle.std.proofs.lemmas.Bool.{cases_lt, cases_Bool, cond-true, cond-false}
use Rattle.std.proofs.lemmas.Bool.Decides.{nat_tests}
use Rattle.silt_disk.specs.Disk.{Content, Torn, Left, LeavesOnly, Shows, Tears, Writes, Settles, Stays, Rests, Restarts, ChangesWithin, size, splice, within}

-- ---- one image

-- an image is a torn image of itself
pub torn_refl : (at count : ℕ) (image : List ℕ) → Torn at count image image
torn_refl at count image = record { size = refl; before = λ place below. refl; after = λ place above. refl }

-- a slice that ends before the range stays
pub torn_slice_before : (at count : ℕ) (old new : List ℕ) → Torn at count old new → (from to : ℕ) → to ≤ at → to ≤ length old → slice_range new from to ≡ slice_range old from to
torn_slice_before at count old new torn from to below fits =
    let in_new : to ≤ length new = omega (arith, torn.size) in
    ext_get_or 0 (slice_range new from to) (slice_range old from to) (length-between new from to in_new ∙ sym (length-between old from to fits))
    (λ place inside.
    let near : from + place < to = omega (arith, inside, length-between new from to in_new) in
    get_or-between new from to place 0 near ∙ torn.before (from + place) (omega arith) ∙ sym (get_or-between old from to place 0 near))

-- a slice that begins after the range stays
pub torn_slice_after : (at count : ℕ) (old new : List ℕ) → Torn at count old new → (from to : ℕ) → at + count ≤ from → to ≤ length old → slice_range new from to ≡ slice_range old from to
torn_slice_after at count old new torn from to above fits =
    let in_new : to ≤ length new = omega (arith, torn.size) in
    ext_get_or 0 (slice_range new from to) (slice_range old from to) (length-between new from to in_new ∙ sym (length-between old from to fits))
    (λ place inside.
    let near : from + place < to = omega (arith, inside, length-between new from to in_new) in
    get_or-between new from to place 0 near ∙ torn.after (from + place) (omega arith) ∙ sym (get_or-between old from to place 0 near))

-- a completed write keeps the length
pub length-splice : (at : ℕ) (bytes image : List ℕ) → at + length bytes ≤ length image → length (splice at bytes image) ≡ length image
length-splice at bytes image fits = search (arith, length-append, length-take-le, length-drop)

-- a completed write changes its range alone
pub torn_splice : (at : ℕ) (bytes image : List ℕ) → at + length bytes ≤ length image → Torn at (length bytes) image (splice at bytes image)
torn_splice at bytes image fits = search (arith, length-take-le, length-append, length-splice, get_or_append_left, get_or-take, get_or-append_right, get_or-drop)

-- the range of a write has its bytes
pub splice_slice : (at : ℕ) (bytes image : List ℕ) → at + length bytes ≤ length image → slice_range (splice at bytes image) at (at + length bytes) ≡ bytes
splice_slice at bytes image fits = search (arith, length-take-le, append_assoc, drop_at, take_at)

-- each place of a write has its byte
pub splice_byte : (at : ℕ) (bytes image : List ℕ) (place : ℕ) → at + length bytes ≤ length image → place < length bytes → get_or (splice at bytes image) (at + place) 0 ≡ get_or bytes place 0
splice_byte at bytes image place fits inside = search (arith, length-take-le, length-append, get_or_append_left, get_or-append_right)

-- ---- each image

-- the image with the settled bytes in the range
abbrev undone : ℕ → ℕ → List ℕ → List ℕ → List ℕ
undone at count settled image = map (λ place. cond (within at count place) (get_or settled place 0) (get_or image place 0)) (range_with_len 0 (length settled))

module _ (at count : ℕ) (settled image : List ℕ) (size : length image ≡ length settled) where
  -- it has the same length
  length-undone : length (undone at count settled image) ≡ length settled
  length-undone = length-map-range_with_len _ 0 (length settled)

  -- in the range it has the settled byte
  undone_there : (place : ℕ) → within at count place ≡ true → get_or (undone at count settled image) place 0 ≡ get_or settled place 0
  undone_there place there = search (arith, cases_lt, get_or-map-range_with_len, cond-true, get_or_past, length-undone)

  -- outside the range it has the image's byte
  undone_elsewhere : (place : ℕ) → within at count place ≡ false → get_or (undone at count settled image) place 0 ≡ get_or image place 0
  undone_elsewhere place elsewhere = search (arith, cases_lt, get_or-map-range_with_len, cond-false, get_or_past, length-undone)

-- a place before the range is outside it
within_below : (at count place : ℕ) → place < at → within at count place ≡ false
within_below at count place below = grind (arith, nat_tests)

-- a place after the range is outside it
within_above : (at count place : ℕ) → at + count ≤ place → within at count place ≡ false
within_above at count place above = grind (arith, nat_tests)

-- if nothing is pending, a crash leaves what is shown
pub left_at_rest : {content : Content} → Rests content → IsTrue content.honest → (image : List ℕ) → Left content image → image ≡ content.shown
left_at_rest rests honest image left = ext_get_or 0 _ _ (left.size ∙ ap length (rests.settled honest)) (search (arith, left.same, rests.pending, rests.settled))

-- after a sync that returned Ok, a crash leaves what was shown
pub left_after_sync : {old new : Content} → Settles old new → IsTrue old.honest → (image : List ℕ) → Left new image → image ≡ old.shown
left_after_sync settles honest image left = left_at_rest settles.rests (settles.honest ∙ honest) image left ∙ settles.shown honest

-- after a write, Ok or Err, each image is one that was possible before, torn in the range
pub left_after_write : {at count : ℕ} {old new : Content} → Tears at count old new → IsTrue old.honest → (image : List ℕ) → Left new image
    → (before : List ℕ) × Left old before × Torn at count before image
left_after_write {at} {count} {old} {new} tears honest image left =
    let size : length image ≡ length old.settled = left.size ∙ ap length (tears.settled honest) in
    let was = undone at count old.settled image in (
      was,
      search (arith, length-undone, cases_Bool, undone_there, undone_elsewhere, tears.pending, left.same, tears.settled),
      search (arith, length-undone, undone_elsewhere, within_below, within_above),
    )

-- ---- from call to call

-- a write, Ok or Err: each image keeps what no bytes in its range can break
pub write_leaves : {at count : ℕ} {old new : Content} {P Q : List ℕ → Type 0} → Tears at count old new → LeavesOnly old P
    → ((before after : List ℕ) → P before → Torn at count before after → Q after) → LeavesOnly new Q
write_leaves tears leaves step = record {
  each = λ honest image left.
      let was : IsTrue _ = sym tears.honest ∙ honest in
      let from = left_after_write tears was image left in
      step from.0 image (leaves.each was from.0 from.1) from.2;
}

-- a write, Ok: what is shown has the property that the bytes bring about
pub write_shows : {at : ℕ} {bytes : List ℕ} {old new : Content} {P Q : List ℕ → Type 0} → Writes at bytes old new → Shows old P
    → ((before : List ℕ) → P before → Q (splice at bytes before)) → Shows new Q
write_shows {Q = Q} writes shows step = search (arith, writes.shown, shows.holds)

-- if nothing is pending, what holds for the shown bytes holds for each image
pub rests_leaves : {content : Content} {P : List ℕ → Type 0} → Rests content → Shows content P → LeavesOnly content P
rests_leaves {P = P} rests shows = search (arith, left_at_rest, shows.holds)

-- a sync, Ok: what held for the shown bytes holds for each image
pub sync_leaves : {old new : Content} {P : List ℕ → Type 0} → Settles old new → Shows old P → LeavesOnly new P
sync_leaves {P = P} settles shows = search (arith, left_after_sync, shows.holds)

-- a sync, Ok: the shown bytes stay
pub sync_shows : {old new : Content} {P : List ℕ → Type 0} → Settles old new → Shows old P → Shows new P
sync_shows {P = P} settles shows = search (arith, settles.shown, shows.holds)

-- after a failed sync, a crash leaves what it could leave before
pub left_after_failed_sync : {old new : Content} → Stays old new → IsTrue old.honest → (image : List ℕ) → Left new image → Left old image
left_after_failed_sync stays honest image left = search (arith, stays.settled, left.same, stays.pending)

-- a failed sync: each image stays possible
pub failed_sync_leaves : {old new : Content} {P : List ℕ → Type 0} → Stays old new → LeavesOnly old P → LeavesOnly new P
failed_sync_leaves stays leaves = search (arith, left_after_failed_sync, leaves.each)

-- a failed sync: the shown bytes stay
pub failed_sync_shows : {old new : Content} {P : List ℕ → Type 0} → Stays old new → Shows old P → Shows new P
failed_sync_shows {P = P} stays shows = search (arith, stays.shown, shows.holds)

-- a failed write may change what is shown, in its range
pub failed_write_shows : {at count : ℕ} {old new : Content} {P Q : List ℕ → Type 0} → Tears at count old new → Shows old P
    → ((before after : List ℕ) → P before → Torn at count before after → Q after) → Shows new Q
failed_write_shows tears shows step = search (arith, shows.holds, tears.shown)

-- after a crash, one of its possible images is what is shown, and what a further crash leaves
pub restart_shows : {old new : Content} {P : List ℕ → Type 0} → Restarts old new → LeavesOnly old P → Shows new P
restart_shows restarts leaves = search (arith, leaves.each, restarts.left)

-- a further crash leaves only images that the first crash could leave
pub restart_leaves : {old new : Content} {P : List ℕ → Type 0} → Restarts old new → LeavesOnly old P → LeavesOnly new P
restart_leaves restarts leaves = rests_leaves restarts.rests (restart_shows restarts leaves)

-- ---- with no call

-- a weaker property of each image
pub weaker_leaves : {content : Content} {P Q : List ℕ → Type 0} → LeavesOnly content P → ((image : List ℕ) → P image → Q image) → LeavesOnly content Q
weaker_leaves leaves step = record { each = λ honest image left. step image (leaves.each honest image left) }

-- a weaker property of what is shown
pub weaker_shows : {content : Content} {P Q : List ℕ → Type 0} → Shows content P → ((image : List ℕ) → P image → Q image) → Shows content Q
weaker_shows shows step = record { holds = λ honest. step _ (shows.holds honest) }

-- what is shown is one of the possible crash images
pub shown_left : (content : Content) → Left content content.shown
shown_left content = record { size = content.sizes; same = content.agrees }

-- so it has every property that all of them have
pub leaves_shows : {content : Content} {P : List ℕ → Type 0} → LeavesOnly content P → Shows content P
leaves_shows {content} leaves = record { holds = λ honest. leaves.each honest _ (shown_left content) }

-- the property with the size
pub sized_leaves : {content : Content} {P : List ℕ → Type 0} → LeavesOnly content P → LeavesOnly content (λ image. (length image ≡ size content) × P image)
sized_leaves {content} leaves = record { each = λ honest image left. (left.size ∙ sym content.sizes, leaves.each honest image left) }

-- the same for what is shown
pub sized_shows : {content : Content} {P : List ℕ → Type 0} → Shows content P → Shows content (λ image. (length image ≡ size content) × P image)
sized_shows shows = record { holds = λ honest. (refl, shows.holds honest) }

-- ---- over several calls

-- two changes in the same range are one
pub torn_trans : {at count : ℕ} {a b c : List ℕ} → Torn at count a b → Torn at count b c → Torn at count a c
torn_trans first second = search (arith, second.before, first.before, second.after, first.after)

-- a change in a range is a change in a wider range
pub torn_wider : {at count : ℕ} {a b : List ℕ} (from long : ℕ) → from ≤ at → at + count ≤ from + long → Torn at count a b → Torn from long a b
torn_wider from long low high torn = search (arith, torn.before, torn.after)

-- a write, Ok or Err, changes no more than its range
pub write_within : {at count : ℕ} {old new : Content} → Tears at count old new → ChangesWithin at count old new
write_within tears = record { honest = tears.honest; shown = tears.shown; left = λ honest image left. left_after_write tears honest image left }

-- a sync, Ok, changes no image outside any range
pub sync_within : (at count : ℕ) {old new : Content} → Settles old new → ChangesWithin at count old new
sync_within at count {old} settles = search (arith, torn_refl, shown_left, left_after_sync, settles.shown)

-- nor does a failed sync
pub failed_sync_within : (at count : ℕ) {old new : Content} → Stays old new → ChangesWithin at count old new
failed_sync_within at count {old} stays = search (arith, torn_refl, left_after_failed_sync, stays.shown)

-- no call: nothing changes
pub within_refl : (at count : ℕ) (content : Content) → ChangesWithin at count content content
within_refl at count content = search (arith, torn_refl)

-- calls that change only a range, followed by more such calls
pub within_trans : {at count : ℕ} {a b c : Content} → ChangesWithin at count a b → ChangesWithin at count b c → ChangesWithin at count a c
within_trans first second = record {
  honest = second.honest ∙ first.honest;
  shown = λ honest. torn_trans (first.shown honest) (second.shown (first.honest ∙ honest));
  left = λ honest image left.
      let between = second.left (first.honest ∙ honest) image left in
      let before = first.left honest between.0 between.1 in
      (before.0, before.1, torn_trans before.2 between.2);
}

-- calls that change only a range change only a wider range
pub within_wider : {at count : ℕ} {old new : Content} (from long : ℕ) → from ≤ at → at + count ≤ from + long → ChangesWithin at count old new → ChangesWithin from long old new
within_wider from long low high changes = record {
  honest = changes.honest;
  shown = λ honest. torn_wider from long low high (changes.shown honest);
  left = λ honest image left.
      let before = changes.left honest image left in
      (before.0, before.1, torn_wider from long low high before.2);
}

-- each image keeps what no bytes in the range can break
pub within_leaves : {at count : ℕ} {old new : Content} {P Q : List ℕ → Type 0} → ChangesWithin at count old new → LeavesOnly old P
    → ((before after : List ℕ) → P before → Torn at count before after → Q after) → LeavesOnly new Q
within_leaves changes leaves step = record {
  each = λ honest image left.
      let was : IsTrue _ = sym changes.honest ∙ honest in
      let from = changes.left was image left in
      step from.0 image (leaves.each was from.0 from.1) from.2;
}

-- what is shown keeps it too
pub within_shows : {at count : ℕ} {old new : Content} {P Q : List ℕ → Type 0} → ChangesWithin at count old new → Shows old P
    → ((before after : List ℕ) → P before → Torn at count before after → Q after) → Shows new Q
within_shows changes shows step = search (arith, shows.holds, changes.shown)

-- two properties of each image
pub both_leaves : {content : Content} {P Q : List ℕ → Type 0} → LeavesOnly content P → LeavesOnly content Q → LeavesOnly content (λ image. P image × Q image)
both_leaves first second = record { each = λ honest image left. (first.each honest image left, second.each honest image left) }
