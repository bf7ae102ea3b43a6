-- The laws of disks that a crate above cites. Their variables are written out, so that a search finds them by name.
use Rattle.std.proofs.Common.{◌≡◌, ℕ, ◌+◌, ◌≤◌, List, length, slice_range, IsTrue, sym, ◌∙◌, arith}
use Rattle.silt_disk.specs.Disk.{Content, Torn, Left, LeavesOnly, Shows, Tears, Writes, Settles, Stays, Rests, Restarts, ChangesWithin, size, splice}
use Rattle.silt_disk.proofs.Images.{torn_slice_before, torn_slice_after, left_at_rest, rests_leaves, write_shows, restart_shows, restart_leaves, weaker_leaves, weaker_shows, shown_left}
use Rattle.silt_disk.proofs.Images.{within_refl, within_trans, within_wider, within_leaves, within_shows, write_within, sync_within, failed_sync_within, both_leaves, sized_leaves}

-- ---- the possible crash images

-- what is shown is one of them
pub shown_is_left : (content : Content) → Left content content.shown
shown_is_left content = shown_left content

-- if nothing is pending, what is shown is the only one
pub image_at_rest : (content : Content) (image : List ℕ) → Rests content → IsTrue content.honest → Left content image → image ≡ content.shown
image_at_rest content image rests honest left = left_at_rest rests honest image left

-- each is as long as the disk
pub image_size : (content : Content) (image : List ℕ) → Left content image → length image ≡ size content
image_size content image left = left.size ∙ sym content.sizes

-- ---- what each image has

-- a weaker property
pub leaves_weaker : (content : Content) (P Q : List ℕ → Type 0) → LeavesOnly content P → ((image : List ℕ) → P image → Q image) → LeavesOnly content Q
leaves_weaker content P Q leaves step = weaker_leaves leaves step

-- two properties
pub leaves_both : (content : Content) (P Q : List ℕ → Type 0) → LeavesOnly content P → LeavesOnly content Q → LeavesOnly content (λ image. P image × Q image)
leaves_both content P Q first second = both_leaves first second

-- with the disk's length
pub leaves_sized : (content : Content) (P : List ℕ → Type 0) → LeavesOnly content P → LeavesOnly content (λ image. (length image ≡ size content) × P image)
leaves_sized content P leaves = sized_leaves leaves

-- what is shown has it too
pub shows_what_it_leaves : (content : Content) (P : List ℕ → Type 0) → LeavesOnly content P → Shows content P
shows_what_it_leaves content P leaves = record { holds = λ honest. leaves.each honest content.shown (shown_left content) }

-- if nothing is pending, what holds for the shown bytes holds for each image
pub leaves_what_it_shows : (content : Content) (P : List ℕ → Type 0) → Rests content → Shows content P → LeavesOnly content P
leaves_what_it_shows content P rests shows = rests_leaves rests shows

-- a weaker property of what is shown
pub shows_weaker : (content : Content) (P Q : List ℕ → Type 0) → Shows content P → ((image : List ℕ) → P image → Q image) → Shows content Q
shows_weaker content P Q shows step = weaker_shows shows step

-- ---- changes within a range

-- no call: nothing changes
pub changes_nothing : (at count : ℕ) (content : Content) → ChangesWithin at count content content
changes_nothing at count content = within_refl at count content

-- a write, Ok or Err, changes no more than its range
pub write_changes : (at count : ℕ) (old new : Content) → Tears at count old new → ChangesWithin at count old new
write_changes at count old new tears = write_within tears

-- a sync, Ok, changes no image outside any range
pub sync_changes : (at count : ℕ) (old new : Content) → Settles old new → ChangesWithin at count old new
sync_changes at count old new settles = sync_within at count settles

-- nor a failed sync
pub failed_sync_changes : (at count : ℕ) (old new : Content) → Stays old new → ChangesWithin at count old new
failed_sync_changes at count old new stays = failed_sync_within at count stays

-- within a wider range
pub changes_wider : (at count from long : ℕ) (old new : Content) → ChangesWithin at count old new → from ≤ at → at + count ≤ from + long → ChangesWithin from long old new
changes_wider at count from long old new changes low high = within_wider from long low high changes

-- one after the other, in one range
pub changes_twice : (at count : ℕ) (a b c : Content) → ChangesWithin at count a b → ChangesWithin at count b c → ChangesWithin at count a c
changes_twice at count a b c first second = within_trans first second

-- one after the other, each in its own part of one range
pub changes_joined : (at count at' count' from long : ℕ) (a b c : Content) → ChangesWithin at count a b → ChangesWithin at' count' b c
    → from ≤ at → at + count ≤ from + long → from ≤ at' → at' + count' ≤ from + long → ChangesWithin from long a c
changes_joined at count at' count' from long a b c first second low high low' high' =
    within_trans (within_wider from long low high first) (within_wider from long low' high' second)

-- each image keeps what no bytes in the range can break, and so does what is shown
pub changes_leave : (at count : ℕ) (old new : Content) (P Q : List ℕ → Type 0) → ChangesWithin at count old new → LeavesOnly old P
    → ((before after : List ℕ) → P before → Torn at count before after → Q after) → LeavesOnly new Q
changes_leave at count old new P Q changes leaves step = within_leaves changes leaves step

-- what is shown keeps it too
pub changes_show : (at count : ℕ) (old new : Content) (P Q : List ℕ → Type 0) → ChangesWithin at count old new → Shows old P
    → ((before after : List ℕ) → P before → Torn at count before after → Q after) → Shows new Q
changes_show at count old new P Q changes shows step = within_shows changes shows step

-- a part that ends before the range stays the same in each image
pub part_before_stays : (at count from to : ℕ) (bytes : List ℕ) (old new : Content) → ChangesWithin at count old new
    → LeavesOnly old (λ image. slice_range image from to ≡ bytes) → to ≤ at → to ≤ size old → LeavesOnly new (λ image. slice_range image from to ≡ bytes)
part_before_stays at count from to bytes old new changes leaves below fits =
    within_leaves changes (sized_leaves leaves) (λ before after had torn. torn_slice_before at count before after torn from to below (omega (arith, had.0)) ∙ had.1)

-- so does a part that begins after it
pub part_after_stays : (at count from to : ℕ) (bytes : List ℕ) (old new : Content) → ChangesWithin at count old new
    → LeavesOnly old (λ image. slice_range image from to ≡ bytes) → at + count ≤ from → to ≤ size old → LeavesOnly new (λ image. slice_range image from to ≡ bytes)
part_after_stays at count from to bytes old new changes leaves above fits =
    within_leaves changes (sized_leaves leaves) (λ before after had torn. torn_slice_after at count before after torn from to above (omega (arith, had.0)) ∙ had.1)

-- ---- after a write that returned Ok, and its sync

-- each image has what the write makes of the shown bytes
pub written_leaves : (at : ℕ) (bytes : List ℕ) (old new : Content) (P Q : List ℕ → Type 0) → Writes at bytes old new → Rests new
    → Shows old P → ((before : List ℕ) → P before → Q (splice at bytes before)) → LeavesOnly new Q
written_leaves at bytes old new P Q writes rests shows step = rests_leaves rests (write_shows writes shows step)

-- what is shown has it, settled or not
pub written_shows : (at : ℕ) (bytes : List ℕ) (old new : Content) (P Q : List ℕ → Type 0) → Writes at bytes old new → Shows old P
    → ((before : List ℕ) → P before → Q (splice at bytes before)) → Shows new Q
written_shows at bytes old new P Q writes shows step = write_shows writes shows step

-- ---- after a crash

-- what held for each image holds for each image of a further crash
pub restart_leaves_each : (old new : Content) (P : List ℕ → Type 0) → Restarts old new → LeavesOnly old P → LeavesOnly new P
restart_leaves_each old new P restarts leaves = restart_leaves restarts leaves

-- what held for each image holds for what is shown
pub restart_shows_each : (old new : Content) (P : List ℕ → Type 0) → Restarts old new → LeavesOnly old P → Shows new P
restart_shows_each old new P restarts leaves = restart_shows restarts leaves
