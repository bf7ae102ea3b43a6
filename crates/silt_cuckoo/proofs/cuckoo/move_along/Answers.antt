-- Each turn of the loop moves one entry on.
use Rattle.silt_cuckoo.proofs.Common.{◌≡◌, ℕ, ◌+◌, ◌-◌, ◌/◌, length, drop, slice_index, option_map, sym, ap, ◌∙◌, arith, length-drop, Entry, unpacked, unpacked_all, moved_along, moved_entry}
use Rattle.silt_cuckoo.proofs.Moves.{moved_last, moved_turn}
use Rattle.silt_cuckoo.proofs.Unpacking.{entry_of_stored, unpacked_all_set}
use Rattle.silt_cuckoo.proofs.cuckoo.move_along.Goals as goal

pub loop-k-init : goal.loop-k-init
loop-k-init c = sym (moved_last (unpacked_all c.args.slots.now) (drop (length c.args.path.now - 1) c.args.path.now) (simp length-drop (omega arith)))

pub loop-k-preserved : goal.loop-k-preserved
loop-k-preserved c =
    let m : ℕ = c.loop-k.k - 1 - 1 in
    let step : m + 1 ≡ c.loop-k.k - 1 = omega arith in
    let so_far : unpacked_all c.loop-k.slots ≡ moved_along (unpacked_all c.args.slots.now) (drop (m + 1) c.args.path.now) = rw step c.loop-k.invariant in
    let there = c.requires.there m (omega arith) in
    let is : unpacked c.with_tag.result ≡ moved_entry (unpacked_all c.loop-k.slots) (slice_index c.args.path.now m) =
    c.with_tag.ensures ∙ ap (option_map (λ (e : Entry). (slice_index c.args.path.now m / 4, e.1)))
    (sym (entry_of_stored c.loop-k.slots (slice_index c.args.path.now m) _ (omega (arith, c.loop-k.auto.slots)))) in
    let turn = moved_turn (unpacked_all c.args.slots.now) (unpacked_all c.loop-k.slots) c.args.path.now m (unpacked c.with_tag.result) so_far (omega arith) c.requires.apart is in
    unpacked_all_set c.loop-k.slots (slice_index c.args.path.now (c.loop-k.k - 1)) c.with_tag.result ∙ (rw step at turn)
