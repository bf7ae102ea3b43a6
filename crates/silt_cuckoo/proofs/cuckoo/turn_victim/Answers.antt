-- The first slot that can move is the one at which the loop stops.
use Rattle.silt_cuckoo.proofs.Common.{◌≡◌, ℕ, ◌+◌, ◌*◌, ◌%◌, not, true, sym, ap, ◌∙◌, arith, Slots, tag_at, unpacked_all, can_move, and_from, ne_eqb}
use Rattle.silt_cuckoo.specs.Placing.{victim}
use Rattle.silt_cuckoo.proofs.Search.{found_at, found_nowhere}
use Rattle.silt_cuckoo.proofs.cuckoo.turn_victim.Goals as goal

pub returns-then-tag_at-bucket-clause-victim : goal.returns-then-tag_at-bucket-clause-victim
unfolding victim
returns-then-tag_at-bucket-clause-victim c =
    let slots : Slots = unpacked_all c.args.slots.now in
    let slot : ℕ → ℕ = λ k. 4 * c.args.bucket + (c.args.turn + k) % 4 in
    let off : not c.contains.result ≡ true = ap not c.if-not-contains.true in
    let other : tag_at slots (slot c.loop-k.k) ≡ c.args.bucket → ⊥ = λ e. c.if-tag_at-bucket.true (c.tag_at.ensures ∙ e) in
    let moves : can_move slots c.args.path.now.slots c.args.bucket (slot c.loop-k.k) ≡ true =
    and_from _ _ (ap not (sym c.contains.ensures) ∙ off) (ap not (ne_eqb _ _ other)) in
    sym (found_at (can_move slots c.args.path.now.slots c.args.bucket) slot 0 4 c.loop-k.k c.loop-k.k (omega arith) (omega arith) c.loop-k.invariant.none moves)

pub returns-clause-victim : goal.returns-clause-victim
unfolding victim
returns-clause-victim c =
    sym (found_nowhere (can_move (unpacked_all c.args.slots.now) c.args.path.now.slots c.args.bucket) (λ k. 4 * c.args.bucket + (c.args.turn + k) % 4) 0 4
    (λ j low high. c.loop-k.invariant.none j low (omega arith)))
