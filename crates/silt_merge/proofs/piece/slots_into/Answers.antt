use Rattle.silt_merge.proofs.Common.{ℕ, ◌*◌, ap, ◌∙◌, arith, row_len, rules, length-take-le}
use Rattle.silt_merge.proofs.Pieces.{front_fits, slots_front}
use Rattle.silt_merge.proofs.piece.slots_into.Goals as goal

pub slice_bounds-read_slots-end : goal.slice_bounds-read_slots-end
slice_bounds-read_slots-end g c = front_fits _ _ _ _ (c.row_len-len.ensures.value ∙ ap row_len c.geometry.ensures.value) c.requires.buffer

pub read_slots-requires-clause-out : goal.read_slots-requires-clause-out
read_slots-requires-clause-out g c = search (rules, arith, front_fits, length-take-le)

pub returns-clause-slots : goal.returns-clause-slots
returns-clause-slots g c = λ honest.
    let len_is = c.row_len-len.ensures.value ∙ ap row_len c.geometry.ensures.value in
    let fits = front_fits _ _ _ _ len_is c.requires.buffer in
    let long = c.read_slots.auto.out ∙ length-take-le _ c.args.buffer.now fits ∙ ap (λ (n : ℕ). c.args.count * n) len_is in
    slots_front _ _ _ _ _ _ _ (omega (arith, long)) (c.in_ok-read_slots.ensures.slots honest)
