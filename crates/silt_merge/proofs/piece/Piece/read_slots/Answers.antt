use Rattle.silt_merge.proofs.Common.{◌≡◌, ℕ, ◌+◌, ◌*◌, ◌≤◌, ◌++◌, List, length, take, drop, ap, ◌∙◌, arith, Shape, row_len, take_at}
use Rattle.silt_merge.proofs.Pieces.{are_slots, part_count}
use Rattle.silt_merge.proofs.piece.Piece.read_slots.Goals as goal

pub returns-clause-slots : goal.returns-clause-slots
returns-clause-slots g c = λ honest.
    let store = c.args.store.now in
    let image : List ℕ = (g.D.Disk.content c.args.disk.now).shown in
    let new : List ℕ = c.slots_into.new.buffer in
    let len_is : c.self.inside.len ≡ row_len store.shape = rw (← c.self.view_is) at c.requires.len in
    let all = c.buckets-slots.ensures.value ∙ ap (λ (s : Shape). s.buckets) c.geometry.ensures.value in
    let within : c.args.slot + c.min-count.result ≤ 4 * store.shape.buckets = omega (arith, c.min-count.ensures, c.requires.slot, all) in
    let kept : take c.self.inside.bytes.len (new ++ drop (length new) c.self.inside.bytes.items) ≡ new = take_at new _ _ (omega (arith, c.slots_into.ensures.len, c.deref_mut.ensures.len)) in
    rw (← len_is, ← kept) at (are_slots store.shape store.region c.args.slot c.min-count.result image new within (c.in_ok-slots_into.ensures.slots honest))

pub returns-clause-some : goal.returns-clause-some
returns-clause-some g c =
    let all = c.buckets-slots.ensures.value ∙ ap (λ (s : Shape). s.buckets) c.geometry.ensures.value in
    let count = part_count (take c.self.inside.bytes.len (c.slots_into.new.buffer ++ drop (length c.slots_into.new.buffer) c.self.inside.bytes.items)) c.self.inside.len 0 c.min-count.result in
    omega (arith, count, c.min-count.ensures, c.self.invariant.1, c.requires.slot, all)
