use Rattle.silt_device.proofs.Common.{◌≡◌, ℕ, List, length, get_or, slice_range, rules, refl, sym, ◌∙◌, ap, with_items_is, splice}
use Rattle.silt_device.proofs.Marked.{settled_all}
use Rattle.silt_device.proofs.memory.MemDisk.settle.Goals as goal

pub invariant_of-self : goal.invariant_of-self
invariant_of-self c =
    let disk = c.args.self.now in
    let from = c.range-from.result.0 in
    let to = c.range-from.result.1 in
    let size : length c.settle_range.new.settled ≡ disk.settled.len = search rules in
    let all : c.settle_range.new.settled ≡ disk.shown.items =
    c.settle_range.ensures
    ∙ ap (λ (l : List ℕ). splice from (slice_range l from to) c.deref_mut.result.now) c.deref.ensures.value
    ∙ ap (λ (l : List ℕ). splice from (slice_range disk.shown.items from to) l) c.deref_mut.ensures.value
    ∙ settled_all from to disk.settled.items disk.shown.items disk.pending disk.sizes disk.pending_size c.range-from.ensures disk.agrees in
    let settled = with_items_is disk.settled c.settle_range.new.settled size ∙ all in
    record {
      sizes = ap length (sym settled);
      pending_size = c.clear.ensures.size ∙ disk.pending_size;
      agrees = λ place _. ap (λ (l : List ℕ). get_or l place 0) (sym settled);
    }

pub returns-clause-content : goal.returns-clause-content
returns-clause-content c =
    let disk = c.args.self.now in
    let from = c.range-from.result.0 in
    let to = c.range-from.result.1 in
    let size : length c.settle_range.new.settled ≡ disk.settled.len = search rules in
    let all : c.settle_range.new.settled ≡ disk.shown.items =
    c.settle_range.ensures
    ∙ ap (λ (l : List ℕ). splice from (slice_range l from to) c.deref_mut.result.now) c.deref.ensures.value
    ∙ ap (λ (l : List ℕ). splice from (slice_range disk.shown.items from to) l) c.deref_mut.ensures.value
    ∙ settled_all from to disk.settled.items disk.shown.items disk.pending disk.sizes disk.pending_size c.range-from.ensures disk.agrees in
    record {
      honest = refl;
      shown = λ _. refl;
      rests = record {
        settled = λ _. with_items_is disk.settled c.settle_range.new.settled size ∙ all;
        pending = λ _ place. c.clear.ensures.none place;
      };
    }
