-- Each turn of the loop is a turn of the walk.
use Rattle.silt_cuckoo.proofs.Common.{◌≡◌, [], ◌∷◌, Some, None, refl, sym, ap, ◌∙◌, arith, length-append, Slots, tag_at, unpacked_all, victim, free_slot}
use Rattle.silt_cuckoo.specs.Placing.{turns}
use Rattle.silt_cuckoo.proofs.Walks.{turn_made, walk_stuck, walk_ends, walk_goes_on, shortest_never}
use Rattle.silt_cuckoo.proofs.cuckoo.walk.Goals as goal

pub loop-turn-init : goal.loop-turn-init
unfolding turns
loop-turn-init c = record {
  first = refl;
  second = refl;
  so_far = ap Some (sym c.requires.empty);
  long = rw c.requires.empty refl;
  here = rw c.requires.empty c.first-bucket.ensures;
  inside = rw c.first-bucket.ensures c.requires.there;
  not_ended = λ n low high. absurd (omega arith);
}

pub returns-in_err-slot : goal.returns-in_err-slot
returns-in_err-slot c =
    let none = walk_stuck (unpacked_all c.args.slots.now) c.args.path.first c.loop-turn.bucket c.loop-turn.turn c.loop-turn.path.slots
    c.loop-turn.invariant.so_far c.loop-turn.invariant.here c.loop-turn.invariant.not_ended (sym c.turn_victim.ensures.victim ∙ c.in_err-slot.was) in
    rw none c.from_residual.ensures

pub returns-in-Some : goal.returns-in-Some
returns-in-Some c =
    let there : free_slot (unpacked_all c.args.slots.now) (tag_at (unpacked_all c.args.slots.now) c.in_ok-slot.slot) ≡ Some c.in-Some.free =
    ap (free_slot (unpacked_all c.args.slots.now)) (sym c.tag_at-bucket.ensures) ∙ sym c.lowest_free.ensures ∙ c.in-Some.is in
    let walk = walk_ends (unpacked_all c.args.slots.now) c.args.path.first c.loop-turn.bucket c.loop-turn.turn c.in_ok-slot.slot c.in-Some.free c.loop-turn.path.slots
    (omega arith) c.loop-turn.invariant.so_far c.loop-turn.invariant.here c.loop-turn.invariant.not_ended (sym c.turn_victim.ensures.victim ∙ c.in_ok-slot.was) there in
    rw (walk, c.push-in-Some.ensures, c.push.ensures, c.loop-turn.invariant.first, c.loop-turn.invariant.second) refl

pub loop-turn-preserved : goal.loop-turn-preserved
loop-turn-preserved c =
    let slots : Slots = unpacked_all c.args.slots.now in
    let slot = c.in_ok-slot.slot in
    let found : victim slots c.loop-turn.path.slots c.loop-turn.bucket c.loop-turn.turn ≡ Some slot = sym c.turn_victim.ensures.victim ∙ c.in_ok-slot.was in
    let made = turn_made slots c.args.path.first c.loop-turn.bucket c.loop-turn.turn slot c.loop-turn.path.slots c.loop-turn.invariant.so_far c.loop-turn.invariant.here found in
    let full : free_slot slots (tag_at slots slot) ≡ None = ap (free_slot slots) (sym c.tag_at-bucket.ensures) ∙ sym c.lowest_free.ensures ∙ c.in_default.is in
    let tags = c.requires.tags slot in
    rw c.push.ensures (record {
      first = c.loop-turn.invariant.first;
      second = c.loop-turn.invariant.second;
      so_far = made.0;
      long = omega (arith, length-append c.loop-turn.path.slots (slot ∷ []), c.loop-turn.invariant.long);
      here = c.tag_at-bucket.ensures ∙ made.1;
      inside = omega (arith, c.tag_at-bucket.ensures, tags);
      not_ended = walk_goes_on slots c.args.path.first c.loop-turn.bucket c.loop-turn.turn slot c.loop-turn.path.slots c.loop-turn.invariant.so_far c.loop-turn.invariant.here
          c.loop-turn.invariant.not_ended found full;
    })

pub returns : goal.returns
returns c =
    let none = shortest_never (unpacked_all c.args.slots.now) c.args.path.first (λ k low high. c.loop-turn.invariant.not_ended k low (omega arith)) in
    rw none refl
