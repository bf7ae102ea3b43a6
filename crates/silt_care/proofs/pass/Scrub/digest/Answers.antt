use Rattle.std.proofs.Common.{◌≡◌, ◌∙◌, [], arith, drop, length, length-append, length-drop, refl, take}
use Rattle.std.proofs.lemmas.List.{length-take-le}
use Rattle.silt_care.specs.Orders.{no_bytes}
use Rattle.silt_care.proofs.Gathering.{taken_more}
use Rattle.silt_care.proofs.pass.Scrub.digest.Goals as goal

pub loop-done-init : goal.loop-done-init
loop-done-init g c = record { upto = omega arith; room = refl; taken = ([], no_bytes, refl, c.restart.ensures) }

pub loop-done-preserved : goal.loop-done-preserved
loop-done-preserved g c =
    let i = c.loop-done.invariant in
    let given = c.in_ok-take_piece.ensures.ok in
    let width : length (take c.min-count.result c.loop-done.room) ≡ c.min-count.result = length-take-le c.min-count.result c.loop-done.room (omega arith) in
    record {
      upto = omega arith;
      room = omega (arith, width, length-append c.take_piece.new.piece (drop c.min-count.result c.loop-done.room), length-drop c.min-count.result c.loop-done.room);
      taken = taken_more g.L.Looks _ _ _ _ _ _ _ _ _ i.taken given.1 (given.2 ∙ width) given.3;
    }
