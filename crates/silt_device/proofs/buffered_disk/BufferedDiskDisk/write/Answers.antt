use Rattle.silt_device.proofs.Common.{◌≡◌, ◌≤◌, ◌+◌, IsTrue, length, rules, arith, refl, sym, ap, ◌∙◌, size, made_both, takes, to_free}
use Rattle.silt_device.proofs.Freeing.{appended_owes, appended_places, appended_tears, appended_writes, brought_places, freed_makes, freed_sizes, frees_empty, frees_none, frees_out}
use Rattle.silt_device.proofs.Freeing.{tears_over_all, way_made, way_none, way_owes, way_passed, way_stays, way_unwritten, passes_appended, passes_written, writes_over_all}
use Rattle.silt_device.proofs.Gathering.{gathers_so}
use Rattle.silt_device.proofs.Waiting.{fits_inner, size_over_all, stays_tears, stays_writes}
use Rattle.silt_device.proofs.buffered_disk.BufferedDiskDisk.write.Goals.{then-not-is_last_empty+in_default, else-not-is_last_empty}
use Rattle.silt_device.proofs.buffered_disk.BufferedDiskDisk.write.Goals as goal

pub loop-turn-init : goal.loop-turn-init
loop-turn-init g c = record {
  frees = frees_none _ _ (rw c.make_way-turn-end.ensures.order (brought_places g.D.Disk.content c.self.inside.inner c.self.inside.buffers c.args.at (length c.args.buf.now) c.self.invariant));
  upto = omega arith;
  calls = refl;
}

pub loop-turn-preserved : goal.loop-turn-preserved
loop-turn-preserved g c =
    let so_far = c.loop-turn.invariant.frees in
    elim c.if-not-is_last_empty.branch [
      | then-not-is_last_empty+in_default w ↦ record {
        frees = rw (c.free.ensures, w.self-inside-is)
            (frees_out _ _ _ _ _ _ _ _ so_far (search rules) w.last_at.ensures w.last_bytes.ensures w.write.ensures.torn w.in_default.ensures.written w.write.ensures.made w.write.ensures.size);
        upto = search rules;
        calls = rw w.self-inside-is c.loop-turn.invariant.calls;
      }
      | else-not-is_last_empty w ↦ record {
        frees = rw (c.free.ensures, w.self-inside-is) (frees_empty _ _ _ _ _ so_far (search rules));
        upto = search rules;
        calls = rw w.self-inside-is c.loop-turn.invariant.calls;
      }
    ]

pub write-requires-in-Err : goal.write-requires-in-Err
write-requires-in-Err g c = omega (arith, fits_inner g.D.Disk.content c.self.view_is c.requires, c.write.ensures.size, c.loop-turn.invariant.frees.size)

pub returns-in-Err-clause-writes : goal.returns-in-Err-clause-writes
returns-in-Err-clause-writes g c =
    let stays = way_unwritten c.loop-turn.invariant.frees c.self.inside.buffers c.args.at (length c.args.buf.now)
    c.make_way-turn-end.ensures.order c.write.new.self _ _ c.last_at.ensures c.last_bytes.ensures c.write.ensures.torn in
    record {
      size = rw (← c.self.view_is) (freed_sizes c.loop-turn.invariant.frees _ _ _ (c.write-in-Err.ensures.size ∙ c.write.ensures.size));
      made = search rules;
      torn = rw (← c.self.view_is) (stays_tears _ _ _ _ _ stays (tears_over_all c.loop-turn.self-inside.buffers _ _ _ _ c.write-in-Err.ensures.torn));
      written = search rules;
      failures = search rules;
    }

pub returns-in-Err-clause-gathers : goal.returns-in-Err-clause-gathers
returns-in-Err-clause-gathers g c =
    let frees = c.loop-turn.invariant.frees in
    let owes = way_owes frees c.self.inside.buffers c.args.at (length c.args.buf.now) c.make_way-turn-end.ensures.order in
    let made = freed_makes frees c.write-in-Err.new.self 2 0 (made_both c.write.new.self c.write.ensures.made c.write-in-Err.ensures.made refl refl) in
    rw (← c.self.view_is) (gathers_so _ _ _ 2 0 made (omega (arith, owes)))

pub append-requires-clause-end : goal.append-requires-clause-end
append-requires-clause-end g c =
    let fits = fits_inner g.D.Disk.content c.self.view_is c.requires in
    let below : c.args.at + length c.args.buf.now ≤ c.len-known.result = omega (arith, fits, size_over_all c.self.inside.buffers (g.D.Disk.content c.self.inside.inner), c.len-known.ensures) in
    search (rules, below)

pub invariant_of-self-then-takes : goal.invariant_of-self-then-takes
invariant_of-self-then-takes g c =
    let fits = fits_inner g.D.Disk.content c.self.view_is c.requires in
    let room : IsTrue (takes c.loop-turn.self-inside.buffers.first c.args.at (length c.args.buf.now)) = sym c.takes.ensures ∙ c.if-takes.true in
    let frees = c.loop-turn.invariant.frees in
    rw c.append.ensures (appended_places g.D.Disk.content _ _ c.args.at c.args.buf.now frees.places room (omega (arith, fits, frees.size)))

pub returns-then-takes-clause-writes : goal.returns-then-takes-clause-writes
returns-then-takes-clause-writes g c =
    let fits = fits_inner g.D.Disk.content c.self.view_is c.requires in
    let room : IsTrue (takes c.loop-turn.self-inside.buffers.first c.args.at (length c.args.buf.now)) = sym c.takes.ensures ∙ c.if-takes.true in
    let frees = c.loop-turn.invariant.frees in
    let stays = way_stays frees c.self.inside.buffers c.args.at (length c.args.buf.now) c.make_way-turn-end.ensures.order in
    let inside : c.args.at + length c.args.buf.now ≤ size (g.D.Disk.content c.loop-turn.self-inside.inner) = omega (arith, fits, frees.size) in
    record {
      size = rw (← c.self.view_is) (freed_sizes c.loop-turn.invariant.frees _ _ _ refl);
      made = search rules;
      torn = rw (← c.self.view_is, c.append.ensures) (stays_tears _ _ _ _ _ stays
          (appended_tears c.loop-turn.self-inside.buffers c.args.at c.args.buf.now (g.D.Disk.content c.loop-turn.self-inside.inner) room inside));
      written = rw (← c.self.view_is, c.append.ensures) (stays_writes _ _ _ _ _ stays
          (appended_writes c.loop-turn.self-inside.buffers c.args.at c.args.buf.now (g.D.Disk.content c.loop-turn.self-inside.inner) room inside));
      failures = search rules;
    }

pub returns-then-takes-clause-gathers : goal.returns-then-takes-clause-gathers
returns-then-takes-clause-gathers g c =
    let frees = c.loop-turn.invariant.frees in
    let owes = way_owes frees c.self.inside.buffers c.args.at (length c.args.buf.now) c.make_way-turn-end.ensures.order in
    rw (← c.self.view_is, c.append.ensures) (gathers_so _ _ _ 1 0 frees.made (omega (arith, owes, appended_owes c.loop-turn.self-inside.buffers c.args.at c.args.buf.now)))

pub write-requires-2 : goal.write-requires-2
write-requires-2 g c = omega (arith, fits_inner g.D.Disk.content c.self.view_is c.requires, c.loop-turn.invariant.frees.size)

pub returns-in-Ok-clause-writes : goal.returns-in-Ok-clause-writes
returns-in-Ok-clause-writes g c =
    let frees = c.loop-turn.invariant.frees in
    let stays = way_stays frees c.self.inside.buffers c.args.at (length c.args.buf.now) c.make_way-turn-end.ensures.order in
    let all : c.loop-turn._turn ≡ to_free c.make_way-turn-end.new.self c.args.at (length c.args.buf.now) = omega arith in
    let none = way_none frees c.self.inside.buffers c.args.at (length c.args.buf.now) c.make_way-turn-end.ensures.order all (sym c.takes.ensures ∙ c.if-takes.false) in
    record {
      size = rw (← c.self.view_is) (freed_sizes c.loop-turn.invariant.frees _ _ _ c.write-2.ensures.size);
      made = search rules;
      torn = rw (← c.self.view_is) (stays_tears _ _ _ _ _ stays (tears_over_all c.loop-turn.self-inside.buffers _ _ _ _ c.write-2.ensures.torn));
      written = rw (← c.self.view_is) (stays_writes _ _ _ _ _ stays (writes_over_all c.loop-turn.self-inside.buffers _ _ _ _ none c.in-Ok.ensures.written));
      failures = search rules;
    }

pub returns-in-Err-write-clause-writes : goal.returns-in-Err-write-clause-writes
returns-in-Err-write-clause-writes g c =
    let stays = way_stays c.loop-turn.invariant.frees c.self.inside.buffers c.args.at (length c.args.buf.now) c.make_way-turn-end.ensures.order in
    record {
      size = rw (← c.self.view_is) (freed_sizes c.loop-turn.invariant.frees _ _ _ c.write-2.ensures.size);
      made = search rules;
      torn = rw (← c.self.view_is) (stays_tears _ _ _ _ _ stays (tears_over_all c.loop-turn.self-inside.buffers _ _ _ _ c.write-2.ensures.torn));
      written = search rules;
      failures = search rules;
    }

pub returns-in-Ok-clause-gathers : goal.returns-in-Ok-clause-gathers
returns-in-Ok-clause-gathers g c =
    let frees = c.loop-turn.invariant.frees in
    let owes = way_owes frees c.self.inside.buffers c.args.at (length c.args.buf.now) c.make_way-turn-end.ensures.order in
    rw (← c.self.view_is) (gathers_so _ _ _ 1 0 (freed_makes frees c.write-2.new.self 1 0 c.write-2.ensures.made) (omega (arith, owes)))

pub returns-in-Err-write-clause-gathers : goal.returns-in-Err-write-clause-gathers
returns-in-Err-write-clause-gathers g c =
    let frees = c.loop-turn.invariant.frees in
    let owes = way_owes frees c.self.inside.buffers c.args.at (length c.args.buf.now) c.make_way-turn-end.ensures.order in
    rw (← c.self.view_is) (gathers_so _ _ _ 2 0 (freed_makes frees c.write-2.new.self 1 0 c.write-2.ensures.made) (omega (arith, owes)))

pub returns-then-takes-clause-passes : goal.returns-then-takes-clause-passes
returns-then-takes-clause-passes g c =
    let frees = c.loop-turn.invariant.frees in
    let is = c.make_way-turn-end.ensures.order in
    let all : c.loop-turn._turn ≡ to_free c.make_way-turn-end.new.self c.args.at (length c.args.buf.now) = omega arith in
    let b = c.self.inside.buffers in
    rw (← c.self.view_is) (passes_appended _ _ c.args.at c.args.buf.now c.loop-turn.self-inside.buffers _ (way_made frees b c.args.at (length c.args.buf.now) is all) (sym c.takes.ensures ∙
    c.if-takes.true) c.append.ensures (way_passed frees b c.args.at (length c.args.buf.now) is all) frees.made)

pub returns-in-Ok-clause-passes : goal.returns-in-Ok-clause-passes
returns-in-Ok-clause-passes g c =
    let frees = c.loop-turn.invariant.frees in
    let is = c.make_way-turn-end.ensures.order in
    let all : c.loop-turn._turn ≡ to_free c.make_way-turn-end.new.self c.args.at (length c.args.buf.now) = omega arith in
    let b = c.self.inside.buffers in
    rw (← c.self.view_is) (passes_written _ _ c.args.at c.args.buf.now c.loop-turn.self-inside.buffers _ (way_made frees b c.args.at (length c.args.buf.now) is all) (sym c.takes.ensures ∙
    c.if-takes.false) refl (ap (λ k. k + 1) (way_passed frees b c.args.at (length c.args.buf.now) is all)) (freed_makes frees c.write-2.new.self 1 0 c.write-2.ensures.made))
