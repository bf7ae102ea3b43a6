use Rattle.silt_device.proofs.Common.{◌≡◌, rules, arith, refl, sym, ◌∙◌, inl, inr, made_both, content_over_all, size}
use Rattle.silt_device.proofs.Freeing.{empty_thrice, freed_makes, freed_owes, freed_sizes, freed_thrice, frees_empty, frees_none, frees_out, not_freed, owed_thrice, settles_over_all, AreEmpty}
use Rattle.silt_device.proofs.Gathering.{gathers_so}
use Rattle.silt_device.proofs.Waiting.{size_over_all, stays_settles}
use Rattle.silt_device.proofs.buffered_disk.BufferedDiskDisk.sync.Goals.{then-not-is_last_empty+in_default, else-not-is_last_empty}
use Rattle.silt_device.proofs.buffered_disk.BufferedDiskDisk.sync.Goals as goal

pub loop-turn-init : goal.loop-turn-init
loop-turn-init g c = record { frees = frees_none _ _ c.self.invariant; upto = omega arith; calls = refl }

pub loop-turn-preserved : goal.loop-turn-preserved
loop-turn-preserved g c =
    let so_far = c.loop-turn.invariant.frees in
    elim c.if-not-is_last_empty.branch [
      | then-not-is_last_empty+in_default w ↦ record {
        frees = rw (c.free.ensures, w.self-inside-is)
            (frees_out _ _ _ _ _ _ _ _ so_far (search rules) w.last_at.ensures w.last_bytes.ensures w.write.ensures.torn w.in_default.ensures.written w.write.ensures.made w.write.ensures.size);
        upto = search rules;
        calls = rw w.self-inside-is c.loop-turn.invariant.calls;
      }
      | else-not-is_last_empty w ↦ record {
        frees = rw (c.free.ensures, w.self-inside-is) (frees_empty _ _ _ _ _ so_far (search rules));
        upto = search rules;
        calls = rw w.self-inside-is c.loop-turn.invariant.calls;
      }
    ]

pub returns-in-Err-clause-syncs : goal.returns-in-Err-clause-syncs
returns-in-Err-clause-syncs g c =
    let same : c.loop-turn.self-inside.calls.failures ≡ c.args.self.now.calls.failures = search (rules, c.loop-turn.invariant.calls) in
    let new = g.D.Disk.content c.write.new.self in
    let long : c.len-size.result ≡ size (content_over_all c.loop-turn.self-inside.buffers new) =
    c.len-size.ensures ∙ sym (size_over_all c.loop-turn.self-inside.buffers new ∙ c.write.ensures.size ∙ c.loop-turn.invariant.frees.size) in
    record {
      size = rw (← c.self.view_is) (freed_sizes c.loop-turn.invariant.frees _ _ _ c.write.ensures.size);
      made = search rules;
      settled = search rules;
      unchanged = rw (← c.self.view_is) (not_freed c.loop-turn.invariant.frees _ _ _ c.last_at.ensures c.last_bytes.ensures c.write.ensures.torn);
      failures = search (rules, same, long);
    }

pub returns-in-Err-clause-gathers : goal.returns-in-Err-clause-gathers
returns-in-Err-clause-gathers g c =
    let frees = c.loop-turn.invariant.frees in
    rw (← c.self.view_is) (inl (gathers_so _ _ _ 1 0 (freed_makes frees _ 1 0 c.write.ensures.made) (omega (arith, freed_owes frees))))

pub returns-in-Ok-clause-syncs : goal.returns-in-Ok-clause-syncs
returns-in-Ok-clause-syncs g c =
    let frees = c.loop-turn.invariant.frees in
    let all : c.loop-turn._turn ≡ 3 = omega (arith, c.loop-turn-test.false, c.loop-turn.invariant.upto) in
    let none : AreEmpty c.loop-turn.self-inside.buffers = rw (frees.buffers, all) (empty_thrice _) in
    record {
      size = rw (← c.self.view_is) (freed_sizes c.loop-turn.invariant.frees _ _ _ c.sync.ensures.size);
      made = search rules;
      settled = rw (← c.self.view_is) (stays_settles _ _ _ frees.stays (settles_over_all _ _ _ none c.in-Ok.ensures.settled));
      unchanged = search rules;
      failures = search rules;
    }

pub returns-in-Err-sync-clause-syncs : goal.returns-in-Err-sync-clause-syncs
returns-in-Err-sync-clause-syncs g c =
    let same : c.loop-turn.self-inside.calls.failures ≡ c.args.self.now.calls.failures = search (rules, c.loop-turn.invariant.calls) in
    let new = g.D.Disk.content c.sync.new.self in
    let long : c.len-size.result ≡ size (content_over_all c.loop-turn.self-inside.buffers new) =
    c.len-size.ensures ∙ sym (size_over_all c.loop-turn.self-inside.buffers new ∙ c.sync.ensures.size ∙ c.loop-turn.invariant.frees.size) in
    record {
      size = rw (← c.self.view_is) (freed_sizes c.loop-turn.invariant.frees _ _ _ c.sync.ensures.size);
      made = search rules;
      settled = search rules;
      unchanged = search rules;
      failures = search (rules, same, long);
    }

pub returns-in-Ok-clause-gathers : goal.returns-in-Ok-clause-gathers
returns-in-Ok-clause-gathers g c =
    let frees = c.loop-turn.invariant.frees in
    let all : c.loop-turn._turn ≡ 3 = omega (arith, c.loop-turn-test.false, c.loop-turn.invariant.upto) in
    rw (← c.self.view_is) (record {
      none = rw (frees.buffers, all) (freed_thrice _);
      made = made_both _ frees.made c.sync.ensures.made (rw (all) (omega (arith, owed_thrice c.self.inside.buffers))) refl;
    })

pub returns-in-Err-sync-clause-gathers : goal.returns-in-Err-sync-clause-gathers
returns-in-Err-sync-clause-gathers g c =
    let frees = c.loop-turn.invariant.frees in
    rw (← c.self.view_is) (inr (gathers_so _ _ _ 0 1 (freed_makes frees _ 0 1 c.sync.ensures.made) (omega (arith, freed_owes frees))))
