use Rattle.silt_dump.proofs.Common.{Bool, Option, Some, length, ap, sym, subst, ◌∙◌, Key, image_map, HasNext, PassesNext}
use Rattle.silt_dump.proofs.Skipping.{HasSkipped, next_entry, no_entry, skips_more, skips_none, skips_to}
use Rattle.silt_dump.proofs.stream.EntryStream.next.Goals as goal

pub loop-key-init : goal.loop-key-init
loop-key-init g c = skips_none (g.D.Disk.content c.args.disk.now) c.args.self.now (length c.args.value.now) c.requires.streams c.requires.value

pub loop-key-preserved : goal.loop-key-preserved
loop-key-preserved g c =
    let content = g.D.Disk.content c.args.disk.now in
    let passed = c.in-Some.is ∙ ap (λ (found : Bool). Some (c.in-Some.key, found)) c.if-found.false in
    subst (HasSkipped content c.args.self.now c.pass.new.self) (sym c.pass.auto.value)
    (skips_more content c.args.self.now c.loop-key.self (length c.loop-key.value) c.loop-key.invariant c.pass.new.self c.in-Some.key c.pass.new.value
    (subst (PassesNext content c.loop-key.self c.pass.new.self) passed c.in_ok-key.ensures.passes)
    (λ honest. subst (λ (p : Option (Key × Bool)). HasNext (image_map content.shown) c.loop-key.self.last p c.pass.new.value) passed (c.in_ok-key.ensures.next honest)))

pub loop-key-smaller : goal.loop-key-smaller
loop-key-smaller g c = (subst (PassesNext (g.D.Disk.content c.args.disk.now) c.loop-key.self c.pass.new.self) c.in-Some.is c.in_ok-key.ensures.passes).fewer

pub returns-then-found-clause-passes : goal.returns-then-found-clause-passes
returns-then-found-clause-passes g c =
    let content = g.D.Disk.content c.args.disk.now in
    skips_to content c.args.self.now c.loop-key.self (length c.loop-key.value) c.loop-key.invariant c.pass.new.self c.in-Some.key
    (subst (PassesNext content c.loop-key.self c.pass.new.self) c.in-Some.is c.in_ok-key.ensures.passes)

pub returns-then-found-clause-entry : goal.returns-then-found-clause-entry
returns-then-found-clause-entry g c = λ honest.
    let content = g.D.Disk.content c.args.disk.now in
    let passed = c.in-Some.is ∙ ap (λ (found : Bool). Some (c.in-Some.key, found)) c.if-found.true in
    next_entry content c.args.self.now c.loop-key.self (length c.loop-key.value) c.loop-key.invariant honest c.in-Some.key c.pass.new.value
    (subst (λ (p : Option (Key × Bool)). HasNext (image_map content.shown) c.loop-key.self.last p c.pass.new.value) passed (c.in_ok-key.ensures.next honest))

pub returns-clause-entry : goal.returns-clause-entry
returns-clause-entry g c = λ honest.
    let content = g.D.Disk.content c.args.disk.now in
    no_entry content c.args.self.now c.loop-key.self (length c.loop-key.value) c.loop-key.invariant honest c.pass.new.value
    (subst (λ (p : Option (Key × Bool)). HasNext (image_map content.shown) c.loop-key.self.last p c.pass.new.value) c.in_default.is (c.in_ok-key.ensures.next honest))
