use Rattle.silt_sorted_store.proofs.Common.{◌≡◌, ℕ, ◌+◌, List, Ok, sym, subst, ap, ◌∙◌, arith, Key, IsIndexing}
use Rattle.silt_sorted_store.proofs.Checking.{indexing_more, indexing_refused}
use Rattle.silt_sorted_store.proofs.Chunks.{key_in_part}
use Rattle.silt_sorted_store.proofs.rebuild.take_keys.Goals as goal

pub loop-i-init : goal.loop-i-init
loop-i-init c =
    let start : c.args.first ≡ c.args.first + 0 = omega arith in
    record {
      counted = c.requires.counted ∙ start;
      taken = λ rows room holds so_far. subst (λ (n : ℕ). IsIndexing rows n c.args.builder.now.building) start so_far;
    }

pub returns-clause-taken : goal.returns-clause-taken
returns-clause-taken c = λ rows room holds so_far.
    let all : c.args.first + c.loop-i.i ≡ c.args.first + c.args.count = omega (arith, c.loop-i-test.false, c.loop-i.auto.i-end) in
    subst (λ (n : ℕ). IsIndexing rows n c.loop-i.builder.building) all (c.loop-i.invariant.taken rows room holds so_far)

pub returns-then-not-branch-clause-taken : goal.returns-then-not-branch-clause-taken
returns-then-not-branch-clause-taken c = λ rows room holds so_far.
    let i = c.loop-i.i in
    let key = ap (λ (p : Key × List ℕ). p.0.0) c.entry_of.ensures in
    let at = key_in_part rows c.args.first c.args.count c.args.len i c.args.bytes.now c.entry_of.result.0.0 c.requires.len c.requires.bytes c.loop-i-test.true holds key in
    indexing_refused rows (c.args.first + i) c.loop-i.builder.building c.entry_of.result.0.0 (omega (arith, room, c.loop-i-test.true)) (c.loop-i.invariant.taken rows room holds so_far) at
    (sym c.in_ok-push.ensures.taken ∙ c.if-not-branch.true)

pub loop-i-preserved : goal.loop-i-preserved
loop-i-preserved c =
    let i = c.loop-i.i in
    let yes = ap Ok c.if-not-branch.false in
    let last = c.in_ok-push.ensures.last yes in
    let next : c.args.first + i + 1 ≡ c.args.first + (i + 1) = omega arith in
    record {
      counted = omega (arith, last.1, c.loop-i.invariant.counted);
      taken = λ rows room holds so_far.
          let key = ap (λ (p : Key × List ℕ). p.0.0) c.entry_of.ensures in
          let at = key_in_part rows c.args.first c.args.count c.args.len i c.args.bytes.now c.entry_of.result.0.0 c.requires.len c.requires.bytes c.loop-i-test.true holds key in
          subst (λ (n : ℕ). IsIndexing rows n c.push.new.self.building) next (indexing_more rows (c.args.first + i) c.loop-i.builder.building c.push.new.self.building c.entry_of.result.0
          (omega (arith, room, c.loop-i-test.true)) (c.loop-i.invariant.taken rows room holds so_far) at (sym c.in_ok-push.ensures.taken ∙ c.if-not-branch.false) (c.in_ok-push.ensures.built yes)
          last.0);
    }
