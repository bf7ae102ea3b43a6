use Rattle.silt_wire.proofs.Common.{[], ◌+◌, sym, ◌∙◌, arith, append-nil, tail_after, requests}
use Rattle.silt_wire.proofs.Answering.{tail_after-none, gathers-begins, gathers-part, holds-part}
use Rattle.silt_wire.proofs.sessions.gather.Goals as goal

pub returns-in_err-line-clause-some : goal.returns-in_err-line-clause-some
returns-in_err-line-clause-some c = λ p h.
    gathers-begins c.args.value_len p c.args.bytes.now c.loop-count.count (requests c.args.batch.now) (requests c.gather_line.new.batch) []
    ((c.loop-count.invariant.told p h).all ∙ sym c.in_err-line.ensures.err ∙ sym (append-nil _))

pub returns-then-is_some-clause-holds : goal.returns-then-is_some-clause-holds
returns-then-is_some-clause-holds c = λ p h.
    let before = c.loop-count.invariant.told p h in
    holds-part c.gather_line.new.pending p c.args.bytes.now _ c.loop-count.count c.in_ok-line.line.count c.split_at.ensures.back (c.in_ok-line.ensures.holds _ before.holds)

pub returns-then-is_some-clause-all : goal.returns-then-is_some-clause-all
returns-then-is_some-clause-all c = λ p h.
    let before = c.loop-count.invariant.told p h in
    gathers-part c.args.value_len p c.args.bytes.now _ c.loop-count.count c.in_ok-line.line.count (requests c.args.batch.now) (requests c.loop-count.batch) _
    c.split_at.ensures.back before.all (c.in_ok-line.ensures.all _ before.holds)

pub returns-then-is_some-clause-some : goal.returns-then-is_some-clause-some
returns-then-is_some-clause-some c = λ p h.
    let before = c.loop-count.invariant.told p h in
    gathers-begins c.args.value_len p c.args.bytes.now (c.loop-count.count + c.in_ok-line.line.count) (requests c.args.batch.now) (requests c.gather_line.new.batch)
    (tail_after c.in_ok-line.line.tail)
    (gathers-part c.args.value_len p c.args.bytes.now _ c.loop-count.count c.in_ok-line.line.count (requests c.args.batch.now) (requests c.loop-count.batch) _
    c.split_at.ensures.back before.all (c.in_ok-line.ensures.all _ before.holds))

pub loop-count-preserved : goal.loop-count-preserved
loop-count-preserved c =
    let bound = c.in_ok-line.ensures.count.1 in
    let rest = c.split_at.ensures.back_len in
    record {
      within = omega arith;
      ready = c.gather_line.ensures.ready;
      told = λ p h.
          let before = c.loop-count.invariant.told p h in
          record {
            holds = holds-part c.gather_line.new.pending p c.args.bytes.now _ c.loop-count.count c.in_ok-line.line.count c.split_at.ensures.back (c.in_ok-line.ensures.holds _ before.holds);
            all = gathers-part c.args.value_len p c.args.bytes.now _ c.loop-count.count c.in_ok-line.line.count (requests c.args.batch.now) (requests c.loop-count.batch) _
                c.split_at.ensures.back before.all (c.in_ok-line.ensures.all _ before.holds)
                ∙ tail_after-none c.in_ok-line.line.tail (requests c.gather_line.new.batch) (sym c.is_some.ensures ∙ c.if-is_some.false);
          };
    }
