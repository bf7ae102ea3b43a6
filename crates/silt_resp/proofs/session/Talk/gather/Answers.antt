use Rattle.std.proofs.Common.{◌+◌, arith, rules}
use Rattle.silt_resp.proofs.Gathering.{behind_part, client_part, gathers_keeps, gathers_part, gathers_some}
use Rattle.silt_resp.proofs.session.Talk.gather.Goals as goal

pub returns-in_err-piece-clause-some : goal.returns-in_err-piece-clause-some
returns-in_err-piece-clause-some c = λ client h.
    let so_far = c.loop-count.invariant.told client h in
    gathers_some c.args.settings.now client c.args.bytes.now c.loop-count.count c.args.batch.now c.gather_command.new.batch
    (gathers_keeps c.args.settings.now client _ c.args.batch.now c.loop-count.batch c.gather_command.new.batch so_far.all c.in_err-piece.ensures.err)

pub returns-then-piece-clause-behind : goal.returns-then-piece-clause-behind
returns-then-piece-clause-behind c = λ client h.
    let before = c.loop-count.invariant.told client h in
    behind_part c.args.settings.now client c.args.bytes.now _ c.loop-count.count c.in_ok-piece.piece.count c.in_ok-piece.piece.closes c.gather_command.new.self
    c.split_at.ensures.back (c.in_ok-piece.ensures.behind _ before.holds)

pub returns-then-piece-clause-all : goal.returns-then-piece-clause-all
returns-then-piece-clause-all c = λ client h.
    let before = c.loop-count.invariant.told client h in
    gathers_part c.args.settings.now client c.args.bytes.now _ c.loop-count.count c.in_ok-piece.piece.count c.args.batch.now c.loop-count.batch c.gather_command.new.batch
    c.split_at.ensures.back before.all (c.in_ok-piece.ensures.all _ before.holds)

pub returns-then-piece-clause-some : goal.returns-then-piece-clause-some
returns-then-piece-clause-some c = λ client h.
    let before = c.loop-count.invariant.told client h in
    gathers_some c.args.settings.now client c.args.bytes.now (c.loop-count.count + c.in_ok-piece.piece.count) c.args.batch.now c.gather_command.new.batch
    (gathers_part c.args.settings.now client c.args.bytes.now _ c.loop-count.count c.in_ok-piece.piece.count c.args.batch.now c.loop-count.batch c.gather_command.new.batch
    c.split_at.ensures.back before.all (c.in_ok-piece.ensures.all _ before.holds))

pub loop-count-preserved : goal.loop-count-preserved
loop-count-preserved c =
    let bound = c.in_ok-piece.ensures.count.1 in
    let rest = c.split_at.ensures.back_len in
    let s = c.args.settings.now in
    let bytes = c.args.bytes.now in
    let done = c.loop-count.count in
    let count = c.in_ok-piece.piece.count in
    record {
      within = omega arith;
      ready = c.gather_command.ensures.ready;
      unended = search rules;
      told = λ client h.
          let before = c.loop-count.invariant.told client h in
          record {
            holds = client_part s client bytes _ done count c.gather_command.new.self c.split_at.ensures.back (rw c.if-piece.false at (c.in_ok-piece.ensures.behind _ before.holds));
            all = gathers_part s client bytes _ done count c.args.batch.now c.loop-count.batch c.gather_command.new.batch c.split_at.ensures.back before.all (c.in_ok-piece.ensures.all _ before.holds);
          };
    }
