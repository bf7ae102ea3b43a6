use Rattle.silt_resp.proofs.Common.{◌∷◌, [], take, true, false, sym, ◌∙◌}
use Rattle.silt_resp.proofs.Runs.{NoFeed-before, NoFeed-none, upto_feed}
use Rattle.silt_resp.proofs.Takes.{takes_behind, takes_more}
use Rattle.silt_resp.proofs.command_buffer.CommandBuffer.take_line.Goals as goal

pub grow_line-requires-clause-no_feed : goal.grow_line-requires-clause-no_feed
grow_line-requires-clause-no_feed c = rw c.split_at.ensures.front (NoFeed-before c.args.bytes.now c.in-Some.at (sym c.feed_at.ensures ∙ c.in-Some.is))

pub grow_line-requires-in-None-clause-no_feed : goal.grow_line-requires-in-None-clause-no_feed
grow_line-requires-in-None-clause-no_feed c = NoFeed-none c.args.bytes.now (sym c.feed_at.ensures ∙ c.in-None.is)

pub returns-then-branch-clause-takes : goal.returns-then-branch-clause-takes
returns-then-branch-clause-takes c = λ s h.
    let bytes = c.args.bytes.now in
    let at = c.in-Some.at in
    let new = c.grow_line.new.self in
    let front = upto_feed bytes at (sym c.feed_at.ensures ∙ c.in-Some.is) in
    let taken = rw (c.if-branch.true, c.split_at.ensures.front) at (c.in_ok-grow_line-in-Some.ensures.takes s h) in
    let broke = rw c.if-branch.true at c.in_ok-grow_line-in-Some.ensures.place in
    rw front.1 (takes_behind s (take at bytes) (10 ∷ []) broke.0 new broke.1 taken)

pub returns-in_ok-ends_command-in-Some-clause-takes : goal.returns-in_ok-ends_command-in-Some-clause-takes
returns-in_ok-ends_command-in-Some-clause-takes c = λ s h.
    let bytes = c.args.bytes.now in
    let at = c.in-Some.at in
    let mid = c.grow_line.new.self in
    let front = upto_feed bytes at (sym c.feed_at.ensures ∙ c.in-Some.is) in
    let taken = rw (c.if-branch.false, c.split_at.ensures.front) at (c.in_ok-grow_line-in-Some.ensures.takes s h) in
    let ended = c.in_ok-ends_command-in-Some.ends_command in
    rw front.1 (takes_more s (take at bytes) (10 ∷ []) ended mid c.end_line.new.self taken (λ t k. c.in_ok-ends_command-in-Some.ensures t k))
