use Rattle.silt_resp.proofs.Common.{◌≡◌, ◌≤◌, ◌+◌, ◌-◌, ◌++◌, length, take, ap, sym, ◌∙◌, refl, arith, if◌then◌else◌, CommandBuffer}
use Rattle.silt_resp.specs.declared.command_buffer.BufferPlace.TheVariants.{Word}
use Rattle.silt_resp.proofs.Takes.{takes_run}
use Rattle.silt_resp.proofs.command_buffer.CommandBuffer.take_run.Goals as goal

pub returns-clause-takes : goal.returns-clause-takes
returns-clause-takes c = λ s h.
    let old = c.args.self.now in
    let count = c.min-count.result in
    let xs = take count c.args.bytes.now in
    let new : CommandBuffer = record { words = old.words; left = old.left; place = Word (c.args.due - count) c.args.is_long; piece = c.extend_kept.new.piece } in
    let size : count ≡ length xs = sym c.split_at.ensures.front_len ∙ ap (λ l. length l) c.split_at.ensures.front in
    let room : count + 2 ≤ c.args.due = omega (arith, c.min-count.ensures, c.requires.due) in
    takes_run old new s c.args.due count c.args.is_long xs c.requires.word h size room refl refl refl
    (c.in_ok-extend_kept.ensures ∙ ap (λ l. if c.args.is_long then old.piece.items else old.piece.items ++ l) c.split_at.ensures.front)
