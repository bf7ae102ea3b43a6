use Rattle.silt_resp.proofs.Common.{◌≡◌, ◌<◌, ◌≤◌, ◌+◌, ◌++◌, length, ap, ◌∙◌, refl, arith, Broken, CommandBuffer, line_kind, line_limit}
use Rattle.silt_resp.proofs.Takes.{takes_line, takes_over}
use Rattle.silt_resp.proofs.command_buffer.CommandBuffer.grow_line.Goals as goal

pub returns-then-len-bytes-clause-takes : goal.returns-then-len-bytes-clause-takes
returns-then-len-bytes-clause-takes c = λ s h.
    let old = c.args.self.now in
    let xs = c.args.bytes.now in
    let kind = c.of_parts-kind.result in
    let is : kind ≡ line_kind old.left (old.piece.items ++ xs) = c.of_parts-kind.ensures ∙ ap (λ t. line_kind old.left (t ++ xs)) c.deref.ensures.value in
    let longer : line_limit kind < length old.piece.items + length xs = omega (arith, old.piece.ok.0, c.limit.ensures, c.len.ensures, c.if-len-bytes.true) in
    let new : CommandBuffer = record { words = old.words; left = old.left; place = Broken c.too_long.result; piece = old.piece } in
    takes_over old new s xs kind c.requires.line h c.requires.no_feed is longer (ap (λ f. Broken f) c.too_long.ensures)

pub returns-clause-takes : goal.returns-clause-takes
returns-clause-takes c = λ s h.
    let old = c.args.self.now in
    let xs = c.args.bytes.now in
    let kind = c.of_parts-kind.result in
    let is : kind ≡ line_kind old.left (old.piece.items ++ xs) = c.of_parts-kind.ensures ∙ ap (λ t. line_kind old.left (t ++ xs)) c.deref.ensures.value in
    let short : length old.piece.items + length xs ≤ line_limit kind = omega (arith, old.piece.ok.0, c.limit.ensures, c.len.ensures, c.if-len-bytes.false) in
    let new : CommandBuffer = record { words = old.words; left = old.left; place = old.place; piece = c.extend_from_slice.new.self } in
    takes_line old new s xs kind c.requires.line h c.requires.no_feed is short refl refl c.requires.line c.in_ok-extend_from_slice.ensures.items
