use Rattle.silt_resp.proofs.Common.{◌-◌, subst, sym, refl, Line, CommandBuffer, IsPiece}
use Rattle.silt_resp.proofs.Takes.{takes_last, takes_word, word_feed}
use Rattle.silt_resp.proofs.command_buffer.CommandBuffer.end_word.Goals as goal

pub returns-then-self-le1 : goal.returns-then-self-le1
returns-then-self-le1 c = λ s h.
    let old = c.args.self.now in
    let fed = word_feed old s c.requires.0 c.args.is_long c.requires.2 c.requires.1 h in
    let piece = subst (λ t. IsPiece c.args.is_long 0 t fed.0) (sym c.deref.ensures.value) fed.1 in
    let new : CommandBuffer = record { words = c.push_piece.new.self; left = old.left; place = Line; piece = c.clear.new.self } in
    takes_last old new s fed.0 h fed.2 (c.in_ok-push_piece.ensures s.words fed.0 h.words piece) c.if-self-le1.true refl

pub returns : goal.returns
returns c = λ s h.
    let old = c.args.self.now in
    let fed = word_feed old s c.requires.0 c.args.is_long c.requires.2 c.requires.1 h in
    let piece = subst (λ t. IsPiece c.args.is_long 0 t fed.0) (sym c.deref.ensures.value) fed.1 in
    let new : CommandBuffer = record { words = c.push_piece.new.self; left = old.left - 1; place = Line; piece = c.clear.new.self } in
    takes_word old new s fed.0 h fed.2 (c.in_ok-push_piece.ensures s.words fed.0 h.words piece) c.if-self-le1.false refl refl c.clear.ensures.items
