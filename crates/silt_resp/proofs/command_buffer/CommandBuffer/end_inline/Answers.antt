use Rattle.silt_resp.proofs.Common.{◌≡◌, [], not, ap, ◌∙◌, refl, words_of, CommandBuffer, inline_words, spaced_words}
use Rattle.std.specs.Str.Lines.{strip_carriage_return}
use Rattle.silt_resp.proofs.Takes.{takes_inline}
use Rattle.silt_resp.proofs.command_buffer.CommandBuffer.end_inline.Goals as goal

pub returns : goal.returns
returns c = λ s h.
    let old = c.args.self.now in
    let words = spaced_words (words_of c.without_carriage_return.result.now) in
    let new : CommandBuffer = record { words = c.push_spaced.new.self; left = old.left; place = old.place; piece = c.clear-2.new.self } in
    let are : words ≡ inline_words old.piece.items = ap (λ t. spaced_words (words_of t)) (c.without_carriage_return.ensures ∙ ap strip_carriage_return c.deref.ensures.value) in
    let holds = c.in_ok-push_spaced.ensures [] c.clear.ensures in
    takes_inline old new s (not c.is_empty.result) words c.requires.line h c.requires.kind are holds refl c.requires.line c.clear-2.ensures.items (ap not (c.is_empty.ensures words holds))
