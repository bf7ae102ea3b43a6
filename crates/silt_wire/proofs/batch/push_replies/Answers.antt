use Rattle.silt_wire.proofs.Common.{◌≡◌, ◌++◌, ◌∙◌, List, ℕ, flat_map, string_bytes, IsBeginning, line_of}
use Rattle.silt_wire.proofs.Answering.{lines-take, on-err}
use Rattle.silt_wire.proofs.batch.push_replies.Goals as goal

pub returns-in_err-push_reply-clause-err : goal.returns-in_err-push_reply-clause-err
returns-in_err-push_reply-clause-err c =
    let pushed : (out : List ℕ) × IsBeginning out (flat_map line_of c.args.replies.now) × (string_bytes c.push_reply.new.texts ≡ string_bytes c.args.texts.now ++ out) =
    (_, lines-take c.args.replies.now c.loop-reply.reply-index, c.in_err-push_reply.ensures.err ∙ c.loop-reply.invariant) in
    on-err _ pushed
