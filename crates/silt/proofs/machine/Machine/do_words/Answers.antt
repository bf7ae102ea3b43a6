use Rattle.std.proofs.Common.{inl, inr, map, refl, string_bytes}
use Rattle.silt.proofs.Endings.{unread}
use Rattle.silt.proofs.machine.Machine.do_words.Goals as goal

pub returns-in-Ok : goal.returns-in-Ok
returns-in-Ok g c = inl (c.in-Ok.job, c.in-Ok.ensures, c.file.ensures, c.answer.ensures)

pub returns : goal.returns
returns g c =
    inr (c.in-Err.error, unread (map string_bytes c.args.words.now) c.in-Err.error c.in-Err.ensures, refl, c.of.ensures.0, rw c.of.ensures.1 c.refuse_words-ended.ensures)
