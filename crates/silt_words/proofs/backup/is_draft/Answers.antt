use Rattle.silt_words.proofs.Drafts.{by_front, no_draft}
use Rattle.silt_words.proofs.backup.is_draft.Goals as goal

pub returns-in-Some : goal.returns-in-Some
returns-in-Some c =
    let ends = rw (c.as_bytes.ensures.value, c.as_slice.ensures) at c.in-Some.ensures.cases.0 in
    let front = rw (c.as_bytes.ensures.value, c.as_slice.ensures) at c.in-Some.ensures.cases.1 in
    rw (c.eq.ensures, c.as_bytes-in-Some.ensures.value) (by_front c.args.file.now _ c.args.path.now _ ends front)

pub returns-in-None : goal.returns-in-None
returns-in-None c = no_draft c.args.file.now c.args.path.now (rw (c.as_bytes.ensures.value, c.as_slice.ensures) at c.in-None.ensures.cases)
