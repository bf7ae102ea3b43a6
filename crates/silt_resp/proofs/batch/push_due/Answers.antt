use Rattle.silt_resp.proofs.Common.{◌≡◌, rules, due_seen, part_text}
use Rattle.std.proofs.Common.{map}
use Rattle.silt_event.specs.Queries.{replies as replied}
use Rattle.silt_resp.specs.Texts.{text_of}
use Rattle.silt_resp.proofs.Doing.{replies_in-map}
use Rattle.silt_resp.proofs.batch.push_due.Goals as goal

pub returns-in_ok-push_text-in-Replies-clause-ok : goal.returns-in_ok-push_text-in-Replies-clause-ok
returns-in_ok-push_text-in-Replies-clause-ok c =
    let given = c.args.replies.now in
    let told : part_text (due_seen c.args.due.now) (map replied given) ≡ text_of c.in-Replies.form given = cc (replies_in-map given) in
    rw told (search rules)
