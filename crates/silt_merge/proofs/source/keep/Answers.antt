use Rattle.silt_merge.proofs.Common.{sym, ◌∙◌}
use Rattle.silt_merge.proofs.Kept.{kept_row}
use Rattle.silt_merge.proofs.source.keep.Goals as goal

pub returns-clause-ok : goal.returns-clause-ok
returns-clause-ok c =
    rw c.in-Some.is (kept_row c.args.store c.args.slot c.in-Some.row c.args.waiting.now c.insert.new.self (sym c.contains_key.ensures ∙ c.if-contains_key.false) c.in_ok-_none.ensures.updates)
