use Rattle.silt_log.proofs.Common.{rules, ap, sym, subst, arith, err_from_is_err_and, wrote_at, wrote_err, wrote_ok, LogState, IsHeld, OpensCommits}
use Rattle.silt_log.proofs.Barriers.{tears_at}
use Rattle.silt_log.proofs.CommitByteExits.{open_failed, open_done}
use Rattle.silt_log.proofs.Named.{waiting_place, waiting_count}
use Rattle.silt_log.proofs.Splices.{fills_at, writes_at}
use Rattle.silt_log.proofs.log.Log.open_commits.Goals as goal

pub returns-in_err-open_behind_sync : goal.returns-in_err-open_behind_sync
returns-in_err-open_behind_sync g c =
    let at = waiting_place _ c.args.self.now _ _ c.self.view_is c.commits_at.ensures.value c.from.ensures in
    let count = waiting_count _ c.args.self.now _ c.self.view_is (subst (IsHeld _) (sym c.deref_mut.ensures.len) c.self.invariant) in
    let refused = err_from_is_err_and c.from_residual.result c.from_residual.ensures.1 in
    let failed = open_failed _ c.args.self.now c.requires.log c.requires.size _ (tears_at _ _ _ _ _ _ at count c.open_behind_sync.ensures.begun) in
    record {
      wrote = wrote_err c.in_err-open_behind_sync.was c.from_residual.ensures.1 (omega arith) (omega arith)
          (wrote_at at count c.open_behind_sync.ensures.wrote);
      written = search rules;
      rests = search rules;
      ok = search rules;
      err = rw refused.1 (record { log = c.self.view_is; images = failed.images; full = failed.full });
    }

pub returns : goal.returns
returns g c =
    let at = waiting_place _ c.args.self.now _ _ c.self.view_is c.commits_at.ensures.value c.from.ensures in
    let count = waiting_count _ c.args.self.now _ c.self.view_is (subst (IsHeld _) (sym c.deref_mut.ensures.len) c.self.invariant) in
    let was = c.in_ok-open_behind_sync.ensures in
    let done = open_done _ c.args.self.now c.requires.log c.requires.size _ _ count c.open_behind_sync.ensures.wrote.size
    (writes_at _ _ _ _ _ at was.written) was.rests in
    record {
      wrote = wrote_ok c.in_ok-open_behind_sync.was (wrote_at at count c.open_behind_sync.ensures.wrote);
      written = fills_at _ _ _ _ 167 _ _ at count was.written;
      rests = search rules;
      ok = subst (OpensCommits _ _ _) (sym (ap (λ (l : LogState). let opened : LogState = record l { settled = l.used } in opened) c.self.view_is)) done;
      err = search rules;
    }
