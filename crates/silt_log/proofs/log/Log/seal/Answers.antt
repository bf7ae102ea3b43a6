use Rattle.silt_log.proofs.Common.{rules, ◌≡◌, true, false, refl, ap, sym, subst, ◌∙◌, arith, false≢true, wrote_at, wrote_err, wrote_ok, LogState, InBounds, IsHeld, Seals}
use Rattle.silt_log.proofs.Named.{past_place, past_count}
use Rattle.silt_log.proofs.SealExits.{seal_images, seal_done, quiet_images, quiet_done}
use Rattle.silt_log.proofs.Splices.{fills_at, within_at, writes_at}
use Rattle.silt_log.proofs.log.Log.seal.Goals as goal

pub returns-then-not-self-clause-images : goal.returns-then-not-self-clause-images
returns-then-not-self-clause-images g c =
    let bounds : InBounds c.args.self.now = subst InBounds c.self.view_is c.self.invariant.bounds in
    quiet_images _ c.args.self.now bounds c.requires.size c.requires.rests c.requires.scanned

pub returns-then-not-self-clause-log : goal.returns-then-not-self-clause-log
returns-then-not-self-clause-log g c =
    let bounds : InBounds c.args.self.now = subst InBounds c.self.view_is c.self.invariant.bounds in
    quiet_done _ c.args.self.now bounds c.requires.size c.requires.rests c.requires.scanned (ap (λ (l : LogState). l.stale) (sym c.self.view_is) ∙ c.if-not-self.true)

pub returns-then-not-self-clause-written : goal.returns-then-not-self-clause-written
returns-then-not-self-clause-written g c = λ stale.
    absurd (false≢true (sym (ap (λ (l : LogState). l.stale) (sym c.self.view_is) ∙ c.if-not-self.true) ∙ stale))

pub returns-in_err-write_commits : goal.returns-in_err-write_commits
returns-in_err-write_commits g c =
    let log : LogState = c.args.self.now in
    let bounds : InBounds log = subst InBounds c.self.view_is c.self.invariant.bounds in
    let stale : log.stale ≡ true = ap (λ (l : LogState). l.stale) (sym c.self.view_is) ∙ c.if-not-self.false in
    let at = past_place _ log _ _ c.self.view_is c.commits_at.ensures.value c.from.ensures in
    let count = past_count _ log _ _ c.self.view_is c.log_capacity.ensures.value (subst (IsHeld _) (sym c.deref_mut.ensures.len) c.self.invariant) in
    let changes = within_at _ _ _ _ _ _ at count c.write_commits.ensures.wrote.changes in
    record {
      wrote =
          let written = wrote_err c.in_err-write_commits.was c.from_residual.ensures.1 (omega arith) (omega arith) (wrote_at at count c.write_commits.ensures.wrote) in
          rw stale written;
      images = seal_images _ _ log bounds c.requires.size c.requires.rests c.requires.scanned _ (bounds.gap stale) refl changes;
      quiet = search rules;
      written = search rules;
      rests = search rules;
      log = search rules;
    }

pub returns : goal.returns
returns g c =
    let log : LogState = c.args.self.now in
    let bounds : InBounds log = subst InBounds c.self.view_is c.self.invariant.bounds in
    let stale : log.stale ≡ true = ap (λ (l : LogState). l.stale) (sym c.self.view_is) ∙ c.if-not-self.false in
    let at = past_place _ log _ _ c.self.view_is c.commits_at.ensures.value c.from.ensures in
    let count = past_count _ log _ _ c.self.view_is c.log_capacity.ensures.value (subst (IsHeld _) (sym c.deref_mut.ensures.len) c.self.invariant) in
    let changes = within_at _ _ _ _ _ _ at count c.write_commits.ensures.wrote.changes in
    let was = c.in_ok-write_commits.ensures in
    let written = wrote_ok c.in_ok-write_commits.was (wrote_at at count c.write_commits.ensures.wrote) in
    let done = seal_done _ _ log bounds c.requires.size c.requires.rests c.requires.scanned _ (bounds.gap stale) count
    c.write_commits.ensures.wrote.size (writes_at _ _ _ _ _ at was.written) was.rests in
    record {
      wrote = rw stale written;
      images = seal_images _ _ log bounds c.requires.size c.requires.rests c.requires.scanned _ (bounds.gap stale) refl changes;
      quiet = search rules;
      written = λ stale. fills_at _ _ _ _ 0 _ _ at count was.written;
      rests = search rules;
      log = subst (Seals _ _ _) (sym (ap (λ (l : LogState). let sealed : LogState = record l { stale = false } in sealed) c.self.view_is)) done;
    }

pub invariant_of-self-2 : goal.invariant_of-self-2
invariant_of-self-2 g c = record {
  bounds = record { region = c.self.invariant.bounds.region; order = c.self.invariant.bounds.order; room = c.self.invariant.bounds.room; gap = λ stale. absurd (false≢true stale) };
  buffer = c.self.invariant.buffer;
}
