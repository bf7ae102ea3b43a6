use Rattle.silt_log_store.proofs.Common.{ℕ, refl, arith, get_or, ◌∙◌, Candidate}
use Rattle.silt_log_store.proofs.Matches.{match_found, passed_more, none_found}
use Rattle.silt_log_store.proofs.lookup.first_match.Goals as goal

pub returns-in-Some-clause-first : goal.returns-in-Some-clause-first
returns-in-Some-clause-first g c = λ honest known.
    let content = g.D.Disk.content c.args.disk.now in
    let candidates = c.args.candidates.now in
    let default : Candidate = record { slot = 0; place = 0 } in
    let candidate : Candidate = get_or candidates c.loop-candidate.candidate-index default in
    match_found content c.args.log.now candidates c.args.key.now.0 c.loop-candidate.candidate-index candidate default c.in-Some.kind (c.loop-candidate.invariant.lack honest known) (omega arith)
    refl (c.requires.places c.loop-candidate.candidate-index default (omega arith)) (rw c.in-Some.is at (c.in_ok-kind.ensures.kind honest))

pub loop-candidate-preserved : goal.loop-candidate-preserved
loop-candidate-preserved g c = record {
  long = c.kind_at.auto.front ∙ c.loop-candidate.invariant.long;
  lack = λ honest known.
      let at : ℕ = c.loop-candidate.candidate-index in
      let default : Candidate = record { slot = 0; place = 0 } in
      passed_more (g.D.Disk.content c.args.disk.now) c.args.log.now c.args.candidates.now c.args.key.now.0 at default known
      (c.loop-candidate.invariant.lack honest known) (omega arith) (c.requires.places at default (omega arith)) (rw c.in_default.is at (c.in_ok-kind.ensures.kind honest));
}

pub returns-clause-first : goal.returns-clause-first
returns-clause-first g c = λ honest known.
    none_found (g.D.Disk.content c.args.disk.now) c.args.log.now c.args.candidates.now c.args.key.now.0 (λ k d least below. c.loop-candidate.invariant.lack honest known k d least (omega arith))
