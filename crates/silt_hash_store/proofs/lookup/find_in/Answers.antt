use Rattle.silt_hash_store.proofs.Common.{◌≡◌, ℕ, Some, false, inl, inr, subst, ◌∙◌, arith, cases_lt, is_row_of, slot_row, slot_tag}
use Rattle.silt_hash_store.proofs.lookup.find_in.Goals as goal

pub loop-slot-preserved : goal.loop-slot-preserved
loop-slot-preserved g c = record {
  long = c.match_at.auto.front ∙ c.loop-slot.invariant.long;
  lack = λ honest slot low high tagged. elim (cases_lt slot c.loop-slot.slot) [
    | inl before ↦ c.loop-slot.invariant.lack honest slot low before tagged
    | inr here ↦
        let same : c.loop-slot.slot ≡ slot = omega arith in
        subst (λ (n : ℕ). slot_tag c.args.tags.now n ≡ Some c.args.sought.tag → is_row_of c.args.sought.key.0 (slot_row c.args.region.now.geometry c.args.region.now.number (g.D.Disk.content
        c.args.disk.now).shown n) ≡ false) same (rw c.in_default.is at (c.in_ok-kind.ensures.matches honest)) tagged
  ];
}

pub returns-clause-finds : goal.returns-clause-finds
returns-clause-finds g c = λ honest slot low high tagged. c.loop-slot.invariant.lack honest slot low (omega arith) tagged

pub returns-in-Some-clause-finds : goal.returns-in-Some-clause-finds
returns-in-Some-clause-finds g c = λ honest. rw c.in-Some.is at (c.in_ok-kind.ensures.matches honest)
