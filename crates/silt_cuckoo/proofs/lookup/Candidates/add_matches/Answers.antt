-- Each turn of the loop adds the match of one slot.
use Rattle.silt_cuckoo.proofs.Common.{◌≡◌, ℕ, ◌+◌, ◌-◌, ◌*◌, ◌++◌, List, [], ◌∷◌, length, refl, sym, ap, ◌∙◌, arith, append_assoc, append-nil, length-append, range_with_len, filter_map}
use Rattle.silt_cuckoo.proofs.Common.{cons_option, Candidate, unpacked_all, match_at}
use Rattle.silt_cuckoo.proofs.Matching.{filter_map_more}
use Rattle.silt_cuckoo.proofs.lookup.Candidates.add_matches.Goals.{in-Some, in_default}
use Rattle.silt_cuckoo.proofs.lookup.Candidates.add_matches.Goals as goal

pub loop-slot-preserved : goal.loop-slot-preserved
loop-slot-preserved c =
    elim c.match-match_at.branch [
      | in-Some w ↦
          let is : c.match-match_at.self ≡ c.loop-slot.self ++ w.in-Some.candidate ∷ [] = w.self-is ∙ w.push.ensures in
          record {
            starts = refl;
            added = is ∙ turn (w.in-Some.candidate ∷ []) (ap (λ o. cons_option o []) (sym c.match_at.ensures ∙ w.in-Some.is));
            at_most = omega (arith, ap length is, length-append c.loop-slot.self (w.in-Some.candidate ∷ []));
          }
      | in_default w ↦
          let is : c.match-match_at.self ≡ c.loop-slot.self = w.self-is in
          record {
            starts = refl;
            added = is ∙ sym (append-nil c.loop-slot.self) ∙ turn [] (ap (λ o. cons_option o []) (sym c.match_at.ensures ∙ w.in_default.is));
            at_most = omega (arith, ap length is);
          }
    ]
  where
    turn : (found : List Candidate) → cons_option (match_at (unpacked_all c.args.slots.now) c.args.tag c.loop-slot.slot) [] ≡ found
        → c.loop-slot.self ++ found ≡ c.args.self.now ++ filter_map (match_at (unpacked_all c.args.slots.now) c.args.tag)
        (range_with_len (4 * c.args.bucket) (c.loop-slot.slot + 1 - 4 * c.args.bucket))
    turn found same =
        let n : ℕ = c.loop-slot.slot - 4 * c.args.bucket in
        let count : c.loop-slot.slot + 1 - 4 * c.args.bucket ≡ n + 1 = omega arith in
        ap (λ (xs : List Candidate). xs ++ found) c.loop-slot.invariant.added
        ∙ append_assoc c.args.self.now (filter_map (match_at (unpacked_all c.args.slots.now) c.args.tag) (range_with_len (4 * c.args.bucket) n)) found
        ∙ ap (λ (xs : List Candidate). c.args.self.now ++ xs)
        (ap (λ (xs : List Candidate). filter_map (match_at (unpacked_all c.args.slots.now) c.args.tag) (range_with_len (4 * c.args.bucket) n) ++ xs) (sym same)
        ∙ sym (rw (← count) at (filter_map_more (match_at (unpacked_all c.args.slots.now) c.args.tag) (4 * c.args.bucket) n c.loop-slot.slot (omega arith))))

pub returns-clause-added : goal.returns-clause-added
returns-clause-added c =
    let all : c.loop-slot.slot - 4 * c.args.bucket ≡ 4 = omega arith in
    rw all at c.loop-slot.invariant.added
