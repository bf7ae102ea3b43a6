-- What a crash keeps of a run.
use Rattle.silt_store_set.proofs.Common.{◌≡◌, ◌≤◌, ℕ, ◌+◌, ◌||◌, Bool, true, false, IsTrue, List, [], ◌∷◌, ◌++◌, length, refl, ap, sym, ◌∙◌, subst, arith, append_assoc, Left, LeavesOnly}
use Rattle.silt_store_set.proofs.Common.{Ghosts, StandsFor, Event, Failed, Reply, Acknowledged, Refused, Command, Counts, accepted_command, accepted_commands, is_failed, CoreState, Cause}
use Rattle.silt_store_set.proofs.Common.{Does, Runs, Durable, length-append, acknowledged_by, acknowledged_after, is_fault, FailsAfterFault, StandsKept}
use Rattle.silt_store_set.proofs.Maps.{map_after-append, append_nil}
use Rattle.silt_store_set.proofs.Calls.{none_refused}

-- ---- numbers

or_true : (b : Bool) → (b || true) ≡ true
or_true true = refl
or_true false = refl

-- as many commands are counted as an event adds
pub own_counts : {D F : Type 0} (facts : Ghosts D F) (old new : CoreState D) (event : Event) (reply : Reply F) (c d : ℕ)
    → Cause facts old new event reply → Counts c reply d → d ≡ c + length (accepted_command event reply)
own_counts facts old new event reply c d cause counts = search arith

-- more that was acknowledged before is more after
acknowledged_more : {F : Type 0} (a b : ℕ) (replies : List (Reply F)) → a ≤ b → acknowledged_after a replies ≤ acknowledged_after b replies
acknowledged_more a b [] less = less
acknowledged_more a b (Acknowledged n ∷ replies) less = acknowledged_more n n replies (omega arith)
acknowledged_more a b (reply ∷ replies) less = acknowledged_more a b replies less

-- ---- runs of a failed store

-- a failed store does no further event
pub record Ended {D F : Type 0} (old new : CoreState D) (events : List Event) (replies : List (Reply F)) : Type 0 where
  pub same : new ≡ old
  pub none : accepted_commands events replies ≡ []
  pub acknowledged : (n : ℕ) → acknowledged_after n replies ≡ n
  pub nines : FailsAfterFault true replies

pub ended : {D F : Type 0} (facts : Ghosts D F) (old new : CoreState D) (events : List Event) (replies : List (Reply F))
    → old.failed ≡ true → Runs facts old events replies new → Ended old new events replies
ended facts old new [] [] failed runs = record { same = runs; none = refl; acknowledged = λ n. refl; nines = tt }
ended {D} {F} facts old new (event ∷ events) (reply ∷ replies) failed runs =
    let is = runs.1.failed failed in
    let rest : Ended old new events replies = ended facts old new events replies failed (subst (λ (c : CoreState D). Runs facts c events replies new) is.0 runs.2) in
    record {
      same = rest.same;
      none = cc (is.1, none_refused {F = F} event Failed, rest.none);
      acknowledged = λ n. ap (λ (r : Reply F). acknowledged_after (acknowledged_by n r) replies) is.1 ∙ rest.acknowledged n;
      nines = (λ _. refl, rest.nines);
    }
ended facts old new events replies failed runs = absurd runs

-- ---- runs of a store that is not failed

-- Failed comes only after a fault
pub nines : {D F : Type 0} (facts : Ghosts D F) (old new : CoreState D) (events : List Event) (replies : List (Reply F)) (before : Bool)
    → old.failed ≡ false → Runs facts old events replies new → FailsAfterFault before replies
nines facts old new [] [] before working runs = tt
nines facts old new (event ∷ events) (reply ∷ replies) before working runs =
    let next = runs.0 in
    let told : IsTrue (is_failed reply) → IsTrue before = λ t. absurd (let no : false ≡ true = sym working ∙ runs.1.failed_only t in cc) in
    let go : (b : Bool) → next.failed ≡ b → FailsAfterFault (before || is_fault reply) replies = elim [
      | false ↦ λ e. nines facts next new events replies (before || is_fault reply) e runs.2
      | true ↦ λ e.
          let fault : (before || is_fault reply) ≡ true = ap (λ (b : Bool). before || b) (runs.1.faulted working e) ∙ or_true before in
          subst (λ (b : Bool). FailsAfterFault b replies) (sym fault) (ended facts next new events replies e runs.2).nines
    ] in
    (told, go next.failed refl)
nines facts old new events replies before working runs = absurd runs

-- what was acknowledged by one reply is settled after it
acknowledged_one : {D F : Type 0} (old next : CoreState D) (reply : Reply F) (settled moved : ℕ) → Counts old.count reply next.count
    → Durable next reply → settled + moved + length next.waiting ≡ next.count → acknowledged_by settled reply ≤ settled + moved
acknowledged_one old next reply settled moved counts none sum = search arith

-- a fault acknowledges nothing and adds nothing
pub fault_adds : {F : Type 0} (event : Event) (reply : Reply F) → IsTrue (is_fault reply) → (accepted_command event reply ≡ []) × ((n : ℕ) → acknowledged_by n reply ≡ n)
fault_adds event (Refused r) fault = (none_refused event r, λ n. refl)
fault_adds event reply fault = absurd (cc)

module _ {D F : Type 0} (facts : Ghosts D F) where
  -- the first call did not fail
  keeps_on : (old next : CoreState D) (event : Event) (reply : Reply F) (events : List Event) (replies : List (Reply F)) (image : List ℕ) → old.failed ≡ false → next.failed ≡ false
      → IsTrue (facts.content old.disk).honest → Does facts old next event reply → StandsKept next events replies image → StandsKept old (event ∷ events) (reply ∷ replies) image
  keeps_on old next event reply events replies image working goes h does kept =
      let moves = does.moves goes h in
      let own : List Command = accepted_command event reply in
      let more : List Command = accepted_commands events replies in
      let counts = own_counts facts old next event reply _ _ does.cause does.counts in
      let waits : length moves.moved + length next.waiting ≡ length old.waiting + length own = sym (length-append moves.moved next.waiting) ∙ ap length moves.rest ∙ length-append old.waiting own in (
        moves.moved ++ kept.0,
        record {
          begins = record {
            rest = kept.1.begins.rest;
            is = cc (append_assoc moves.moved kept.0 kept.1.begins.rest, kept.1.begins.is, append_assoc moves.moved next.waiting more, moves.rest, append_assoc old.waiting own more);
          };
          acknowledged = λ settled sum.
              let now : settled + length moves.moved + length next.waiting ≡ next.count = omega (arith, waits, counts, sum) in
              let one = acknowledged_one old next reply _ _ does.counts (does.settles h) now in
              omega (
                arith,
                acknowledged_more (acknowledged_by settled reply) (settled + length moves.moved) replies one,
                kept.1.acknowledged (settled + length moves.moved) now,
                length-append moves.moved kept.0,
              );
        },
        rw (does.shape, moves.base, ← (map_after-append old.base moves.moved kept.0)) at kept.2,
      )

  -- the first call failed, and so did all after it
  keeps_out : (old next new : CoreState D) (event : Event) (reply : Reply F) (events : List Event) (replies : List (Reply F)) (image : List ℕ)
      → old.failed ≡ false → next.failed ≡ true → IsTrue (facts.content next.disk).honest
      → Does facts old next event reply → Runs facts next events replies new → Left (facts.content new.disk) image → StandsKept old (event ∷ events) (reply ∷ replies) image
  keeps_out old next new event reply events replies image working fails h does runs left =
      let rest = ended facts next new events replies fails runs in
      let torn = (does.crash working fails).each h image (subst (λ (c : CoreState D). Left (facts.content c.disk) image) rest.same left) in
      let adds = fault_adds event reply (does.faulted working fails) in
      let none : accepted_command event reply ++ accepted_commands events replies ≡ [] = ap (λ (cs : List Command). cs ++ accepted_commands events replies) adds.0 ∙ rest.none in (
        torn.kept,
        record {
          begins = record { rest = torn.begins.rest; is = torn.begins.is ∙ sym (append_nil old.waiting) ∙ ap (λ (cs : List Command). old.waiting ++ cs) (sym none) };
          acknowledged = λ settled sum. omega (arith, adds.1 settled, rest.acknowledged (acknowledged_by settled reply));
        },
        torn.stands,
      )

  -- after a run each crash image represents the base after what a crash may keep
  pub keeps_runs : (old new : CoreState D) (events : List Event) (replies : List (Reply F)) → old.failed ≡ false → LeavesOnly (facts.content old.disk) (StandsFor old.shape old.base)
      → Runs facts old events replies new → IsTrue (facts.content old.disk).honest → (image : List ℕ) → Left (facts.content new.disk) image → StandsKept old events replies image
  keeps_runs old new [] [] working safe runs h image left = (
    [],
    record { begins = record { rest = old.waiting ++ []; is = refl }; acknowledged = λ settled sum. omega arith },
    safe.each h image (subst (λ (c : CoreState D). Left (facts.content c.disk) image) runs left),
  )
  keeps_runs old new (event ∷ events) (reply ∷ replies) working safe runs h image left =
      let next = runs.0 in
      let there : IsTrue (facts.content next.disk).honest = runs.1.disk.honest ∙ h in
      let go : (b : Bool) → next.failed ≡ b → StandsKept old (event ∷ events) (reply ∷ replies) image = elim [
        | false ↦ λ goes. keeps_on old next event reply events replies image working goes h runs.1 (keeps_runs next new events replies goes (runs.1.safe goes) runs.2 there image left)
        | true ↦ λ fails. keeps_out old next new event reply events replies image working fails there runs.1 runs.2 left
      ] in
      go next.failed refl
  keeps_runs old new events replies working safe runs h image left = absurd runs
