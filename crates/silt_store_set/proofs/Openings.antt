-- What opening returns, from what recovery finds.
use Rattle.silt_store_set.proofs.Common.{◌≡◌, IsTrue, [], Option, Some, None, refl, ap, sym, ◌∙◌, arith, Content, Ghosts, map_after, LogState, waiting_rows, waiting_commands, EngineState}
use Rattle.silt_store_set.proofs.Common.{meaning, Opens, convert_work, merge_work, OpeningCause, Refusal, IsGood, TakesUp, IsOpeningRefusal}
use Rattle.silt_log.specs.Rows.{rows_from}
use Rattle.silt_store_set.proofs.Calls.{seen, stands_seen}

-- ---- why an opening is refused

never : {A : Type 0} (found : Option A) (x : A) → found ≡ None → found ≡ Some x → ⊥
never found x none some = absurd (let no : None ≡ Some x = sym none ∙ some in cc)

-- opening a good image is refused only by its device or if out of memory
pub opening_refused : {D F : Type 0} (facts : Ghosts D F) (old : Content) (disk : D) (r : Refusal F) → IsTrue old.honest → IsGood old.shown → OpeningCause facts old disk r → IsOpeningRefusal r
opening_refused facts old disk r h good cause = search arith

-- ---- what is opened

-- if all rows are settled none waits
pub none_wait : (content : Content) (log : LogState) → log.settled ≡ log.used → waiting_rows content log ≡ []
unfolding rows_from
none_wait content log settled = search arith

-- a store that was opened
pub opened : {D F : Type 0} (facts : Ghosts D F) (old : Content) (disk : D) (stores : EngineState) → TakesUp old (facts.content disk) stores → Opens facts old (seen facts disk stores 0)
opened facts old disk stores takes =
    let means = meaning (facts.content disk) stores takes.stands in
    let there : IsTrue old.honest → IsTrue (facts.content disk).honest = λ h. takes.disk.honest ∙ h in
    let waits : waiting_commands (facts.content disk) stores ≡ [] = takes.quiet.none_wait in
    record {
      disk = takes.disk;
      count = refl;
      working = refl;
      good = takes.good;
      has_shape = takes.has_shape;
      waiting = λ h. waits;
      converting = ap convert_work takes.none_converted;
      merging = ap merge_work takes.none_merged;
      base = λ h. means.shown (there h) ∙ takes.has_map h;
      has_map = λ h. means.full (there h) ∙ ap (map_after _) waits ∙ takes.has_map h;
      numbers = λ h. means.numbers (there h);
      safe = (stands_seen facts disk stores 0 takes.stands).safe;
    }
