-- What the calls of a store do, from what the calls of its stores in memory do.
use Rattle.silt_store_set.proofs.Common.{◌≡◌, ◌≤◌, ◌<◌, ℕ, ◌+◌, ◌^◌, Bool, true, false, IsTrue, List, [], ◌++◌, length, refl, ap, sym, ◌∙◌, subst, arith, LeavesOnly, MakesAtMost}
use Rattle.silt_store_set.proofs.Common.{device_size, Ghosts, Command, Map, map_after, image_map, StandsFor, Stands, full_image, waiting_commands, EngineState, meaning, Event, Flush}
use Rattle.silt_store_set.proofs.Common.{Refusal, Failed, Reply, Refused, Step, Counts, accepted_command, is_failed, BasisState, basis_kept, basis_of, IsCore, CoreState, map_of, Cause}
use Rattle.silt_store_set.proofs.Common.{Durable, Does, MadeFor, convert_work, is_convert, is_merge, merge_work, most_syncs, most_writes, Err, Ok, length-append, most_none, BreaksOff}
use Rattle.silt_store_set.proofs.Common.{HoldsPrefix, WorksBy, Device, FailsBy, is_finished, is_refused}
use Rattle.silt_engine.specs.Laws.{IsGoodWith}
use Rattle.silt_store_set.proofs.Maps.{append_nil}

-- what contracts see of a store with these fields that is not failed
abbrev pub seen : {D F : Type 0} → Ghosts D F → D → EngineState → ℕ → CoreState D
seen facts disk stores count = record {
  disk = disk;
  shape = stores.manifest.shape;
  body = stores.manifest.current;
  full = full_image (facts.content disk) stores;
  base = image_map (facts.content disk).shown;
  waiting = waiting_commands (facts.content disk) stores;
  converting = convert_work stores.converting;
  merging = merge_work stores.merging;
  charge = stores.charge;
  count = count;
  failed = false;
}

-- and of one that failed in a call that began with this basis
abbrev pub seen_failed : {D F : Type 0} → Ghosts D F → BasisState → D → EngineState → ℕ → CoreState D
seen_failed facts basis disk stores count = record (seen facts disk stores count) { base = basis.base; waiting = basis.waiting; failed = true }

-- and of one or the other
abbrev pub seen_core : {D F : Type 0} → Ghosts D F → D → EngineState → ℕ → Bool → BasisState → CoreState D
seen_core facts disk stores count failed basis = record (seen facts disk stores count) {
  base = (basis_kept failed basis (basis_of (facts.content disk) stores)).base;
  waiting = (basis_kept failed basis (basis_of (facts.content disk) stores)).waiting;
  failed = failed;
}

-- the map is the base after the waiting commands, the numbers are the full image's, and each possible crash image represents the base
pub record Standing {D F : Type 0} (facts : Ghosts D F) (core : CoreState D) : Type 0 where
  pub numbers : IsTrue (facts.content core.disk).honest → IsGoodWith core.shape core.body core.charge core.full
  pub has_map : IsTrue (facts.content core.disk).honest → map_of core ≡ map_after core.base core.waiting
  pub safe : LeavesOnly (facts.content core.disk) (StandsFor core.shape core.base)

-- this is true of a store that is not failed
pub stands_seen : {D F : Type 0} (facts : Ghosts D F) (disk : D) (stores : EngineState) (count : ℕ) → Stands (facts.content disk) stores → Standing facts (seen facts disk stores count)
stands_seen facts disk stores count stands = record {
  numbers = (meaning (facts.content disk) stores stands).numbers;
  has_map = λ h. cc ((meaning (facts.content disk) stores stands).full h, (meaning (facts.content disk) stores stands).shown h);
  safe = record {
    each = λ h image left. rw (← ((meaning (facts.content disk) stores stands).shown h)) at ((meaning (facts.content disk) stores stands).safe.each h image left);
  };
}

-- what is true of a store at every moment, as contracts see it
pub record Endures {D F : Type 0} (facts : Ghosts D F) (core : CoreState D) : Type 0 where
  pub safe : core.failed ≡ false → LeavesOnly (facts.content core.disk) (StandsFor core.shape core.base)
  pub begun : LeavesOnly (facts.content core.disk) (HoldsPrefix core.shape core.base core.waiting)
  pub has_map : IsTrue (facts.content core.disk).honest → map_of core ≡ map_after core.base core.waiting
  pub few : IsTrue (facts.content core.disk).honest → length core.waiting ≤ core.count

pub endures : {D F : Type 0} (facts : Ghosts D F) (disk : D) (stores : EngineState) (count : ℕ) (failed : Bool) (basis : BasisState) → IsCore (facts.content disk) stores count failed basis
    → Endures facts (seen_core facts disk stores count failed basis)
endures facts disk stores count true basis holds = search arith
endures facts disk stores count false basis holds =
    let standing = stands_seen facts disk stores count (holds.stands refl) in
    record {
      safe = λ _. standing.safe;
      begun = record {
        each = λ h image left. record {
          kept = [];
          begins = record { rest = waiting_commands (facts.content disk) stores; is = refl };
          stands = standing.safe.each h image left;
        };
      };
      has_map = standing.has_map;
      few = holds.few refl;
    }

-- and of the store that contracts see so
pub endures_seen : {D F : Type 0} (facts : Ghosts D F) (disk : D) (stores : EngineState) (count : ℕ) (failed : Bool) (basis : BasisState) (core : CoreState D)
    → seen_core facts disk stores count failed basis ≡ core → IsCore (facts.content disk) stores count failed basis → Endures facts core
endures_seen facts disk stores count failed basis core is holds = subst (Endures facts) is (endures facts disk stores count failed basis holds)

module _ {D F T E : Type 0} (facts : Ghosts D F) (MadeOk : T → Type 0) (adds : List Command) (w s : ℕ) (disk new : D) (stores after : EngineState) (count : ℕ)
    (failed : Bool) (basis : BasisState) (holds : IsCore (facts.content disk) stores count failed basis) (working : failed ≡ false) where
  -- what is true of a store after a failed write or sync
  pub core_broke : (e : E) (fault : F) → WorksBy facts MadeOk adds w s disk new stores after (Err e) → BreaksOff facts disk new stores after fault
      → IsCore (facts.content new) after count true (basis_of (facts.content disk) stores)
  core_broke e fault works off =
      let back : IsTrue (facts.content new).honest → IsTrue (facts.content disk).honest = λ h. sym works.same.honest ∙ h in
      let means = meaning (facts.content disk) stores (holds.stands working) in
      let waiting : List Command = waiting_commands (facts.content disk) stores in
      record {
        has_size = works.same.size ∙ holds.has_size ∙ ap device_size (sym works.shape);
        count_most = holds.count_most;
        stands = λ f. absurd (cc);
        few = λ f. absurd (cc);
        breaks = λ _. record {
          begun = record {
            each = λ h image left. subst (λ s. HoldsPrefix s (image_map (facts.content disk).shown) waiting image) (sym works.shape) (subst (λ m. HoldsPrefix stores.manifest.shape m waiting
                image) (sym (means.shown (back h))) (off.breaks.each h image left));
          };
          has_map = λ h. off.map (back h) ∙ means.full (back h) ∙ ap (λ m. map_after m waiting) (sym (means.shown (back h)));
          few = λ h. holds.few working (back h);
        };
      }

  -- what is true of a store after a successful call that accepted these commands
  pub core_went : (v : T) (next : ℕ) → WorksBy {E = E} facts MadeOk adds w s disk new stores after (Ok v) → next ≡ count + length adds → next < 2 ^ 63
      → IsCore (facts.content new) after next failed basis
  core_went v next works is most = record {
    has_size = works.same.size ∙ holds.has_size ∙ ap device_size (sym works.shape);
    count_most = most;
    stands = λ _. works.advances.stands;
    few = λ _ h.
        let there : IsTrue (facts.content disk).honest = sym works.same.honest ∙ h in
        let moves = works.advances.moves there in
        let waits : List Command = waiting_commands (facts.content new) after in
        let long : length (moves.moved ++ waits) ≡ length (waiting_commands (facts.content disk) stores ++ adds) = ap length moves.rest in
        omega (arith, long, length-append moves.moved waits, length-append (waiting_commands (facts.content disk) stores) adds, holds.few working there, is);
    breaks = λ f. absurd (let no : false ≡ true = sym working ∙ f in cc);
  }

-- ---- calls that change nothing

pub step_refused : {F : Type 0} (m : Map) (event : Event) (refusal : Refusal F) → Step m event (Refused refusal) m
step_refused m Flush refusal = refl
step_refused m event refusal = refl

pub none_refused : {F : Type 0} (event : Event) (refusal : Refusal F) → accepted_command event (Refused refusal) ≡ []
none_refused Flush refusal = refl
none_refused event refusal = refl

module _ {D F : Type 0} (facts : Ghosts D F) where
  -- a call that leaves the store as it was
  pub unchanged : (core : CoreState D) (event : Event) (reply : Reply F) → Counts core.count reply core.count → Cause facts core core event reply → MadeFor facts core core event reply
      → (core.failed ≡ true → reply ≡ Refused Failed) → (IsTrue (is_failed reply) → core.failed ≡ true)
      → (core.failed ≡ false → IsTrue (facts.content core.disk).honest → Step (map_of core) event reply (map_of core)) → accepted_command event reply ≡ []
      → (IsTrue (facts.content core.disk).honest → Durable core reply) → (core.failed ≡ false → Standing facts core) → Does facts core core event reply
  unchanged core event reply counts cause made failed told step none settles stands = search (arith, append_nil)

  -- a failed store refuses
  pub refused_failed : (core : CoreState D) (event : Event) → core.failed ≡ true → Cause facts core core event (Refused Failed) → Does facts core core event (Refused Failed)
  refused_failed core event failed cause = search (arith, most_none)

  -- a store that is not failed refuses, for another cause than a failure, and stays as it was
  pub refused : (disk : D) (stores : EngineState) (count : ℕ) (event : Event) (refusal : Refusal F) → Stands (facts.content disk) stores → is_failed (Refused refusal) ≡ false
      → Cause facts (seen facts disk stores count) (seen facts disk stores count) event (Refused refusal)
      → Does facts (seen facts disk stores count) (seen facts disk stores count) event (Refused refusal)
  refused disk stores count event refusal stands other cause =
      unchanged (seen facts disk stores count) event (Refused refusal) refl cause most_none (λ f. absurd (cc)) (λ t. absurd (let no : false ≡ true = sym other ∙ t in cc))
      (λ _ _. step_refused (image_map (full_image (facts.content disk) stores)) event refusal) (none_refused event refusal) (λ _. tt) (λ _. stands_seen facts disk stores count stands)

  -- a store that is not failed replies without a change
  pub answered : (disk : D) (stores : EngineState) (count : ℕ) (event : Event) (reply : Reply F) → Stands (facts.content disk) stores → Counts count reply count → is_failed reply ≡ false
      → accepted_command event reply ≡ [] → Cause facts (seen facts disk stores count) (seen facts disk stores count) event reply
      → MadeFor facts (seen facts disk stores count) (seen facts disk stores count) event reply
      → (IsTrue (facts.content disk).honest → Step (image_map (full_image (facts.content disk) stores)) event reply (image_map (full_image (facts.content disk) stores)))
      → (IsTrue (facts.content disk).honest → Durable (seen facts disk stores count) reply) → Does facts (seen facts disk stores count) (seen facts disk stores count) event reply
  answered disk stores count event reply stands counts other none cause made step settles =
      unchanged (seen facts disk stores count) event reply counts cause made (λ f. absurd (cc)) (λ t. absurd (let no : false ≡ true = sym other ∙ t in cc))
      (λ _ h. step h) none settles (λ _. stands_seen facts disk stores count stands)

  -- ---- calls that write

  -- the store that a failed write or sync leaves
  abbrev broken : (disk new : D) (stores after : EngineState) → ℕ → CoreState D
  broken disk new stores after count = seen_failed facts (basis_of (facts.content disk) stores) new after count

  module _ {T E : Type 0} (MadeOk : T → Type 0) (adds : List Command) (w s : ℕ) (disk new : D) (stores after : EngineState) (stands : Stands (facts.content disk) stores) where
    -- a call succeeds, and these commands are accepted
    pub advanced : (v : T) → WorksBy {E = E} facts MadeOk adds w s disk new stores after (Ok v) → (count next : ℕ) (event : Event) (reply : Reply F) → Counts count reply next
        → accepted_command event reply ≡ adds → is_refused reply ≡ false → is_failed reply ≡ false → Cause facts (seen facts disk stores count) (seen facts new after next) event reply
        → ((m to : Map) → to ≡ map_after m adds → Step m event reply to) → (adds ≡ [] → is_finished reply ≡ false → after.manifest.current ≡ stores.manifest.current)
        → (is_convert event ≡ false → after.converting ≡ stores.converting) → (is_merge event ≡ false → after.merging ≡ stores.merging)
        → (IsTrue (facts.content disk).honest → Durable (seen facts new after next) reply) → MadeFor facts (seen facts disk stores count) (seen facts new after next) event reply
        → Does facts (seen facts disk stores count) (seen facts new after next) event reply
    advanced v works count next event reply counts own answers tells cause step named converts merges settles made =
        let standing = stands_seen facts new after next works.advances.stands in
        let there : IsTrue (facts.content disk).honest → IsTrue (facts.content new).honest = λ h. works.same.honest ∙ h in
        record {
          made = made;
          disk = works.same;
          shape = works.shape;
          counts = counts;
          cause = cause;
          stays = λ r. absurd (let no : false ≡ true = sym answers ∙ r in cc);
          failed = λ f. absurd (cc);
          failed_only = λ t. absurd (let no : false ≡ true = sym tells ∙ t in cc);
          faulted = λ _ f. absurd (cc);
          quiet = λ _. works.failures;
          counted = λ _ f. absurd (cc);
          keeps_body = λ _ none unfinished. named (sym own ∙ none) unfinished;
          keeps_converting = λ _ other. ap convert_work (converts other);
          keeps_merging = λ _ other. ap merge_work (merges other);
          step = λ _ h. step _ _ (works.map h);
          has_map = λ _ h. standing.has_map (there h);
          numbers = λ _ h. standing.numbers (there h);
          moves = λ _ h.
              let moves = works.advances.moves h in
              record {
                moved = moves.moved;
                rest = moves.rest ∙ ap (λ cs. waiting_commands (facts.content disk) stores ++ cs) (sym own);
                base = cc ((meaning (facts.content new) after works.advances.stands).shown (there h), moves.base, (meaning (facts.content disk) stores stands).shown h);
              };
          settles = settles;
          safe = λ _. standing.safe;
          crash = λ _ f. absurd (cc);
          keeps_basis = λ _ f. absurd (cc);
        }

    -- a write or sync failed
    pub broke : (e : E) (count : ℕ) (event : Event) (fault : F) → WorksBy facts MadeOk adds w s disk new stores after (Err e) → BreaksOff facts disk new stores after fault
        → (FailsBy facts (seen facts disk stores count) (broken disk new stores after count) fault
        → Cause facts (seen facts disk stores count) (broken disk new stores after count) event (Refused (Device fault)))
        → MakesAtMost facts.writes facts.syncs (most_writes (seen facts disk stores count) event) (most_syncs (seen facts disk stores count) event) disk new
        → Does facts (seen facts disk stores count) (broken disk new stores after count) event (Refused (Device fault))
    broke e count event fault works off cause most = record {
      made = most;
      disk = works.same;
      shape = works.shape;
      counts = refl;
      cause = cause (record { given = off.counted.1; counted = off.counted.0; failed = refl });
      stays = λ _ f. absurd (cc);
      failed = λ f. absurd (cc);
      failed_only = λ t. absurd (cc);
      faulted = λ _ _. refl;
      quiet = λ f. absurd (cc);
      counted = λ _ _. off.counted.0;
      keeps_body = λ f. absurd (cc);
      keeps_converting = λ f. absurd (cc);
      keeps_merging = λ f. absurd (cc);
      step = λ _ h. rw (off.map h) (step_refused (image_map (full_image (facts.content disk) stores)) event (Device fault));
      has_map = λ f. absurd (cc);
      numbers = λ f. absurd (cc);
      moves = λ f. absurd (cc);
      settles = λ _. tt;
      safe = λ f. absurd (cc);
      crash = λ _ _. record {
        each = λ h image left. subst (λ m. HoldsPrefix stores.manifest.shape m (waiting_commands (facts.content disk) stores) image) (sym ((meaning (facts.content disk) stores stands).shown
            (sym works.same.honest ∙ h))) (off.breaks.each h image left);
      };
      keeps_basis = λ _ _. (refl, refl);
    }
