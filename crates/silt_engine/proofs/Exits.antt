-- Clauses at exits.
use Rattle.silt_engine.proofs.Common.{◌≡◌, Result, Ok, Err, sym, subst, EngineState, ◌+◌, ◌%◌, ◌^◌, ℕ, List, [], ◌++◌, refl, ap, ◌∙◌, CountsFault, Ghosts, Command, Stands, Advances, SameDisk, IfErr}
use Rattle.silt_engine.proofs.Common.{MatchResult, OnOk, BreaksOff, Works, WorksBy, arith, size, ChangesWithin, Makes, MakesAtMost, WroteOr, made_both, most_made, most_none}
use Rattle.std.specs.Result.{IsErrAnd}
use Rattle.silt_engine.specs.declared.engine.Engine.TheInside.{Inside}
use Rattle.silt_engine.proofs.Chains.{advances_break, advances_remap, advances_trans, breaks_after, remaps_trans, same_trans, stays_still}

-- what holds of every result
pub on_ok : {T E P : Type 0} (r : Result T E) → P → OnOk r P
on_ok (Ok x) p = p
on_ok (Err e) p = tt

-- what holds of the error that is handed on
pub on_error : {T F : Type 0} (r : Result T F) (error : F) (P : F → Type 0) → IsErrAnd r (λ e. e ≡ error) → P error → IfErr r P
on_error (Ok x) error P is p = tt
on_error (Err e) error P is p = subst P (sym is) p

-- what holds of every result of exactly so many calls
pub made_so : {D T E : Type 0} {writes_of syncs_of : D → ℕ} {w s : ℕ} {old new : D} (r : Result T E) → Makes writes_of syncs_of w s old new
    → MatchResult r (λ _. Makes writes_of syncs_of w s old new) (λ _. MakesAtMost writes_of syncs_of w s old new)
made_so (Ok x) made = made
made_so (Err e) made = most_made made (omega arith) (omega arith)

-- a call that wrote keeps what all calls keep of the disk
pub same_disk : {D F T E : Type 0} {facts : Ghosts D F} {Fails : E → Type 0} {at count w s : ℕ} {old new : D} {result : Result T E}
    → WroteOr facts Fails at count w s old new result → SameDisk (facts.content old) (facts.content new)
same_disk wrote = record { size = wrote.size; honest = wrote.changes.honest }

-- what a call wrote whose error is handed on
pub wrote_off : {D F T E : Type 0} {facts : Ghosts D F} {Fails : E → Type 0} {at count w s : ℕ} {old new : D} (r : Result T E) (fault : E) → IsErrAnd r (λ e. e ≡ fault)
    → size (facts.content new) ≡ size (facts.content old) → ChangesWithin at count (facts.content old) (facts.content new)
    → MakesAtMost facts.writes facts.syncs w s old new → Fails fault → WroteOr facts Fails at count w s old new r
wrote_off (Ok x) fault is same changes most fails = absurd is
wrote_off {Fails = Fails} (Err e) fault is same changes most fails = search arith

-- ---- the stores as their record

-- what the stores are seen as
abbrev pub state_of : Inside → EngineState
state_of a = record {
  manifest = a.manifest;
  active = a.active;
  frozen = a.frozen.items;
  hashes = a.hashes.items;
  sorted = a.sorted.sorted;
  index = a.sorted.index;
  digest = a.sorted.digest;
  converting = a.converting;
  merging = a.merging;
  charge = a.charge;
}

-- ---- what the calls that write do

-- a call that went on
pub went : {D F T E : Type 0} {MadeOk : T → Type 0} {w s : ℕ} (facts : Ghosts D F) (adds : List Command) (old new : D) (before after : EngineState) (result : Result T E)
    → SameDisk (facts.content old) (facts.content new) → Stands (facts.content old) before → facts.failures new ≡ facts.failures old
    → Advances adds (facts.content old) (facts.content new) before after → MatchResult result MadeOk (λ _. MakesAtMost facts.writes facts.syncs w s old new)
    → WorksBy facts MadeOk adds w s old new before after result
went facts adds old new before after result same stands failures goes made = search (arith, on_ok, advances_remap)

-- a call that went on, and stands for exactly so many calls
pub went_so : {D F T E : Type 0} {w s : ℕ} (facts : Ghosts D F) (adds : List Command) (old new : D) (before after : EngineState) (result : Result T E)
    → SameDisk (facts.content old) (facts.content new) → Stands (facts.content old) before → facts.failures new ≡ facts.failures old
    → Advances adds (facts.content old) (facts.content new) before after → Makes facts.writes facts.syncs w s old new → Works facts adds w s old new before after result
went_so facts adds old new before after result same stands failures goes made = went facts adds old new before after result same stands failures goes (made_so result made)

-- no call
pub nothing_done : {D F T E : Type 0} {MadeOk : T → Type 0} {w calls : ℕ} (facts : Ghosts D F) (disk : D) (s : EngineState) (result : Result T E) → Stands (facts.content disk) s
    → MatchResult result MadeOk (λ _. MakesAtMost facts.writes facts.syncs w calls disk disk) → WorksBy facts MadeOk [] w calls disk disk s s result
nothing_done facts disk s result stands made = went facts [] disk disk s s result (record { size = refl; honest = refl }) stands refl (stays_still _ s stands) made

-- a call whose error is handed on
pub went_off : {D F T E : Type 0} {MadeOk : T → Type 0} {adds : List Command} {w s : ℕ} (facts : Ghosts D F) (old new : D) (before after : EngineState) (r : Result T E) (error : E)
    → IsErrAnd r (λ e. e ≡ error) → SameDisk (facts.content old) (facts.content new) → after.manifest.shape ≡ before.manifest.shape
    → MakesAtMost facts.writes facts.syncs w s old new → WorksBy facts MadeOk adds w s old new before after r
went_off facts old new before after r error is same shape most = search arith

-- no call, and an error
pub refused : {D F T E : Type 0} {MadeOk : T → Type 0} {adds : List Command} {w calls : ℕ} (facts : Ghosts D F) (disk : D) (s : EngineState) (error : E)
    → WorksBy {T = T} facts MadeOk adds w calls disk disk s s (Err error)
refused facts disk s error = went_off facts disk disk s s _ error refl (record { size = refl; honest = refl }) refl most_none

-- two calls that went on
pub both_went : {D F T E T2 E2 T3 E3 : Type 0} {w1 s1 w2 s2 w s : ℕ} (facts : Ghosts D F) (one two : List Command) (a b c : D) (first second third : EngineState)
    (x : T) (y : T2) (result : Result T3 E3) → Works {E = E} facts one w1 s1 a b first second (Ok x) → Works {E = E2} facts two w2 s2 b c second third (Ok y)
    → w1 + w2 ≡ w → s1 + s2 ≡ s → Works facts (one ++ two) w s a c first third result
both_went facts one two a b c first second third x y result m n writes syncs = record {
  same = same_trans (facts.content a) (facts.content b) (facts.content c) m.same n.same;
  shape = n.shape ∙ m.shape;
  failures = on_ok result (n.failures ∙ m.failures);
  advances = on_ok result (advances_trans one two (facts.content a) (facts.content b) (facts.content c) first second third m.same m.advances n.advances);
  map = on_ok result (remaps_trans one two (facts.content a) (facts.content b) (facts.content c) first second third m.same m.map n.map);
  made = made_so result (made_both b m.made n.made writes syncs);
}

-- a write or a sync that failed, and the stores still stand
pub broke_off : {D F : Type 0} (facts : Ghosts D F) (old new : D) (before after : EngineState) (fault : F) → SameDisk (facts.content old) (facts.content new) → Stands (facts.content old) before
    → CountsFault facts.failures facts.gave old new fault → Advances [] (facts.content old) (facts.content new) before after → BreaksOff facts old new before after fault
broke_off facts old new before after fault same stands counted goes = search (arith, advances_break, advances_remap)

-- a write or a sync that failed behind a call that went on
pub then_broke_off : {D F T E : Type 0} {MadeOk : T → Type 0} {w s : ℕ} (facts : Ghosts D F) (a b c : D) (first second third : EngineState) (x : T) (fault : F)
    → WorksBy {E = E} facts MadeOk [] w s a b first second (Ok x) → SameDisk (facts.content b) (facts.content c) → BreaksOff facts b c second third fault → BreaksOff facts a c first third fault
then_broke_off facts a b c first second third x fault works same breaks = record {
  counted = (breaks.counted.0 ∙ ap (λ (n : ℕ). (n + 1) % 2 ^ 64) works.failures, breaks.counted.1);
  breaks = breaks_after (facts.content a) (facts.content b) (facts.content c) first second works.same same works.advances breaks.breaks;
  map = remaps_trans [] [] (facts.content a) (facts.content b) (facts.content c) first second third works.same works.map breaks.map;
}
