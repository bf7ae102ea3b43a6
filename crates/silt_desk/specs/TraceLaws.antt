-- One call more, in a trace.
use Rattle.std.proofs.Common.{◌≡◌, ℕ, ◌+◌, ◌%◌, ◌^◌, ◌≤◌, ◌==◌, Bool, true, false, IsTrue, List, [], ◌∷◌, ◌++◌, length, refl, sym, ◌∙◌, ap, subst, arith}
use Rattle.std.proofs.Common.{length-append, append_assoc, IfSome, Option, Some, None}
use Rattle.std.proofs.lemmas.Bool.{ne_eqb}
use Rattle.silt_disk.specs.Disk.{LeavesOnly}
use Rattle.silt_disk.specs.Layout.{Shape}
use Rattle.silt_disk.specs.declared.disk.Disk.{Ghosts}
use Rattle.silt_event.specs.Commands.{Command, Map, map_after}
use Rattle.silt_event.specs.Events.{Counts, Legal, PlainReply, Step, accepted_command, acknowledged_after, acknowledged_by}
use Rattle.silt_event.specs.declared.event.Event.{Event}
use Rattle.silt_event.specs.declared.reply.Reply.{Reply}
use Rattle.silt_event.specs.declared.reply.Reply.TheVariants.{Accepted, Acknowledged, Found, Refused}
use Rattle.silt_event.specs.declared.refusal.Refusal.TheVariants.{Failed}
use Rattle.silt_image.specs.Meaning.{StandsFor}
use Rattle.silt_engine.specs.Calls.{HoldsPrefix}
use Rattle.silt_store_set.proofs.Calls.{none_refused}
use Rattle.silt_store_set.proofs.Keeps.{fault_adds}
use Rattle.silt_store_set.specs.CoreState.{CoreState, map_of}
use Rattle.silt_store_set.proofs.Maps.{map_after-append, append_nil}
use Rattle.silt_desk.specs.declared.call.RecordedCall.{RecordedCall}
use Rattle.silt_desk.specs.Anchors.{AnchoredState, HasPast, LeadsFrom}
use Rattle.silt_desk.specs.CallLogs.{CallsSeen, HasLogged, LogsCall}
use Rattle.silt_desk.specs.History.{OthersStayLaw, accepted_by, calls_of_seat, commands_of, count_accepted, called_events, replies_of, Replays}
use Rattle.silt_disk.proofs.Costs.{most_both, most_none}
use Rattle.silt_desk.specs.Seeing.{MovesSeen, NoneWaits, SeenStore, SeenStep, Spends, failing, finished_by, seen, syncs_by, total_by, writes_by}
use Rattle.silt_desk.specs.Servings.{LeavesCalls}
use Rattle.silt_desk.specs.Traces.{HasSettled, IsHistory, Keeping, LeadsTo, ListsMap, Past, StandsRecorded, SurvivesFrom, past_of, then_call, with_call}

-- a number modulo 2^64 after an addition
pub next_count : (a b n k m : ℕ) → a ≡ n % 2 ^ 64 → b ≡ (a + k) % 2 ^ 64 → m ≡ n + k → b ≡ m % 2 ^ 64
next_count a b n k m is then more = omega (arith, is, then, more)

-- a legal list of events goes on by one more
pub legal_more : {F : Type 0} (count : ℕ) (m : Map) (events : List Event) (replies : List (Reply F)) (mid : ℕ) (between : Map) (event : Event) (reply : Reply F) (end : ℕ) (to : Map)
    → Legal count m events replies mid between → Counts mid reply end → Step between event reply to → Legal count m (events ++ event ∷ []) (replies ++ reply ∷ []) end to
legal_more count m [] [] mid between event reply end to legal counts step =
    (end, to, subst (λ c. Counts c reply end) legal.0 counts, subst (λ x. Step x event reply to) legal.1 step, (refl, refl))
legal_more count m (e ∷ events) (r ∷ replies) mid between event reply end to legal counts step =
    (legal.0, legal.1, legal.2, legal.3, legal_more legal.0 legal.1 events replies mid between event reply end to legal.4 counts step)
legal_more count m [] (r ∷ replies) mid between event reply end to legal counts step = absurd legal
legal_more count m (e ∷ events) [] mid between event reply end to legal counts step = absurd legal

events_more : (calls : List RecordedCall) (c : RecordedCall) → called_events (calls ++ c ∷ []) ≡ called_events calls ++ c.event ∷ []
events_more [] c = refl
events_more (x ∷ calls) c = ap (λ events. x.event ∷ events) (events_more calls c)

replies_more : (calls : List RecordedCall) (c : RecordedCall) → replies_of (calls ++ c ∷ []) ≡ replies_of calls ++ c.reply ∷ []
replies_more [] c = refl
replies_more (x ∷ calls) c = ap (λ replies. x.reply ∷ replies) (replies_more calls c)

-- a history goes on by one more call
pub replays_more : (count : ℕ) (m : Map) (calls : List RecordedCall) (mid : ℕ) (between : Map) (c : RecordedCall) (end : ℕ) (to : Map)
    → Replays count m calls mid between → Counts mid c.reply end → Step between c.event c.reply to → Replays count m (calls ++ c ∷ []) end to
replays_more count m calls mid between c end to replays counts step =
    subst (λ events. Legal count m events (replies_of (calls ++ c ∷ [])) end to) (sym (events_more calls c))
    (subst (λ replies. Legal count m (called_events calls ++ c.event ∷ []) replies end to) (sym (replies_more calls c))
    (legal_more count m (called_events calls) (replies_of calls) mid between c.event c.reply end to replays counts step))

-- ---- numbers of calls

pub count_accepted-append : (xs ys : List RecordedCall) → count_accepted (xs ++ ys) ≡ count_accepted xs + count_accepted ys
count_accepted-append [] ys = omega arith
count_accepted-append (x ∷ xs) ys = omega (arith, count_accepted-append xs ys)

pub accepted_by-le : (r : Reply (Unit {0})) → accepted_by r ≤ 1
accepted_by-le (Accepted n) = omega arith
accepted_by-le reply = omega arith

-- no more commands are accepted than calls are recorded
pub count_accepted-le : (xs : List RecordedCall) → count_accepted xs ≤ length xs
count_accepted-le [] = omega arith
count_accepted-le (x ∷ xs) = omega (arith, count_accepted-le xs, accepted_by-le x.reply)

pub count_accepted_push : (xs : List RecordedCall) (y : RecordedCall) → count_accepted (xs ++ y ∷ []) ≡ count_accepted xs + accepted_by y.reply
count_accepted_push xs y = omega (arith, count_accepted-append xs (y ∷ []))

pub ruleset accepted_laws = (count_accepted-le, accepted_by-le, count_accepted_push)

-- ---- what a crash may keep

-- the commands of one call more
pub commands_more : (calls : List RecordedCall) (c : RecordedCall) → commands_of (calls ++ c ∷ []) ≡ commands_of calls ++ accepted_command c.event c.reply
commands_more [] c = append_nil (accepted_command c.event c.reply)
commands_more (x ∷ calls) c =
    ap (λ (cs : List Command). accepted_command x.event x.reply ++ cs) (commands_more calls c)
    ∙ sym (append_assoc (accepted_command x.event x.reply) (commands_of calls) (accepted_command c.event c.reply))

-- what is acknowledged after one call more
pub acknowledged_more : (n : ℕ) (calls : List RecordedCall) (c : RecordedCall) → acknowledged_after n (replies_of (calls ++ c ∷ [])) ≡ acknowledged_by (acknowledged_after n (replies_of calls)) c.reply
acknowledged_more n [] c = refl
acknowledged_more n (x ∷ calls) c = acknowledged_more (acknowledged_by n x.reply) calls c

-- what one reply acknowledged is settled after it
acknowledged_one : (reply : PlainReply) (before count next total : ℕ) (store : SeenStore) → Counts count reply next → NoneWaits store reply → total + length store.waiting ≡ next
    → before ≤ total → acknowledged_by before reply ≤ total
acknowledged_one (Accepted n) before count next total store counts none sum less = less
acknowledged_one (Acknowledged n) before count next total store counts none sum less = omega (arith, counts.0, counts.1, ap length none, sum)
acknowledged_one (Found v) before count next total store counts none sum less = less
acknowledged_one reply before count next total store counts none sum less = less

-- one call more settles on
settles_more : (a : Past) (c : RecordedCall) (base : Map) (waiting : List Command) (s t : SeenStore) → IsTrue s.content.honest → HasSettled a base waiting s → SeenStep s t c.event c.reply
    → MovesSeen s t (accepted_command c.event c.reply) → HasSettled (then_call a c) base waiting t
settles_more a c base waiting s t h old step moves =
    let own : List Command = accepted_command c.event c.reply in
    let all : commands_of (a.calls ++ c ∷ []) ≡ commands_of a.calls ++ own = commands_more a.calls c in
    let count : t.count ≡ a.count + length (commands_of (a.calls ++ c ∷ [])) = omega (arith, step.adds, old.counted, ap length all, length-append (commands_of a.calls) own) in
    let rest : (old.moved ++ moves.moved) ++ t.waiting ≡ waiting ++ commands_of (a.calls ++ c ∷ []) =
    append_assoc old.moved moves.moved t.waiting ∙ ap (λ (cs : List Command). old.moved ++ cs) moves.rest ∙ sym (append_assoc old.moved s.waiting own)
    ∙ ap (λ (cs : List Command). cs ++ own) old.rest ∙ append_assoc waiting (commands_of a.calls) own ∙ ap (λ (cs : List Command). waiting ++ cs) (sym all) in
    let long : length (old.moved ++ moves.moved) + length t.waiting ≡ length waiting + length (commands_of (a.calls ++ c ∷ [])) =
    sym (length-append (old.moved ++ moves.moved) t.waiting) ∙ ap length rest ∙ length-append waiting (commands_of (a.calls ++ c ∷ [])) in
    record {
      moved = old.moved ++ moves.moved;
      rest = rest;
      has_base = moves.base ∙ ap (λ (m : Map). map_after m moves.moved) old.has_base ∙ sym (map_after-append base old.moved moves.moved);
      counted = count;
      acknowledged = λ settled sum.
          let before : acknowledged_after settled (replies_of a.calls) ≤ settled + length (old.moved ++ moves.moved) =
          omega (arith, old.acknowledged settled sum, length-append old.moved moves.moved) in
          let now : settled + length (old.moved ++ moves.moved) + length t.waiting ≡ t.count = omega (arith, long, count, sum) in
          subst (λ (n : ℕ). n ≤ settled + length (old.moved ++ moves.moved)) (sym (acknowledged_more settled a.calls c))
          (acknowledged_one c.reply (acknowledged_after settled (replies_of a.calls)) s.count t.count (settled + length (old.moved ++ moves.moved)) t step.counts (step.settles h) now before);
    }

-- a call that adds nothing, and leaves the base and the waiting commands, settles nothing more
settles_same : (a : Past) (c : RecordedCall) (base : Map) (waiting : List Command) (s t : SeenStore) → IsTrue s.content.honest → HasSettled a base waiting s → SeenStep s t c.event c.reply
    → accepted_command c.event c.reply ≡ [] → t.base ≡ s.base → t.waiting ≡ s.waiting → HasSettled (then_call a c) base waiting t
settles_same a c base waiting s t h old step none same_base same_waiting =
    settles_more a c base waiting s t h old step (record { moved = []; rest = same_waiting ∙ sym (append_nil s.waiting) ∙ ap (λ (cs : List Command). s.waiting ++ cs) (sym none); base = same_base })

-- a call that adds and acknowledges nothing changes nothing about what a crash may keep
records_on : (a : Past) (c : RecordedCall) (shape : Shape) (base : Map) (waiting : List Command) (image : List ℕ) → accepted_command c.event c.reply ≡ [] → ((n : ℕ) → acknowledged_by n c.reply ≡ n)
    → StandsRecorded a shape base waiting image → StandsRecorded (then_call a c) shape base waiting image
records_on a c shape base waiting image none same kept =
    let all : commands_of (a.calls ++ c ∷ []) ≡ commands_of a.calls = commands_more a.calls c ∙ ap (λ (cs : List Command). commands_of a.calls ++ cs) none ∙ append_nil (commands_of a.calls) in (
      kept.0,
      record {
        begins = record { rest = kept.1.begins.rest; is = kept.1.begins.is ∙ ap (λ (cs : List Command). waiting ++ cs) (sym all) };
        acknowledged = λ settled sum.
            subst (λ (n : ℕ). n ≤ settled + length kept.0) (sym (acknowledged_more settled a.calls c ∙ same (acknowledged_after settled (replies_of a.calls)))) (kept.1.acknowledged settled sum);
      },
      kept.2,
    )

-- if the store is not failed, a crash keeps what went into the base
keeps_settled : (a : Past) (base : Map) (waiting : List Command) (t : SeenStore) (image : List ℕ) → HasSettled a base waiting t → StandsFor t.shape t.base image
    → StandsRecorded a t.shape base waiting image
keeps_settled a base waiting t image settled stands = (
  settled.moved,
  record { begins = record { rest = t.waiting; is = settled.rest }; acknowledged = settled.acknowledged },
  subst (λ (m : Map). StandsFor t.shape m image) settled.has_base stands,
)

-- after one more call, the recorded calls still say what a crash keeps
survives_on : (a : Past) (c : RecordedCall) (opening base : Map) (waiting : List Command) (s t : SeenStore) → SurvivesFrom a opening base waiting s → SeenStep s t c.event c.reply
    → SurvivesFrom (then_call a c) opening base waiting t
survives_on a c opening base waiting s t survives step =
    let was : IsTrue t.content.honest → IsTrue s.content.honest = λ h. subst IsTrue step.honest h in
    let opens : IsTrue t.content.honest → opening ≡ map_after base waiting = λ h. survives.opens (was h) in
    let few : IsTrue t.content.honest → length waiting ≤ a.count = λ h. survives.few (was h) in
    let go : (b : Bool) → s.failed ≡ b → (d : Bool) → t.failed ≡ d → SurvivesFrom (then_call a c) opening base waiting t = elim [
      | true ↦ λ failed d is.
          let stays = step.failed failed in
          let none : c.reply ≡ Refused Failed → accepted_command c.event c.reply ≡ [] = λ is. ap (λ (r : PlainReply). accepted_command c.event r) is ∙ none_refused c.event Failed in
          record {
            opens = opens;
            few = few;
            settled = λ h. settles_same a c base waiting s t (was h) (survives.settled (was h)) step (none stays.1)
                (ap (λ (x : SeenStore). x.base) stays.0) (ap (λ (x : SeenStore). x.waiting) stays.0);
            left = record {
              each = λ h image left.
                  subst (λ (shape : Shape). StandsRecorded (then_call a c) shape base waiting image) (sym step.shape)
                  (records_on a c s.shape base waiting image
                  (none stays.1) (λ n. ap (λ (r : PlainReply). acknowledged_by n r) stays.1)
                  ((subst (λ (x : SeenStore). LeavesOnly x.content (StandsRecorded a s.shape base waiting)) (sym stays.0) survives.left).each h image left));
            };
          }
      | false ↦ λ working. elim [
        | false ↦ λ goes.
            let settled : IsTrue t.content.honest → HasSettled (then_call a c) base waiting t =
            λ h. settles_more a c base waiting s t (was h) (survives.settled (was h)) step (step.moves goes (was h)) in
            record {
              opens = opens;
              few = few;
              settled = settled;
              left = record { each = λ h image left. keeps_settled (then_call a c) base waiting t image (settled h) ((step.safe goes).each h image left) };
            }
        | true ↦ λ fails. record {
          opens = opens;
          few = few;
          settled = λ h.
              let kept = step.keeps_basis working fails in
              settles_same a c base waiting s t (was h) (survives.settled (was h)) step (fault_adds c.event c.reply (step.faulted working fails)).0 kept.0 kept.1;
          left = record {
            each = λ h image left.
                let old = survives.settled (was h) in
                let torn = (step.crash working fails).each h image left in
                let fault = fault_adds c.event c.reply (step.faulted working fails) in
                let before : StandsRecorded a s.shape base waiting image = (
                  old.moved ++ torn.kept,
                  record {
                    begins = record {
                      rest = torn.begins.rest;
                      is = append_assoc old.moved torn.kept torn.begins.rest ∙ ap (λ (cs : List Command). old.moved ++ cs) torn.begins.is ∙ old.rest;
                    };
                    acknowledged = λ n sum. omega (arith, old.acknowledged n sum, length-append old.moved torn.kept);
                  },
                  subst (λ (m : Map). StandsFor s.shape m image) (ap (λ (m : Map). map_after m torn.kept) old.has_base ∙ sym (map_after-append base old.moved torn.kept)) torn.stands,
                ) in
                subst (λ (shape : Shape). StandsRecorded (then_call a c) shape base waiting image) (sym step.shape) (records_on a c s.shape base waiting image fault.0 fault.1 before);
          };
        }
      ]
    ] in
    go s.failed refl t.failed refl

-- ---- the calls of a seat

-- a call of one seat leaves those of every other one
pub others_stay : (other : ℕ) (calls : List RecordedCall) (c : RecordedCall) → (c.caller.seat == other) ≡ false → calls_of_seat other (calls ++ c ∷ []) ≡ calls_of_seat other calls
others_stay other [] c apart = rw apart refl
others_stay other (x ∷ calls) c apart =
    let go : (b : Bool) → (x.caller.seat == other) ≡ b → calls_of_seat other (x ∷ calls ++ c ∷ []) ≡ calls_of_seat other (x ∷ calls) = elim [
      | true ↦ λ is. rw is (ap (λ (rest : List RecordedCall). x ∷ rest) (others_stay other calls c apart))
      | false ↦ λ is. rw is (others_stay other calls c apart)
    ] in
    go (x.caller.seat == other) refl

pub others_stay_law : OthersStayLaw
others_stay_law other calls c apart = others_stay other calls c (ne_eqb c.caller.seat other apart)

-- ---- a kept trace

pub history_more : (a b : Keeping) (c : RecordedCall) (s t : SeenStore) → IsHistory a s → b ≡ with_call a c → SeenStep s t c.event c.reply → IsHistory b t
history_more a b c s t history extends step =
    let was : IsTrue t.content.honest → IsTrue s.content.honest = λ h. subst IsTrue step.honest h in
    let old = history.survives in
    subst (λ (k : Keeping). IsHistory k t) (sym extends) (record {
      map = history.map;
      entries = λ h. history.entries (was h);
      replays = λ h. replays_more a.count history.map a.calls s.count s.map c t.count t.map (history.replays (was h)) step.counts (step.step (was h));
      survives = record { base = old.base; waiting = old.waiting; from = survives_on (past_of a) c history.map old.base old.waiting s t old.from step };
    })

pub length_after : (a b : Keeping) (c : RecordedCall) (n m : ℕ) → length a.calls ≡ n → b ≡ with_call a c → m ≡ n + 1 → length b.calls ≡ m
length_after a b c n m is extends more = rw extends (omega (arith, length-append a.calls (c ∷ []), is, more))

pub accepted_after : (a b : Keeping) (c : RecordedCall) (m n : ℕ) → count_accepted a.calls ≡ m → b ≡ with_call a c → n ≡ m + accepted_by c.reply → count_accepted b.calls ≡ n
accepted_after a b c m n is extends more = rw extends (omega (arith, count_accepted_push a.calls c, is, more))

-- with no calls yet nothing is settled since the history began
settles_none : (past : Past) (store : SeenStore) → past.calls ≡ [] → past.count ≡ store.count → HasSettled past store.base store.waiting store
settles_none past store none count = record {
  moved = [];
  rest = sym (append_nil store.waiting) ∙ ap (λ (calls : List RecordedCall). store.waiting ++ commands_of calls) (sym none);
  has_base = refl;
  counted = omega (arith, count, ap (λ (calls : List RecordedCall). length (commands_of calls)) none);
  acknowledged = λ settled sum. omega (arith, ap (λ (calls : List RecordedCall). acknowledged_after settled (replies_of calls)) none);
}

-- a history of this store, as it is now, with no calls yet
pub history_opens : (kept : Keeping) (store : SeenStore) → kept.calls ≡ [] → kept.count ≡ store.count → (IsTrue store.content.honest → ListsMap kept.opening store.map)
    → (IsTrue store.content.honest → store.map ≡ map_after store.base store.waiting) → (IsTrue store.content.honest → length store.waiting ≤ store.count)
    → LeavesOnly store.content (StandsFor store.shape store.base) → IsHistory kept store
history_opens kept store none count entries has_map few safe = record {
  map = store.map;
  entries = entries;
  replays = λ h. subst (λ calls. Replays kept.count store.map calls store.count store.map) (sym none) (sym count, refl);
  survives = record {
    base = store.base;
    waiting = store.waiting;
    from = record {
      opens = has_map;
      few = λ h. subst (λ (n : ℕ). length store.waiting ≤ n) (sym count) (few h);
      settled = λ h. settles_none (past_of kept) store none count;
      left = record { each = λ h image left. keeps_settled (past_of kept) store.base store.waiting store image (settles_none (past_of kept) store none count) (safe.each h image left) };
    };
  };
}

-- ---- what calls cost

-- a store whose number says so did not fail
not_failing : (b : Bool) → failing b ≡ 0 → b ≡ false
not_failing false none = refl
not_failing true none = absurd (omega (arith, none))

total_by-append : (number : PlainReply → ℕ) (xs ys : List PlainReply) → total_by number (xs ++ ys) ≡ total_by number xs + total_by number ys
total_by-append number [] ys = omega arith
total_by-append number (x ∷ xs) ys = omega (arith, total_by-append number xs ys)

-- no call costs nothing
spends_none : (store : SeenStore) → Spends store store []
spends_none store = record { freezes = 0; fails = 0; few = omega arith; once = omega arith; turns = λ works. omega arith; made = most_none }

-- some calls, and then others
pub spends_both : (a b c : SeenStore) (xs ys : List PlainReply) → Spends a b xs → Spends b c ys → Spends a c (xs ++ ys)
spends_both a b c xs ys first second = record {
  freezes = first.freezes + second.freezes;
  fails = first.fails + second.fails;
  few = omega (arith, first.few, second.few, total_by-append accepted_by xs ys);
  once = omega (arith, first.once, second.once);
  turns = λ works.
      let none : failing c.failed ≡ 0 = ap failing works in
      let worked : b.failed ≡ false = not_failing b.failed (omega (arith, second.once, none)) in
      omega (arith, first.turns worked, second.turns works, total_by-append finished_by xs ys);
  made = most_both b first.made.makes second.made
      (omega (arith, first.made.fewer.0, total_by-append writes_by xs ys)) (omega (arith, first.made.fewer.1, total_by-append syncs_by xs ys));
}

-- ---- calls that lead from a store

-- no call leads from a store to itself, failed or not
pub leads_none : (store : SeenStore) → (IsTrue store.content.honest → store.map ≡ map_after store.base store.waiting) → (IsTrue store.content.honest → length store.waiting ≤ store.count)
    → LeavesOnly store.content (HoldsPrefix store.shape store.base store.waiting) → LeadsTo store [] store
leads_none store has_map few begun = record {
  honest = refl;
  shape = refl;
  replays = λ h. (refl, refl);
  survives = record {
    opens = has_map;
    few = few;
    settled = λ h. settles_none (record { count = store.count; calls = [] }) store refl refl;
    left = record {
      each = λ h image left.
          let torn = begun.each h image left in (
            torn.kept,
            record { begins = record { rest = torn.begins.rest; is = torn.begins.is ∙ sym (append_nil store.waiting) }; acknowledged = λ settled sum. omega arith },
            torn.stands,
          );
    };
  };
  spends = spends_none store;
}

-- they lead on by one call more
pub leads_more : (first : SeenStore) (calls : List RecordedCall) (c : RecordedCall) (s t : SeenStore) → LeadsTo first calls s → SeenStep s t c.event c.reply → LeadsTo first (calls ++ c ∷ []) t
leads_more first calls c s t leads step =
    let was : IsTrue t.content.honest → IsTrue s.content.honest = λ h. subst IsTrue step.honest h in
    record {
      honest = step.honest ∙ leads.honest;
      shape = step.shape ∙ leads.shape;
      replays = λ h. replays_more first.count first.map calls s.count s.map c t.count t.map (leads.replays (was h)) step.counts (step.step (was h));
      survives = survives_on (record { count = first.count; calls = calls }) c first.map first.base first.waiting s t leads.survives step;
      spends = subst (Spends first t) (sym (replies_more calls c)) (spends_both first s t (replies_of calls) (c.reply ∷ []) leads.spends step.spends);
    }

from_more : (named : Option SeenStore) (calls : List RecordedCall) (c : RecordedCall) (s t : SeenStore) → LeadsFrom named calls s → SeenStep s t c.event c.reply → LeadsFrom named (calls ++ c ∷ []) t
from_more None calls c s t leads step = tt
from_more (Some first) calls c s t leads step = leads_more first calls c s t leads step

-- the calls of a log end with the one that was added
pub logged_more : (old new : Option CallsSeen) (c : RecordedCall) (calls : List RecordedCall) → LogsCall old c new → HasLogged new calls → (before : List RecordedCall) × (calls ≡ before ++ c ∷ [])
logged_more old None c calls more logged = absurd logged
logged_more None (Some seen) c calls more logged = absurd more
logged_more (Some before) (Some seen) c calls more logged = (before.calls, logged ∙ more)

-- the log has the calls, and the one that was added
logs_more : (old new : Option CallsSeen) (c : RecordedCall) (calls : List RecordedCall) → LogsCall old c new → IfSome old (λ seen. seen.calls ≡ calls)
    → IfSome new (λ seen. seen.calls ≡ calls ++ c ∷ [])
logs_more old None c calls more logged = tt
logs_more None (Some seen) c calls more logged = absurd more
logs_more (Some before) (Some seen) c calls more logged = more ∙ ap (λ (cs : List RecordedCall). cs ++ c ∷ []) logged

-- a past goes on by one more call
pub past_more : {T : Type 0} (named : ℕ → Option SeenStore) (counts : T → ℕ → ℕ → Type 0) (a b : AnchoredState T) (c : RecordedCall) (s t : SeenStore)
    → ((n m k l : ℕ) → counts a.trace n m → k ≡ n + 1 → l ≡ m + accepted_by c.reply → counts b.trace k l) → LogsCall a.log c b.log → b.shard ≡ a.shard → HasPast (named a.shard) counts a s
    → SeenStep s t c.event c.reply → HasPast (named b.shard) counts b t
past_more named counts a b c s t law log same past step =
    let calls : List RecordedCall = past.calls in
    let longer : length (calls ++ c ∷ []) ≡ length calls + 1 = omega (arith, length-append calls (c ∷ [])) in
    record {
      calls = calls ++ c ∷ [];
      leads = subst (λ (shard : ℕ). LeadsFrom (named shard) (calls ++ c ∷ []) t) (sym same) (from_more (named a.shard) calls c s t past.leads step);
      counted = law (length calls) (count_accepted calls) (length (calls ++ c ∷ [])) (count_accepted (calls ++ c ∷ [])) past.counted longer (count_accepted_push calls c);
      logged = logs_more a.log b.log c calls log past.logged;
    }

-- a store that did no call leaves its disk so
pub leaves_none : {D F : Type 0} (facts : Ghosts D F) (core : CoreState D) (disk : D) → disk ≡ core.disk
    → (IsTrue (facts.content core.disk).honest → map_of core ≡ map_after core.base core.waiting) → (IsTrue (facts.content core.disk).honest → length core.waiting ≤ core.count)
    → LeavesOnly (facts.content core.disk) (HoldsPrefix core.shape core.base core.waiting) → LeavesCalls facts core disk
leaves_none facts core disk is has_map few begun = (core, [], sym is, leads_none (seen facts core) has_map few begun)
