-- Lives, from their openings, runs and crashes.
use Rattle.silt_store_set.proofs.Common.{◌≡◌, ℕ, ◌+◌, false, IsTrue, List, [], ◌∷◌, ◌++◌, length, Vec, refl, ap, sym, ◌∙◌, subst, arith, Global, Content, Left, LeavesOnly, Restarts, Shape}
use Rattle.silt_store_set.proofs.Common.{Event, LifeReply, NotOpened, Opened, Refusal, Reply, Map, map_after, LivesHistory, CoreState, map_of, Runs, Opens, IsSafe, Ghosts, StandsFor}
use Rattle.silt_store_set.proofs.Common.{SameDisk, LeavesNoOther, OpeningCause, NoMemory, LifeHistory}
use Rattle.silt_disk.proofs.Images.{shown_left, left_at_rest}
use Rattle.silt_store_set.proofs.Keeps.{keeps_runs, nines}
use Rattle.silt_store_set.proofs.Openings.{opening_refused}
use Rattle.silt_store_set.proofs.Runs.{legal_runs}

-- ---- after a crash

-- what is true of each crash image of the stopped disk is true of each of the restarted one
restarted : (value_len : ℕ) (m : Map) (old new : Content) → Restarts old new → (IsTrue old.honest → (image : List ℕ) → Left old image → IsSafe value_len m image) → LeavesOnly new (IsSafe value_len m)
restarted value_len m old new restarts safe = record {
  each = λ honest image left.
      let was : IsTrue old.honest = sym restarts.honest ∙ honest in
      subst (IsSafe value_len m) (sym (left_at_rest restarts.rests honest image left)) (safe was new.shown (restarts.left was));
}

-- an image that represents the map of a store of this shape is safe
stands_safe : (value_len : ℕ) (shape : Shape) (m : Map) (image : List ℕ) → shape.value_len ≡ value_len → StandsFor shape m image → IsSafe value_len m image
stands_safe value_len shape m image same stands = search arith

module _ {D F : Type 0} (facts : Ghosts D F) (old : Content) (value_len : ℕ) (m : Map) (h : IsTrue old.honest) (safe : LeavesOnly old (IsSafe value_len m)) (events : List Event) where
  shown_safe : IsSafe value_len m old.shown
  shown_safe = safe.each h old.shown (shown_left old)

  -- a store that was not opened
  pub life_unopened : (disk : D) (refusal : Refusal F) (new : Content) → LeavesNoOther old (facts.content disk) → OpeningCause facts old disk refusal → Restarts (facts.content disk) new
      → (to : Map) × LifeHistory {F = F} m events (NotOpened refusal) to × LeavesOnly new (IsSafe value_len to)
  life_unopened disk refusal new leaves cause restarts = (
    m,
    (opening_refused facts old disk refusal h shown_safe.good cause, refl),
    restarted value_len m (facts.content disk) new restarts (search arith),
  )

  -- the store has values of this length
  pub opened_len : (core : CoreState D) → Opens facts old core → core.shape.value_len ≡ value_len
  opened_len core opens = ap (λ (s : Shape). s.value_len) (opens.has_shape h) ∙ shown_safe.has_len

  -- a store that was opened, and was out of memory for its replies
  pub life_idle : (core : CoreState D) (new : Content) → Opens facts old core → Restarts (facts.content core.disk) new
      → (to : Map) × LifeHistory {F = F} m events (NotOpened NoMemory) to × LeavesOnly new (IsSafe value_len to)
  life_idle core new opens restarts = (
    m,
    (tt, refl),
    restarted value_len m (facts.content core.disk) new restarts (λ honest image left. stands_safe value_len core.shape m image (opened_len core opens) (subst (λ (n : Map). StandsFor
        core.shape n image) (opens.base h ∙ shown_safe.has_map) (opens.safe.each honest image left))),
  )

  -- a store that was opened and did its events
  pub life_ran : (core after : CoreState D) (replies : Vec (Reply F) Global) (new : Content) → Opens facts old core
      → Runs facts core events replies.items after → Restarts (facts.content after.disk) new → SameDisk (facts.content core.disk) (facts.content after.disk)
      → (to : Map) × LifeHistory m events (Opened replies) to × LeavesOnly new (IsSafe value_len to)
  life_ran core after replies new opens runs restarts same =
      let here : IsTrue (facts.content core.disk).honest = opens.disk.honest ∙ h in
      let there : IsTrue (facts.content after.disk).honest = same.honest ∙ here in
      let kept = keeps_runs facts core after events replies.items opens.working opens.safe runs here new.shown (restarts.left there) in
      let legal = legal_runs facts core after events replies.items here runs in
      let start : map_of core ≡ m = opens.has_map h ∙ shown_safe.has_map in
      let base : core.base ≡ m = opens.base h ∙ shown_safe.has_map in
      let none : core.waiting ≡ [] = opens.waiting h in (
        map_after m kept.0,
        (
          after.count,
          map_of after,
          kept.0,
          search arith,
          record {
            begins = search arith;
            acknowledged = let settled : 0 + length core.waiting ≡ core.count = omega (arith, ap length none, opens.count) in omega (arith, kept.1.acknowledged 0 settled);
          },
          nines facts core after events replies.items false opens.working runs,
          refl,
        ),
        record { each = search (arith, left_at_rest, opened_len) },
      )

-- one more life makes a longer history
pub lives_more : {F : Type 0} (m : Map) (lives : List (Vec Event Global)) (replies : List (LifeReply F)) (to next : Map) (life : Vec Event Global) (reply : LifeReply F)
    → LivesHistory m lives replies to → LifeHistory to life.items reply next → LivesHistory m (lives ++ life ∷ []) (replies ++ reply ∷ []) next
lives_more m [] [] to next life reply before one = (next, rw before at one, refl)
lives_more m (l ∷ lives) (r ∷ replies) to next life reply before one = (before.0, before.1, lives_more before.0 lives replies to next life reply before.2 one)
lives_more m lives replies to next life reply before one = absurd before
