-- Runs and lives of a set of stores are runs and lives of each shard's store.
use Rattle.silt_shards.proofs.Common.{◌≡◌, ℕ, zero, suc, ◌+◌, false, IsTrue, Some, List, [], ◌∷◌, length, map, refl, ap, ◌∙◌, subst, arith, rules, AllZip, slice_get, none-some, same_Some}
use Rattle.silt_shards.proofs.Common.{AllZip-long, Restarts, Shape, Ghosts, left_at_rest, shown_left, Map, map_after, AnswersEach, Legal, PlainReply, plain, Event, Reply, StandsFor, CoreState}
use Rattle.silt_shards.proofs.Common.{DoesPlain, Opens, Runs, map_of, legal_runs, routed, SetLivesLaw, SetRuns, ShardLife, ShardRuns, ShardRunsLaw, ShardLives}
use Rattle.silt_store_set.specs.CoreInvariant.{IsSafe}
use Rattle.silt_store_set.specs.Living.{StartsFrom}
use Rattle.silt_store_set.proofs.Keeps.{keeps_runs, nines}
use Rattle.silt_shards.proofs.Projections.{projected, set_length}

-- the partner of an item
pub record Partner {X Y : Type 0} (R : X → Y → Type 0) (ys : List Y) (i : ℕ) (x : X) : Type 0 where
  pub other : Y
  pub there : slice_get ys i ≡ Some other
  pub related : R x other

zip_at : {X Y : Type 0} (R : X → Y → Type 0) (xs : List X) (ys : List Y) (i : ℕ) (x : X) → AllZip R xs ys → slice_get xs i ≡ Some x → Partner R ys i x
zip_at R (a ∷ xs) (b ∷ ys) zero x every there = search (arith, same_Some)
zip_at R (a ∷ xs) (b ∷ ys) (suc i) x every there = search (arith, zip_at R xs ys i x every.1 there)
zip_at R [] [] i x every there = absurd (none-some x there)
zip_at R xs ys i x every there = absurd every

module _ {D F : Type 0} (facts : Ghosts D F) where
  -- ---- runs

  -- a shard's replies with the faults of its device
  pub record Told (old new : CoreState D) (events : List Event) (replies : List PlainReply) : Type 0 where
    pub told : List (Reply F)
    pub runs : Runs facts old events told new
    pub are : map plain told ≡ replies

  runs_told : (old new : CoreState D) (events : List Event) (replies : List PlainReply) → AnswersEach (DoesPlain facts) old events replies new → Told old new events replies
  runs_told old new [] [] runs = record { told = []; runs = runs; are = refl }
  runs_told old new (event ∷ events) (reply ∷ replies) runs =
      let rest = runs_told runs.0 new events replies runs.2 in record { told = runs.1.0 ∷ rest.told; runs = (runs.0, runs.1.1, rest.runs); are = search arith }
  runs_told old new events replies runs = absurd runs

  -- the disk stays honest or not
  runs_honest : (old new : CoreState D) (events : List Event) (replies : List (Reply F)) → Runs facts old events replies new → (facts.content new.disk).honest ≡ (facts.content old.disk).honest
  runs_honest old new (event ∷ events) (reply ∷ replies) runs = search (arith, runs_honest runs.0 new events replies runs.2)
  runs_honest old new events replies runs = search (rules, arith)

  -- as many shards as before
  set_len : (old new : List (CoreState D)) (events : List Event) (replies : List PlainReply) → SetRuns facts old events replies new → length new ≡ length old
  set_len old new [] [] runs = ap length runs
  set_len old new (event ∷ events) (reply ∷ replies) runs = set_len runs.0 new events replies runs.2 ∙ set_length (DoesPlain facts) old runs.0 event reply runs.1
  set_len old new events replies runs = absurd runs

  pub shard_runs_law : ShardRunsLaw facts
  shard_runs_law old new events replies runs shard before there =
      let at = projected (DoesPlain facts) old new events replies runs shard before there in
      let mine = runs_told before at.0 (routed (length old) shard events) at.2.own at.2.runs in (
        at.0,
        at.1,
        record {
          own = mine.told;
          runs = mine.runs;
          parts = rw (← mine.are) at at.2.parts;
          legal = λ h. legal_runs facts before at.0 _ mine.told h mine.runs;
          kept = λ working safe. record { each = search (arith, keeps_runs, runs_honest) };
        },
      )

  -- ---- lives

  module _ (value_len : ℕ) (values : Map) (disk : D) (starts : StartsFrom value_len values (facts.content disk)) where
    shown_safe : IsSafe value_len values (facts.content disk).shown
    shown_safe = starts.safe.each starts.honest (facts.content disk).shown (shown_left (facts.content disk))

    -- the length of the store's values
    opened_len : (core : CoreState D) → Opens facts (facts.content disk) core → core.shape.value_len ≡ value_len
    opened_len core opens = ap (λ (s : Shape). s.value_len) (opens.has_shape starts.honest) ∙ shown_safe.has_len

    -- one life of a shard
    shard_life : (count shard : ℕ) (events : List Event) (replies : List PlainReply) (core after : CoreState D) (left : D) → Opens facts (facts.content disk) core
        → ShardRuns facts count shard core after events replies → Restarts (facts.content after.disk) (facts.content left)
        → (to : Map) × ShardLife F count shard values events replies to × StartsFrom value_len to (facts.content left)
    shard_life count shard events replies core after left opens run restarts =
        let mine = routed count shard events in
        let here : IsTrue (facts.content core.disk).honest = opens.disk.honest ∙ starts.honest in
        let there : IsTrue (facts.content after.disk).honest = runs_honest core after mine run.own run.runs ∙ here in
        let shown = (facts.content left).shown in
        let kept = (run.kept opens.working opens.safe).each there shown (restarts.left there) in
        let start : map_of core ≡ values = opens.has_map starts.honest ∙ shown_safe.has_map in
        let base : core.base ≡ values = opens.base starts.honest ∙ shown_safe.has_map in
        let none_wait : core.waiting ≡ [] = opens.waiting starts.honest in
        let to = map_after values kept.0 in
        let stands : StandsFor core.shape to shown = subst (λ (m : Map). StandsFor core.shape (map_after m kept.0) shown) base kept.2 in (
          to,
          record {
            own = run.own;
            parts = run.parts;
            accepted = after.count;
            end = map_of after;
            legal = subst (λ (m : Map). Legal 0 m mine run.own after.count (map_of after)) start
                (subst (λ (c : ℕ). Legal c (map_of core) mine run.own after.count (map_of after)) opens.count (run.legal here));
            kept = kept.0;
            keeps = record {
              begins = search arith;
              acknowledged = let settled : 0 + length core.waiting ≡ core.count = omega (arith, ap length none_wait, opens.count) in omega (arith, kept.1.acknowledged 0 settled);
            };
            fails = nines facts core after mine run.own false opens.working run.runs;
            next = refl;
          },
          record {
            honest = restarts.honest ∙ there;
            safe = record { each = search (arith, left_at_rest, opened_len) };
          },
        )

  pub set_lives_law : SetLivesLaw facts
  set_lives_law disks left [] lives shard disk there value_len values starts = (disk, rw lives there, (values, refl, starts))
  set_lives_law disks left (life ∷ lives) all shard disk there value_len values starts =
      let once = all.1 in
      let opened = zip_at _ disks once.first shard disk once.opens there in
      let ran = shard_runs_law once.first once.last life.0 life.1 once.runs shard opened.other opened.there in
      let stopped = zip_at _ once.last all.0 shard ran.0 once.stops ran.1 in
      let len : length once.first ≡ length disks = AllZip-long _ disks once.first once.opens in
      let one = shard_life value_len values disk starts (length disks) shard life.0 life.1 opened.other ran.0 stopped.other opened.related (rw len at ran.2) stopped.related in
      let rest = set_lives_law all.0 left lives all.2 shard stopped.other stopped.there value_len one.0 one.2 in
      let same : length all.0 ≡ length disks = AllZip-long _ once.last all.0 once.stops ∙ set_len once.first once.last life.0 life.1 once.runs ∙ len in
      (rest.0, rest.1, (rest.2.0, (one.0, one.1, subst (λ (n : ℕ). ShardLives F n shard one.0 lives rest.2.0) same rest.2.1), rest.2.2))
