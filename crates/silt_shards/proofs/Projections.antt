-- What sets of shards do, shard by shard.
use Rattle.silt_shards.proofs.Common.{◌≡◌, inl, inr, ℕ, zero, suc, ◌==◌, true, false, Some, List, [], ◌∷◌, ◌++◌, length, refl, sym, ◌∙◌, ap, arith, rules, slice_get, cases_Bool, cases_eq, eq-eqb}
use Rattle.silt_shards.proofs.Common.{ne_eqb, length-set, same_Some, AnswersEach, PlainReply, Event, Put, Flush, is_routed, DoesAt, FlushesEach, SetDoes}
use Rattle.silt_shards.proofs.Lists.{get_set_other, get_set_same}
use Rattle.silt_shards.specs.SetLaws.{IsPart, ProjectionLaw, ShardDoes}

module _ {A : Type 0} (answers : A → A → Event → PlainReply → Type 0) where
  -- ---- a flush of each shard

  -- as many shards as before
  pub flush_length : (old : List A) (parts : List PlainReply) (new : List A) → FlushesEach answers old parts new → length new ≡ length old
  flush_length (before ∷ old) (part ∷ parts) (after ∷ new) flushes = ap suc (flush_length old parts new flushes.1)
  flush_length old parts new flushes = search (rules, arith)

  -- one shard more
  pub flush_more : (old : List A) (parts : List PlainReply) (new : List A) (before after : A) (part : PlainReply) → FlushesEach answers old parts new
      → answers before after Flush part → FlushesEach answers (old ++ before ∷ []) (parts ++ part ∷ []) (new ++ after ∷ [])
  flush_more (b ∷ old) (p ∷ parts) (a ∷ new) before after part flushes one = (flushes.0, flush_more old parts new before after part flushes.1 one)
  flush_more old parts new before after part flushes one = search (rules, arith)

  -- what one shard does in a flush
  pub record FlushesAt (parts : List PlainReply) (new : List A) (shard : ℕ) (before : A) : Type 0 where
    pub after : A
    pub there : slice_get new shard ≡ Some after
    pub part : PlainReply
    pub own : slice_get parts shard ≡ Some part
    pub does : answers before after Flush part

  pub flush_at : (old : List A) (parts : List PlainReply) (new : List A) → FlushesEach answers old parts new
      → (shard : ℕ) (before : A) → slice_get old shard ≡ Some before → FlushesAt parts new shard before
  flush_at (b ∷ old) (p ∷ parts) (a ∷ new) flushes zero before there = search (arith, same_Some)
  flush_at (b ∷ old) (p ∷ parts) (a ∷ new) flushes (suc shard) before there = search (arith, flush_at old parts new flushes.1 shard before there)
  flush_at old parts new flushes shard before there = search rules

  -- ---- one event

  -- what one shard does in an event of a set: its own event, or nothing
  pub record StepsAt (count shard : ℕ) (new : List A) (event : Event) (reply : PlainReply) (before : A) : Type 0 where
    pub after : A
    pub there : slice_get new shard ≡ Some after
    pub own : is_routed count shard event ≡ true → (part : PlainReply) × answers before after event part × IsPart shard event reply part
    pub other : is_routed count shard event ≡ false → after ≡ before

  step_keyed : (count only shard : ℕ) (old new : List A) (event : Event) (reply : PlainReply) (before : A) → DoesAt answers only old new event reply
      → slice_get old shard ≡ Some before → is_routed count shard event ≡ (only == shard) → IsPart shard event reply reply → StepsAt count shard new event reply before
  step_keyed count only shard old new event reply before does there routes part = elim (cases_eq only shard) [
    | inl same ↦ record {
      after = does.1;
      there = rw (does.4, same) (get_set_same old shard before does.1 there);
      own = λ _. (reply, rw (same_Some does.0 before (sym does.2 ∙ ap (slice_get old) same ∙ there)) at does.3, part);
      other = λ it. absurd (let here : is_routed count shard event ≡ true = routes ∙ eq-eqb only shard same in cc);
    }
    | inr apart ↦ record {
      after = before;
      there = rw does.4 (get_set_other old only shard does.1 apart ∙ there);
      own = λ it. absurd (let away : is_routed count shard event ≡ false = routes ∙ ne_eqb only shard apart in cc);
      other = λ _. refl;
    }
  ]

  step_none : (count shard : ℕ) (old new : List A) (event : Event) (reply : PlainReply) (before : A) → new ≡ old → slice_get old shard ≡ Some before
      → is_routed count shard event ≡ false → StepsAt count shard new event reply before
  step_none count shard old new event reply before same there away = record { after = before; there = rw same there; own = λ it. absurd (cc); other = λ _. refl }

  pub steps_at : (old new : List A) (event : Event) (reply : PlainReply) → SetDoes answers old new event reply
      → (shard : ℕ) (before : A) → slice_get old shard ≡ Some before → StepsAt (length old) shard new event reply before
  steps_at old new Flush reply does shard before there =
      let at = flush_at old does.0 new does.1 shard before there in
      record { after = at.after; there = at.there; own = λ _. (at.part, at.does, (does.0, does.2, at.own)); other = λ it. absurd (cc) }
  steps_at old new event reply does shard before there = search (rules, arith, step_keyed, step_none)

  -- as many shards as before
  at_length : (only : ℕ) (old new : List A) (event : Event) (reply : PlainReply) → DoesAt answers only old new event reply → length new ≡ length old
  at_length only old new event reply does = ap length does.4 ∙ length-set old only does.1

  pub set_length : (old new : List A) (event : Event) (reply : PlainReply) → SetDoes answers old new event reply → length new ≡ length old
  set_length old new (Put key value) reply does = at_length _ old new _ reply does
  set_length old new event reply does = search (rules, arith, at_length, flush_length)

  -- ---- events in order

  -- one shard's run, one event earlier
  earlier : (count shard : ℕ) (mid new : List A) (event : Event) (reply : PlainReply) (events : List Event) (replies : List PlainReply) (before last : A)
      → (step : StepsAt count shard mid event reply before) → ShardDoes answers count shard step.after last events replies
      → ShardDoes answers count shard before last (event ∷ events) (reply ∷ replies)
  earlier count shard mid new event reply events replies before last step rest = elim (cases_Bool (is_routed count shard event)) [
    | inl here ↦ record { own = (step.own here).0 ∷ rest.own; runs = search arith; parts = search arith }
    | inr away ↦ record { own = rest.own; runs = rw (away, ← step.other away) rest.runs; parts = search arith }
  ]

  -- a run of one shard, and where it ends
  pub record RunsAt (count shard : ℕ) (new : List A) (events : List Event) (replies : List PlainReply) (before : A) : Type 0 where
    pub after : A
    pub there : slice_get new shard ≡ Some after
    pub does : ShardDoes answers count shard before after events replies

  runs_at : (count : ℕ) (old new : List A) (events : List Event) (replies : List PlainReply) → count ≡ length old → AnswersEach (SetDoes answers) old events replies new
      → (shard : ℕ) (before : A) → slice_get old shard ≡ Some before → RunsAt count shard new events replies before
  runs_at count old new [] [] same runs shard before there = record { after = before; there = rw runs there; does = record { own = []; runs = refl; parts = tt } }
  runs_at count old new (event ∷ events) (reply ∷ replies) same runs shard before there =
      let step : StepsAt count shard runs.0 event reply before = rw same (steps_at old runs.0 event reply runs.1 shard before there) in
      let rest = runs_at count runs.0 new events replies (same ∙ sym (set_length old runs.0 event reply runs.1)) runs.2 shard step.after step.there in
      record { after = rest.after; there = rest.there; does = earlier count shard runs.0 new event reply events replies before rest.after step rest.does }
  runs_at count old new events replies same runs shard before there = absurd runs

  pub projected : ProjectionLaw answers
  projected old new events replies runs shard before there =
      let run = runs_at (length old) old new events replies refl runs shard before there in (run.after, run.there, run.does)
