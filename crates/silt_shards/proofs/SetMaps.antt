-- The replies of a set of stores are those of one map.
use Rattle.silt_shards.proofs.Common.{◌≡◌, inl, inr, ℕ, Bool, not, cond, IsTrue, Option, Some, List, [], ◌∷◌, length, set, refl, ap, sym, ◌∙◌, arith, rules, option_and_then, slice_get, cases_Bool}
use Rattle.silt_shards.proofs.Common.{cases_eq, length-set, All-cons, All-rest, same_Some, slice_get_cases, slice_get_past, Ghosts, Map, PlainReply, Step, plain, Event, Put, Delete, Swap, Flush}
use Rattle.silt_shards.proofs.Common.{Get, Reply, Key, CoreState, DoesPlain, map_of, does_step, shard_of, DoesAt, FlushesEach, SetDoes, acknowledges, joined, AreHonest, IsMapOf, SetMapLaw}
use Rattle.silt_shards.proofs.Common.{SetStep, value_in}
use Rattle.std.specs.FinMap.{get}
use Rattle.silt_shards.proofs.Joins.{first_refusal, joins}
use Rattle.silt_shards.proofs.KeySteps.{KeyStep, delete_step, flush_same, flush_step, get_step, put_step, swap_step}
use Rattle.silt_shards.proofs.Lists.{all_at, all_set, get_set_other, get_set_same}
use Rattle.silt_shards.proofs.Projections.{flush_at, flush_length}

module _ {D F : Type 0} (facts : Ghosts D F) where
  -- the value of a key in a list of this length
  abbrev found_in : List (CoreState D) → ℕ → Key → Option (List ℕ)
  found_in cores count q = option_and_then (λ (core : CoreState D). get (map_of core) q.0) (slice_get cores (shard_of count q))

  -- what a key has in its shard
  value_at : (cores : List (CoreState D)) (core : CoreState D) (values : Map) (q : Key) → IsMapOf cores values → slice_get cores (shard_of (length cores) q) ≡ Some core
      → get values q.0 ≡ get (map_of core) q.0
  value_at cores core values q is there = is q ∙ ap (option_and_then (λ (c : CoreState D). get (map_of c) q.0)) there

  -- ---- an event of a key

  keyed_map : (old new : List (CoreState D)) (event : Event) (key : Key) (reply : PlainReply) (values : Map) → IsMapOf old values
      → (does : DoesAt (DoesPlain facts) (shard_of (length old) key) old new event reply) → (k : KeyStep key event reply values (map_of does.0) (map_of does.1)) → IsMapOf new k.to
  keyed_map old new event key reply values is does k = λ q.
      let only = shard_of (length old) key in
      let own = shard_of (length old) q in
      let after = does.1 in
      let moved : value_in new q ≡ found_in (set old only after) (length old) q = search (arith, length-set) in
      elim (cases_eq only own) [
        | inl same ↦
            let there : slice_get old own ≡ Some does.0 = ap (slice_get old) (sym same) ∙ does.2 in
            let now : slice_get (set old only after) own ≡ Some after = ap (λ (i : ℕ). slice_get (set old i after) own) same ∙ get_set_same old own does.0 after there in
            search (arith, k.alike.same)
        | inr away ↦
            search (arith, get_set_other, k.alike.other)
      ]

  -- the map after an event
  pub record MapsTo (new : List (CoreState D)) (values : Map) (event : Event) (reply : PlainReply) : Type 0 where
    pub to : Map
    pub is : IsMapOf new to
    pub step : SetStep values event reply to
    pub honest : AreHonest facts new

  -- the reply of the shard is that of its map
  shard_step : (before after : CoreState D) (event : Event) (reply : PlainReply) → IsTrue (facts.content before.disk).honest → (does : DoesPlain facts before after event reply)
      → Step (map_of before) event does.0 (map_of after)
  shard_step before after event reply h does = does_step facts before after event does.0 h does.1

  honest_at : (only : ℕ) (old new : List (CoreState D)) (event : Event) (reply : PlainReply) → AreHonest facts old → DoesAt (DoesPlain facts) only old new event reply → AreHonest facts new
  honest_at only old new event reply honest does =
      let honest_one : CoreState D → Type 0 = λ core. IsTrue (facts.content core.disk).honest in
      rw does.4 (all_set honest_one old only does.1 honest (does.3.1.disk.honest ∙ all_at honest_one old only does.0 honest does.2))

  keyed : (old new : List (CoreState D)) (event : Event) (key : Key) (reply : PlainReply) (values : Map) → AreHonest facts old → IsMapOf old values
      → (does : DoesAt (DoesPlain facts) (shard_of (length old) key) old new event reply)
      → ((told : Reply F) → get values key.0 ≡ get (map_of does.0) key.0 → Step (map_of does.0) event told (map_of does.1) → KeyStep key event (plain told) values (map_of does.0) (map_of does.1))
      → MapsTo new values event reply
  keyed old new event key reply values honest is does step =
      let h = all_at (λ (core : CoreState D). IsTrue (facts.content core.disk).honest) old (shard_of (length old) key) does.0 honest does.2 in
      let k = rw (← does.3.2) at (step does.3.0 (value_at old does.0 values key is does.2) (shard_step does.0 does.1 event reply h does.3)) in
      record { to = k.to; is = keyed_map old new event key reply values is does k; step = k.step; honest = honest_at (shard_of (length old) key) old new event reply honest does }

  -- ---- a flush

  flush_honest : (old : List (CoreState D)) (parts : List PlainReply) (new : List (CoreState D)) → FlushesEach (DoesPlain facts) old parts new → AreHonest facts old → AreHonest facts new
  flush_honest (before ∷ old) (part ∷ parts) (after ∷ new) flushes honest =
      All-cons (λ (core : CoreState D). IsTrue (facts.content core.disk).honest) after new ((flushes.0).1.disk.honest ∙ honest 0 before (omega arith))
      (flush_honest old parts new flushes.1 (All-rest (λ (core : CoreState D). IsTrue (facts.content core.disk).honest) before old (before ∷ old) refl honest))
  flush_honest old parts new flushes honest = search (rules, arith)

  flush_map : (old : List (CoreState D)) (parts : List PlainReply) (new : List (CoreState D)) (values : Map) → FlushesEach (DoesPlain facts) old parts new → AreHonest facts old
      → IsMapOf old values → IsMapOf new values
  flush_map old parts new values flushes honest is = λ q.
      let len = flush_length (DoesPlain facts) old parts new flushes in
      let moved : value_in new q ≡ found_in new (length old) q = ap (λ (n : ℕ). found_in new n q) len in
      let own = shard_of (length old) q in
      elim ((slice_get_cases old own).1) [
        | inl here ↦
            let before = here.0 in
            let there : slice_get old own ≡ Some before = here.2 in
            let at = flush_at (DoesPlain facts) old parts new flushes own before there in
            search (arith, all_at, flush_same, shard_step)
        | inr past ↦
            search (arith, slice_get_past)
      ]

  -- the first refusal of a flush is one that any map may give
  flush_first : (old : List (CoreState D)) (parts : List PlainReply) (new : List (CoreState D)) (values : Map) (refusal : PlainReply) → FlushesEach (DoesPlain facts) old parts new
      → AreHonest facts old → first_refusal parts ≡ Some refusal → Step values Flush refusal values
  flush_first (before ∷ old) (part ∷ parts) (after ∷ new) values refusal flushes honest found = elim (cases_Bool (acknowledges part)) [
    | inl acknowledged ↦
        flush_first old parts new values refusal flushes.1 (All-rest (λ (core : CoreState D). IsTrue (facts.content core.disk).honest) before old (before ∷ old) refl honest)
        (sym (ap (λ (b : Bool). cond (not b) (Some part) (first_refusal parts)) acknowledged) ∙ found)
    | inr refused ↦
        search (arith, same_Some, flush_step, shard_step)
  ]
  flush_first old parts new values refusal flushes honest found = search rules

  flush_joined : (old : List (CoreState D)) (parts : List PlainReply) (new : List (CoreState D)) (values : Map) → FlushesEach (DoesPlain facts) old parts new → AreHonest facts old
      → Step values Flush (joined parts) values
  flush_joined old parts new values flushes honest = search (arith, joins, flush_first)

  -- ---- any event

  maps_to : (old new : List (CoreState D)) (event : Event) (reply : PlainReply) (values : Map) → AreHonest facts old → IsMapOf old values → SetDoes (DoesPlain facts) old new event reply
      → MapsTo new values event reply
  maps_to old new (Put key value) reply values honest is does = keyed old new _ key reply values honest is does (λ told here step. put_step values _ _ key value told step)
  maps_to old new (Delete key) reply values honest is does = keyed old new _ key reply values honest is does (λ told here step. delete_step values _ _ key told step)
  maps_to old new (Swap key expected value) reply values honest is does = keyed old new _ key reply values honest is does (λ told here step. swap_step values _ _ key _ value told here step)
  maps_to old new (Get key) reply values honest is does = keyed old new _ key reply values honest is does (λ told here step. get_step values _ _ key told here step)
  maps_to old new Flush reply values honest is does = record {
    to = values;
    is = flush_map old does.0 new values does.1 honest is;
    step = rw (← does.2) at (flush_joined old does.0 new values does.1 honest);
    honest = flush_honest old does.0 new does.1 honest;
  }
  maps_to old new event reply values honest is does = record { to = values; is = rw does.0 is; step = (does.1, refl); honest = rw does.0 honest }

  pub set_map_law : SetMapLaw facts
  set_map_law old new [] [] values honest is runs = (values, rw (← runs) at is, refl)
  set_map_law old new (event ∷ events) (reply ∷ replies) values honest is runs =
      let next = maps_to old runs.0 event reply values honest is runs.1 in
      search (arith, set_map_law runs.0 new events replies next.to next.honest next.is runs.2)
  set_map_law old new h2 h3 values honest is runs = absurd runs
