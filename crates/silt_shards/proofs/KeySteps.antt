-- A key's event in one part of a map, and in the whole.
use Rattle.silt_shards.proofs.Common.{◌≡◌, ℕ, false, Option, Some, None, List, refl, ap, sym, ◌∙◌, arith, rules, slice_cmp, cases_Bool, nat_list_cmp_total, bytes_eq-Decides, same_key, Map}
use Rattle.silt_shards.proofs.Common.{changed, delete, put, setting, PlainReply, Step, plain, Event, Put, Delete, Swap, Flush, Get, Reply, Accepted, Found, Absent, Differs, Refused, Key, SetStep}
use Rattle.std.specs.FinMap.{get, get-insert, get-remove}
use Rattle.std.specs.Ordering.{nat_cmp, eq_by_cmp}
use Rattle.std.specs.Str.{bytes_eq}

-- the whole map changes as its part does, and at this key alone
pub record ChangesAlike (key : Key) (values to part after : Map) : Type 0 where
  pub same : (q : Key) → get values q.0 ≡ get part q.0 → get to q.0 ≡ get after q.0
  pub other : (q : Key) → (q.0 ≡ key.0 → ⊥) → get to q.0 ≡ get values q.0

unchanged : (key : Key) (values part after : Map) → after ≡ part → ChangesAlike key values values part after
unchanged key values part after is = record { same = λ q e. e ∙ ap (λ (m : Map). get m q.0) (sym is); other = λ q differ. refl }

-- two keys that differ
other_key : (a b : List ℕ) → (a ≡ b → ⊥) → bytes_eq a b ≡ false
other_key a b differ = search (arith, cases_Bool, bytes_eq-Decides)

apart : (key q : Key) → (q.0 ≡ key.0 → ⊥) → eq_by_cmp (slice_cmp nat_cmp) q.0 key.0 ≡ false
apart key q differ = same_key q.0 key.0 ∙ other_key key.0 q.0 (λ e. differ (sym e))

put_alike : (key : Key) (value : List ℕ) (values part after : Map) → after ≡ changed part (put key.0 value) → ChangesAlike key values (changed values (put key.0 value)) part after
put_alike key value values part after is = record {
  same = λ q e. cc (get-insert nat_list_cmp_total values key.0 value q.0, get-insert nat_list_cmp_total part key.0 value q.0);
  other = λ q differ. cc (get-insert nat_list_cmp_total values key.0 value q.0, apart key q differ);
}

delete_alike : (key : Key) (values part after : Map) → after ≡ changed part (delete key.0) → ChangesAlike key values (changed values (delete key.0)) part after
delete_alike key values part after is = record {
  same = λ q e. cc (get-remove nat_list_cmp_total values key.0 q.0, get-remove nat_list_cmp_total part key.0 q.0);
  other = λ q differ. cc (get-remove nat_list_cmp_total values key.0 q.0, apart key q differ);
}

setting_alike : (key : Key) (new : Option (List ℕ)) (values part after : Map) → after ≡ changed part (setting key.0 new)
    → ChangesAlike key values (changed values (setting key.0 new)) part after
setting_alike key (Some value) values part after is = put_alike key value values part after is
setting_alike key None values part after is = delete_alike key values part after is

-- the whole map after the event, whose reply is that of the part
pub record KeyStep (key : Key) (event : Event) (reply : PlainReply) (values part after : Map) : Type 0 where
  pub to : Map
  pub step : SetStep values event reply to
  pub alike : ChangesAlike key values to part after

-- the map stays
still : (key : Key) (event : Event) (reply : PlainReply) (values part after : Map) → SetStep values event reply values → after ≡ part → KeyStep key event reply values part after
still key event reply values part after step is = record { to = values; step = step; alike = unchanged key values part after is }

module _ {F : Type 0} (values part after : Map) where
  pub put_step : (key : Key) (value : List ℕ) (reply : Reply F) → Step part (Put key value) reply after → KeyStep key (Put key value) (plain reply) values part after
  put_step key value (Accepted n) step = record { to = changed values (put key.0 value); step = refl; alike = put_alike key value values part after step }
  put_step key value reply step = search (rules, arith, still)

  pub delete_step : (key : Key) (reply : Reply F) → Step part (Delete key) reply after → KeyStep key (Delete key) (plain reply) values part after
  delete_step key (Accepted n) step = record { to = changed values (delete key.0); step = refl; alike = delete_alike key values part after step }
  delete_step key (Refused refusal) step = record { to = values; step = refl; alike = unchanged key values part after step }
  delete_step key reply step = search rules

  pub swap_step : (key : Key) (old new : Option (List ℕ)) (reply : Reply F) → get values key.0 ≡ get part key.0 → Step part (Swap key old new) reply after
      → KeyStep key (Swap key old new) (plain reply) values part after
  swap_step key old new (Accepted n) here step = record { to = changed values (setting key.0 new); step = (here ∙ step.0, refl); alike = setting_alike key new values part after step.1 }
  swap_step key old new Differs here step = still _ _ _ _ _ _ (λ e. step.0 (sym here ∙ e), refl) step.1
  swap_step key old new reply here step = search (rules, arith, still)

  pub get_step : (key : Key) (reply : Reply F) → get values key.0 ≡ get part key.0 → Step part (Get key) reply after → KeyStep key (Get key) (plain reply) values part after
  get_step key (Found found) here step = still _ _ _ _ _ _ (here ∙ step.0, refl) step.1
  get_step key Absent here step = still _ _ _ _ _ _ (here ∙ step.0, refl) step.1
  get_step key reply here step = search (rules, arith, still)

  -- a flush changes no map
  pub flush_same : (reply : Reply F) → Step part Flush reply after → after ≡ part
  flush_same reply step = search arith

  -- and its reply is one that any map may give
  pub flush_step : (reply : Reply F) → Step part Flush reply after → Step values Flush (plain reply) values
  flush_step reply step = search arith
