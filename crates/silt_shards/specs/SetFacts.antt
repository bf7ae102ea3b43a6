-- The facts of a set of shards.
use Rattle.std.specs.Prelude.{◌≡◌, ◌+◌, ◌⊎◌, List, [], ◌∷◌, Option, Some, None}
use Rattle.silt_event.specs.declared.admin.Admin.{Admin}
use Rattle.silt_event.specs.declared.admin.Admin.TheVariants as admin_case
use Rattle.silt_event.specs.declared.admin.AdminReply.{AdminReply}
use Rattle.silt_event.specs.declared.admin.AdminReply.TheVariants.{Info, NotServed}
use Rattle.silt_event.specs.declared.facts.Facts.{Facts}
use Rattle.silt_event.specs.Queries.{facts_said}
use Rattle.silt_shards.specs.Sets.{as_count}

-- the facts of no store
abbrev pub no_facts : Facts
no_facts = record {
  stores = 0;
  failed = 0;
  commands = 0;
  charge = 0;
  capacity = 0;
  generation = 0;
  frozen_logs = 0;
  hash_stores = 0;
  sorted_entries = 0;
  converted_slots = 0;
  merge_steps = 0;
}

-- the sums of two stores' facts, each no more than a fact can hold
abbrev pub plus : Facts → Facts → Facts
plus a b = record {
  stores = as_count (a.stores + b.stores);
  failed = as_count (a.failed + b.failed);
  commands = as_count (a.commands + b.commands);
  charge = as_count (a.charge + b.charge);
  capacity = as_count (a.capacity + b.capacity);
  generation = as_count (a.generation + b.generation);
  frozen_logs = as_count (a.frozen_logs + b.frozen_logs);
  hash_stores = as_count (a.hash_stores + b.hash_stores);
  sorted_entries = as_count (a.sorted_entries + b.sorted_entries);
  converted_slots = as_count (a.converted_slots + b.converted_slots);
  merge_steps = as_count (a.merge_steps + b.merge_steps);
}

module _ {A : Type 0} (informs : A → Option Facts → Type 0) where
  -- shards add their facts to these, one after the other; there are none if one gives none
  abbrev pub AddsFacts : Facts → List A → Option Facts → Type 0
  AddsFacts sum [] facts = facts ≡ Some sum
  AddsFacts sum (shard ∷ rest) facts =
      (informs shard None × (facts ≡ None)) ⊎ ((part : Facts) × informs shard (Some part) × AddsFacts (plus sum part) rest facts)

  -- the facts of a set are the sums of its shards'
  abbrev pub SetInforms : List A → Option Facts → Type 0
  SetInforms shards facts = AddsFacts no_facts shards facts

module _ {A : Type 0} (administers : A → Admin → AdminReply → Type 0) where
  -- an answerer gives these facts, or gives none
  abbrev pub Informs : A → Option Facts → Type 0
  Informs answerer facts = (reply : AdminReply) × administers answerer admin_case.Info reply × (facts_said reply ≡ facts)

  -- a set gives its facts, or says that they are not served if a shard gives none; it does nothing else
  abbrev pub AdministersSet : List A → Admin → AdminReply → Type 0
  AdministersSet shards admin_case.Info (Info facts counts) = SetInforms Informs shards (Some facts) × (counts ≡ None)
  AdministersSet shards admin_case.Info reply = SetInforms Informs shards None × (reply ≡ NotServed)
  AdministersSet shards command reply = reply ≡ NotServed
