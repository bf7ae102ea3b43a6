-- What a set of shards does. `answers` is what an answerer that is one shard does: before, after, event and reply.
use Rattle.std.specs.Prelude.{◌≡◌, ◌-◌, ◌^◌, ℕ, min, Bool, true, false, not, All, List, [], ◌∷◌, length, set, slice_get, find, sum_by, unwrap_or, Some}
use Rattle.silt_event.specs.Events.{PlainReply, acknowledged_by}
use Rattle.silt_event.specs.declared.event.Event.{Event}
use Rattle.silt_event.specs.declared.event.Event.TheVariants.{Put, Delete, Swap, Flush, Get, Convert, Merge}
use Rattle.silt_event.specs.declared.reply.Reply.TheVariants.{Acknowledged, NotServed}
use Rattle.silt_shards.specs.Routing.{IsShardCount, shard_of}

-- ---- the values of a set

-- the length of the values of a set: that of its first shard's
abbrev pub value_len_of : {A : Type 0} → (A → ℕ) → List A → ℕ
value_len_of value_len [] = 0
value_len_of value_len (first ∷ rest) = value_len first

-- all shards have values of one length
abbrev pub AreAlike : {A : Type 0} → (A → ℕ) → List A → Type 0
AreAlike value_len shards = All (λ shard. value_len shard ≡ value_len_of value_len shards) shards

-- what is true of each set: it has 2 to 64 shards, with values of one length
pub record IsSet {A : Type 0} (value_len : A → ℕ) (shards : List A) : Type 0 where
  pub count : IsShardCount (length shards)
  pub alike : AreAlike value_len shards

-- ---- a flush of all shards

-- the reply acknowledges commands
abbrev pub acknowledges : PlainReply → Bool
acknowledges (Acknowledged n) = true
acknowledges reply = false

-- a sum of counts, but no more than a reply can hold
abbrev pub as_count : ℕ → ℕ
as_count sum = min sum (2 ^ 64 - 1)

-- the reply to a flush, from those of all shards in their order: the first that acknowledges nothing, or else the sum of what they acknowledge
abbrev pub joined : List PlainReply → PlainReply
joined parts = unwrap_or (find (λ part. not (acknowledges part)) parts) (Acknowledged (as_count (sum_by (acknowledged_by 0) parts)))

-- ---- one event

module _ {A : Type 0} (answers : A → A → Event → PlainReply → Type 0) where
  -- one shard does the event, and the others stay as they are
  abbrev pub DoesAt : ℕ → List A → List A → Event → PlainReply → Type 0
  DoesAt shard old new event reply = (before : A) × (after : A) × (slice_get old shard ≡ Some before) × answers before after event reply × (new ≡ set old shard after)

  -- each shard does one flush, with its own reply
  abbrev pub FlushesEach : List A → List PlainReply → List A → Type 0
  FlushesEach [] [] [] = Unit {0}
  FlushesEach (before ∷ old) (part ∷ parts) (after ∷ new) = answers before after Flush part × FlushesEach old parts new
  FlushesEach old parts new = ⊥

  -- A set does an event: the shard of its key does it, and each shard does a flush. A step of background work has no shard, and is not served.
  abbrev pub SetDoes : List A → List A → Event → PlainReply → Type 0
  SetDoes old new (Put key value) reply = DoesAt (shard_of (length old) key) old new (Put key value) reply
  SetDoes old new (Delete key) reply = DoesAt (shard_of (length old) key) old new (Delete key) reply
  SetDoes old new (Swap key expected value) reply = DoesAt (shard_of (length old) key) old new (Swap key expected value) reply
  SetDoes old new (Get key) reply = DoesAt (shard_of (length old) key) old new (Get key) reply
  SetDoes old new Flush reply = (parts : List PlainReply) × FlushesEach old parts new × (reply ≡ joined parts)
  SetDoes old new Convert reply = (new ≡ old) × (reply ≡ NotServed)
  SetDoes old new Merge reply = (new ≡ old) × (reply ≡ NotServed)
