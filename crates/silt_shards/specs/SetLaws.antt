-- What a set does is what its shards do.
use Rattle.std.specs.Prelude.{◌≡◌, ℕ, true, All, sum_by, List, length, filter, slice_get, zip, Some}
use Rattle.std.specs.List.{AllZip}
use Rattle.silt_event.specs.Events.{AnswersEach, PlainReply, acknowledged_by}
use Rattle.silt_event.specs.declared.event.Event.{Event}
use Rattle.silt_event.specs.declared.event.Event.TheVariants.{Flush}
use Rattle.silt_event.specs.declared.reply.Reply.TheVariants.{Acknowledged}
use Rattle.silt_shards.specs.Routing.{is_routed, routed}
use Rattle.silt_shards.specs.Sets.{SetDoes, acknowledges, as_count, joined}

-- the shard's own reply is what the set replies; to a flush, it is the shard's part of that
abbrev pub IsPart : ℕ → Event → PlainReply → PlainReply → Type 0
IsPart shard Flush reply part = (parts : List PlainReply) × (reply ≡ joined parts) × (slice_get parts shard ≡ Some part)
IsPart shard event reply part = part ≡ reply

-- the shard's own replies are parts of what the set replies to the events that the shard does
abbrev pub AreParts : ℕ → ℕ → List Event → List PlainReply → List PlainReply → Type 0
AreParts count shard events replies own =
    AllZip (λ asked part. IsPart shard asked.0 asked.1 part) (filter (λ (asked : Event × PlainReply). is_routed count shard asked.0) (zip events replies)) own

-- one shard's run: it does exactly the events of its keys and all flushes, and its replies are parts of the set's
pub record ShardDoes {A : Type 0} (answers : A → A → Event → PlainReply → Type 0) (count shard : ℕ) (before after : A) (events : List Event) (replies : List PlainReply) : Type 0 where
  pub own : List PlainReply
  pub runs : AnswersEach answers before (routed count shard events) own after
  pub parts : AreParts count shard events replies own

-- if a set does events with replies, each shard does exactly the events of its keys, and all flushes
abbrev pub ProjectionLaw : {A : Type 0} → (A → A → Event → PlainReply → Type 0) → Type 0
ProjectionLaw {A} answers =
    (old new : List A) (events : List Event) (replies : List PlainReply) → AnswersEach (SetDoes answers) old events replies new
    → (shard : ℕ) (before : A) → slice_get old shard ≡ Some before
    → (after : A) × (slice_get new shard ≡ Some after) × ShardDoes answers (length old) shard before after events replies

-- a flush of all shards that acknowledges commands: each shard's reply acknowledges some, and the sum of these is the number in the reply
abbrev pub JoinedLaw : Type 0
JoinedLaw =
    (parts : List PlainReply) (n : ℕ) → joined parts ≡ Acknowledged n
    → All (λ part. acknowledges part ≡ true) parts × (n ≡ as_count (sum_by (acknowledged_by 0) parts))
