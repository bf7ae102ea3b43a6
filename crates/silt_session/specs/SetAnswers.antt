-- The replies of a set, from those of its shards.
use Rattle.std.specs.Prelude.{◌≡◌, ◌<◌, ℕ, IsSomeAnd, List, [], ◌∷◌, ◌++◌, length, set, slice_get, Some}
use Rattle.std.specs.List.{AllZip}
use Rattle.silt_event.specs.Events.{PlainReply}
use Rattle.silt_event.specs.declared.event.Event.{Event}
use Rattle.silt_event.specs.declared.event.Event.TheVariants.{Put, Delete, Swap, Flush, Get, Convert, Merge}
use Rattle.silt_event.specs.declared.reply.Reply.TheVariants.{NotServed}
use Rattle.silt_event.specs.declared.facts.Facts.{Facts}
use Rattle.silt_shards.specs.Routing.{routed, shard_of}
use Rattle.silt_shards.specs.SetFacts.{SetInforms}
use Rattle.silt_shards.specs.Sets.{joined}
use Rattle.silt_session.specs.declared.set.Route.{Route}
use Rattle.silt_session.specs.declared.set.Route.TheVariants.{One, All, Nowhere}

-- which shards of so many do an event: that of its key, all of them a flush, and none a step
abbrev pub route_of : ℕ → Event → Route
route_of count (Put key value) = One (shard_of count key)
route_of count (Delete key) = One (shard_of count key)
route_of count (Swap key old new) = One (shard_of count key)
route_of count (Get key) = One (shard_of count key)
route_of count Flush = All
route_of count Convert = Nowhere
route_of count Merge = Nowhere

-- one shard of a route is one of so many
abbrev pub IsShardWithin : ℕ → Route → Type 0
IsShardWithin count (One number) = number < count
IsShardWithin count route = Unit {0}

-- ---- what a set gives

module _ {A : Type 0} (gives : A → Event → PlainReply → Type 0) (shards : List A) where
  -- the shard of this number gives the reply
  abbrev pub GivesAt : ℕ → Event → PlainReply → Type 0
  GivesAt number event reply = IsSomeAnd (slice_get shards number) (λ shard. gives shard event reply)

  -- each shard gives a reply to a flush, and these are joined
  abbrev pub GivesJoined : PlainReply → Type 0
  GivesJoined reply = (parts : List PlainReply) × AllZip (λ shard part. gives shard Flush part) shards parts × (reply ≡ joined parts)

  -- the shards of this route give the reply
  abbrev pub GivesBy : Route → Event → PlainReply → Type 0
  GivesBy (One number) event reply = GivesAt number event reply
  GivesBy All event reply = GivesJoined reply
  GivesBy Nowhere event reply = reply ≡ NotServed

  -- The shard of an event's key gives the reply, at its place among the shards. A flush has the joined replies of all. A step is not served.
  abbrev pub SetGives : Event → PlainReply → Type 0
  SetGives event reply = GivesBy (route_of (length shards) event) event reply

-- ---- the events of each shard

-- each shard has at its place something that fits it
abbrev pub EachShard : {A B : Type 0} → List A → List B → (ℕ → A → B → Type 0) → Type 0
EachShard {A} {B} shards things Fits = (i : ℕ) (shard : A) → slice_get shards i ≡ Some shard → IsSomeAnd (slice_get things i) (λ thing. Fits i shard thing)

-- at this place are these events
abbrev pub HasPart : {V : Type 0} → List V → (V → List Event) → ℕ → List Event → Type 0
HasPart parts items i events = IsSomeAnd (slice_get parts i) (λ part. items part ≡ events)

-- an event comes behind those of each shard that does it, and no other shard has it
abbrev pub DealsTo : {V : Type 0} → ℕ → Event → List V → List V → (V → List Event) → Type 0
DealsTo count event old new items =
    (length new ≡ length old) × ((i : ℕ) (events : List Event) → HasPart old items i events → HasPart new items i (events ++ routed count i (event ∷ [])))

-- ---- the replies of each shard

-- the first reply of one shard is taken
abbrev pub DrawsFrom : {Q : Type 0} → ℕ → List Q → PlainReply → List Q → (Q → List PlainReply) → Type 0
DrawsFrom {Q} number old reply new items =
    (before : Q) × (after : Q) × (slice_get old number ≡ Some before) × (items before ≡ reply ∷ items after) × (new ≡ set old number after)

-- the first reply of each shard is taken
abbrev pub DrawsHeads : {Q : Type 0} → List Q → List PlainReply → List Q → (Q → List PlainReply) → Type 0
DrawsHeads [] [] [] items = Unit {0}
DrawsHeads (before ∷ old) (head ∷ heads) (after ∷ new) items = (items before ≡ head ∷ items after) × DrawsHeads old heads new items
DrawsHeads old heads new items = ⊥

-- the reply to an event of this route is taken from the shards
abbrev pub Draws : {Q : Type 0} → List Q → Route → PlainReply → List Q → (Q → List PlainReply) → Type 0
Draws old (One number) reply new items = DrawsFrom number old reply new items
Draws old All reply new items = (heads : List PlainReply) × DrawsHeads old heads new items × (reply ≡ joined heads)
Draws old Nowhere reply new items = (reply ≡ NotServed) × (new ≡ old)

-- the same of events in order
abbrev pub DrawsAll : {Q : Type 0} → List Q → List Route → List PlainReply → List Q → (Q → List PlainReply) → Type 0
DrawsAll old [] [] new items = new ≡ old
DrawsAll {Q} old (route ∷ routes) (reply ∷ replies) new items = (mid : List Q) × Draws old route reply mid items × DrawsAll mid routes replies new items
DrawsAll old routes replies new items = ⊥

-- the replies to events of these routes are taken from the shards, one after the other
abbrev pub DrawsEach : {Q : Type 0} → List Q → List Route → List PlainReply → (Q → List PlainReply) → Type 0
DrawsEach {Q} old routes replies items = (new : List Q) × DrawsAll old routes replies new items

-- ---- the facts of a set

-- The facts of a set are the sums of its shards', each what its shard gave at some moment: of each number of Facts, the generation too.
abbrev pub SumsFacts : {A : Type 0} → (A → Facts → Type 0) → List A → Facts → Type 0
SumsFacts informs shards facts = SetInforms (λ shard given. IsSomeAnd given (informs shard)) shards (Some facts)
