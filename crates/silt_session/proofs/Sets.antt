-- The replies of shards, woven into those of a set.
use Rattle.silt_session.proofs.Common.{◌≡◌, ◌⊎◌, inl, inr, ℕ, zero, suc, ◌<◌, ◌≤◌, ◌+◌, Bool, false, List, [], ◌∷◌, ◌++◌, drop, get_or, length, map, take, refl, sym, ◌∙◌, ap, arith, IfOk}
use Rattle.silt_session.proofs.Common.{IsSomeAnd, true, Option, Some, None, IfSome, Result, Ok, Err, slice_get, AllZip, result_ok, append-nil, length-set, take_all, cases_eq, AllZip-long}
use Rattle.silt_session.proofs.Common.{same_Some, PlainReply, Event, EachShard, HasPart, ◌==◌, set, OnOk, length-append, length-take-le, map-append, take_more, eq-eqb, ne_eqb, AllZip-left}
use Rattle.silt_session.proofs.Common.{none-some, slice_get_read, slice_get_within, DealsTo, Draws, DrawsAll, DrawsEach, DrawsFrom, DrawsHeads, GivesAt, SetGives, route_of, option_to_list}
use Rattle.silt_session.proofs.Common.{filter-append, is_routed, routed, joined, changed_next, get_set_other, get_set_same, Route}
use Rattle.silt_event.specs.declared.event.Event.TheVariants.{Put, Flush, Convert, Merge}
use Rattle.silt_session.specs.declared.set.Route.TheVariants.{One, All as ToAll, Nowhere}
use Rattle.silt_session.proofs.Clients.{zip_places}

-- ---- what is at a place

module _ {X : Type 0} (P : X → Type 0) where
  pub some_and : (o : Option X) → IsSomeAnd o P → (x : X) × (o ≡ Some x) × P x
  some_and (Some x) held = (x, refl, held)
  some_and None held = absurd held

-- what is at a place within
has_item : {X : Type 0} (xs : List X) (i : ℕ) → i < length xs → (x : X) × (slice_get xs i ≡ Some x)
has_item [] i within = absurd (omega (arith, within))
has_item (x ∷ xs) zero within = (x, refl)
has_item (x ∷ xs) (suc i) within = has_item xs i (omega (arith, within))

-- ---- the replies to one event

module _ {Q : Type 0} (items : Q → List PlainReply) where
  -- each list has lost its first reply
  heads_at : (old : List Q) (heads : List PlainReply) (new : List Q) → DrawsHeads old heads new items → (i : ℕ) (before : Q) → slice_get old i ≡ Some before
      → (head : PlainReply) × (after : Q) × (slice_get heads i ≡ Some head) × (slice_get new i ≡ Some after) × (items before ≡ head ∷ items after)
  heads_at [] [] [] all i before at = absurd (none-some before at)
  heads_at (x ∷ old) (head ∷ heads) (y ∷ new) all zero before at = (head, y, refl, refl, ap items (sym (same_Some x before at)) ∙ all.0)
  heads_at (x ∷ old) (head ∷ heads) (y ∷ new) all (suc i) before at = heads_at old heads new all.1 i before at
  heads_at old heads new all i before at = absurd all

  heads_long : (old : List Q) (heads : List PlainReply) (new : List Q) → DrawsHeads old heads new items → (length heads ≡ length old) × (length new ≡ length old)
  heads_long [] [] [] all = (refl, refl)
  heads_long (x ∷ old) (head ∷ heads) (y ∷ new) all = let more = heads_long old heads new all.1 in (ap suc more.0, ap suc more.1)
  heads_long old heads new all = absurd all

  -- one list more has lost its first reply
  pub heads_more : (old : List Q) (heads : List PlainReply) (new : List Q) (before after : Q) (head : PlainReply) → DrawsHeads old heads new items
      → items before ≡ head ∷ items after → DrawsHeads (old ++ before ∷ []) (heads ++ head ∷ []) (new ++ after ∷ []) items
  heads_more [] [] [] before after head all is = (is, tt)
  heads_more (x ∷ old) (h ∷ heads) (y ∷ new) before after head all is = (all.0, heads_more old heads new before after head all.1 is)
  heads_more old heads new before after head all is = absurd all

-- ---- the replies to all events

module _ {A Q : Type 0} (gives : A → Event → PlainReply → Type 0) (shards : List A) (items : Q → List PlainReply) where
  -- each shard gives its replies to its events, and there are no others
  abbrev Fits : List Event → List Q → Type 0
  Fits events told = EachShard shards told (λ i shard list. AllZip (gives shard) (routed (length shards) i events) (items list))

  -- an event of one shard takes the first reply of that
  one_woven : (e : Event) (events : List Event) (number : ℕ) (told new : List Q) (reply : PlainReply) → ((i : ℕ) → is_routed (length shards) i e ≡ (number == i))
      → (shard : A) → slice_get shards number ≡ Some shard → Fits (e ∷ events) told → DrawsFrom number told reply new items
      → GivesAt gives shards number e reply × Fits events new
  one_woven e events number told new reply only shard there fits (before, after, here, drawn, same) =
      let own : is_routed (length shards) number e ≡ true = only number ∙ eq-eqb number number refl in
      let parts = rw (here, own, drawn) at (fits number shard there) in (
        rw there parts.0,
        λ i other other_there. elim (cases_eq number i) [
          | inl is ↦ let mine : other ≡ shard = cc in rw (same, ← is, get_set_same told number before after here, mine) parts.1
          | inr apart ↦ rw (same, get_set_other told number i after apart) (rw (only i ∙ ne_eqb number i apart) at (fits i other other_there))
        ],
      )

  -- a flush takes the first reply of each
  all_woven : (events : List Event) (told new : List Q) (heads : List PlainReply) → length told ≡ length shards → Fits (Flush ∷ events) told
      → DrawsHeads told heads new items → AllZip (λ shard part. gives shard Flush part) shards heads × Fits events new
  all_woven events told new heads count fits drawn = (
    zip_places (λ shard part. gives shard Flush part) shards heads ((heads_long items told heads new drawn).0 ∙ count) (λ i shard part there here.
        let one = step i shard there in rw (same_Some one.0 part (sym one.2 ∙ here)) at one.4),
    λ i shard there. let one = step i shard there in rw one.3 one.5,
  )
    where
      step : (i : ℕ) (shard : A) → slice_get shards i ≡ Some shard
          → (head : PlainReply) × (after : Q) × (slice_get heads i ≡ Some head) × (slice_get new i ≡ Some after) × gives shard Flush head
          × AllZip (gives shard) (routed (length shards) i events) (items after)
      step i shard there =
          let found = some_and _ (slice_get told i) (fits i shard there) in
          let (head, after, in_heads, in_new, is) = heads_at items told heads new drawn i found.0 found.1 in
          let parts = rw is at found.2 in (head, after, in_heads, in_new, parts.0, parts.1)

  -- a step takes none
  none_woven : (e : Event) (events : List Event) (told new : List Q) → ((i : ℕ) → is_routed (length shards) i e ≡ false) → Fits (e ∷ events) told → new ≡ told → Fits events new
  none_woven e events told new none fits same = λ i shard there. rw same (rw (none i) at (fits i shard there))

  -- the shard of a drawn reply
  drawn_at : (e : Event) (events : List Event) (number : ℕ) (told new : List Q) (reply : PlainReply) → ((i : ℕ) → is_routed (length shards) i e ≡ (number == i))
      → length told ≡ length shards → Fits (e ∷ events) told → DrawsFrom number told reply new items
      → GivesAt gives shards number e reply × Fits events new × (length new ≡ length shards)
  drawn_at e events number told new reply only count fits drawn =
      let shard = has_item shards number (omega (arith, count, slice_get_within told number drawn.0 drawn.2)) in
      let woven = one_woven e events number told new reply only shard.0 shard.1 fits drawn in
      (woven.0, woven.1, ap length drawn.4 ∙ (length-set told number drawn.1 ∙ count))

  -- one event has its reply
  woven_one : (e : Event) (events : List Event) (told mid : List Q) (reply : PlainReply) → length told ≡ length shards → Fits (e ∷ events) told
      → Draws told (route_of (length shards) e) reply mid items → SetGives gives shards e reply × Fits events mid × (length mid ≡ length shards)
  woven_one Flush events told mid reply count fits drawn =
      let woven = all_woven events told mid drawn.0 count fits drawn.1 in
      ((drawn.0, woven.0, drawn.2), woven.1, (heads_long items told drawn.0 mid drawn.1).1 ∙ count)
  woven_one Convert events told mid reply count fits drawn = (drawn.0, none_woven Convert events told mid (λ i. refl) fits drawn.1, ap length drawn.1 ∙ count)
  woven_one Merge events told mid reply count fits drawn = (drawn.0, none_woven Merge events told mid (λ i. refl) fits drawn.1, ap length drawn.1 ∙ count)
  woven_one (Put key value) events told mid reply count fits drawn = drawn_at _ events _ told mid reply (λ i. refl) count fits drawn
  woven_one event events told mid reply count fits drawn = drawn_at _ events _ told mid reply (λ i. refl) count fits drawn

  -- each event has its reply
  pub woven_all : (events : List Event) (told new : List Q) (replies : List PlainReply) → length told ≡ length shards → Fits events told
      → DrawsAll told (map (route_of (length shards)) events) replies new items → AllZip (SetGives gives shards) events replies
  woven_all [] told new [] count fits drawn = tt
  woven_all (e ∷ events) told new (reply ∷ replies) count fits (mid, first, rest) =
      let one = woven_one e events told mid reply count fits first in
      (one.0, woven_all events mid new replies one.2 one.1 rest)
  woven_all events told new replies count fits drawn = absurd drawn

-- one reply more is drawn
pub draws_more : {Q : Type 0} (old mid new : List Q) (routes : List Route) (replies : List PlainReply) (route : Route) (reply : PlainReply) (items : Q → List PlainReply)
    → DrawsAll old routes replies mid items → Draws mid route reply new items → DrawsAll old (routes ++ route ∷ []) (replies ++ reply ∷ []) new items
draws_more old mid new [] [] route reply items all one = (new, rw all at one, refl)
draws_more old mid new (r ∷ routes) (p ∷ replies) route reply items (first, drawn, all) one = (first, drawn, draws_more first mid new routes replies route reply items all one)
draws_more old mid new routes replies route reply items all one = absurd all

-- ---- the events of each shard

-- this shard is on the route
abbrev is_on : Route → ℕ → Bool
is_on (One number) i = number == i
is_on ToAll i = true
is_on Nowhere i = false

-- a shard does an event if it is on the event's route
pub routed_by : (count : ℕ) (e : Event) (i : ℕ) → is_routed count i e ≡ is_on (route_of count e) i
routed_by count (Put key value) i = refl
routed_by count event i = refl

module _ {V : Type 0} (items : V → List Event) (count : ℕ) where
  -- one event is dealt to the shards of its route
  pub deals_one : (e : Event) (number : ℕ) (old new : List V) (before after : V) → route_of count e ≡ One number → slice_get old number ≡ Some before
      → items after ≡ items before ++ e ∷ [] → new ≡ set old number after → DealsTo count e old new items
  deals_one e number old new before after route here added same = (
    ap length same ∙ length-set old number after,
    λ i events had.
        let on : is_routed count i e ≡ (number == i) = routed_by count e i ∙ ap (λ (r : Route). is_on r i) route in
        elim (cases_eq number i) [
          | inl is ↦
              let was : items before ≡ events = rw (← is, here) at had in
              rw (same, on ∙ eq-eqb number i is, ← is, get_set_same old number before after here, added, was)
          | inr apart ↦ rw (same, get_set_other old number i after apart, on ∙ ne_eqb number i apart, append-nil) had
        ],
  )

  pub deals_all : (e : Event) (old new : List V) → route_of count e ≡ ToAll → AllZip (λ before after. items after ≡ items before ++ e ∷ []) old new → DealsTo count e old new items
  deals_all e old new route all = (
    AllZip-long (λ before after. items after ≡ items before ++ e ∷ []) old new all,
    λ i events had.
        let found = some_and (λ part. items part ≡ events) (slice_get old i) had in
        let on : is_routed count i e ≡ true = routed_by count e i ∙ ap (λ (r : Route). is_on r i) route in
        rw on (rw (found.1, found.2) at (AllZip-left (λ before after. items after ≡ items before ++ e ∷ []) old new all i)),
  )

-- the only event of a route to all is a flush
pub flush_only : (count : ℕ) (e : Event) → route_of count e ≡ ToAll → e ≡ Flush
flush_only count Flush is = refl
flush_only count event is = absurd (cc)

-- a flush is dealt to all, unless out of memory
pub all_dealt : {V E : Type 0} (items : V → List Event) (count : ℕ) (e : Event) (old new : List V) (done : Result (Unit {0}) E) → route_of count e ≡ ToAll
    → OnOk done (AllZip (λ before after. items after ≡ items before ++ Flush ∷ []) old new) → OnOk done (DealsTo count e old new items)
all_dealt items count e old new (Ok u) route all =
    deals_all items count e old new route (rw (flush_only count e route) all)
all_dealt items count e old new (Err r) route all = tt

-- ---- a list that grows beside the shards

-- the items of a list with one more
get_append : {X : Type 0} (xs : List X) (x : X) (i : ℕ) (z : X) → slice_get (xs ++ x ∷ []) i ≡ Some z → (slice_get xs i ≡ Some z) ⊎ ((i ≡ length xs) × (z ≡ x))
get_append [] x zero z at = inr (refl, sym (same_Some x z at))
get_append [] x (suc i) z at = absurd (none-some z at)
get_append (a ∷ xs) x zero z at = inl at
get_append (a ∷ xs) x (suc i) z at = elim (get_append xs x i z at) [ inl front ↦ inl front | inr last ↦ inr (ap suc last.0, last.1) ]

get_front : {X : Type 0} (xs : List X) (x : X) (i : ℕ) (z : X) → slice_get xs i ≡ Some z → slice_get (xs ++ x ∷ []) i ≡ Some z
get_front [] x i z at = absurd (none-some z at)
get_front (a ∷ xs) x zero z at = at
get_front (a ∷ xs) x (suc i) z at = get_front xs x i z at

get_last : {X : Type 0} (xs : List X) (x : X) → slice_get (xs ++ x ∷ []) (length xs) ≡ Some x
get_last [] x = refl
get_last (a ∷ xs) x = get_last xs x

-- one shard more has something that fits it
pub each_more : {A B : Type 0} (shards : List A) (things : List B) (Fits : ℕ → A → B → Type 0) (shard : A) (thing : B) → length things ≡ length shards
    → EachShard shards things Fits → Fits (length shards) shard thing → EachShard (shards ++ shard ∷ []) (things ++ thing ∷ []) Fits
each_more shards things Fits shard thing count each one = λ i s here. elim (get_append shards shard i s here) [
  | inl front ↦ let found = some_and (Fits i s) (slice_get things i) (each i s front) in rw (get_front things thing i found.0 found.1) found.2
  | inr (at_end, is) ↦ rw (at_end, ← count, get_last things thing, count, is) one
]

-- the first item of what is left of a list
pub get_left : {X : Type 0} (xs : List X) (k : ℕ) (x : X) (rest : List X) → drop k xs ≡ x ∷ rest → slice_get xs k ≡ Some x
get_left xs zero x rest is = ap (λ l. slice_get l 0) is
get_left [] (suc k) x rest is = ap (λ l. slice_get l 0) is
get_left (a ∷ xs) (suc k) x rest is = get_left xs k x rest is

-- the shards so far, and one more
pub each_next : {A B : Type 0} (shards : List A) (things : List B) (Fits : ℕ → A → B → Type 0) (i : ℕ) (shard : A) (thing : B) → i < length shards
    → shard ≡ get_or shards i shard → length things ≡ i → EachShard (take i shards) things Fits → Fits i shard thing
    → EachShard (take (i + 1) shards) (things ++ thing ∷ []) Fits
each_next shards things Fits i shard thing within is count each one =
    let long : length (take i shards) ≡ i = length-take-le i shards (omega (arith, within)) in
    rw (take_more shards i shard within, ← is) (each_more (take i shards) things Fits shard thing (count ∙ sym long) each (rw long one))

-- the shards so far are all
pub each_all : {A B : Type 0} (shards : List A) (things : List B) (Fits : ℕ → A → B → Type 0) (i : ℕ) → length shards ≤ i → EachShard (take i shards) things Fits
    → EachShard shards things Fits
each_all shards things Fits i over each = rw (take_all i shards over) at each

-- one shard more was asked for the replies to its events
pub asked_next : {A P X : Type 0} (are_asked : A → List Event → X → Type 0) (part_events : P → List Event) (shards : List A) (parts left rest : List P) (asked now : List X) (i : ℕ)
    (shard : A) (part : P) (one : X) → i < length shards → shard ≡ get_or shards i shard → length asked ≡ i → left ≡ drop i parts → left ≡ part ∷ rest → now ≡ asked ++ one ∷ []
    → EachShard (take i shards) asked (λ n s x. IsSomeAnd (slice_get parts n) (λ p. are_asked s (part_events p) x)) → are_asked shard (part_events part) one
    → EachShard (take (i + 1) shards) now (λ n s x. IsSomeAnd (slice_get parts n) (λ p. are_asked s (part_events p) x))
asked_next are_asked part_events shards parts left rest asked now i shard part one within is count front first added each begun =
    rw added (each_next shards asked _ i shard one within is count each (rw (get_left parts i part rest (sym front ∙ first)) begun))

-- the replies of one shard more have come
pub told_next : {A X Q : Type 0} (gives : A → Event → PlainReply → Type 0) (are_asked : A → List Event → X → Type 0) (items : Q → List PlainReply) (shards : List A)
    (asked left rest : List X) (told now : List Q) (i : ℕ) (shard : A) (one : X) (list : Q) (replies : List PlainReply) → i < length shards → shard ≡ get_or shards i shard → length told ≡ i
    → left ≡ drop i asked → left ≡ one ∷ rest → now ≡ told ++ list ∷ [] → items list ≡ replies
    → EachShard (take i shards) told (λ n s q. IsSomeAnd (slice_get asked n) (λ x. (some : List Event) → are_asked s some x → AllZip (gives s) some (items q)))
    → ((some : List Event) → are_asked shard some one → AllZip (gives shard) some replies)
    → EachShard (take (i + 1) shards) now (λ n s q. IsSomeAnd (slice_get asked n) (λ x. (some : List Event) → are_asked s some x → AllZip (gives s) some (items q)))
told_next gives are_asked items shards asked left rest told now i shard one list replies within is count front first added same each came =
    rw added (each_next shards told _ i shard list within is count each (rw (get_left asked i one rest (sym front ∙ first), same) came))

-- ---- the replies of the shards to their events

module _ {A P X Q : Type 0} (gives : A → Event → PlainReply → Type 0) (are_asked : A → List Event → X → Type 0) (shards : List A)
    (part_events : P → List Event) (items : Q → List PlainReply) where
  -- each shard has the replies to the events that were dealt to it, if these were asked and waited for
  pub asked_fits : (events : List Event) (parts : List P) (asked : List X) (told : List Q)
      → ((i : ℕ) → i < length shards → HasPart parts part_events i (routed (length shards) i events))
      → EachShard shards asked (λ i shard one. IsSomeAnd (slice_get parts i) (λ part. are_asked shard (part_events part) one))
      → EachShard shards told (λ i shard list. IsSomeAnd (slice_get asked i) (λ one. (some : List Event) → are_asked shard some one → AllZip (gives shard) some (items list)))
      → EachShard shards told (λ i shard list. AllZip (gives shard) (routed (length shards) i events) (items list))
  asked_fits events parts asked told dealt begun finished = λ i shard here.
      let own = some_and _ (slice_get parts i) (dealt i (slice_get_within shards i shard here)) in
      let list = some_and _ (slice_get told i) (finished i shard here) in
      let waited = some_and _ (slice_get asked i) list.2 in
      rw list.1 (waited.2 _ (rw (waited.1, own.1, own.2) at (begun i shard here)))

-- ---- heads of lists that are changed in place

-- the next list has lost its first reply
pub heads_next : {Q : Type 0} (items : Q → List PlainReply) (xs ys : List Q) (i : ℕ) (d after : Q) (sum now head : PlainReply) → i < length xs
    → length ys ≡ length xs → drop i ys ≡ drop i xs → ((parts : List PlainReply) → sum ≡ joined parts → now ≡ joined (parts ++ head ∷ []))
    → (heads : List PlainReply) × DrawsHeads (take i xs) heads (take i ys) items × (sum ≡ joined heads) → items (get_or ys i d) ≡ head ∷ items after
    → (heads : List PlainReply) × DrawsHeads (take (i + 1) xs) heads (take (i + 1) (set ys i after)) items × (now ≡ joined heads)
heads_next items xs ys i d after sum now head in_xs len same joins (heads, drawn, is) took = (
  heads ++ head ∷ [],
  changed_next (λ us vs. DrawsHeads us (heads ++ head ∷ []) vs items) xs ys i d after in_xs len same (λ at_xs. heads_more items _ heads _ _ after head drawn (rw at_xs at took)),
  joins heads is,
)

-- the first reply of one list is taken
pub draws_from : {Q : Type 0} (items : Q → List PlainReply) (told : List Q) (number : ℕ) (before after : Q) (reply : Option PlainReply) → number < length told
    → before ≡ get_or told number before → items before ≡ option_to_list reply ++ items after → IfSome reply (λ r. DrawsFrom number told r (set told number after) items)
draws_from items told number before after (Some r) within is took = (before, after, slice_get_read told (length told) number before refl within is, took, refl)
draws_from items told number before after None within is took = tt

-- ---- events that are dealt one after the other

-- the lists of the shards, with one event more
pub deals_more : {V : Type 0} (items : V → List Event) (count : ℕ) (done : List Event) (e : Event) (old new : List V)
    → ((i : ℕ) → i < count → HasPart old items i (routed count i done)) → DealsTo count e old new items
    → (i : ℕ) → i < count → HasPart new items i (routed count i (done ++ e ∷ []))
deals_more items count done e old new had deals i within =
    rw (filter-append (is_routed count i) done (e ∷ [])) (deals.1 i (routed count i done) (had i within))

-- the routes of the events so far, and of one more
pub routes_more : (count : ℕ) (done : List Event) (e : Event) (route : Route) (old new : List Route) → old ≡ map (route_of count) done → route ≡ route_of count e → new ≡ old ++ route ∷ []
    → new ≡ map (route_of count) (done ++ e ∷ [])
routes_more count done e route old new is one added = rw (added, is, one, map-append (route_of count) done (e ∷ []))

-- ---- all of it

module _ {A P X Q L E : Type 0} (gives : A → Event → PlainReply → Type 0) (are_asked : A → List Event → X → Type 0) (shards : List A)
    (part_events : P → List Event) (items : Q → List PlainReply) (list : L → List PlainReply) where
  -- each event has its reply, if the shards have given theirs, and these are woven
  pub set_answers : (events : List Event) (parts : List P) (asked : List X) (told : List Q) (routes : List Route) (woven : Option L) (given : Result L E) → length told ≡ length shards
      → routes ≡ map (route_of (length shards)) events → ((i : ℕ) → i < length shards → HasPart parts part_events i (routed (length shards) i events))
      → EachShard shards asked (λ i shard one. IsSomeAnd (slice_get parts i) (λ part. are_asked shard (part_events part) one))
      → EachShard shards told (λ i shard q. IsSomeAnd (slice_get asked i) (λ one. (some : List Event) → are_asked shard some one → AllZip (gives shard) some (items q)))
      → IfSome woven (λ replies. DrawsEach told routes (list replies) items) → woven ≡ result_ok given
      → IfOk given (λ replies. AllZip (SetGives gives shards) events (list replies))
  set_answers events parts asked told routes woven (Ok replies) count routed_so dealt begun finished drawn is =
      let each : DrawsEach told routes (list replies) items = rw is at drawn in
      woven_all gives shards items events told each.0 (list replies) count (asked_fits gives are_asked shards part_events items events parts asked told dealt begun finished)
      (rw (← routed_so) each.1)
  set_answers events parts asked told routes woven (Err e) count routed_so dealt begun finished drawn is = tt

-- ---- one event alone

-- the only item of a list is its last one
last_alone : {X : Type 0} (r x : X) (rest : List X) → r ∷ [] ≡ rest ++ x ∷ [] → r ≡ x
last_alone r x [] is = ap (λ l. get_or l 0 r) is
last_alone r x (a ∷ rest) is = absurd (omega (arith, ap length is, length-append rest (x ∷ [])))

module _ {A E : Type 0} (gives : A → Event → PlainReply → Type 0) (shards : List A) where
  -- the shard of an event's key gives the reply
  pub one_gives : (e : Event) (number : ℕ) (shard : A) (given : Result PlainReply E) → route_of (length shards) e ≡ One number → slice_get shards number ≡ Some shard
      → IfOk given (gives shard e) → IfOk given (SetGives gives shards e)
  one_gives e number shard (Ok reply) route here gave = rw (route, here) gave
  one_gives e number shard (Err lack) route here gave = tt

  -- the only reply of a flush that is asked alone
  pub flush_given : (events : List Event) (replies rest : List PlainReply) (popped : Option PlainReply) (given : Result PlainReply E) → events ≡ Flush ∷ []
      → AllZip (SetGives gives shards) events replies → replies ≡ rest ++ option_to_list popped → popped ≡ result_ok given → IfOk given (SetGives gives shards Flush)
  flush_given events replies rest popped (Err lack) alone all off is = tt
  flush_given events (r ∷ []) rest popped (Ok x) alone all off is = rw (← last_alone r x rest (rw is at off)) (rw alone at all).0
  flush_given events [] rest popped (Ok x) alone all off is = absurd (rw alone at all)
  flush_given events (r ∷ s ∷ more) rest popped (Ok x) alone all off is = absurd ((rw alone at all).1)
