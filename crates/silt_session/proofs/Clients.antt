-- Replies to events that a client asks at once.
use Rattle.silt_session.proofs.Common.{◌≡◌, ◌≢◌, ◌⊎◌, ℕ, suc, List, [], ◌∷◌, length, inl, inr, refl, arith, IfOk, Some, Result, Ok, Err, replicate, slice_get, true, AllZip, PlainReply, Event}
use Rattle.silt_session.proofs.Common.{AnswersClient, reply_without, AnswersEach, ArePaired, ClientState, IsWithout}
use Rattle.silt_session.specs.declared.unanswered.Unanswered.{Unanswered}
use Rattle.silt_session.specs.declared.unanswered.Unanswered.TheVariants.{Lost, NoMemory}

-- two lists of one length are related at each place
pub zip_places : {X Y : Type 0} (R : X → Y → Type 0) (xs : List X) (ys : List Y) → length ys ≡ length xs
    → ((i : ℕ) (x : X) (y : Y) → slice_get xs i ≡ Some x → slice_get ys i ≡ Some y → R x y) → AllZip R xs ys
zip_places R [] [] len each = tt
zip_places R (x ∷ xs) (y ∷ ys) len each = (each 0 x y refl refl, zip_places R xs ys (omega (arith, len)) (λ i a b at_xs at_ys. each (suc i) a b at_xs at_ys))
zip_places R xs ys len each = absurd (omega (arith, len))

-- the reply that is given to one event
pub given_one : {E B X : Type 0} (now : B → X) (given : Result PlainReply E × X) (told : X) (by : B) (Gave : B → Result PlainReply E × X → Type 0) (More : PlainReply → B → Type 0)
    → now by ≡ told → Gave by given → IfOk given.0 (λ reply. (x : B) × ((now x ≡ told) ⊎ (given.1 ≡ told)) × (Gave x (Ok reply, given.1) ⊎ More reply x))
given_one now (Ok reply, next) told by Gave More is gave = (by, inl is, inl gave)
given_one now (Err e, next) told by Gave More is gave = tt

-- the replies that are given to several events
pub given_all : {E B X V : Type 0} (now : B → X) (events : List Event) (given : Result V E) (next told : X) (by : B) (Gave : B → Result V E → Type 0) (items : V → List PlainReply) (v : V)
    (P : Event → PlainReply → B → Type 0) → now by ≡ told → given ≡ Ok v → Gave by given → length (items v) ≡ length events
    → ((e : Event) (r : PlainReply) (x : B) → Gave x (Ok v) → ArePaired events (items v) e r → P e r x)
    → AllZip (λ e r. (x : B) × ((now x ≡ told) ⊎ (next ≡ told)) × P e r x) events (items v)
given_all {E} {B} {X} {V} now events given next told by Gave items v P is same gave long pack =
    zip_places _ events (items v) long (λ i e r at_event at_reply. (by, inl is, pack e r by (rw same at gave) (i, at_event, at_reply)))

module _ {A : Type 0} (gives : A → A → Event → PlainReply → Type 0) where
  again_each : (client : ClientState A) (events : List Event) (replies : List PlainReply) → AllZip (gives client.asking client.asking) events replies
      → AnswersEach (AnswersClient gives) client events replies client
  again_each client [] [] all = refl
  again_each client (e ∷ events) (r ∷ replies) all = (client, inr (inr all.0), again_each client events replies all.1)
  again_each client events replies all = absurd all

  given_again : ((a b : A) (e : Event) (r : PlainReply) → gives a b e r → gives b b e r) → (a b : A) (events : List Event) (replies : List PlainReply)
      → AllZip (gives a b) events replies → AllZip (gives b b) events replies
  given_again law a b [] [] all = tt
  given_again law a b (e ∷ events) (r ∷ replies) all = (law a b e r all.0, given_again law a b events replies all.1)
  given_again law a b events replies all = absurd all

  -- each event has the reply that is given to it
  pub given_each : ((a b : A) (e : Event) (r : PlainReply) → gives a b e r → gives b b e r) → (old new : ClientState A) (events : List Event) (replies : List PlainReply) → events ≢ []
      → AllZip (gives old.asking new.asking) events replies → AnswersEach (AnswersClient gives) old events replies new
  given_each law old new [] replies some all = absurd (some refl)
  given_each law old new (e ∷ events) [] some all = absurd all
  given_each law old new (e ∷ events) (r ∷ replies) some all =
      (new, inr (inr all.0), again_each new events replies (given_again law old.asking new.asking events replies all.1))

  pub lost_each : (client : ClientState A) (events : List Event) → client.is_lost ≡ true
      → AnswersEach (AnswersClient gives) client events (replicate (length events) (reply_without Lost)) client
  lost_each client [] lost = refl
  lost_each client (e ∷ events) lost = (client, inl (lost, refl), lost_each client events lost)

  refused_each : (client : ClientState A) (events : List Event)
      → AnswersEach (AnswersClient gives) client events (replicate (length events) (reply_without NoMemory)) client
  refused_each client [] = refl
  refused_each client (e ∷ events) = (client, inr (inl refl), refused_each client events)

  -- each event has the reply that is due if none come
  pub without_each : (old mid new : ClientState A) (events : List Event) (lack : Unanswered) → events ≢ [] → IsWithout mid new lack
      → AnswersEach (AnswersClient gives) old events (replicate (length events) (reply_without lack)) new
  without_each old mid new [] lack some without = absurd (some refl)
  without_each old mid new (e ∷ events) Lost some without = (new, inl (without, refl), lost_each new events without)
  without_each old mid new (e ∷ events) NoMemory some without = (new, inr (inl refl), refused_each new events)
