-- One event more has its reply.
use Rattle.std.proofs.Common.{List, [], ◌∷◌, ◌++◌, subst, refl}
use Rattle.silt_event.specs.Events.{AnswersEach}

module _ {A E R : Type 0} (answers : A → A → E → R → Type 0) where
  pub each_more : (old mid new : A) (events : List E) (replies : List R) (event : E) (reply : R)
      → AnswersEach answers old events replies mid → answers mid new event reply
      → AnswersEach answers old (events ++ event ∷ []) (replies ++ reply ∷ []) new
  each_more old mid new [] [] event reply each one = (new, subst (λ a. answers a new event reply) each one, refl)
  each_more old mid new [] (r ∷ replies) event reply each one = absurd each
  each_more old mid new (e ∷ events) [] event reply each one = absurd each
  each_more old mid new (e ∷ events) (r ∷ replies) event reply each one =
      (each.0, each.1, each_more each.0 mid new events replies event reply each.2 one)
