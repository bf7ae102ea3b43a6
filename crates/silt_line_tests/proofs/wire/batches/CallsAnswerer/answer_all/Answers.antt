use Rattle.std.proofs.Common.{◌≡◌, ◌==◌, [], ◌∷◌, ℕ, List, false, length, refl, ap, sym, ◌∙◌}
use Rattle.silt_event.specs.declared.event.Event.{Event as EventOf}
use Rattle.silt_event.specs.Events.{AnswersEach, PlainReply}
use Rattle.silt_line_tests.proofs.wire.batches.CallsAnswerer.answer_all.Goals as goal

-- any replies, one to each event, are answers if any reply is one
each_any : {A B : Type 0} (old new : A) (from to : B) (events : List EventOf) (replies : List PlainReply) → (events ≡ [] → new ≡ old)
    → AnswersEach (λ (_ _ : B) (_ : EventOf) (_ : PlainReply). Unit {0}) from events replies to
    → AnswersEach (λ (_ _ : A) (_ : EventOf) (_ : PlainReply). Unit {0}) old events replies new
each_any old new from to [] [] same h = same refl
each_any old new from to [] (r ∷ replies) same h = absurd h
each_any old new from to (e ∷ events) [] same h = absurd h
each_any old new from to (e ∷ events) (r ∷ replies) same h = (new, tt, each_any new new h.0 to events replies (λ _. refl) h.2)

not_none : (n : ℕ) → n ≡ 0 → (n == 0) ≡ false → ⊥
not_none n none some = absurd (cc (ap (λ m. m == 0) none, some))

pub returns-clause-answers : goal.returns-clause-answers
returns-clause-answers c =
    let answered = c.answer_all.ensures.answers in (
      answered.0,
      answered.1,
      each_any c.args.self.now _ _ _ c.args.events.items answered.0
          (λ e. absurd (not_none c.args.events.len (c.args.events.ok.0 ∙ ap (λ (l : List EventOf). length l) e) (sym c.is_empty.ensures ∙ c.if-is_empty.false)))
          answered.2,
    )
