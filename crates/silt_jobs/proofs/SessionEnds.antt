-- How sessions of one store and of the stores of a set ended.
use Rattle.silt_jobs.proofs.Common.{IfOk, All-map, ◌≡◌, ℕ, false, List, [], ◌∷◌, Option, None, refl, sym, inr, ◌∙◌, IfOk-weaker, Ghosts, AreAlike, CoreState, DoesPlain, AdministersTended}
use Rattle.silt_jobs.proofs.Common.{PlainRefusal, TendedState, TendsThenDoes, first_refusal, set_value_len, tending_each, Ended, Failures, Tally, AdministersCore, SessionEnd, RunOptions}
use Rattle.silt_jobs.proofs.Common.{AnswersReader, EndsLife, EndsSession, EndsSo, AnswersCores, AnswersTended, OpensSession}
use Rattle.silt_shards.specs.Sets.{value_len_of}
use Rattle.silt_jobs.specs.declared.jobs.disk_jobs.EndedSession.{EndedSession}
use Rattle.silt_jobs.specs.declared.people.streams.StreamError.{StreamError}

module _ {D : Type 0} (least : Option ℕ) where
  -- the values have the length that they had
  pub tending_len : (cores : List (CoreState D)) → value_len_of (λ store. store.core.shape.value_len) (tending_each least cores) ≡ set_value_len cores
  tending_len [] = refl
  tending_len (core ∷ cores) = refl

  -- the values of all stores have one length, as they had
  pub tending_alike : (cores : List (CoreState D)) → AreAlike (λ core. core.shape.value_len) cores
      → AreAlike (λ store. store.core.shape.value_len) (tending_each least cores)
  tending_alike cores alike =
      All-map (λ store. store.core.shape.value_len ≡ value_len_of (λ store. store.core.shape.value_len) (tending_each least cores))
      (λ core. record { core = core; least = least; refusal = None }) cores (λ k d within. alike k d within ∙ sym (tending_len cores))

module _ {W : Type 0} (contents : W → Option (List ℕ)) (kept_error : W → Option StreamError) (kept_tally : W → Tally) (options : RunOptions) (reading : Option StreamError) where
  -- a job ended as its session did, of whose end this is known
  ended_known : {E F : Type 0} (Known : SessionEnd → Type 0) (session : EndedSession) (ended : Ended E F) (answered after : W) (refusal : Option PlainRefusal) (value_len : ℕ)
      → session.refusal ≡ refusal → session.value_len ≡ value_len → IfOk session.end Known → EndsSession contents kept_error kept_tally options reading session ended answered after
      → IfOk ended.status (λ status. (it : SessionEnd) × Known it × EndsSo contents kept_error kept_tally options reading it refusal value_len status ended.found answered after)
  ended_known Known session ended answered after refusal value_len refused same known ends =
      IfOk-weaker ended.status _ _ (λ status so. (so.0, rw so.1 at known, rw (refused, same) at so.2)) ends.2

  module _ {D E F : Type 0} (facts : Ghosts D F) (remaining left : Option (List ℕ)) (before answered after : W) (session : EndedSession) (ended : Ended E F)
      (ends : EndsSession contents kept_error kept_tally options reading session ended answered after) where
    -- a store replied to the lines
    pub life_ended : (Failed : D → Failures → Type 0) (core last : CoreState D) (new : D) → session.value_len ≡ core.shape.value_len → Failed new session.failures → new ≡ last.disk
        → IfOk session.end (λ it. AnswersReader facts contents options it session.refusal core last remaining left before answered)
        → EndsLife facts Failed contents kept_error kept_tally options reading core new ended remaining left before after
    life_ended Failed core last new same failed disk opens =
        let known = ended_known (λ it. AnswersReader facts contents options it session.refusal core last remaining left before answered)
        session ended answered after session.refusal core.shape.value_len refl same opens ends in
        (ends.0, rw ends.1 failed, IfOk-weaker ended.status _ _ (λ status so. (so.0, session.refusal, last, answered, so.1, so.2, disk)) known)

    -- stores that do background work replied to the lines as a set
    pub tended_stores : (stores last : List (TendedState D)) (value_len : ℕ) → session.refusal ≡ first_refusal last → session.value_len ≡ value_len
        → IfOk session.end (λ it. OpensSession (TendsThenDoes facts) AdministersTended contents it value_len stores last remaining left before answered)
        → AnswersTended facts contents kept_error kept_tally options reading value_len stores ended remaining left before after
    tended_stores stores last value_len refused same opens =
        let known = ended_known (λ it. OpensSession (TendsThenDoes facts) AdministersTended contents it value_len stores last remaining left before answered)
        session ended answered after (first_refusal last) value_len refused same opens ends in
        (ends.0, IfOk-weaker ended.status _ _ (λ status so. (so.0, last, answered, so.1, so.2)) known)

    -- stores that do no background work replied to the lines as a set
    pub plain_cores : (cores last : List (CoreState D)) (value_len : ℕ) → options.tend ≡ false → value_len ≡ set_value_len cores → session.refusal ≡ None → session.value_len ≡ value_len
        → IfOk session.end (λ it. OpensSession (DoesPlain facts) AdministersCore contents it value_len cores last remaining left before answered)
        → AnswersCores facts contents kept_error kept_tally options reading cores ended remaining left before after
    plain_cores cores last value_len plain len none same opens =
        let known = ended_known (λ it. OpensSession (DoesPlain facts) AdministersCore contents it value_len cores last remaining left before answered)
        session ended answered after None value_len none same opens ends in
        inr (rw (plain, ← len) (ends.0, IfOk-weaker ended.status _ _ (λ status so. (so.0, last, answered, so.1, so.2)) known))
