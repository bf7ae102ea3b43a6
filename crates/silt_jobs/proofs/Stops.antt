-- The stops in words.
use Rattle.silt_jobs.proofs.Common.{◌≡◌, ◌≢◌, List, [], ◌∷◌, ℕ, None, refl, ap, ◌∙◌, words_of, words_of-some}
use Rattle.silt_jobs.specs.Stops.{stop_of_words, reported_stop}

-- one word is no stop
pub stop-one : (text : List ℕ) → words_of text ≡ text ∷ [] → stop_of_words (words_of text) ≡ None
unfolding stop_of_words
stop-one text words = ap stop_of_words words

-- nor are two
pub stop-two : (text word rest : List ℕ) → words_of text ≡ word ∷ words_of rest → words_of rest ≡ rest ∷ [] → stop_of_words (words_of text) ≡ None
unfolding stop_of_words
stop-two text word rest words last = ap stop_of_words (words ∙ ap (λ more. word ∷ more) last)

-- three may be one
pub stop-three : (text word rest k fill : List ℕ) → words_of text ≡ word ∷ words_of rest → words_of rest ≡ k ∷ words_of fill
    → words_of fill ≡ fill ∷ [] → stop_of_words (words_of text) ≡ reported_stop word k fill
unfolding stop_of_words
stop-three text word rest k fill words more last = ap stop_of_words (words ∙ ap (λ parts. word ∷ parts) (more ∙ ap (λ parts. k ∷ parts) last))

-- four words or more are no stop
stop_of_words-many : (word k fill : List ℕ) (more : List (List ℕ)) → more ≢ [] → stop_of_words (word ∷ k ∷ fill ∷ more) ≡ None
unfolding stop_of_words
stop_of_words-many word k fill [] some = absurd (some refl)
stop_of_words-many word k fill (next ∷ more) some = refl

pub stop-many : (text word rest k fill last next : List ℕ) → words_of text ≡ word ∷ words_of rest → words_of rest ≡ k ∷ words_of fill
    → words_of fill ≡ last ∷ words_of next → stop_of_words (words_of text) ≡ None
stop-many text word rest k fill last next words more most = cc (words, more, most, stop_of_words-many word k last (words_of next) (words_of-some next))

-- the stop in a line's words, by their number
pub ruleset stop_steps = (stop-one, stop-two, stop-many)
