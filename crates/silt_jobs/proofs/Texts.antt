-- The texts of two parts of a script are the text of both.
use Rattle.silt_jobs.proofs.Common.{append-nil, ◌≡◌, ◌+◌, ◌<◌, ◌≤◌, take, get_or, ℕ, List, [], ◌∷◌, ◌++◌, length, refl, sym, ap, ◌∙◌, append_assoc, arith, Option, take_more, Appends}
use Rattle.silt_jobs.proofs.Common.{Appends-append, marks_text, place_past, start, LifeReply, mark_text, place_after}
use Rattle.silt_jobs.specs.declared.jobs.transcript.LinePlace.{LinePlace}
use Rattle.silt_jobs.specs.declared.jobs.script_lines.Mark.{Mark}

place_past-append : (place : LinePlace) (xs ys : List Mark) → place_past place (xs ++ ys) ≡ place_past (place_past place xs) ys
place_past-append place [] ys = refl
place_past-append place (x ∷ xs) ys = place_past-append (place_after place x) xs ys

marks_text-append : {F : Type 0} (lives : List (LifeReply F)) (place : LinePlace) (xs ys : List Mark)
    → marks_text lives place (xs ++ ys) ≡ marks_text lives place xs ++ marks_text lives (place_past place xs) ys
marks_text-append lives place [] ys = refl
marks_text-append lives place (x ∷ xs) ys =
    cc (
      marks_text-append lives (place_after place x) xs ys,
      append_assoc (mark_text lives place x) (marks_text lives (place_after place x) xs) (marks_text lives (place_past (place_after place x) xs) ys),
    )

-- one line more
pub place_past-more : (place : LinePlace) (marks : List Mark) (i : ℕ) (mark : Mark) → i < length marks
    → place_past place (take (i + 1) marks) ≡ place_after (place_past place (take i marks)) (get_or marks i mark)
place_past-more place marks i mark lt = cc (take_more marks i mark lt, place_past-append place (take i marks) (get_or marks i mark ∷ []))

pub marks_text-more : {F : Type 0} (lives : List (LifeReply F)) (place : LinePlace) (marks : List Mark) (i : ℕ) (mark : Mark) → i < length marks
    → marks_text lives place (take (i + 1) marks) ≡ marks_text lives place (take i marks) ++ mark_text lives (place_past place (take i marks)) (get_or marks i mark)
marks_text-more lives place marks i mark lt =
    cc (take_more marks i mark lt, marks_text-append lives place (take i marks) (get_or marks i mark ∷ []), append-nil (mark_text lives (place_past place (take i marks)) (get_or marks i mark)))

-- what was written of a script, and one line more
pub written-more : {F : Type 0} (lives : List (LifeReply F)) (marks : List Mark) (i : ℕ) (mark : Mark) (place : LinePlace) (opening : List ℕ) (w v u : Option (List ℕ))
    → i < length marks → place ≡ place_past start (take i marks)
    → Appends w v (opening ++ marks_text lives start (take i marks)) → Appends v u (mark_text lives place (get_or marks i mark)) → Appends w u (opening ++ marks_text lives start (take (i + 1) marks))
written-more lives marks i mark place opening w v u lt at h k =
    let text : (opening ++ marks_text lives start (take i marks)) ++ mark_text lives place (get_or marks i mark) ≡ opening ++ marks_text lives start (take (i + 1) marks) =
    cc (append_assoc opening (marks_text lives start (take i marks)) (mark_text lives place (get_or marks i mark)), marks_text-more lives start marks i mark lt) in
    rw text at (Appends-append w v u _ _ h k)

-- a place is no further on than its line
pub place_after-within : (place : LinePlace) (mark : Mark) (n : ℕ) → place.life ≤ n → place.reply ≤ n → ((place_after place mark).life ≤ n + 1) × ((place_after place mark).reply ≤ n + 1)
place_after-within place mark n life reply = grind arith

-- the place after one line more
pub place-next : (marks : List Mark) (i : ℕ) (mark : Mark) (place next : LinePlace) → i < length marks → next ≡ place_after place (get_or marks i mark)
    → place ≡ place_past start (take i marks) → next ≡ place_past start (take (i + 1) marks)
place-next marks i mark place next lt is at = is ∙ ap (λ (p : LinePlace). place_after p (get_or marks i mark)) at ∙ sym (place_past-more start marks i mark lt)
