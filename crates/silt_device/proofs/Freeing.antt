-- What a disk with several buffers has while one of them is brought in front, and while some are written out.
use Rattle.silt_device.proofs.Common.{◌≡◌, ◌==◌, ℕ, ◌+◌, ◌≤◌, ◌||◌, Bool, true, false, cond, leb, IsTrue, List, length, slice_range, suc, zero, refl, sym, ap, ◌∙◌, subst, inl, inr, arith}
use Rattle.silt_device.proofs.Common.{ext_get_or, and_parts, cases_Bool, cond-true, cond-false, nat_tests, Content, Makes, Restarts, Settles, Stays, Tears, Writes, size, made_both, none_made}
use Rattle.silt_device.proofs.Common.{BufferedBytes, Buffers, image_over, length-image_over, byte_elsewhere, byte_there, waits, content_over, content_over_all, lie_apart, turned, brought, takes}
use Rattle.silt_device.proofs.Common.{emptied, freed, owed, owed_all, cleared, to_free, readied, appended, grown, waiting_after, BufferedState, PassesOn, LaidOverAll, has_all, holds}
use Rattle.silt_device.specs.Buffered.{HasPlaces, freed_times, owed_by_last}
use Rattle.silt_device.proofs.Waiting.{or_swap, none_waits, none_over, stays_twice, stays_over, out_at, not_out_at, restarts_over, settles_over, size_over, size_over_all, tears_over, writes_over}
use Rattle.silt_device.proofs.Waiting.{grown_places, grown_tears, grown_writes, laid_shows, laid_whole}

-- ---- the order of buffers that lie apart

-- where a byte of the one waits, none of the other does
apart_at : (g h : BufferedBytes) (place : ℕ) → lie_apart h g ≡ true → waits g place ≡ true → waits h place ≡ false
apart_at g h place apart there = grind (arith, nat_tests)

-- they can be laid over an image in any order
swapped_bytes : (g h : BufferedBytes) (image : List ℕ) → lie_apart h g ≡ true → image_over h (image_over g image) ≡ image_over g (image_over h image)
swapped_bytes g h image apart =
    let long : length (image_over g image) ≡ length image = length-image_over g image in
    let wide : length (image_over h image) ≡ length image = length-image_over h image in
    let whole : length (image_over h (image_over g image)) ≡ length image = length-image_over h (image_over g image) ∙ long in
    ext_get_or 0 _ _ (whole ∙ sym (length-image_over g (image_over h image) ∙ wide)) (λ place inside. elim (cases_Bool (waits g place)) [
      | inl there ↦
          let none = apart_at g h place apart there in
          cc (byte_elsewhere h (image_over g image) place none, byte_there g image place there (omega (arith, whole)), byte_there g (image_over h image) place there (omega (arith, whole, wide)))
      | inr elsewhere ↦ elim (cases_Bool (waits h place)) [
        | inl there ↦
            byte_there h (image_over g image) place there (omega (arith, whole, long))
            ∙ sym (byte_elsewhere g (image_over h image) place elsewhere ∙ byte_there h image place there (omega (arith, whole)))
        | inr none ↦
            cc (byte_elsewhere h (image_over g image) place none, byte_elsewhere g image place elsewhere, byte_elsewhere g (image_over h image) place elsewhere, byte_elsewhere h image place none)
      ]
    ])

-- so the content is the same
pub swapped_stays : (g h : BufferedBytes) (inner : Content) → lie_apart h g ≡ true → Stays (content_over g (content_over h inner)) (content_over h (content_over g inner))
swapped_stays g h inner apart = search (arith, swapped_bytes, or_swap, inner.pending)

-- of three, the last one comes in front
pub turned_stays : (b : Buffers) (inner : Content) → lie_apart b.third b.first ≡ true → lie_apart b.third b.second ≡ true → Stays (content_over_all b inner) (content_over_all (turned b) inner)
turned_stays b inner far near = stays_twice _ _ _ (stays_over b.first _ _ (swapped_stays b.second b.third inner near)) (swapped_stays b.first b.third (content_over b.second inner) far)

-- nothing changes
stays_same : (c : Content) → Stays c c
stays_same c = search arith

-- what holds of the buffers in their order, and in any order that is as good, holds once the one is in front that takes some bytes
pub brought_keeps : (P : Buffers → Type 0) (b : Buffers) (at count : ℕ) → P b → (lie_apart b.second b.first ≡ true → P (record { first = b.second; second = b.first; third = b.third }))
    → (lie_apart b.third b.first ≡ true → lie_apart b.third b.second ≡ true → P (turned b)) → P (brought b at count)
brought_keeps P b at count as_is swaps turns = search (arith, cases_Bool, cond-true, cond-false, and_parts)

-- the content stays
pub brought_stays : (b : Buffers) (at count : ℕ) (inner : Content) → Stays (content_over_all b inner) (content_over_all (brought b at count) inner)
brought_stays b at count inner =
    brought_keeps (λ x. Stays (content_over_all b inner) (content_over_all x inner)) b at count (stays_same _)
    (λ apart. swapped_stays b.first b.second (content_over b.third inner) apart) (turned_stays b inner)

-- the same bytes wait
pub brought_owes : (b : Buffers) (at count : ℕ) → owed_all (brought b at count) ≡ owed_all b
brought_owes b at count = brought_keeps (λ x. owed_all x ≡ owed_all b) b at count refl (λ apart. omega arith) (λ far near. omega arith)

-- at the same places
pub brought_places : {D : Type 0} (content : D → Content) (inner : D) (b : Buffers) (at count : ℕ) → HasPlaces content inner b → HasPlaces content inner (brought b at count)
brought_places content inner b at count held =
    brought_keeps (λ x. HasPlaces content inner x) b at count held (λ apart. record { first = held.second; second = held.first; third = held.third })
    (λ far near. record { first = held.third; second = held.first; third = held.second })

-- ---- freed buffers

-- without its bytes, the last buffer can be in front
pub freed_stays : (b : Buffers) (old new : Content) → Stays (content_over b.third old) (content_over (emptied b.third) new) → Stays (content_over_all b old) (content_over_all (freed b) new)
freed_stays b old new last = stays_twice _ _ _ (stays_over b.first _ _ (stays_over b.second _ _ last)) (turned_stays (record b { third = emptied b.third }) new refl refl)

-- what changes nothing under the last buffer changes nothing
pub last_stays : (b : Buffers) (old new : Content) → Stays (content_over b.third old) (content_over b.third new) → Stays (content_over_all b old) (content_over_all b new)
last_stays b old new last = stays_over b.first _ _ (stays_over b.second _ _ last)

-- if it had none, nothing changes
pub none_freed : (b : Buffers) (inner : Content) → (length b.third.bytes == 0) ≡ true → Stays (content_over_all b inner) (content_over_all (freed b) inner)
none_freed b inner none = search (arith, freed_stays, none_over, none_waits, inner.pending)

-- one more time
freed_more : (n : ℕ) (b : Buffers) → freed_times (n + 1) b ≡ freed (freed_times n b)
unfolding freed_times
freed_more n b = let more : n + 1 ≡ suc n = omega arith in rw more refl

-- it takes one more write, if bytes wait in the last buffer then
owed_more : (n : ℕ) (b : Buffers) → owed_by_last (n + 1) b ≡ owed_by_last n b + owed (freed_times n b).third
unfolding owed_by_last
owed_more n b = let more : n + 1 ≡ suc n = omega arith in rw more refl

-- none
freed_zero : (b : Buffers) → freed_times 0 b ≡ b
unfolding freed_times
freed_zero b = refl

-- the writes of those that were freed and of those that were not are the writes of all
pub owed_in_all : (n : ℕ) (b : Buffers) → owed_by_last n b + owed_all (freed_times n b) ≡ owed_all b
unfolding freed_times owed_by_last
owed_in_all zero b = omega arith
owed_in_all (suc n) b = omega (arith, owed_in_all n b)

-- The last buffer was freed so many times. Each time its bytes, if it had some, were written to the inner disk, and the content is as before.
pub record Frees {D : Type 0} (content : D → Content) (writes_of syncs_of : D → ℕ) (n : ℕ) (old : Buffers) (old_inner : D) (new : Buffers) (inner : D) : Type 0 where
  pub buffers : new ≡ freed_times n old
  pub stays : Stays (content_over_all old (content old_inner)) (content_over_all new (content inner))
  pub made : Makes writes_of syncs_of (owed_by_last n old) 0 old_inner inner
  pub places : HasPlaces content inner new
  pub size : size (content inner) ≡ size (content old_inner)

module _ {D : Type 0} {content : D → Content} {writes_of syncs_of : D → ℕ} where
  -- not at all
  pub frees_none : (b : Buffers) (inner : D) → HasPlaces content inner b → Frees content writes_of syncs_of 0 b inner b inner
  unfolding freed_times owed_by_last
  frees_none b inner held = record { buffers = refl; stays = stays_same _; made = made_both inner none_made none_made refl refl; places = held; size = refl }

  -- once more, without bytes
  pub frees_empty : (n : ℕ) (b : Buffers) (first : D) (now : Buffers) (inner : D) → Frees content writes_of syncs_of n b first now inner → (length now.third.bytes == 0) ≡ true
      → Frees content writes_of syncs_of (n + 1) b first (freed now) inner
  frees_empty n b first now inner frees none = search (arith, cond-true, freed_more, stays_twice, none_freed, made_both, none_made, owed_more)

  -- once more, with bytes that were written
  pub frees_out : (n : ℕ) (b : Buffers) (first : D) (now : Buffers) (inner new : D) (at : ℕ) (bytes : List ℕ) → Frees content writes_of syncs_of n b first now inner
      → (length now.third.bytes == 0) ≡ false → at ≡ now.third.at → bytes ≡ now.third.bytes → Tears at (length bytes) (content inner) (content new) → Writes at bytes (content inner) (content new)
      → Makes writes_of syncs_of 1 0 inner new → size (content new) ≡ size (content inner) → Frees content writes_of syncs_of (n + 1) b first (freed now) new
  frees_out n b first now inner new at bytes frees some same_at same_bytes tears writes made size = search (arith, cond-false, freed_more, stays_twice, freed_stays, out_at, made_both, owed_more)

-- all three times no byte waits
pub freed_thrice : (b : Buffers) → freed_times 3 b ≡ cleared b
unfolding freed_times
freed_thrice b = refl

-- and all have been written
pub owed_thrice : (b : Buffers) → owed_by_last 3 b ≡ owed_all b
owed_thrice b = omega (arith, owed_in_all 3 b, ap owed_all (freed_thrice b))

-- a write of the inner disk, Ok or Err
pub tears_over_all : (b : Buffers) (at count : ℕ) (old new : Content) → Tears at count old new → Tears at count (content_over_all b old) (content_over_all b new)
tears_over_all b at count old new tears = tears_over b.first at count _ _ (tears_over b.second at count _ _ (tears_over b.third at count old new tears))

-- no byte waits in any buffer
pub record AreEmpty (b : Buffers) : Type 0 where
  pub first : length b.first.bytes ≡ 0
  pub second : length b.second.bytes ≡ 0
  pub third : length b.third.bytes ≡ 0

-- then a write that returns Ok
pub writes_over_all : (b : Buffers) (at : ℕ) (bytes : List ℕ) (old new : Content) → AreEmpty b → Writes at bytes old new → Writes at bytes (content_over_all b old) (content_over_all b new)
writes_over_all b at bytes old new none writes = writes_over b.first at bytes _ _ none.first (writes_over b.second at bytes _ _ none.second (writes_over b.third at bytes old new none.third writes))

-- and a sync that returns Ok
pub settles_over_all : (b : Buffers) (old new : Content) → AreEmpty b → Settles old new → Settles (content_over_all b old) (content_over_all b new)
settles_over_all b old new none settles = settles_over b.first _ _ none.first (settles_over b.second _ _ none.second (settles_over b.third old new none.third settles))

-- a crash: all waiting bytes are lost
pub restarts_over_all : (b : Buffers) (old new : Content) → Restarts old new → Restarts (content_over_all b old) (content_over_all (cleared b) new)
restarts_over_all b old new restarts = restarts_over b.first _ _ (restarts_over b.second _ _ (restarts_over b.third old new restarts))

-- freed three times, none has bytes
pub empty_thrice : (b : Buffers) → AreEmpty (freed_times 3 b)
empty_thrice b = rw (freed_thrice b) (record { first = refl; second = refl; third = refl })

-- freed once, the one in front takes all bytes that fit a buffer
freed_takes : (b : Buffers) (at count : ℕ) → leb count b.third.room ≡ true → takes (freed_times 1 b).first at count ≡ true
unfolding freed_times
freed_takes b at count room = grind (arith, nat_tests)

-- nor if the one in front takes no bytes once all was done to have them taken
pub readied_none : (b : Buffers) (at count : ℕ) → takes (readied b at count).first at count ≡ false → AreEmpty (readied b at count)
readied_none b at count refuses =
    elim (cases_Bool (takes (brought b at count).first at count)) [
      | inl fits ↦ search (arith, cond-true, freed_zero)
      | inr lacks ↦ search (arith, cases_Bool, cond-false, cond-true, freed_takes, empty_thrice)
    ]

-- ---- exits of a call, from how often the last buffer was freed

module _ {D : Type 0} {content : D → Content} {writes_of syncs_of : D → ℕ} {n : ℕ} {b : Buffers} {first : D} {now : Buffers}
    {inner : D} (frees : Frees content writes_of syncs_of n b first now inner) where
  -- the bytes of the last buffer were not written: nothing changes
  pub not_freed : (new : D) (at : ℕ) (bytes : List ℕ) → at ≡ now.third.at → bytes ≡ now.third.bytes → Tears at (length bytes) (content inner) (content new)
      → Stays (content_over_all b (content first)) (content_over_all now (content new))
  not_freed new at bytes same_at same_bytes tears = stays_twice _ _ _ frees.stays (search (arith, last_stays, not_out_at))

  -- further calls of the inner disk
  pub freed_makes : (new : D) (more s : ℕ) → Makes writes_of syncs_of more s inner new → Makes writes_of syncs_of (owed_by_last n b + more) s first new
  freed_makes new more s made = made_both inner frees.made made refl (omega arith)

  -- what was owed is written or still owed
  pub freed_owes : owed_by_last n b + owed_all now ≡ owed_all b
  freed_owes = rw frees.buffers (owed_in_all n b)

  -- the disk has the same size
  pub freed_sizes : (before later : Buffers) (new : D) → size (content new) ≡ size (content inner) → size (content_over_all later (content new)) ≡ size (content_over_all before (content first))
  freed_sizes before later new same = size_over_all later (content new) ∙ same ∙ frees.size ∙ sym (size_over_all before (content first))

-- bytes are appended to the one in front: they lie within the disk
pub appended_places : {D : Type 0} (content : D → Content) (inner : D) (b : Buffers) (at : ℕ) (bytes : List ℕ) → HasPlaces content inner b → IsTrue (takes b.first at (length bytes))
    → at + length bytes ≤ size (content inner) → HasPlaces content inner (appended b at bytes)
appended_places content inner b at bytes held room fits = record { first = grown_places b.first at bytes _ room fits; second = held.second; third = held.third }

-- the disk is as after a write
pub appended_tears : (b : Buffers) (at : ℕ) (bytes : List ℕ) (inner : Content) → IsTrue (takes b.first at (length bytes)) → at + length bytes ≤ size inner
    → Tears at (length bytes) (content_over_all b inner) (content_over_all (appended b at bytes) inner)
appended_tears b at bytes inner room fits = search (arith, size_over, grown_tears)

-- and as after one that returns Ok
pub appended_writes : (b : Buffers) (at : ℕ) (bytes : List ℕ) (inner : Content) → IsTrue (takes b.first at (length bytes)) → at + length bytes ≤ size inner
    → Writes at bytes (content_over_all b inner) (content_over_all (appended b at bytes) inner)
appended_writes b at bytes inner room fits = search (arith, size_over, grown_writes)

-- at most one write is owed for some bytes
owed_one : (g : BufferedBytes) → owed g ≤ 1
owed_one g = elim (cases_Bool (length g.bytes == 0)) [ inl none ↦ omega (arith, cond-true {A = ℕ} _ 0 1 none) | inr some ↦ omega (arith, cond-false {A = ℕ} _ 0 1 some) ]

-- so one more at most is owed then
pub appended_owes : (b : Buffers) (at : ℕ) (bytes : List ℕ) → owed_all (appended b at bytes) ≤ 1 + owed_all b
appended_owes b at bytes = omega (arith, owed_one (grown b.first at bytes))

-- the buffers after a write whose bytes are appended
pub waits_appended : (b now : Buffers) (at : ℕ) (bytes : List ℕ) → now ≡ readied b at (length bytes) → takes now.first at (length bytes) ≡ true → appended now at bytes ≡ waiting_after b at bytes
waits_appended b now at bytes is room = search (arith, cond-true)

-- and after one whose bytes fit no buffer
pub waits_none : (b now : Buffers) (at : ℕ) (bytes : List ℕ) → now ≡ readied b at (length bytes) → takes now.first at (length bytes) ≡ false → now ≡ waiting_after b at bytes
waits_none b now at bytes is long = subst (λ (x : Buffers). now ≡ cond (takes x.first at (length bytes)) (appended x at bytes) x) is (sym (cond-false _ _ _ long))

module _ {D : Type 0} {content : D → Content} {writes_of syncs_of : D → ℕ} {n : ℕ} {m : Buffers} {first : D} {now : Buffers}
    {inner : D} (frees : Frees content writes_of syncs_of n m first now inner) (b : Buffers) (at count : ℕ) (is : m ≡ brought b at count) where
  -- a buffer was brought in front, and then the last one was freed so many times: nothing changes
  pub way_stays : Stays (content_over_all b (content first)) (content_over_all now (content inner))
  way_stays = search (arith, stays_twice, brought_stays)

  -- nor if the bytes of the last one are not written then
  pub way_unwritten : (new : D) (from : ℕ) (bytes : List ℕ) → from ≡ now.third.at → bytes ≡ now.third.bytes → Tears from (length bytes) (content inner) (content new)
      → Stays (content_over_all b (content first)) (content_over_all now (content new))
  way_unwritten new from bytes same_at same_bytes tears = search (arith, stays_twice, brought_stays, not_freed)

  -- what was owed is written or still owed
  pub way_owes : owed_by_last n m + owed_all now ≡ owed_all b
  way_owes = freed_owes frees ∙ ap owed_all is ∙ brought_owes b at count

  -- once it was freed as often as is due, the buffers are ready
  pub way_made : n ≡ to_free m at count → now ≡ readied b at count
  way_made all = frees.buffers ∙ ap (λ (k : ℕ). freed_times k m) all ∙ ap (λ (x : Buffers). freed_times (to_free x at count) x) is

  -- and so many writes were made
  pub way_passed : n ≡ to_free m at count → owed_by_last n m ≡ owed_by_last (to_free (brought b at count) at count) (brought b at count)
  way_passed all = ap (λ (k : ℕ). owed_by_last k m) all ∙ ap (λ (x : Buffers). owed_by_last (to_free x at count) x) is

  -- if no buffer takes the bytes even then, all are empty
  pub way_none : n ≡ to_free m at count → takes now.first at count ≡ false → AreEmpty now
  way_none all refuses = search (arith, way_made, readied_none)

-- A write that returns Ok, from the buffers that were made ready for its bytes: they are appended
pub passes_appended : {D : Type 0} {writes_of syncs_of : D → ℕ} (old new : BufferedState D) (at : ℕ) (bytes : List ℕ) (ready : Buffers) (made : ℕ) → ready ≡ readied old.buffers at (length bytes)
    → takes ready.first at (length bytes) ≡ true → new.buffers ≡ appended ready at bytes
    → made ≡ owed_by_last (to_free (brought old.buffers at (length bytes)) at (length bytes)) (brought old.buffers at (length bytes))
    → Makes writes_of syncs_of made 0 old.inner new.inner → PassesOn writes_of syncs_of at bytes old new
passes_appended {D} {writes_of} {syncs_of} old new at bytes ready made is room grows due makes = search (arith, cond-true, waits_appended)

-- or they fit no buffer, and are written
pub passes_written : {D : Type 0} {writes_of syncs_of : D → ℕ} (old new : BufferedState D) (at : ℕ) (bytes : List ℕ) (ready : Buffers) (made : ℕ) → ready ≡ readied old.buffers at (length bytes)
    → takes ready.first at (length bytes) ≡ false → new.buffers ≡ ready
    → made ≡ owed_by_last (to_free (brought old.buffers at (length bytes)) at (length bytes)) (brought old.buffers at (length bytes)) + 1
    → Makes writes_of syncs_of made 0 old.inner new.inner → PassesOn writes_of syncs_of at bytes old new
passes_written {D} {writes_of} {syncs_of} old new at bytes ready made is long same due makes = search (arith, cond-false, waits_none)

-- ---- reads

-- the waiting bytes of all buffers laid over a part of the image give the same part of the image with these bytes
pub all_laid : (b : Buffers) (at : ℕ) (image old new : List ℕ) → LaidOverAll b at old new → at + length old ≤ length image → old ≡ slice_range image at (at + length old)
    → new ≡ slice_range (image_over b.first (image_over b.second (image_over b.third image))) at (at + length old)
all_laid b at image old new laid fits is =
    let behind = image_over b.third image in
    let long = length-image_over b.third image in
    let wide = length-image_over b.second behind in
    laid_shows b.first at (length old) (image_over b.second behind) laid.between new laid.first (laid.second.size ∙ laid.third.size) (omega (arith, fits, long, wide))
    (laid_shows b.second at (length old) behind laid.behind laid.between laid.second laid.third.size (omega (arith, fits, long))
    (laid_shows b.third at (length old) image old laid.behind laid.third refl fits is))

-- if one of three facts holds, and two do not, the third does
third_of : (a b c : Bool) → (a || (b || c)) ≡ true → a ≡ false → b ≡ false → c ≡ true
third_of false false c one first second = one
third_of a b c one first second = absurd (cc)

-- if a buffer has all bytes of the range, the image does not matter
pub all_held : (b : Buffers) (at : ℕ) (image old new : List ℕ) → LaidOverAll b at old new → at + length old ≤ length image → has_all b at (length old) ≡ true
    → new ≡ slice_range (image_over b.first (image_over b.second (image_over b.third image))) at (at + length old)
all_held b at image old new laid fits held =
    let n = length old in
    let behind = image_over b.third image in
    let between = image_over b.second behind in
    let size = laid.second.size ∙ laid.third.size in
    let in_behind : at + n ≤ length behind = omega (arith, fits, length-image_over b.third image) in
    let in_between : at + n ≤ length between = omega (arith, in_behind, length-image_over b.second behind) in
    elim (cases_Bool (holds b.first at n)) [
      | inl front ↦ laid_whole b.first at n between laid.between new laid.first size in_between front
      | inr other ↦ laid_shows b.first at n between laid.between new laid.first size in_between (elim (cases_Bool (holds b.second at n)) [
        | inl middle ↦ laid_whole b.second at n behind laid.behind laid.between laid.second laid.third.size in_behind middle
        | inr neither ↦
            laid_shows b.second at n behind laid.behind laid.between laid.second laid.third.size in_behind
            (laid_whole b.third at n image old laid.behind laid.third refl fits (third_of _ _ _ held other neither))
      ])
    ]
