-- What calls do to a disk with waiting bytes, from what they do to its inner disk.
use Rattle.silt_device.proofs.Common.{◌≡◌, ℕ, ◌+◌, ◌-◌, ◌≤◌, ◌<◌, ◌||◌, Bool, true, false, List, length, get_or, slice_range, IsTrue, refl, sym, ap, ◌∙◌, inl, inr, arith, ext_get_or, get_or_past}
use Rattle.silt_device.proofs.Common.{get_or_append_left, get_or-append_right, length-append, length-between, get_or-between, cases_lt, cases_Bool, cond-true, cond-false, nat_tests, Content, Torn}
use Rattle.silt_device.proofs.Common.{Tears, Writes, Settles, Stays, Restarts, size, splice, within, BufferedBytes, BufferedState, Buffers, buffered_content, content_over_all, takes, grown}
use Rattle.silt_device.proofs.Common.{emptied, waits, image_over, length-image_over, byte_elsewhere, byte_there, content_over, holds, LaidOver, Result, Ok, Err, IfOk, FileState, IsOpened}
use Rattle.silt_device.proofs.Common.{file_content, random_access_content, system_content, torn_splice, splice_byte}
use Rattle.silt_device.specs.declared.system_disk.FileDisk.{FileDisk}

-- ---- one call after another

-- two calls that change nothing
pub stays_twice : (a b c : Content) → Stays a b → Stays b c → Stays a c
stays_twice a b c first second = search (arith, second.shown, first.shown, second.settled, first.settled, second.pending, first.pending)

-- a call that changes nothing, and then a write
pub stays_tears : (at count : ℕ) (a b c : Content) → Stays a b → Tears at count b c → Tears at count a c
stays_tears at count a b c stays tears = search (arith, stays.shown, tears.shown, tears.settled, stays.settled, tears.pending, stays.pending)

-- a call that changes nothing, and then a write that returns Ok
pub stays_writes : (at : ℕ) (bytes : List ℕ) (a b c : Content) → Stays a b → Writes at bytes b c → Writes at bytes a c
stays_writes at bytes a b c stays writes = search (arith, writes.shown, stays.shown)

-- a call that changes nothing, and then a sync
pub stays_settles : (a b c : Content) → Stays a b → Settles b c → Settles a c
stays_settles a b c stays settles = search (arith, settles.shown, stays.shown)

-- ---- images with waiting bytes

-- if the buffer is empty, no byte waits at any place
pub none_waits : (g : BufferedBytes) (place : ℕ) → length g.bytes ≡ 0 → waits g place ≡ false
none_waits g place none = grind (arith, nat_tests)

-- and the image is unchanged
pub none_over : (g : BufferedBytes) (image : List ℕ) → length g.bytes ≡ 0 → image_over g image ≡ image
none_over g image none = ext_get_or 0 _ _ (length-image_over g image) (λ place inside. byte_elsewhere g image place (none_waits g place none))

-- the byte of a place stays if the image's does
byte_stays : (g : BufferedBytes) (old new : List ℕ) (place : ℕ) → length new ≡ length old → get_or new place 0 ≡ get_or old place 0
    → get_or (image_over g new) place 0 ≡ get_or (image_over g old) place 0
byte_stays g old new place size same = elim (cases_Bool (waits g place)) [
  | inl there ↦ elim (cases_lt place (length old)) [
    | inl inside ↦ byte_there g new place there (omega arith) ∙ sym (byte_there g old place there inside)
    | inr past ↦ get_or_past _ place 0 (omega (arith, length-image_over g new)) ∙ sym (get_or_past _ place 0 (omega (arith, length-image_over g old)))
  ]
  | inr elsewhere ↦ byte_elsewhere g new place elsewhere ∙ same ∙ sym (byte_elsewhere g old place elsewhere)
]

-- a place where no byte waits lies before or after the waiting bytes
apart : (g : BufferedBytes) (place : ℕ) → waits g place ≡ false → (place < g.at → ⊥) → g.at + length g.bytes ≤ place
apart g place elsewhere high = grind (arith, nat_tests)

-- a place where a byte waits lies in their range
within_range : (g : BufferedBytes) (place : ℕ) → waits g place ≡ true → (g.at ≤ place) × (place < g.at + length g.bytes)
within_range g place there = grind (arith, nat_tests)

-- an image torn only in their range shows no difference
pub torn_under : (g : BufferedBytes) (old new : List ℕ) → Torn g.at (length g.bytes) old new → image_over g new ≡ image_over g old
torn_under g old new torn = ext_get_or 0 _ _ (length-image_over g new ∙ torn.size ∙ sym (length-image_over g old)) (λ place inside. elim (cases_Bool (waits g place)) [
  | inl there ↦
      byte_there g new place there (omega (arith, length-image_over g new)) ∙ sym (byte_there g old place there (omega (arith, length-image_over g new, torn.size)))
  | inr elsewhere ↦ search (arith, byte_stays, cases_lt, torn.before, torn.after)
])

-- once they are written, the image has them
pub written_over : (g : BufferedBytes) (image : List ℕ) → g.at + length g.bytes ≤ length image → image_over g image ≡ splice g.at g.bytes image
written_over g image fits =
    let torn = torn_splice g.at g.bytes image fits in
    ext_get_or 0 _ _ (length-image_over g image ∙ sym torn.size) (λ place inside. elim (cases_Bool (waits g place)) [
      | inl there ↦
          let range = within_range g place there in
          byte_there g image place there (omega (arith, length-image_over g image))
          ∙ sym (splice_byte g.at g.bytes image (place - g.at) fits (omega (arith, range.0, range.1)))
          ∙ ap (λ (n : ℕ). get_or (splice g.at g.bytes image) n 0) (omega (arith, range.0))
      | inr elsewhere ↦ byte_elsewhere g image place elsewhere ∙ sym (search (arith, cases_lt, torn.before, torn.after))
    ])

-- ---- calls of the inner disk

-- a call that changes nothing
pub stays_over : (g : BufferedBytes) (old new : Content) → Stays old new → Stays (content_over g old) (content_over g new)
stays_over g old new stays = search (arith, stays.shown, stays.pending)

-- of three, the last two in turn
pub or_swap : (a b c : Bool) → ((a || b) || c) ≡ ((a || c) || b)
or_swap a b c = grind arith

-- of three, grouped the other way
or_assoc : (a b c : Bool) → (a || (b || c)) ≡ ((a || b) || c)
or_assoc a b c = grind arith

-- a fact added twice
or_again : (a b : Bool) → ((a || b) || b) ≡ (a || b)
or_again a b = grind arith

-- a false fact added
or_none : (a b : Bool) → b ≡ false → (a || b) ≡ a
or_none a b none = grind arith

-- a write, Ok or Err
pub tears_over : (g : BufferedBytes) (at count : ℕ) (old new : Content) → Tears at count old new → Tears at count (content_over g old) (content_over g new)
tears_over g at count old new tears = record {
  honest = tears.honest;
  shown = λ honest.
      let torn = tears.shown honest in
      record {
        size = length-image_over g new.shown ∙ torn.size ∙ sym (length-image_over g old.shown);
        before = λ place low. byte_stays g old.shown new.shown place torn.size (torn.before place low);
        after = λ place high. byte_stays g old.shown new.shown place torn.size (torn.after place high);
      };
  settled = tears.settled;
  pending = λ honest place. ap (λ (p : Bool). p || waits g place) (tears.pending honest place) ∙ or_swap (old.pending place) (within at count place) (waits g place);
}

-- a write that returns Ok, if no byte waits
pub writes_over : (g : BufferedBytes) (at : ℕ) (bytes : List ℕ) (old new : Content) → length g.bytes ≡ 0 → Writes at bytes old new → Writes at bytes (content_over g old) (content_over g new)
writes_over g at bytes old new none writes = search (arith, none_over, writes.shown)

-- a sync that returns Ok, if no byte waits
pub settles_over : (g : BufferedBytes) (old new : Content) → length g.bytes ≡ 0 → Settles old new → Settles (content_over g old) (content_over g new)
settles_over g old new none settles = search (arith, none_over, or_none, none_waits, settles.shown, settles.rests.settled, new.pending, settles.rests.pending)

-- a write of the waiting bytes returns Ok: no byte waits any longer, and nothing changes
pub written_out : (g : BufferedBytes) (old new : Content) → g.at + length g.bytes ≤ size old → Tears g.at (length g.bytes) old new
    → Writes g.at g.bytes old new → Stays (content_over g old) (content_over (emptied g) new)
written_out g old new fits tears writes = search (arith, none_over, written_over, or_none, none_waits, writes.shown, new.pending, tears.pending)

-- it returns Err: the bytes still wait, and nothing changes
pub not_written_out : (g : BufferedBytes) (old new : Content) → Tears g.at (length g.bytes) old new → Stays (content_over g old) (content_over g new)
not_written_out g old new tears = search (arith, torn_under, or_again, tears.shown, tears.pending, old.pending)

-- a crash: the waiting bytes are lost
pub restarts_over : (g : BufferedBytes) (old new : Content) → Restarts old new → Restarts (content_over g old) (content_over (emptied g) new)
restarts_over g old new restarts = search (arith, none_over, or_none, none_waits, restarts.left, restarts.rests.settled, new.pending, restarts.rests.pending)

-- ---- more waiting bytes

-- they continue the waiting bytes, if there are any
continues : (g : BufferedBytes) (from count : ℕ) → IsTrue (takes g from count) → 0 < length g.bytes → from ≡ g.at + length g.bytes
continues g from count room some = grind (arith, nat_tests)

-- the places of both
within_both : (at n from m place : ℕ) → (0 < n → from ≡ at + n) → within (from - n) (n + m) place ≡ (within at n place || within from m place)
within_both at n from m place next = search (arith, cases_lt)

module _ (g : BufferedBytes) (from : ℕ) (bytes image : List ℕ) (room : IsTrue (takes g from (length bytes))) (fits : from + length bytes ≤ length image) where
  -- a byte waits at a place if it did before, or if the place is one of the new bytes'
  waits_grown : (place : ℕ) → waits (grown g from bytes) place ≡ (waits g place || within from (length bytes) place)
  waits_grown place = cc (length-append g.bytes bytes, within_both g.at (length g.bytes) from (length bytes) place (continues g from (length bytes) room))

  -- outside of the new bytes nothing changes
  byte_grown : (place : ℕ) → within from (length bytes) place ≡ false → get_or (image_over (grown g from bytes) image) place 0 ≡ get_or (image_over g image) place 0
  byte_grown place outside = elim (cases_Bool (waits g place)) [
    | inl there ↦
        let range = within_range g place there in
        let next = continues g from _ room (omega (arith, range.0, range.1)) in
        let now : waits (grown g from bytes) place ≡ true = cc (waits_grown place) in
        elim (cases_lt place (length image)) [
          | inl inside ↦
              byte_there (grown g from bytes) image place now inside
              ∙ get_or_append_left g.bytes bytes 0 (place - (from - length g.bytes)) (omega (arith, next, range.0, range.1))
              ∙ ap (λ (n : ℕ). get_or g.bytes n 0) (omega (arith, next, range.0, range.1))
              ∙ sym (byte_there g image place there inside)
          | inr past ↦ get_or_past _ place 0 (omega (arith, length-image_over (grown g from bytes) image)) ∙ sym (get_or_past _ place 0 (omega (arith, length-image_over g image)))
        ]
    | inr elsewhere ↦
        byte_elsewhere (grown g from bytes) image place (cc (waits_grown place)) ∙ sym (byte_elsewhere g image place elsewhere)
  ]

  -- the new bytes are there
  byte_new : (place : ℕ) → place < length bytes → get_or (image_over (grown g from bytes) image) (from + place) 0 ≡ get_or bytes place 0
  byte_new place inside =
      let begin : (0 < length g.bytes → from ≡ g.at + length g.bytes) = continues g from (length bytes) room in
      let before : length g.bytes ≤ from = elim (cases_lt 0 (length g.bytes)) [ inl some ↦ omega (arith, begin some) | inr none ↦ omega arith ] in
      let now : waits (grown g from bytes) (from + place) ≡ true = grind (arith, nat_tests, length-append g.bytes bytes) in
      byte_there (grown g from bytes) image (from + place) now (omega arith)
      ∙ get_or-append_right g.bytes bytes (length g.bytes) (from + place - (from - length g.bytes)) 0 refl (omega (arith, before))
      ∙ ap (λ (n : ℕ). get_or bytes n 0) (omega (arith, before))

  -- the image is torn in the range of the new bytes
  torn_grown : Torn from (length bytes) (image_over g image) (image_over (grown g from bytes) image)
  torn_grown = record {
    size = length-image_over (grown g from bytes) image ∙ sym (length-image_over g image);
    before = λ place low. byte_grown place (grind (arith, nat_tests));
    after = λ place high. byte_grown place (grind (arith, nat_tests));
  }

  -- it has the new bytes in their places
  written_grown : image_over (grown g from bytes) image ≡ splice from bytes (image_over g image)
  written_grown =
      let in_over : from + length bytes ≤ length (image_over g image) = omega (arith, length-image_over g image) in
      let torn = torn_splice from bytes (image_over g image) in_over in
      ext_get_or 0 _ _ (torn_grown.size ∙ sym torn.size) (λ place inside. elim (cases_lt place from) [
        | inl low ↦ torn_grown.before place low ∙ sym (torn.before place low)
        | inr high ↦ elim (cases_lt place (from + length bytes)) [
          | inl there ↦
              ap (λ (n : ℕ). get_or (image_over (grown g from bytes) image) n 0) (omega arith)
              ∙ byte_new (place - from) (omega arith)
              ∙ sym (splice_byte from bytes (image_over g image) (place - from) in_over (omega arith))
              ∙ ap (λ (n : ℕ). get_or (splice from bytes (image_over g image)) n 0) (omega arith)
          | inr behind ↦ torn_grown.after place behind ∙ sym (torn.after place behind)
        ]
      ])

-- more bytes wait: the disk is as after a write
pub grown_tears : (g : BufferedBytes) (from : ℕ) (bytes : List ℕ) (inner : Content) → IsTrue (takes g from (length bytes))
    → from + length bytes ≤ size inner → Tears from (length bytes) (content_over g inner) (content_over (grown g from bytes) inner)
grown_tears g from bytes inner room fits = record {
  honest = refl;
  shown = λ honest. torn_grown g from bytes inner.shown room fits;
  settled = λ honest. refl;
  pending = λ honest place. cc (waits_grown g from bytes inner.shown room fits place, or_assoc (inner.pending place) (waits g place) (within from (length bytes) place));
}

-- and as after one that returns Ok
pub grown_writes : (g : BufferedBytes) (from : ℕ) (bytes : List ℕ) (inner : Content) → IsTrue (takes g from (length bytes))
    → from + length bytes ≤ size inner → Writes from bytes (content_over g inner) (content_over (grown g from bytes) inner)
grown_writes g from bytes inner room fits = search (arith, written_grown)

-- ---- reads

-- the waiting bytes laid over a part of the image give the same part of the image with the waiting bytes
pub laid_shows : (g : BufferedBytes) (at n : ℕ) (image old new : List ℕ) → LaidOver g at old new → length old ≡ n → at + n ≤ length image
    → old ≡ slice_range image at (at + n) → new ≡ slice_range (image_over g image) at (at + n)
laid_shows g at n image old new laid long fits is =
    let in_over : at + n ≤ length (image_over g image) = omega (arith, length-image_over g image) in
    ext_get_or 0 _ _ (laid.size ∙ sym (omega (arith, length-between (image_over g image) at (at + n) in_over))) (λ place inside.
    let near : place < length old = omega (arith, laid.size) in
    let ahead : at + place < at + n = omega arith in
    let shown = get_or-between (image_over g image) at (at + n) place 0 ahead in
    laid.byte place near ∙ sym (shown ∙ elim (cases_Bool (waits g (at + place))) [
      | inl there ↦ byte_there g image (at + place) there (omega arith) ∙ sym (cond-true _ _ _ there)
      | inr elsewhere ↦
          cc (byte_elsewhere g image (at + place) elsewhere, cond-false _ _ _ elsewhere, get_or-between image at (at + n) place 0 ahead)
    ]))

-- if all bytes of the range wait, the image does not matter
pub laid_whole : (g : BufferedBytes) (at n : ℕ) (image old new : List ℕ) → LaidOver g at old new → length old ≡ n → at + n ≤ length image
    → IsTrue (holds g at n) → new ≡ slice_range (image_over g image) at (at + n)
laid_whole g at n image old new laid long fits all =
    let in_over : at + n ≤ length (image_over g image) = omega (arith, length-image_over g image) in
    ext_get_or 0 _ _ (laid.size ∙ sym (omega (arith, length-between (image_over g image) at (at + n) in_over))) (λ place inside.
    let near : place < length old = omega (arith, laid.size) in
    let ahead : place < n = omega arith in
    let there : waits g (at + place) ≡ true = grind (arith, nat_tests) in
    laid.byte place near ∙ cond-true _ _ _ there
    ∙ sym (get_or-between (image_over g image) at (at + n) place 0 (omega arith) ∙ byte_there g image (at + place) there (omega arith)))

-- the waiting bytes do not overlap the range
pub laid_nowhere : (g : BufferedBytes) (at : ℕ) (old : List ℕ) → ((place : ℕ) → place < length old → waits g (at + place) ≡ false) → LaidOver g at old old
laid_nowhere g at old none = record { size = refl; byte = λ place inside. sym (cond-false _ _ _ (none place inside)) }

-- or some of them do
module _ (g : BufferedBytes) (at start end : ℕ) (old part : List ℕ) (a : g.at ≤ start) (b : at ≤ start) (c : start ≤ end) (d : end ≤ g.at + length g.bytes) (e : end ≤ at + length old)
    (first : g.at < start → start ≡ at) (last : end < g.at + length g.bytes → end ≡ at + length old) (is : part ≡ slice_range g.bytes (start - g.at) (end - g.at)) where
  part_size : length part ≡ end - start
  part_size = ap length is ∙ omega (arith, length-between g.bytes (start - g.at) (end - g.at) (omega arith))

  part_fits : (start - at) + length part ≤ length old
  part_fits = omega (arith, part_size)

  part_torn : Torn (start - at) (length part) old (splice (start - at) part old)
  part_torn = torn_splice (start - at) part old part_fits

  none_before : (place : ℕ) → at + place < start → waits g (at + place) ≡ false
  none_before place low = elim (cases_lt g.at start) [ inl later ↦ absurd (omega (arith, first later)) | inr is ↦ grind (arith, nat_tests) ]

  none_behind : (place : ℕ) → place < length old → end ≤ at + place → waits g (at + place) ≡ false
  none_behind place inside behind = elim (cases_lt end (g.at + length g.bytes)) [ inl earlier ↦ absurd (omega (arith, last earlier)) | inr is ↦ grind (arith, nat_tests) ]

  waits_between : (place : ℕ) → start ≤ at + place → at + place < end → waits g (at + place) ≡ true
  waits_between place high low = grind (arith, nat_tests)

  pub laid_there : LaidOver g at old (splice (start - at) part old)
  laid_there = record {
    size = part_torn.size;
    byte = λ place inside. elim (cases_lt (at + place) start) [
      | inl low ↦ part_torn.before place (omega arith) ∙ sym (cond-false _ _ _ (none_before place low))
      | inr high ↦ elim (cases_lt (at + place) end) [
        | inl there ↦
            let same : (start - g.at) + (at + place - start) ≡ at + place - g.at = omega arith in
            search (arith, splice_byte, part_fits, part_size, get_or-between, cond-true, waits_between)
        | inr behind ↦ search (arith, part_torn, part_size, cond-false, none_behind)
      ]
    ];
  }

-- ---- sizes and places

-- waiting bytes change no size
pub size_over : (g : BufferedBytes) (inner : Content) → size (content_over g inner) ≡ size inner
size_over g inner = length-image_over g inner.shown

-- nor do those of all buffers
pub size_over_all : (b : Buffers) (inner : Content) → size (content_over_all b inner) ≡ size inner
size_over_all b inner = size_over b.first (content_over b.second (content_over b.third inner)) ∙ size_over b.second (content_over b.third inner) ∙ size_over b.third inner

-- a range that lies within a disk that buffers lies within its inner disk
pub fits_inner : {D : Type 0} (content : D → Content) {s t : BufferedState D} {end : ℕ} → s ≡ t → end ≤ size (buffered_content content t) → end ≤ size (content s.inner)
fits_inner content {s} is fits = let now = rw (← is) at fits in omega (arith, now, size_over_all s.buffers (content s.inner))

-- more waiting bytes lie within the disk if the last of them does
pub grown_places : (g : BufferedBytes) (from : ℕ) (bytes : List ℕ) (size : ℕ) → IsTrue (takes g from (length bytes))
    → from + length bytes ≤ size → (grown g from bytes).at + length (grown g from bytes).bytes ≤ size
grown_places g from bytes size room fits = search (arith, cases_lt, continues, length-append)

-- ---- exits of a call, by the waiting bytes and their place

-- the waiting bytes were written
pub out_at : (g : BufferedBytes) (at : ℕ) (bytes : List ℕ) (old new : Content) → at ≡ g.at → bytes ≡ g.bytes → g.at + length g.bytes ≤ size old
    → Tears at (length bytes) old new → Writes at bytes old new → Stays (content_over g old) (content_over (emptied g) new)
out_at g at bytes old new same_at same_bytes fits tears writes = search (arith, written_out)

-- they were not written
pub not_out_at : (g : BufferedBytes) (at : ℕ) (bytes : List ℕ) (old new : Content) → at ≡ g.at → bytes ≡ g.bytes → Tears at (length bytes) old new → Stays (content_over g old) (content_over g new)
not_out_at g at bytes old new same_at same_bytes tears = search (arith, not_written_out)

-- ---- a disk in a file

-- a disk that was opened or made, and the disk that buffers for it, have the same length
opened_size : {F : Type 0} (content : F → Content) (len : ℕ) (disk : BufferedState (FileState F)) → IsOpened content len disk.inner → size (buffered_content (random_access_content content) disk) ≡ len
opened_size content len disk opened = size_over_all disk.buffers (random_access_content content disk.inner) ∙ opened.bytes

-- if there is one
pub opened_sizes : {E : Type 0} (len : ℕ) (answer : Result FileDisk E) → IfOk answer (λ disk. IsOpened system_content len disk.inner.inner)
    → IfOk answer (λ disk. size (buffered_content file_content disk.inner) ≡ len)
opened_sizes len (Ok disk) opened = opened_size system_content len disk.inner opened
opened_sizes len (Err error) opened = opened
