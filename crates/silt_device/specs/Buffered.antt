-- The content of a disk that buffers adjacent writes.
use Rattle.std.specs.Prelude.{◌≡◌, ℕ, ◌+◌, ◌-◌, ◌≤◌, ◌<◌, ◌==◌, ◌&&◌, ◌||◌, leb, Bool, true, false, cond, List, [], ◌++◌, length, suc, zero, get_or, map, refl}
use Rattle.std.specs.List.{range_with_len}
use Rattle.std.proofs.Common.{sym, ◌∙◌, inl, inr, arith}
use Rattle.std.proofs.lemmas.Bool.{cases_lt, cond-true, cond-false}
use Rattle.std.proofs.lemmas.List.{get_or_past}
use Rattle.std.proofs.lemmas.List.FromFn.{length-map-range_with_len, get_or-map-range_with_len}
use Rattle.silt_disk.specs.Disk.{Content, GaveAny, Makes, MakesAtMost, size, within}
use Rattle.silt_disk.specs.declared.disk.Call.{Call}
use Rattle.silt_disk.specs.declared.disk.Disk.{Ghosts}
use Rattle.silt_device.specs.declared.buffered_disk.BufferFault.{BufferFault}
use Rattle.silt_device.specs.declared.calls.Calls.{Calls}

-- Adjacent bytes that wait to be written, where they begin, and the room of the buffer. If there are none, the place means nothing.
pub record BufferedBytes : Type 0 where
  pub at : ℕ
  pub bytes : List ℕ
  pub room : ℕ

-- three buffers, the one that was used last in front
pub record Buffers : Type 0 where
  pub first : BufferedBytes
  pub second : BufferedBytes
  pub third : BufferedBytes

-- the room of each buffer, in bytes
abbrev pub buffer_room : ℕ
buffer_room = 65536

-- three empty buffers of this room
abbrev pub no_bytes : ℕ → Buffers
no_bytes room = record { first = record { at = 0; bytes = []; room = room }; second = record { at = 0; bytes = []; room = room }; third = record { at = 0; bytes = []; room = room } }

-- a disk with the waiting bytes, and how many writes and syncs were asked of both together
pub record BufferedState (D : Type 0) : Type 0 where
  pub inner : D
  pub buffers : Buffers
  pub calls : Calls

-- the waiting bytes lie below this place
abbrev pub EndsBy : ℕ → BufferedBytes → Type 0
EndsBy end g = g.at + length g.bytes ≤ end

-- all waiting bytes lie within the inner disk
pub record HasPlaces {D : Type 0} (content : D → Content) (inner : D) (b : Buffers) : Type 0 where
  pub first : EndsBy (size (content inner)) b.first
  pub second : EndsBy (size (content inner)) b.second
  pub third : EndsBy (size (content inner)) b.third

-- whether this many bytes from this place on continue the waiting ones, and there is room
abbrev pub takes : BufferedBytes → ℕ → ℕ → Bool
takes g at count = (length g.bytes == 0 || at == g.at + length g.bytes) && leb (length g.bytes + count) g.room

-- the buffer with these bytes appended
abbrev pub grown : BufferedBytes → ℕ → List ℕ → BufferedBytes
grown g at bytes = record { at = at - length g.bytes; bytes = g.bytes ++ bytes; room = g.room }

-- the buffer without bytes
abbrev pub emptied : BufferedBytes → BufferedBytes
emptied g = record g { bytes = [] }

-- how many writes the waiting bytes will take: one, if there are any
abbrev pub owed : BufferedBytes → ℕ
owed g = cond (length g.bytes == 0) 0 1

-- whether no place has waiting bytes of both
abbrev pub lie_apart : BufferedBytes → BufferedBytes → Bool
lie_apart g h = length g.bytes == 0 || (length h.bytes == 0 || (leb (g.at + length g.bytes) h.at || leb (h.at + length h.bytes) g.at))

-- the buffers with the third one in front
abbrev pub turned : Buffers → Buffers
turned b = record { first = b.third; second = b.first; third = b.second }

-- the buffers with the one in front that takes this many bytes from this place on, if there is one that overlaps none before it
abbrev pub brought : Buffers → ℕ → ℕ → Buffers
brought b at count =
    cond (takes b.first at count) b
    (cond (takes b.second at count && lie_apart b.second b.first) (record { first = b.second; second = b.first; third = b.third })
    (cond (takes b.third at count && (lie_apart b.third b.first && lie_apart b.third b.second)) (turned b) b))

-- the buffers with these bytes appended to the one in front
abbrev pub appended : Buffers → ℕ → List ℕ → Buffers
appended b at bytes = record b { first = grown b.first at bytes }

-- the buffers with the last one in front, without its bytes
abbrev pub freed : Buffers → Buffers
freed b = record { first = emptied b.third; second = b.first; third = b.second }

-- the buffers without bytes
abbrev pub cleared : Buffers → Buffers
cleared b = record { first = emptied b.first; second = emptied b.second; third = emptied b.third }

-- how many writes all waiting bytes will take: one for each buffer that has some
abbrev pub owed_all : Buffers → ℕ
owed_all b = owed b.first + (owed b.second + owed b.third)

-- the buffers once the last one was freed so many times
unfoldable pub freed_times : ℕ → Buffers → Buffers
freed_times zero b = b
freed_times (suc n) b = freed (freed_times n b)

-- how many writes that takes
unfoldable pub owed_by_last : ℕ → Buffers → ℕ
owed_by_last zero b = 0
owed_by_last (suc n) b = owed_by_last n b + owed (freed_times n b).third

-- how many buffers are freed for so many bytes from a place on, if the buffer that takes them is in front: none, if there is one; else
-- the last one, or all if the bytes fit none
abbrev pub to_free : Buffers → ℕ → ℕ → ℕ
to_free b at count = cond (takes b.first at count) 0 (cond (leb count b.third.room) 1 3)

-- the buffers that are ready for them
abbrev pub readied : Buffers → ℕ → ℕ → Buffers
readied b at count = freed_times (to_free (brought b at count) at count) (brought b at count)

-- the buffers after a write that returns Ok: with its bytes, if they fit one
abbrev pub waiting_after : Buffers → ℕ → List ℕ → Buffers
waiting_after b at bytes = cond (takes (readied b at (length bytes)).first at (length bytes)) (appended (readied b at (length bytes)) at bytes) (readied b at (length bytes))

-- how many writes such a write passes to the inner disk: those of the buffers that are freed, and its own if its bytes fit none
abbrev pub passed : Buffers → ℕ → ℕ → ℕ
passed b at count = owed_by_last (to_free (brought b at count) at count) (brought b at count) + cond (takes (readied b at count).first at count) 0 1

-- how many writes the disk was asked for
abbrev pub buffered_writes : {D : Type 0} → BufferedState D → ℕ
buffered_writes disk = disk.calls.writes

-- how many syncs
abbrev pub buffered_syncs : {D : Type 0} → BufferedState D → ℕ
buffered_syncs disk = disk.calls.syncs

module _ {D : Type 0} (writes_of syncs_of : D → ℕ) where
  -- a write of these bytes that returns Ok
  pub record PassesOn (at : ℕ) (bytes : List ℕ) (old new : BufferedState D) : Type 0 where
    pub waiting : new.buffers ≡ waiting_after old.buffers at bytes
    pub made : Makes writes_of syncs_of (passed old.buffers at (length bytes)) 0 old.inner new.inner

  -- a sync that returns Ok: the waiting bytes were written, and then came one sync
  pub record WritesOut (old new : BufferedState D) : Type 0 where
    pub none : new.buffers ≡ cleared old.buffers
    pub made : Makes writes_of syncs_of (owed_all old.buffers) 1 old.inner new.inner

  -- From the old state to the new one the inner disk made no more than this many writes, if those that the waiting bytes will take
  -- are added to both sides, and exactly this many syncs.
  pub record SavesWrites (w s : ℕ) (old new : BufferedState D) : Type 0 where
    pub made : ℕ
    pub fewer : made + owed_all new.buffers ≤ w + owed_all old.buffers
    pub makes : Makes writes_of syncs_of made s old.inner new.inner

  -- What is saved adds up: so over any calls the inner disk makes no more writes than this one was asked for, with one more for each call
  -- that failed. The bytes that waited at first count too; if none did, they add nothing.
  pub record SavesWritesLaw : Type 0 where
    pub both : (a b c d : ℕ) (old mid new : BufferedState D) → SavesWrites a b old mid → SavesWrites c d mid new → SavesWrites (a + c) (b + d) old new
    pub most : (w s : ℕ) (old new : BufferedState D) → owed_all old.buffers ≡ 0 → SavesWrites w s old new → MakesAtMost writes_of syncs_of w s old.inner new.inner

-- whether the byte of a place is waiting
abbrev pub waits : BufferedBytes → ℕ → Bool
waits g place = within g.at (length g.bytes) place

-- the byte at a place: the waiting one, if there is one, and else the image's
abbrev pub byte_over : BufferedBytes → List ℕ → ℕ → ℕ
byte_over g image place = cond (waits g place) (get_or g.bytes (place - g.at) 0) (get_or image place 0)

-- an image with the waiting bytes laid over it
pub image_over : BufferedBytes → List ℕ → List ℕ
image_over g image = map (byte_over g image) (range_with_len 0 (length image))

-- it has the same length
pub length-image_over : (g : BufferedBytes) (image : List ℕ) → length (image_over g image) ≡ length image
unfolding image_over
length-image_over g image = length-map-range_with_len (byte_over g image) 0 (length image)

-- at a place where no byte waits it has the image's byte
pub byte_elsewhere : (g : BufferedBytes) (image : List ℕ) (place : ℕ) → waits g place ≡ false → get_or (image_over g image) place 0 ≡ get_or image place 0
unfolding image_over
byte_elsewhere g image place none = elim (cases_lt place (length image)) [
  | inl inside ↦ get_or-map-range_with_len (byte_over g image) 0 (length image) place place 0 inside (omega arith) ∙ cond-false _ _ _ none
  | inr past ↦ get_or_past _ place 0 (omega (arith, length-image_over g image)) ∙ sym (get_or_past image place 0 past)
]

-- at a place where a byte waits it has that byte
pub byte_there : (g : BufferedBytes) (image : List ℕ) (place : ℕ) → waits g place ≡ true → place < length image → get_or (image_over g image) place 0 ≡ get_or g.bytes (place - g.at) 0
unfolding image_over
byte_there g image place there inside = get_or-map-range_with_len (byte_over g image) 0 (length image) place place 0 inside (omega arith) ∙ cond-true _ _ _ there

-- if `a or b` is false, both are false
pub neither : (a b : Bool) → (a || b) ≡ false → (a ≡ false) × (b ≡ false)
neither true b is = absurd (cc)
neither false b is = (refl, is)

-- What is shown is what the inner disk shows, with the waiting bytes laid over it. Their places are pending too.
abbrev pub content_over : BufferedBytes → Content → Content
content_over g inner = record {
  honest = inner.honest;
  shown = image_over g inner.shown;
  settled = inner.settled;
  pending = λ place. inner.pending place || waits g place;
  sizes = length-image_over g inner.shown ∙ inner.sizes;
  agrees = λ place none.
      let both = neither _ _ none in
      byte_elsewhere g inner.shown place both.1 ∙ inner.agrees place both.0;
}

-- the same with the bytes of all buffers: those of one in front lie over those behind it
abbrev pub content_over_all : Buffers → Content → Content
content_over_all b inner = content_over b.first (content_over b.second (content_over b.third inner))

-- the content of a disk that buffers, from that of its inner disk
abbrev pub buffered_content : {D : Type 0} → (D → Content) → BufferedState D → Content
buffered_content content disk = content_over_all disk.buffers (content disk.inner)

-- the fault has its call, its range, the disk's number of failures at that time, and a fault that the inner disk gave
abbrev pub buffered_gave : {D F : Type 0} → (D → F → Call → ℕ → ℕ → Type 0) → BufferedState D → BufferFault F → Call → ℕ → ℕ → Type 0
buffered_gave {D} gave disk fault call at count =
    (fault.call ≡ call) × (fault.at ≡ at) × (fault.count ≡ count) × (fault.failures ≡ disk.calls.failures) × ((inner : D) × GaveAny gave inner fault.inner)

-- what the trait says of the disk, from what it says of the inner one
abbrev pub buffered_disk : {D F : Type 0} → Ghosts D F → Ghosts (BufferedState D) (BufferFault F)
buffered_disk inner =
    record { content = buffered_content inner.content; failures = λ disk. disk.calls.failures; writes = buffered_writes; syncs = buffered_syncs; gave = buffered_gave inner.gave }

-- whether the buffer has all of this many bytes from this place on
abbrev pub holds : BufferedBytes → ℕ → ℕ → Bool
holds g at count = leb g.at at && leb (at + count) (g.at + length g.bytes)

-- bytes of an image from this place on, with the waiting bytes laid over them
pub record LaidOver (g : BufferedBytes) (at : ℕ) (old new : List ℕ) : Type 0 where
  pub size : length new ≡ length old
  pub byte : (place : ℕ) → place < length old → get_or new place 0 ≡ cond (waits g (at + place)) (get_or g.bytes (at + place - g.at) 0) (get_or old place 0)

-- whether one of the buffers has all of them
abbrev pub has_all : Buffers → ℕ → ℕ → Bool
has_all b at count = holds b.first at count || (holds b.second at count || holds b.third at count)

-- the same with the bytes of all buffers
pub record LaidOverAll (b : Buffers) (at : ℕ) (old new : List ℕ) : Type 0 where
  pub behind : List ℕ
  pub between : List ℕ
  pub third : LaidOver b.third at old behind
  pub second : LaidOver b.second at behind between
  pub first : LaidOver b.first at between new
