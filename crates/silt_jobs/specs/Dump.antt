-- The output of a dump.
use Rattle.std.specs.Prelude.{◌≡◌, ◌⊎◌, ℕ, IsTrue, true, List, ◌++◌, Option, Some, None, Result, Ok, Err, codes, flat_map, is_err}
use Rattle.silt_jobs.specs.Common.{Appends, GaveAny, AreFirstEntries, EndsEarly, Ghosts, Key, image_map, refusal_of_opening, OpenError, AreInOrder, AreOfMap, Ended}
use Rattle.hex.specs.Hex.{encode_lower}
use Rattle.silt_jobs.specs.Ended.{IsDone, RefusesSo}
use Rattle.silt_jobs.specs.Jobs.{IsBad}
use Rattle.silt_jobs.specs.Openings.{OnDisk}

-- the line that puts this value at this key
abbrev pub put_line : Key → List ℕ → List ℕ
put_line key value = codes "put " ++ (encode_lower key.0 ++ (codes " " ++ (encode_lower value ++ codes "\n")))

-- the lines that put these entries
abbrev pub entry_lines : List (Key × List ℕ) → List ℕ
entry_lines entries = flat_map (λ (e : Key × List ℕ). put_line e.0 e.1) entries

-- the end of a dump behind its lines: it was done, or the store refused, or the writer failed
abbrev pub EndsDump : {X E F : Type 0} → Result (Option (OpenError F)) X → Ended E F → Option (List ℕ) → Option (List ℕ) → Type 0
EndsDump (Ok None) ended before after = (ended.why ≡ None) × (ended.status ≡ Ok 0) × (after ≡ before)
EndsDump (Ok (Some error)) ended before after = RefusesSo (refusal_of_opening error) ended before after
EndsDump (Err error) ended before after = (ended.why ≡ None) × (is_err ended.status ≡ true)

module _ {D F : Type 0} (facts : Ghosts D F) where
  -- These entries are in the order of their keys. On a disk that obeys the crash model they are all entries of the map that its bytes
  -- represent; or, if a read failed so, those up to some key.
  abbrev pub AreDumped : D → Option (OpenError F) → List (Key × List ℕ) → Type 0
  AreDumped disk None entries = AreInOrder entries × (IsTrue (facts.content disk).honest → AreOfMap (image_map (facts.content disk).shown) entries)
  AreDumped disk (Some error) entries =
      AreInOrder entries × (IsTrue (facts.content disk).honest → (last : Option Key) × AreFirstEntries (image_map (facts.content disk).shown) last entries)
      × EndsEarly (IsTrue (facts.content disk).honest) (GaveAny facts.gave disk) error

  -- the lines of such entries were written, but for the last ones
  abbrev pub GathersLines : D → Option (OpenError F) → Option (List ℕ) → Option (List ℕ) → List ℕ → Type 0
  GathersLines disk early before after lines =
      (entries : List (Key × List ℕ)) × (written : List ℕ) × AreDumped disk early entries × Appends before after written × (written ++ lines ≡ entry_lines entries)

  -- the lines of such entries were written
  abbrev pub WritesLines : D → Option (OpenError F) → Option (List ℕ) → Option (List ℕ) → Type 0
  WritesLines disk early before after = (entries : List (Key × List ℕ)) × AreDumped disk early entries × Appends before after (entry_lines entries)

module _ {D E F : Type 0} (facts : Ghosts D F) where
  -- The lines that put all entries were written, in the order of their keys. On a disk that obeys the crash model these are the entries of
  -- the map that its bytes represent. Or a read failed behind the first of them, and the refusal is behind their lines. Or the disk was
  -- refused before the first line, or the writer failed.
  abbrev pub Dumps : D → Ended E F → Option (List ℕ) → Option (List ℕ) → Type 0
  Dumps disk ended before after =
      ((entries : List (Key × List ℕ)) × AreInOrder entries × (IsTrue (facts.content disk).honest → AreOfMap (image_map (facts.content disk).shown) entries)
      × IsDone (entry_lines entries) ended before after)
      ⊎ (((error : OpenError F) × (between : Option (List ℕ)) × WritesLines facts disk (Some error) before between × RefusesSo (refusal_of_opening error) ended between after)
      ⊎ (((error : OpenError F) × IsBad facts disk error × RefusesSo (refusal_of_opening error) ended before after)
      ⊎ ((ended.why ≡ None) × (is_err ended.status ≡ true))))

  -- a dump of the disk that the source opened, which is returned, or it opened none
  abbrev pub DumpsFile : (D → Type 0) → (E → Type 0) → Option D → Ended E F → Option (List ℕ) → Option (List ℕ) → Type 0
  DumpsFile Opened NotOpened given ended before after =
      OnDisk Opened NotOpened (λ disk. (given ≡ Some disk) × Dumps disk ended before after) given ended before after
