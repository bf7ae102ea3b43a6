-- The lines of entries, written piece by piece.
use Rattle.silt_jobs.proofs.Common.{IfOk, Err, append-nil, ◌≡◌, ◌++◌, ℕ, IsTrue, List, [], ◌∷◌, Option, Some, None, Result, Ok, inl, inr, refl, sym, subst, ◌∙◌, append_assoc, Appends, Content}
use Rattle.silt_jobs.proofs.Common.{GaveAny, Ghosts, Key, image_map, OpenError, IsNextEntry, PassesTo, Appends-append, Ended, AreFirstEntries, EndsEarly, Appends-none}
use Rattle.std.proofs.lemmas.Grind.{flat_map-append}
use Rattle.silt_jobs.specs.Dump.{Dumps, AreDumped, EndsDump, GathersLines, WritesLines, entry_lines, put_line}
use Rattle.silt_dump.specs.Order.{AreOrderedTo}
use Rattle.silt_dump.specs.Stream.{Streams, value_len_of}
use Rattle.silt_dump.specs.declared.stream.EntryStream.{EntryStream}
use Rattle.silt_dump.proofs.Firsts.{all_first, first_more, no_entries, no_first, ordered_more, with_entry}

-- a stream has given these entries, and their lines are written and gathered
pub record HasGathered (content : Content) (stream : EntryStream) (len : ℕ) (before after : Option (List ℕ)) (lines : List ℕ) : Type 0 where
  pub entries : List (Key × List ℕ)
  pub written : List ℕ
  pub streams : Streams content stream
  pub long : len ≡ value_len_of stream
  pub ordered : AreOrderedTo stream.last entries
  pub first : IsTrue content.honest → AreFirstEntries (image_map content.shown) stream.last entries
  pub appends : Appends before after written
  pub joined : written ++ lines ≡ entry_lines entries

-- at first it has given none
pub gathers_none : (content : Content) (stream : EntryStream) (len : ℕ) (before : Option (List ℕ)) (lines : List ℕ) → Streams content stream
    → stream.last ≡ None → len ≡ value_len_of stream → lines ≡ []
    → HasGathered content stream len before before lines
gathers_none content stream len before lines streams last long none = record {
  entries = [];
  written = [];
  streams = streams;
  long = long;
  ordered = rw last no_entries;
  first = λ honest. rw last (no_first (image_map content.shown));
  appends = Appends-none before;
  joined = none;
}

-- some of the gathered bytes were written
abbrev pub PassesOn : Option (List ℕ) → Option (List ℕ) → List ℕ → List ℕ → Type 0
PassesOn before after old new = (passed : List ℕ) × (old ≡ passed ++ new) × Appends before after passed

module _ (content : Content) (old : EntryStream) (len : ℕ) (before mid : Option (List ℕ)) (lines : List ℕ) (gathered : HasGathered content old len before mid lines) where
  -- it has given one more
  pub gathers_more : (new : EntryStream) (key : Key) (value : List ℕ) (long : ℕ) (after : Option (List ℕ)) (kept : List ℕ) → PassesTo content old new key
      → (IsTrue content.honest → IsNextEntry (image_map content.shown) old.last (Some key) value) → long ≡ len
      → PassesOn mid after (lines ++ put_line key value) kept → HasGathered content new long before after kept
  gathers_more new key value long after kept passes next same on = record {
    entries = with_entry gathered.entries key value;
    written = gathered.written ++ on.0;
    streams = passes.streams;
    long = same ∙ gathered.long ∙ sym passes.same;
    ordered = subst (λ (l : Option Key). AreOrderedTo l (with_entry gathered.entries key value)) (sym passes.last) (ordered_more old.last gathered.entries gathered.ordered key value passes.above);
    first = λ honest.
        subst (λ (l : Option Key). AreFirstEntries (image_map content.shown) l (with_entry gathered.entries key value)) (sym passes.last)
        (first_more old.last gathered.entries gathered.ordered (image_map content.shown) key value passes.above (gathered.first honest) (next honest));
    appends = Appends-append before mid after gathered.written on.0 gathered.appends on.2;
    joined =
        cc (
          append_assoc gathered.written on.0 kept,
          append_assoc gathered.written lines (put_line key value),
          append-nil (put_line key value),
          flat_map-append (λ (e : Key × List ℕ). put_line e.0 e.1) gathered.entries ((key, value) ∷ []),
        );
  }

module _ {D F : Type 0} (facts : Ghosts D F) (disk : D) (stream : EntryStream) (len : ℕ) (before after : Option (List ℕ)) (lines : List ℕ)
    (gathered : HasGathered (facts.content disk) stream len before after lines) where
  -- it has given all
  pub gathers_all : (value : List ℕ) → (IsTrue (facts.content disk).honest → IsNextEntry (image_map (facts.content disk).shown) stream.last None value)
      → GathersLines facts disk None before after lines
  gathers_all value none =
      let dumped : AreDumped facts disk None gathered.entries =
      (gathered.ordered.ordered, λ honest. all_first stream.last gathered.entries gathered.ordered (image_map (facts.content disk).shown) (gathered.first honest) (none honest)) in
      (gathered.entries, gathered.written, dumped, gathered.appends, gathered.joined)

  -- it has ended early
  pub gathers_some : (error : OpenError F) → EndsEarly (IsTrue (facts.content disk).honest) (GaveAny facts.gave disk) error → GathersLines facts disk (Some error) before after lines
  gathers_some error why =
      let dumped : AreDumped facts disk (Some error) gathered.entries = (gathered.ordered.ordered, (λ honest. (stream.last, gathered.first honest)), why) in
      (gathered.entries, gathered.written, dumped, gathered.appends, gathered.joined)

module _ {D F : Type 0} (facts : Ghosts D F) (disk : D) (early : Option (OpenError F)) where
  -- the last lines were written too
  pub writes_lines : (before mid after : Option (List ℕ)) (lines : List ℕ) → GathersLines facts disk early before mid lines → Appends mid after lines → WritesLines facts disk early before after
  writes_lines before mid after lines gathers rest = (gathers.0, gathers.2, rw gathers.4 at (Appends-append before mid after gathers.1 lines gathers.3 rest))

-- a job that ended with the status 0 behind these lines
done_behind : {X : Type 0} (status : Result ℕ X) (before mid after : Option (List ℕ)) (lines : List ℕ) → status ≡ Ok 0 → after ≡ mid
    → Appends before mid lines → IfOk status (λ s. (s ≡ 0) × Appends before after lines)
done_behind {X} status before mid after lines is same appends = rw (is, same) (refl, appends)

-- the end of a dump behind the lines of a stream
pub dumped : {D E F X : Type 0} (facts : Ghosts D F) (disk : D) (written : Result (Option (OpenError F)) X) (ended : Ended E F) (before mid after : Option (List ℕ))
    → IfOk written (λ early. WritesLines facts disk early before mid) → EndsDump written ended mid after → Dumps facts disk ended before after
dumped facts disk (Ok None) ended before mid after writes ends =
    inl (writes.0, writes.1.0, writes.1.1, (ends.0, done_behind ended.status before mid after (entry_lines writes.0) ends.1 ends.2 writes.2))
dumped facts disk (Ok (Some error)) ended before mid after writes ends = inr (inl (error, mid, writes, ends))
dumped facts disk (Err error) ended before mid after writes ends = inr (inr (inr ends))
