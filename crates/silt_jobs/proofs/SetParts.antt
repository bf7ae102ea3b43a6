-- Jobs on the files of a set, shard by shard.
use Rattle.silt_jobs.proofs.Common.{Err, ◌≡◌, ◌≤◌, ◌<◌, ◌+◌, ◌∙◌, ℕ, zero, suc, drop, max, false, true, List, [], ◌∷◌, ◌++◌, Option, Some, None, inl, inr, refl, sym, ap, arith, Ghosts}
use Rattle.silt_jobs.proofs.Common.{exit_status, DoesEach, DoesFirst, DumpsFirst, worst_status, Ended, Failures, get_or, length, Bool, Result, Ok, size, Shape, device_size, TendedState, Refuses}
use Rattle.silt_jobs.proofs.Common.{MakesShards, first_refusal, refusal_or, Why, is_err, MatchResult, at_shard, is_done_so, HasFormatted, MakesShard, shard_file, done_by, DoesShard, ended_with}
use Rattle.silt_jobs.proofs.Common.{drop-cons, FormatOptions, Numbers, shape_asked}
use Rattle.std.specs.Prelude.{slice_get}
use Rattle.silt_jobs.specs.Dump.{Dumps}
use Rattle.silt_jobs.specs.declared.people.ended.Ends.{Ends}
use Rattle.silt_jobs.specs.declared.jobs.set_jobs.ShardJob.{ShardJob}
use Rattle.silt_device.specs.declared.source.DiskSource.{Ghosts as SourceOf}
use Rattle.silt_shards.specs.Marks.{mark_at, mark_len}
use Rattle.silt_jobs.specs.Files.{FormatsFile, FormatsSized, sized_by}
use Rattle.silt_jobs.specs.HeldData.{TellsStore, overwritten}
use Rattle.silt_jobs.specs.declared.jobs.held_data.HeldStore.{HeldStore}
use Rattle.silt_jobs.specs.declared.people.urgent.Urgent.{Urgent}

module _ {X : Type 0} where
  -- the item at a place
  pub at_place : (xs : List X) (n : ℕ) (x : X) (rest : List X) → drop n xs ≡ x ∷ rest → slice_get xs n ≡ Some x
  at_place xs zero x rest is = ap (λ (l : List X). slice_get l 0) is
  at_place [] (suc n) x rest is = absurd (cc)
  at_place (y ∷ xs) (suc n) x rest is = at_place xs n x rest is

  -- the items behind that place
  pub behind_place : (xs : List X) (n : ℕ) (x : X) (rest : List X) → drop n xs ≡ x ∷ rest → drop (suc n) xs ≡ rest
  behind_place xs zero x rest is = ap (drop 1) is
  behind_place [] (suc n) x rest is = absurd (cc)
  behind_place (y ∷ xs) (suc n) x rest is = behind_place xs n x rest is

-- the worst status with one more part
pub worst_more : {E F : Type 0} (worst : ℕ) (parts : List (Ended E F)) (part : Ended E F) → worst_status worst (parts ++ part ∷ []) ≡ max (worst_status worst parts) (exit_status part)
worst_more worst [] part = refl
worst_more worst (first ∷ parts) part = worst_more (max worst (exit_status first)) parts part

module _ {D E F : Type 0} (facts : Ghosts D F) (disks : List D) where
  -- the lines of one more disk were written
  pub dumped_more : (shard : ℕ) (disk : D) (dumped : Ended E F) (before between after : Option (List ℕ)) → slice_get disks shard ≡ Some disk → is_done_so dumped ≡ true
      → DumpsFirst facts E disks shard before between → Dumps facts disk dumped between after → DumpsFirst facts E disks (shard + 1) before after
  dumped_more shard disk dumped before between after there done so_far one =
      let next : shard + 1 ≡ suc shard = omega arith in rw next (disk, dumped, between, there, done, so_far, one)

module _ {D E F : Type 0} (facts : Ghosts D F) (Failed : D → Failures → Type 0) (job : ShardJob) where
  -- the job was done on the next disk
  pub done_next : (disks : List D) (number shard next : ℕ) (front parts : List (Ended E F)) (disk : D) (rest : List D) (part : Ended E F) (before between after : Option (List ℕ))
      → number ≡ shard → next ≡ suc number → parts ≡ front ++ part ∷ [] → drop number disks ≡ disk ∷ rest → is_err part.status ≡ false
      → DoesFirst facts Failed job disks number front before between → DoesShard facts Failed job shard disk part between after → DoesFirst facts Failed job disks next parts before after
  done_next disks number shard next front parts disk rest part before between after same more is there written so_far one =
      rw more (front, disk, part, between, is, at_place disks number disk rest there, written, so_far, rw (← same) at one)

  -- the writer failed at the next disk
  pub broken_off : (items disks : List D) (number shard count : ℕ) (disk : D) (rest : List D) (part : Ended E F) (ends : Ends E F) (before between after : Option (List ℕ))
      → items ≡ disks → number ≡ shard → drop number items ≡ disk ∷ rest → DoesFirst facts Failed job items number ends.parts.items before between → is_err part.status ≡ true
      → DoesShard facts Failed job shard disk part between after → ends.whole ≡ at_shard shard part → DoesEach facts Failed job count disks ends before after
  broken_off items disks number shard count disk rest part ends before between after all same there so_far failed one whole =
      let item : slice_get items number ≡ Some disk = at_place items number disk rest there in
      inr (inl (shard, disk, part, between, rw (same, all) at so_far, rw (same, all) at item, failed, one, whole))

  -- the job was done on all disks
  pub all_done : (items disks : List D) (number count worst : ℕ) (ends : Ends E F) (before after : Option (List ℕ)) → items ≡ disks → number ≡ count
      → DoesFirst facts Failed job items number ends.parts.items before after → worst ≡ worst_status 0 ends.parts.items → ends.whole ≡ ended_with worst
      → DoesEach facts Failed job count disks ends before after
  all_done items disks number count worst ends before after all same so_far is whole = inl (rw (same, all) at so_far, whole ∙ ap ended_with is)

-- a device has room for a mark
pub long_enough : (shape : Shape) → mark_at + mark_len ≤ device_size shape
long_enough shape = omega arith

-- a job that is done was not refused
pub not_refused : {E F X : Type 0} (why : Option (Why E F)) (status : Result ℕ X) → done_by why status ≡ true → why ≡ None
not_refused None status done = refl
not_refused (Some why) status done = absurd (cc)

module _ {D E F : Type 0} (facts : Ghosts D F) (shape : Shape) (ended : Ended E F) (none : ended.why ≡ None) where
  -- a disk that was formatted has the length of its geometry
  by_overwritten : (Resized : D → ℕ → D → Type 0) (NotResized : D → ℕ → E → Type 0) (Told : Urgent → Type 0) (Quiet : Type 0) (found disk : D) (before after : Option (List ℕ))
      (result : Result (Option HeldStore) (Why E F))
      → MatchResult result (λ store. TellsStore Told Quiet store × FormatsSized facts Resized NotResized shape found (Some disk) ended before after)
      (λ why. Quiet × (Some disk ≡ Some found) × Refuses why ended before after)
      → mark_at + mark_len ≤ size (facts.content disk)
  by_overwritten Resized NotResized Told Quiet found disk before after (Ok store) (tells, inr (sized, resized, fits, inl (unmarked, marks, inl done))) = omega (arith, done.0, long_enough shape)
  by_overwritten Resized NotResized Told Quiet found disk before after (Ok store) (tells, inr (sized, resized, fits, inl (unmarked, marks, inr refuses))) = absurd (let is = refuses.2.0 in cc)
  by_overwritten Resized NotResized Told Quiet found disk before after (Ok store) (tells, inr (sized, resized, fits, inr refuses)) = absurd (let is = refuses.2.0 in cc)
  by_overwritten Resized NotResized Told Quiet found disk before after (Ok store) (tells, inl refuses) = absurd (let is = refuses.3.0 in cc)
  by_overwritten Resized NotResized Told Quiet found disk before after (Err why) refuses = absurd (let is = refuses.2.0 in cc)

-- the disk of a file that was formatted has room for a mark
pub room_file : {D E F : Type 0} (facts : Ghosts D F) (Found : D → Type 0) (NotFound : E → Type 0) (Resized : D → ℕ → D → Type 0) (NotResized : D → ℕ → E → Type 0) (Told : Urgent → Type 0)
    (Quiet : Type 0) (numbers : Numbers) (force : Bool) (disk : D) (ended : Ended E F) (before after : Option (List ℕ)) → ended.why ≡ None
    → FormatsFile facts Found NotFound Resized NotResized Told Quiet numbers force (Some disk) ended before after → mark_at + mark_len ≤ size (facts.content disk)
room_file facts Found NotFound Resized NotResized Told Quiet numbers force disk ended before after none (inl refuses) = absurd (let is = refuses.3.0 in cc)
room_file facts Found NotFound Resized NotResized Told Quiet numbers force disk ended before after none (inr (limits, inl refuses)) = absurd (let is = refuses.1.3.0 in cc)
room_file facts Found NotFound Resized NotResized Told Quiet numbers force disk ended before after none (inr (limits, inr (found, is_found, formats))) =
    by_overwritten facts (shape_asked numbers) ended none Resized NotResized Told Quiet found disk before after (overwritten force formats.0) formats.2

module _ {S D E F N : Type 0} (facts : Ghosts D F) (disks : SourceOf S D E F) (source : S) (told : N → N → List ℕ → Urgent → Type 0) (file : List ℕ) (numbers : Numbers) (options : FormatOptions) where
  -- the disk of a shard that was formatted has room for a mark
  pub room_shard : (shard : ℕ) (old new : N) (disk : D) (before after : Option (List ℕ)) → HasFormatted facts disks source told file numbers options shard old new disk before after
      → mark_at + mark_len ≤ size (facts.content disk)
  room_shard shard old new disk before after (ended, done, formats) =
      room_file facts (disks.found source (shard_file file shard)) (disks.not_found source (shard_file file shard)) (sized_by options.sparse disks.resized disks.filled)
      (sized_by options.sparse disks.not_resized disks.not_filled) (told old new (shard_file file shard)) (new ≡ old) numbers
      options.force disk ended before after (not_refused ended.why ended.status done) formats

module _ {S D E F N : Type 0} (facts : Ghosts D F) (disks : SourceOf S D E F) (source : S) (told : N → N → List ℕ → Urgent → Type 0) (file : List ℕ) (numbers : Numbers) (options : FormatOptions)
    (count : ℕ) (set : List ℕ) where
  -- one more shard was made
  pub made_more : (shard : ℕ) (old mid new : N) (front made : List D) (disk : D) (before between after : Option (List ℕ)) → made ≡ front ++ disk ∷ []
      → MakesShards facts disks source told file numbers options count set shard old mid front before between
      → MakesShard facts disks source told file numbers options count set shard mid new disk between after
      → MakesShards facts disks source told file numbers options count set (shard + 1) old new made before after
  made_more shard old mid new front made disk before between after is so_far one =
      let next : shard + 1 ≡ suc shard = omega arith in rw next (front, disk, mid, between, is, so_far, one)

-- ---- refusals of background work

module _ {D : Type 0} where
  -- the first refusal from this store on is its own, or else that of the stores behind it
  pub first_at : (stores : List (TendedState D)) (i : ℕ) (store : TendedState D) → i < length stores → store ≡ get_or stores i store
      → first_refusal (drop i stores) ≡ refusal_or store.refusal (first_refusal (drop (suc i) stores))
  first_at stores i store within is =
      ap first_refusal (drop-cons stores i store within) ∙ ap (λ (s : TendedState D). refusal_or s.refusal (first_refusal (drop (suc i) stores))) (sym is)

  -- behind the last store there is none
  pub none_left : (stores : List (TendedState D)) (i : ℕ) → length stores ≤ i → first_refusal (drop i stores) ≡ None
  none_left [] zero past = refl
  none_left [] (suc i) past = refl
  none_left (store ∷ stores) zero past = absurd (omega (arith, past))
  none_left (store ∷ stores) (suc i) past = none_left stores i (omega (arith, past))
