-- What the jobs on the files of a set do.
use Rattle.std.specs.Prelude.{◌≡◌, ◌⊎◌, ◌<◌, ◌≤◌, ℕ, zero, suc, Bool, true, false, IfOk, IfSome, List, [], ◌∷◌, ◌++◌, MatchBool, Option, Some, None, Result, Ok}
use Rattle.std.specs.Prelude.{codes, map, slice_get}
use Rattle.silt_jobs.specs.Common.{decimal, Appends, AllZip, IsSomeAnd, GaveAny, LeavesOnly, Shape, Ghosts, Map, PlainReply, Event, StandsFor, marking_of, AreShards}
use Rattle.silt_jobs.specs.Common.{IsShardCount, SetCause, AnswersQuery, Admin, AdminReply, CoreState, DoesPlain, Opens, AdministersCore, Ends, SessionEnd}
use Rattle.silt_jobs.specs.Common.{FormatOptions, Numbers, RunOptions, Device, AreOfOneShape, IsRefusedSet, SetDoes, value_len_of, Marked, Ended, Shard, Why}
use Rattle.silt_jobs.specs.Common.{FewRegions, NoDisk, NoJob, StreamError, Tally, Urgent}
use Rattle.silt_device.specs.declared.source.DiskSource.{Ghosts as SourceOf}
use Rattle.silt_event.specs.declared.refusal.Refusal.TheVariants.{NoMemory as OutOfMemory}
use Rattle.silt_shards.specs.SetFacts.{AdministersSet}
use Rattle.silt_jobs.specs.declared.people.ended.Why.TheVariants.{Refused}
use Rattle.silt_jobs.specs.BackgroundWork.{AdministersTended, PlainRefusal, TendedState, TendsThenDoes}
use Rattle.silt_jobs.specs.Ended.{Refuses, none_failed}
use Rattle.silt_jobs.specs.Files.{FormatsFile, sized_by}
use Rattle.silt_jobs.specs.Jobs.{EndsSo}
use Rattle.silt_jobs.specs.Openings.{IsWhy}

-- the name of the file of a shard: that of the set, a dot, and the number of the shard
abbrev pub shard_file : List ℕ → ℕ → List ℕ
shard_file file shard = file ++ (codes "." ++ decimal shard)

-- the job ended so because of the file of this shard
abbrev pub at_shard : {E F : Type 0} → ℕ → Ended E F → Ended E F
at_shard shard ended = record { status = ended.status; why = ended.why; found = Some (Shard shard); failures = ended.failures }

-- the job was refused for this reason because of the file of this shard
abbrev pub RefusesAt : {E F : Type 0} → ℕ → Why E F → Ended E F → Option (List ℕ) → Option (List ℕ) → Type 0
RefusesAt {E} {F} shard why ended before after = (plain : Ended E F) × Refuses why plain before after × (ended ≡ at_shard shard plain)

-- a job is done, and its line was written, by why it was refused and by its status
abbrev pub done_by : {E F X : Type 0} → Option (Why E F) → Result ℕ X → Bool
done_by None (Ok status) = true
done_by why status = false

-- a job is done, and its line was written
abbrev pub is_done_so : {E F : Type 0} → Ended E F → Bool
is_done_so ended = done_by ended.why ended.status

module _ {D F : Type 0} (facts : Ghosts D F) where
  -- the mark of a disk was written: it is this shard of this set, and the store on it stays what it is
  pub record BecomesShard (count : ℕ) (set : List ℕ) (shard : ℕ) (old new : D) : Type 0 where
    pub marked : LeavesOnly (facts.content new) (λ image. marking_of image ≡ Marked (record { count = count; shard = shard; set = set }))
    pub stands : (shape : Shape) (map : Map) → LeavesOnly (facts.content old) (StandsFor shape map) → LeavesOnly (facts.content new) (StandsFor shape map)

module _ {S D E F N : Type 0} (facts : Ghosts D F) (disks : SourceOf S D E F) (source : S) (told : N → N → List ℕ → Urgent → Type 0) (file : List ℕ) (numbers : Numbers) (options : FormatOptions) where
  -- the file of this shard was formatted or not, as one file is
  abbrev pub FormatsShard : ℕ → N → N → Option D → Ended E F → Option (List ℕ) → Option (List ℕ) → Type 0
  FormatsShard shard old new given ended before after =
      FormatsFile facts (disks.found source (shard_file file shard)) (disks.not_found source (shard_file file shard)) (sized_by options.sparse disks.resized disks.filled)
      (sized_by options.sparse disks.not_resized disks.not_filled) (told old new (shard_file file shard)) (new ≡ old) numbers options.force given ended before after

  -- the file of this shard was formatted, and its line was written
  abbrev pub HasFormatted : ℕ → N → N → D → Option (List ℕ) → Option (List ℕ) → Type 0
  HasFormatted shard old new disk before after =
      (ended : Ended E F) × (is_done_so ended ≡ true) × FormatsShard shard old new (Some disk) ended before after

  -- the file of this shard was formatted, and behind that its mark was written
  abbrev pub MakesShard : ℕ → List ℕ → ℕ → N → N → D → Option (List ℕ) → Option (List ℕ) → Type 0
  MakesShard count set shard old new disk before after = (formatted : D) × HasFormatted shard old new formatted before after × BecomesShard facts count set shard formatted disk

  -- so many shards were made, one after the other, and these are their disks
  abbrev pub MakesShards : ℕ → List ℕ → ℕ → N → N → List D → Option (List ℕ) → Option (List ℕ) → Type 0
  MakesShards count set zero old new made before after = (made ≡ []) × (new ≡ old) × (after ≡ before)
  MakesShards count set (suc shard) old new made before after =
      (front : List D) × (disk : D) × (mid : N) × (between : Option (List ℕ)) × (made ≡ front ++ disk ∷ [])
      × MakesShards count set shard old mid front before between × MakesShard count set shard mid new disk between after

  -- the file of a shard was not formatted, or its line was not written, and the job ended so; or memory ran out before that
  abbrev pub EndsUnformatted : ℕ → N → N → Ended E F → Option (List ℕ) → Option (List ℕ) → Type 0
  EndsUnformatted shard old new ended before after =
      ((given : Option D) × (plain : Ended E F) × FormatsShard shard old new given plain before after × (ended ≡ at_shard shard plain))
      ⊎ ((new ≡ old) × RefusesAt shard (Refused OutOfMemory None) ended before after)

  -- the file of a shard was formatted, and its mark was not written
  abbrev pub EndsUnmarked : ℕ → N → N → Ended E F → Option (List ℕ) → Option (List ℕ) → Type 0
  EndsUnmarked shard old new ended before after =
      (disk : D) × (left : D) × (fault : F) × (between : Option (List ℕ)) × HasFormatted shard old new disk before between × GaveAny facts.gave left fault
      × RefusesAt shard (Refused (Device fault) None) ended between after

  -- a shard was not made, and the job ended so
  abbrev pub EndsAtShard : ℕ → N → N → Ended E F → Option (List ℕ) → Option (List ℕ) → Type 0
  EndsAtShard shard old new ended before after = EndsUnformatted shard old new ended before after ⊎ EndsUnmarked shard old new ended before after

  -- the files of a set were formatted and marked, all or those before the one because of which the job ended
  abbrev pub FormatsSet : ℕ → List ℕ → N → N → Ended E F → Option (List ℕ) → Option (List ℕ) → Type 0
  FormatsSet count set old new ended before after =
      ((¬ IsShardCount count) × (new ≡ old) × Refuses NoJob ended before after)
      ⊎ (IsShardCount count
      × (((made : List D) × MakesShards count set count old new made before after × (ended ≡ record { status = Ok 0; why = None; found = None; failures = none_failed }))
      ⊎ (((new ≡ old) × Refuses (Refused OutOfMemory None) ended before after)
      ⊎ ((shard : ℕ) × (made : List D) × (mid : N) × (between : Option (List ℕ)) × MakesShards count set shard old mid made before between
      × EndsAtShard shard mid new ended between after))))

module _ {S D E F : Type 0} (disks : SourceOf S D E F) (source : S) where
  -- the source opened this disk at this path, to read, shared with other readers, or for this job alone
  abbrev pub opened_by : Bool → List ℕ → D → Type 0
  opened_by true = disks.shared source
  opened_by false = disks.opened source

  -- the source opened no disk at this path so
  abbrev pub not_opened_by : Bool → List ℕ → E → Type 0
  not_opened_by true = disks.not_shared source
  not_opened_by false = disks.not_opened source

module _ {S D E F : Type 0} (disks : SourceOf S D E F) (source : S) (shared : Bool) (file : List ℕ) where
  -- the source opened so many files of a set, and these are their disks
  abbrev pub OpensFiles : ℕ → List D → Type 0
  OpensFiles zero given = given ≡ []
  OpensFiles (suc shard) given = (front : List D) × (disk : D) × (given ≡ front ++ disk ∷ []) × OpensFiles shard front × opened_by disks source shared (shard_file file shard) disk

  -- the source opened no file of this shard, and all before it; or memory ran out
  abbrev pub OpensNot : ℕ → Why E F → Type 0
  OpensNot shard why = ((error : E) × not_opened_by disks source shared (shard_file file shard) error × (why ≡ NoDisk error)) ⊎ (why ≡ Refused OutOfMemory None)

-- a refusal, or else that of other stores
abbrev pub refusal_or : Option PlainRefusal → Option PlainRefusal → Option PlainRefusal
refusal_or None others = others
refusal_or (Some refusal) others = Some refusal

-- the first refusal of the background work of these stores, if there is one
abbrev pub first_refusal : {D : Type 0} → List (TendedState D) → Option PlainRefusal
first_refusal [] = None
first_refusal (store ∷ stores) = refusal_or store.refusal (first_refusal stores)

-- these stores, each with no background work done yet
abbrev pub tending_each : {D : Type 0} → Option ℕ → List (CoreState D) → List (TendedState D)
tending_each least cores = map (λ core. record { core = core; least = least; refusal = None }) cores

-- the length of the values of a set of stores
abbrev pub set_value_len : {D : Type 0} → List (CoreState D) → ℕ
set_value_len cores = value_len_of (λ core. core.shape.value_len) cores

-- `opened` was written, and the session of these answerers as a set with the reader and the writer had this end
abbrev pub OpensSession : {A W : Type 0} → (A → A → Event → PlainReply → Type 0) → (A → Admin → AdminReply → Type 0) → (W → Option (List ℕ))
    → SessionEnd → ℕ → List A → List A → Option (List ℕ) → Option (List ℕ) → W → W → Type 0
OpensSession answers administers contents end value_len old new remaining left before after =
    (opened : Option (List ℕ)) × Appends (contents before) opened (codes "opened\n") × Ends (AnswersQuery (SetDoes answers) (AdministersSet administers)) end value_len
    (record { answerer = old; remaining = remaining; contents = opened }) (record { answerer = new; remaining = left; contents = contents after })

-- the shards have fewer hash regions than the hash stores of which a merge is to begin
abbrev pub HasFewRegions : {D : Type 0} → Option ℕ → List (CoreState D) → ℕ → Type 0
HasFewRegions {D} merge_at cores hashes =
    (first : CoreState D) × (slice_get cores 0 ≡ Some first) × (hashes ≡ first.shape.hashes) × IsSomeAnd merge_at (λ least. first.shape.hashes < least)

-- the shards have as many hash regions as the hash stores of which a merge is to begin, if that is said
abbrev pub HasRegions : {D : Type 0} → Option ℕ → List (CoreState D) → Type 0
HasRegions merge_at cores = IfSome (slice_get cores 0) (λ first. IfSome merge_at (λ least. least ≤ first.shape.hashes))

module _ {D E F W : Type 0} (facts : Ghosts D F) (contents : W → Option (List ℕ)) (kept_error : W → Option StreamError)
    (kept_tally : W → Tally) (options : RunOptions) (reading : Option StreamError) where
  -- stores that do background work replied as a set to the lines, and the job ended so
  abbrev pub AnswersTended : ℕ → List (TendedState D) → Ended E F → Option (List ℕ) → Option (List ℕ) → W → W → Type 0
  AnswersTended value_len stores ended remaining left before after =
      (ended.why ≡ None) × IfOk ended.status (λ status. (end : SessionEnd) × (last : List (TendedState D)) × (answered : W)
      × OpensSession (TendsThenDoes facts) AdministersTended contents end value_len stores last remaining left before answered
      × EndsSo contents kept_error kept_tally options reading end (first_refusal last) value_len status ended.found answered after)

  -- stores replied as a set to the lines, and the job ended so
  abbrev pub AnswersPlain : ℕ → List (CoreState D) → Ended E F → Option (List ℕ) → Option (List ℕ) → W → W → Type 0
  AnswersPlain value_len cores ended remaining left before after =
      (ended.why ≡ None) × IfOk ended.status (λ status. (end : SessionEnd) × (last : List (CoreState D)) × (answered : W)
      × OpensSession (DoesPlain facts) AdministersCore contents end value_len cores last remaining left before answered
      × EndsSo contents kept_error kept_tally options reading end None value_len status ended.found answered after)

  -- One life of a set of opened stores. If it tends, each store does the background work that is due before its lines. Or memory ran out before.
  abbrev pub AnswersCores : List (CoreState D) → Ended E F → Option (List ℕ) → Option (List ℕ) → W → W → Type 0
  AnswersCores cores ended remaining left before after =
      Refuses (Refused OutOfMemory None) ended (contents before) (contents after)
      ⊎ MatchBool options.tend
      (AnswersTended (set_value_len cores) (tending_each options.merge_at cores) ended remaining left before after)
      (AnswersPlain (set_value_len cores) cores ended remaining left before after)

  -- one life of opened stores, or they have too few hash regions
  abbrev pub RunsCores : List (CoreState D) → Ended E F → Option (List ℕ) → Option (List ℕ) → W → W → Type 0
  RunsCores cores ended remaining left before after =
      ((hashes : ℕ) × HasFewRegions options.merge_at cores hashes × Refuses (FewRegions hashes) ended (contents before) (contents after))
      ⊎ AnswersCores cores ended remaining left before after

  -- one life of the set on these disks, or one of them is refused
  abbrev pub RunsDisks : List D → Ended E F → Option (List ℕ) → Option (List ℕ) → W → W → Type 0
  RunsDisks disks ended remaining left before after =
      ((shard : ℕ) × (kept : D) × (cause : SetCause F) × (why : Why E F) × IsRefusedSet facts disks shard kept cause × IsWhy cause why × RefusesAt shard why ended (contents before) (contents after))
      ⊎ ((cores : List (CoreState D)) × AreShards facts disks × AreOfOneShape cores × AllZip (λ disk core. Opens facts (facts.content disk) core) disks cores
      × RunsCores cores ended remaining left before after)

module _ {S D E F W : Type 0} (facts : Ghosts D F) (disks : SourceOf S D E F) (source : S) (file : List ℕ) (contents : W → Option (List ℕ)) (kept_error : W → Option StreamError)
    (kept_tally : W → Tally) (options : RunOptions) (reading : Option StreamError) where
  -- one life of the set in the files that the source opened, or it opened one not, or there is no such set
  abbrev pub RunsSet : ℕ → Ended E F → Option (List ℕ) → Option (List ℕ) → W → W → Type 0
  RunsSet count ended remaining left before after =
      ((¬ IsShardCount count) × Refuses NoJob ended (contents before) (contents after))
      ⊎ (((shard : ℕ) × (why : Why E F) × OpensNot disks source false file shard why × RefusesAt shard why ended (contents before) (contents after))
      ⊎ ((given : List D) × IsShardCount count × OpensFiles disks source false file count given
      × RunsDisks facts contents kept_error kept_tally options reading given ended remaining left before after))
