-- What lives do, one after the other.
use Rattle.silt_store_set.proofs.Common.{arith, ◌≡◌, ◌≢◌, ℕ, inr, List, [], ◌∷◌, ◌++◌, Vec, refl, Global, Restarts, Ghosts, LeavesNoOther, SameDisk, Event, LifeReply, NotOpened, Opened}
use Rattle.silt_store_set.proofs.Common.{Refusal, Reply, CoreState, Opens, Runs, OpeningCause, NotFormatted, BadGeometry, Damaged, Crowded, Device, NoMemory, LifeEnds, LifeRun, LivesRun}

module _ {D F : Type 0} (facts : Ghosts D F) (value_len : ℕ) where
  -- ---- one life

  -- a store that was not opened
  pub life_refused : (events : List Event) (refusal : Refusal F) (disk stopped : D) → SameDisk (facts.content disk) (facts.content stopped) → LeavesNoOther (facts.content disk) (facts.content stopped)
      → OpeningCause facts (facts.content disk) stopped refusal → LifeRun facts value_len events (NotOpened refusal) disk stopped
  life_refused events NotFormatted disk stopped same images cause = search arith
  life_refused events (Damaged place) disk stopped same images cause = search arith
  life_refused events Crowded disk stopped same images cause = record { same = same; images = images; cause = cause }
  life_refused events (Device fault) disk stopped same images cause = search arith
  life_refused events NoMemory disk stopped same images cause = search arith
  life_refused events refusal disk stopped same images cause = absurd cause

  pub ends_refused : (events : List Event) (refusal : Refusal F) (disk stopped next : D) → SameDisk (facts.content disk) (facts.content stopped)
      → LeavesNoOther (facts.content disk) (facts.content stopped)
      → OpeningCause facts (facts.content disk) stopped refusal → Restarts (facts.content stopped) (facts.content next) → LifeEnds facts value_len events (NotOpened refusal) disk next
  ends_refused events refusal disk stopped next same images cause restarts = (stopped, life_refused events refusal disk stopped same images cause, restarts)

  -- a store with values of another length
  pub ends_other : (events : List Event) (disk next : D) (core : CoreState D) → Opens facts (facts.content disk) core → core.shape.value_len ≢ value_len
      → Restarts (facts.content core.disk) (facts.content next) → LifeEnds facts value_len events (NotOpened BadGeometry) disk next
  ends_other events disk next core opens other restarts = (core.disk, record { first = core; opens = opens; has_len = other; is = refl }, restarts)

  -- a store that was out of memory for its replies
  pub ends_idle : (events : List Event) (disk next : D) (core : CoreState D) → Opens facts (facts.content disk) core → core.shape.value_len ≡ value_len
      → Restarts (facts.content core.disk) (facts.content next) → LifeEnds facts value_len events (NotOpened NoMemory) disk next
  ends_idle events disk next core opens len restarts = (core.disk, inr (record { first = core; opens = opens; has_len = len; is = refl }), restarts)

  -- a store that did its events
  pub ends_ran : (events : List Event) (replies : Vec (Reply F) Global) (disk next : D) (core after : CoreState D) → Opens facts (facts.content disk) core → core.shape.value_len ≡ value_len
      → Runs facts core events replies.items after → Restarts (facts.content after.disk) (facts.content next) → LifeEnds facts value_len events (Opened replies) disk next
  ends_ran events replies disk next core after opens len runs restarts = search arith

  -- ---- lives in order

  -- lives from this disk to that one
  abbrev pub LivesTo : List (Vec Event Global) → List (LifeReply F) → D → D → Type 0
  LivesTo [] [] disk to = to ≡ disk
  LivesTo (life ∷ lives) (reply ∷ replies) disk to = (next : D) × LifeEnds facts value_len life.items reply disk next × LivesTo lives replies next to
  LivesTo lives replies disk to = ⊥

  -- one life more
  pub lives_on : (lives : List (Vec Event Global)) (replies : List (LifeReply F)) (disk to next : D) (life : Vec Event Global) (reply : LifeReply F)
      → LivesTo lives replies disk to → LifeEnds facts value_len life.items reply to next → LivesTo (lives ++ life ∷ []) (replies ++ reply ∷ []) disk next
  lives_on [] [] disk to next life reply before one = search arith
  lives_on (l ∷ lives) (r ∷ replies) disk to next life reply before one = search (arith, lives_on lives replies before.0 to next life reply before.2 one)
  lives_on lives replies disk to next life reply before one = absurd before

  pub lives_ran : (lives : List (Vec Event Global)) (replies : List (LifeReply F)) (disk to : D) → LivesTo lives replies disk to → LivesRun facts value_len lives replies disk
  lives_ran [] [] disk to run = tt
  lives_ran (l ∷ lives) (r ∷ replies) disk to run = (run.0, run.1, lives_ran lives _ run.0 to run.2)
  lives_ran lives replies disk to run = absurd run
