-- Steps of background work, one more at a time.
use Rattle.silt_jobs.proofs.Common.{option_map, Err, ◌≡◌, ◌≢◌, ◌+◌, ◌≤◌, ◌<◌, ℕ, Bool, true, false, IsTrue, List, [], ◌∷◌, ◌++◌, length, Option, Some, None, Result, Ok, refl, sym, ap, ◌∙◌, subst}
use Rattle.silt_jobs.proofs.Common.{arith, inl, inr, All-nil, All-push, Ghosts, Shape, HasValueOf, Convert, Merge, Refusal, CoreState, DoesPlain, is_refused, PlainRefusal, TendsDue, TendsThenDoes}
use Rattle.silt_jobs.proofs.Common.{begins, due_at_once, is_idle, ◌&&◌, ◌||◌, not, cond, IsErrAnd, is_some, length-append, PlainReply, plain_refusal, Event, Idle, Waiting, Reply, NoRoom, Spent}
use Rattle.silt_jobs.proofs.Common.{Refused, Does, awaits_region, convert_due, is_convert, is_merge, wants_convert, AreDone, RunsDue, StopsAt, TakesSteps, TendsAll, TendsPlain, count_of}
use Rattle.silt_jobs.proofs.Common.{due_between, error_of, is_paused, merges, most_steps}
use Rattle.silt_event.specs.Events.{plain}
use Rattle.silt_event.specs.declared.event.Event.TheVariants.{Delete, Put, Swap}
use Rattle.silt_event.specs.declared.progress.Progress.{Progress as ProgressOf}
use Rattle.silt_event.specs.declared.reply.Reply.TheVariants.{Progress}
use Rattle.silt_store_set.specs.CoreState.{Cause, ConvertsTo}
use Rattle.silt_jobs.specs.declared.jobs.background_work.Steps.{Steps}

-- one event more is one more of its kind
pub count_more : (is_kind : Event → Bool) (events : List Event) (event : Event) → count_of is_kind (events ++ event ∷ []) ≡ count_of is_kind events + cond (is_kind event) 1 0
count_more is_kind [] event = omega arith
count_more is_kind (e ∷ events) event = omega (arith, count_more is_kind events event)

-- there was no refusal, if there is none without its fault
pub none_plain : {F : Type 0} (refused : Option (Refusal F)) (refusal : Option PlainRefusal) → refusal ≡ option_map plain_refusal refused → refusal ≡ None → refused ≡ None
none_plain None refusal is none = refl
none_plain (Some r) refusal is none = absurd (cc)

-- what holds of this refusal holds of that of a result which is one
pub due_error : {T F : Type 0} (P : Option (Refusal F) → Type 0) (result : Result T (Refusal F)) (refusal : Refusal F) → IsErrAnd result (λ e. e ≡ refusal) → P (Some refusal) → P (error_of result)
due_error P (Ok value) refusal is p = absurd is
due_error P (Err e) refusal is p = rw is p

-- the store rests if no conversion is due and no merge begins
pub rests_so : (idle begun : Bool) → (idle && not begun) ≡ true → (idle ≡ true) × (begun ≡ false)
rests_so idle begun is = grind arith

-- a merge is due if the store does not rest where no conversion is due
idle_due : (waits begun : Bool) → (true && not begun) ≡ false → (waits || begun) ≡ true
idle_due waits begun is = grind arith

module _ {D F : Type 0} (facts : Ghosts D F) (is_due : CoreState D → Event → Bool) where
  -- a run of steps that are due goes on by one
  pub due_more : (old mid new : CoreState D) (events : List Event) (replies : List (Reply F)) (event : Event) (reply : Reply F)
      → RunsDue facts is_due old events replies mid → IsTrue (is_due mid event) → Does facts mid new event reply → RunsDue facts is_due old (events ++ event ∷ []) (replies ++ reply ∷ []) new
  due_more old mid new [] [] event reply run due does =
      (new, subst (λ (c : CoreState D). IsTrue (is_due c event)) run due, subst (λ (c : CoreState D). Does facts c new event reply) run does, refl)
  due_more old mid new (e ∷ events) (r ∷ replies) event reply run due does = (run.0, run.1, run.2, due_more run.0 mid new events replies event reply run.3 due does)
  due_more old mid new [] (r ∷ replies) event reply run due does = absurd run
  due_more old mid new (e ∷ events) [] event reply run due does = absurd run

  -- no step yet
  abbrev pub none_taken : (core : CoreState D) → TakesSteps facts is_due core core
  none_taken core = record { events = []; replies = []; run = refl }

  -- one step more
  abbrev pub one_more : (old mid new : CoreState D) (event : Event) (reply : Reply F) → IsTrue (is_due mid event) → TakesSteps facts is_due old mid → Does facts mid new event reply
      → TakesSteps facts is_due old new
  one_more old mid new event reply due taken does = record {
    events = taken.events ++ event ∷ [];
    replies = taken.replies ++ reply ∷ [];
    run = due_more old mid new taken.events taken.replies event reply taken.run due does;
  }

  -- one step more, which was refused
  abbrev pub stops_more : (old mid new : CoreState D) (event : Event) (refusal : Refusal F) → IsTrue (is_due mid event) → (taken : TakesSteps facts is_due old mid) → AreDone taken.replies
      → Does facts mid new event (Refused refusal) → StopsAt facts is_due old new refusal
  stops_more old mid new event refusal due taken fine does = (one_more old mid new event (Refused refusal) due taken does, (taken.replies, refl, fine))

module _ {D F : Type 0} (facts : Ghosts D F) where
  -- ---- what is done before a line

  -- this many steps or more between lines, and none was refused
  pub record Going (least : Option ℕ) (old new : CoreState D) (turn : ℕ) : Type 0 where
    pub steps : TakesSteps facts (due_between least) old new
    pub fine : AreDone steps.replies
    pub many : turn ≤ length steps.replies
    pub shape : new.shape ≡ old.shape

  pub none_going : (least : Option ℕ) (core : CoreState D) → Going least core core 0
  none_going least core = record { steps = none_taken facts (due_between least) core; fine = All-nil (λ reply. is_refused reply ≡ false); many = omega arith; shape = refl }

  abbrev pub going_more : (least : Option ℕ) (old mid new : CoreState D) (event : Event) (progress : ProgressOf) (turn : ℕ) → IsTrue (due_between least mid event) → Going least old mid turn
      → Does facts mid new event (Progress progress) → Going least old new (turn + 1)
  going_more least old mid new event progress turn due going does = record {
    steps = one_more facts (due_between least) old mid new event (Progress progress) due going.steps does;
    fine = All-push (λ reply. is_refused reply ≡ false) going.steps.replies (Progress progress) going.fine refl;
    many = omega (arith, going.many, length-append going.steps.replies (Progress progress ∷ []));
    shape = does.shape ∙ going.shape;
  }

  -- a conversion and a merge more
  pub going_two : (least : Option ℕ) (old mid next new : CoreState D) (progress more : ProgressOf) (turn : ℕ) → Going least old mid turn
      → Does facts mid next Convert (Progress progress) → IsTrue (due_between least next Merge) → Does facts next new Merge (Progress more) → Going least old new (turn + 1)
  going_two least old mid next new progress more turn going does due then_does =
      let both = going_more least old next new Merge more (turn + 1) due (going_more least old mid next Convert progress turn refl going does) then_does in
      record { steps = both.steps; fine = both.fine; many = omega (arith, both.many); shape = both.shape }

  -- a merge is due if no conversion can go on and the store does not rest
  pub paused_due : (least : Option ℕ) (mid new : CoreState D) (progress : ProgressOf) → Does facts mid new Convert (Progress progress) → is_paused progress ≡ true
      → (is_idle progress && not (begins new least)) ≡ false → IsTrue (due_between least new Merge)
  paused_due least mid new Idle does paused rests = idle_due (awaits_region (convert_due new)) (begins new least) rests
  paused_due least mid new Waiting does paused rests =
      ap (λ (p : ProgressOf). awaits_region p || begins new least) (ap (λ (c : CoreState D). convert_due c) does.cause.2 ∙ sym does.cause.1)
  paused_due least mid new progress does paused rests = absurd (cc)

  -- if a conversion finds nothing to do, no step is due
  progress_idle : (mid new : CoreState D) (progress : ProgressOf) → progress ≡ convert_due mid → ConvertsTo facts mid new progress → is_idle progress ≡ true → convert_due new ≡ Idle
  progress_idle mid new Idle is same idle = ap (λ (c : CoreState D). convert_due c) same ∙ sym is
  progress_idle mid new progress is same idle = absurd (cc)

  -- all that is due
  pub due_done : (least : Option ℕ) (old mid new : CoreState D) (progress : ProgressOf) (turn : ℕ) → Going least old mid turn → Does facts mid new Convert (Progress progress)
      → is_idle progress ≡ true → begins new least ≡ false → TendsDue facts least old new None
  due_done least old mid new progress turn going does idle rests =
      let all = going_more least old mid new Convert progress turn refl going does in
      record { steps = all.steps; ended = all.fine; done = λ _. (progress_idle mid new progress does.cause.1 does.cause.2 idle, rests); shape = all.shape }

  -- until a step is refused
  pub due_refused : (least : Option ℕ) (old mid new : CoreState D) (event : Event) (refusal : Refusal F) (turn : ℕ) → IsTrue (due_between least mid event) → Going least old mid turn
      → Does facts mid new event (Refused refusal) → TendsDue facts least old new (Some refusal)
  due_refused least old mid new event refusal turn due going does = record {
    steps = one_more facts (due_between least) old mid new event (Refused refusal) due going.steps does;
    ended = inl (going.steps.replies, refl, going.fine);
    done = λ e. absurd (cc);
    shape = does.shape ∙ going.shape;
  }

  -- until the most steps are taken
  pub due_out : (least : Option ℕ) (old new : CoreState D) (turn : ℕ) → most_steps ≤ turn → Going least old new turn → TendsDue facts least old new (Some Spent)
  due_out least old new turn most going = record { steps = going.steps; ended = inr (refl, omega (arith, going.many, most)); done = λ e. absurd (cc); shape = going.shape }

  -- an event fits a store of the same shape
  pub fits_after : (was now : CoreState D) (event : Event) → HasValueOf was.shape.value_len event → now.shape ≡ was.shape → HasValueOf now.shape.value_len event
  fits_after was now event fits shape = subst (λ (s : Shape). HasValueOf s.value_len event) (sym shape) fits

  -- a refusal for lack of room is one with its fault too
  reply_for_room : (reported : Reply F) → plain reported ≡ Refused NoRoom → reported ≡ Refused NoRoom
  reply_for_room (Refused NoRoom) is = refl
  reply_for_room (Refused refusal) is = absurd (cc)
  reply_for_room reported is = absurd (cc)

  -- an event is refused for lack of room only while a conversion is due or waits
  room_cause : (mid new : CoreState D) (event : Event) → Cause facts mid new event (Refused NoRoom) → convert_due mid ≢ Idle
  room_cause mid new (Put key value) cause = cause.1.2
  room_cause mid new (Delete key) cause = cause.1.2
  room_cause mid new (Swap key before (Some value)) cause = cause.1.1.2
  room_cause mid new (Swap key before None) cause = cause.1.1.2
  room_cause mid new event cause = absurd cause

  has_room : (mid new : CoreState D) (event : Event) (reply : PlainReply) → DoesPlain facts mid new event reply → convert_due mid ≡ Idle → reply ≢ Refused NoRoom
  has_room mid new event reply does idle is =
      let reported = reply_for_room does.0 (sym does.2 ∙ is) in
      room_cause mid new event (subst (λ (r : Reply F). Cause facts mid new event r) reported does.1.cause) idle

  -- the event alone, of a store that does no more background work
  pub does_off : (least : Option ℕ) (refusal : Option PlainRefusal) (core new : CoreState D) (event : Event) (reply : PlainReply) → is_some refusal ≡ true → DoesPlain facts core new event reply
      → TendsThenDoes facts (record { core = core; least = least; refusal = refusal }) (record { core = new; least = least; refusal = refusal }) event reply
  does_off least None core new event reply is does = absurd (cc)
  does_off least (Some r) core new event reply is does = record {
    mid = record { core = core; least = least; refusal = Some r };
    tended = refl;
    does = does;
    least = refl;
    refusal = refl;
    room = λ e. absurd (cc);
  }

  -- the background work, and then the event
  pub does_on : (least : Option ℕ) (before after : Option PlainRefusal) (core mid new : CoreState D) (event : Event) (reply : PlainReply) → is_some before ≡ false
      → TendsPlain facts least core mid after → DoesPlain facts mid new event reply
      → TendsThenDoes facts (record { core = core; least = least; refusal = before }) (record { core = new; least = least; refusal = after }) event reply
  does_on least (Some r) after core mid new event reply is tends does = absurd (cc)
  does_on least None after core mid new event reply is tends does = record {
    mid = record { core = mid; least = least; refusal = after };
    tended = (tends, refl);
    does = does;
    least = refl;
    refusal = refl;
    room = λ none. has_room mid new event reply does (tends.1.done (none_plain tends.0 after tends.2 none)).0;
  }

  -- ---- all of it

  -- this many steps were taken, and counted
  pub record Counted (least : Option ℕ) (old new : CoreState D) (converted merged turn : ℕ) : Type 0 where
    pub taken : TakesSteps facts (due_at_once least) old new
    pub fine : AreDone taken.replies
    pub converts : converted ≡ count_of is_convert taken.events
    pub merges : merged ≡ count_of is_merge taken.events
    pub all : converted + merged ≡ turn

  pub none_counted : (least : Option ℕ) (core : CoreState D) → Counted least core core 0 0 0
  none_counted least core = record { taken = none_taken facts (due_at_once least) core; fine = All-nil (λ reply. is_refused reply ≡ false); converts = refl; merges = refl; all = refl }

  pub counted_more : (least : Option ℕ) (old mid new : CoreState D) (event : Event) (reply : Reply F) (converted merged more even_more turn : ℕ) → Counted least old mid converted merged turn
      → IsTrue (due_at_once least mid event) → more ≡ converted + cond (is_convert event) 1 0 → even_more ≡ merged + cond (is_merge event) 1 0 → more + even_more ≡ converted + merged + 1
      → is_refused reply ≡ false → Does facts mid new event reply → Counted least old new more even_more (turn + 1)
  counted_more least old mid new event reply converted merged more even_more turn counted due converts merges one fine does = record {
    taken = one_more facts (due_at_once least) old mid new event reply due counted.taken does;
    fine = All-push (λ reply. is_refused reply ≡ false) counted.taken.replies reply counted.fine fine;
    converts = omega (arith, converts, counted.converts, count_more is_convert counted.taken.events event);
    merges = omega (arith, merges, counted.merges, count_more is_merge counted.taken.events event);
    all = omega (arith, one, counted.all);
  }

  -- then all work is done, or the most steps were taken
  pub counted_all : (least : Option ℕ) (old new : CoreState D) (steps : Steps) (turn : ℕ) → Counted least old new steps.converted steps.merged turn
      → (steps.converted + steps.merged < most_steps → (wants_convert new ≡ false) × (merges new least ≡ false)) → TendsAll facts least old new steps
  counted_all least old new steps turn counted done = record { taken = counted.taken; fine = counted.fine; converted = counted.converts; merged = counted.merges; done = done }
