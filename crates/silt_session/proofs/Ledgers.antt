-- What sessions are told, all together: each accepted command is a call of the log, made for one session, at a place of its own.
use Rattle.silt_session.proofs.Common.{◌≡◌, ◌≢◌, ◌⊎◌, inl, inr, ℕ, ◌+◌, ◌<◌, ◌≤◌, List, [], ◌∷◌, drop, length, refl, sym, ◌∙◌, ap, arith, All, IfSome, MatchOption, Option, Some, None, slice_get}
use Rattle.silt_session.proofs.Common.{cases_eq, IsPrefix, PlainReply, Event, Caller, ToldState, own_reply, ◌-◌, ◌==◌, cond, drop-drop, sum_by, cond-false, cond-true, eq-eqb, ne_eqb, ExtendsCalls}
use Rattle.silt_session.proofs.Common.{HasCallAt, RisesThrough, TakesPlace, drop_at, All-head, All-tail, get_or_from_slice_get, slice_get_within, IsMadeFor, accepted_by, call, count_accepted}
use Rattle.std.proofs.lemmas.List.Sums.{sum_by-append, sum_by-cons, sum_by-drop_more, sum_by-le, sum_by-le-sum_by, sum_by-take-drop}
use Rattle.silt_desk.specs.declared.call.RecordedCall.{RecordedCall}
use Rattle.silt_session.specs.Ledgers.{AreApart, LedgerLaw, Read, Reader, ReadsOn, accepted_among, accepted_in, own_accepted}
use Rattle.silt_event.specs.declared.event.Event.TheVariants as event

-- ---- sums

-- a sum of sums of two terms
sum_of_both : {X : Type 0} (f g : X → ℕ) (xs : List X) → sum_by (λ x. f x + g x) xs ≡ sum_by f xs + sum_by g xs
sum_of_both f g [] = refl
sum_of_both f g (x ∷ xs) = omega (arith, sum_by-cons (λ x. f x + g x) x xs, sum_by-cons f x xs, sum_by-cons g x xs, sum_of_both f g xs)

-- a sum of zeros
sum_of_zeros : {X : Type 0} (f : X → ℕ) (xs : List X) → All (λ x. f x ≡ 0) xs → sum_by f xs ≡ 0
sum_of_zeros f xs zeros = omega (arith, sum_by-le f 0 xs (λ k d within. omega (arith, zeros k d within)))

-- from a later place on the sum is no larger
sum_behind : {X : Type 0} (f : X → ℕ) (xs : List X) (a b : ℕ) → a ≤ b → sum_by f (drop b xs) ≤ sum_by f (drop a xs)
sum_behind f xs a b le =
    let same : drop (b - a) (drop a xs) ≡ drop b xs = drop-drop (b - a) a xs ∙ ap (λ (n : ℕ). drop n xs) (omega arith) in
    omega (arith, sum_by-take-drop f (drop a xs) (b - a), ap (sum_by f) same)

-- what stands between two places adds to the sum from the second one on
sum_between : {X : Type 0} (f : X → ℕ) (xs : List X) (a at b : ℕ) (x : X) → a ≤ at → at < b → slice_get xs at ≡ Some x → f x + sum_by f (drop b xs) ≤ sum_by f (drop a xs)
sum_between f xs a at b x from before is =
    omega (arith, sum_behind f xs a at from, sum_behind f xs (at + 1) b (omega arith), sum_by-drop_more f xs at x (slice_get_within xs at x is), ap f (get_or_from_slice_get xs at x x is))

-- ---- the calls of one session

-- this number, if it is of this session, and else zero
abbrev counted_for : ℕ → Option ℕ → ℕ → ℕ
counted_for session None n = 0
counted_for session (Some other) n = cond (other == session) n 0

-- it is the whole number of this session
counted_whole : (session : ℕ) (of : Option ℕ) (n : ℕ) → of ≡ Some session → counted_for session of n ≡ n
counted_whole session of n is = rw is (cond-true (session == session) n 0 (eq-eqb session session refl))

-- and zero of any other
counted_none : (session other n : ℕ) → session ≢ other → counted_for session (Some other) n ≡ 0
counted_none session other n apart = cond-false (other == session) n 0 (ne_eqb other session (λ same. apart (sym same)))

-- one of both is so
counted_or_none : (session : ℕ) (of : Option ℕ) (n : ℕ) → (of ≡ Some session) ⊎ (counted_for session of n ≡ 0)
counted_or_none session None n = inr refl
counted_or_none session (Some other) n = elim (cases_eq session other) [
  | inl same ↦ inl (ap (λ (k : ℕ). Some k) (sym same))
  | inr apart ↦ inr (counted_none session other n apart)
]

-- how many commands a call accepts for this session: one or none
abbrev accepts_for : ℕ → RecordedCall → ℕ
accepts_for session c = counted_for session c.caller.session (accepted_by c.reply)

module _ (session : ℕ) where
  -- how many of these calls are accepted commands of the session
  abbrev count_for : List RecordedCall → ℕ
  count_for calls = sum_by (accepts_for session) calls

  -- an event's own call counts for the session
  own_accepts : (e : Event) (reply made : PlainReply) (caller : Caller) → own_reply e reply ≡ Some made → IsMadeFor session e caller
      → accepts_for session (call caller e made) ≡ accepted_by made
  own_accepts event.Flush reply made caller own for = absurd (cc)
  own_accepts e reply made caller own for = counted_whole session caller.session (accepted_by made) for

  -- an own call is one of the calls between its two numbers
  counts_own : (calls : List RecordedCall) (next after : ℕ) (e : Event) (reply : PlainReply) → TakesPlace session next calls e reply after
      → own_accepted (own_reply e reply) + count_for (drop after calls) ≤ count_for (drop next calls)
  counts_own calls next after e reply takes =
      let go : (own : Option PlainReply) → own_reply e reply ≡ own → MatchOption own (next ≤ after) (λ made. (place : ℕ) × HasCallAt session next calls place e made × (place < after))
      → own_accepted own + count_for (drop after calls) ≤ count_for (drop next calls) = elim [
        | None ↦ λ is le. omega (arith, sum_behind (accepts_for session) calls next after le)
        | Some made ↦ λ is here.
            let (place, (from, (caller, for, at)), before) = here in
            omega (arith, own_accepts e reply made caller is for, sum_between (accepts_for session) calls next place after (call caller e made) from before at)
      ] in
      go (own_reply e reply) refl takes

  -- own calls at rising places are calls from the first number on
  counts_among : (calls : List RecordedCall) (next after : ℕ) (events : List Event) (replies : List PlainReply) → RisesThrough session next calls events replies after
      → accepted_among events replies ≤ count_for (drop next calls)
  counts_among calls next after [] [] rises = omega arith
  counts_among calls next after (e ∷ events) (reply ∷ replies) (mid, takes, rest) = omega (arith, counts_own calls next mid e reply takes, counts_among calls mid after events replies rest)
  counts_among calls next after events replies rises = absurd rises

  -- the same of calls that were told, if any were
  abbrev count_told : Option (List RecordedCall) → ℕ
  count_told None = 0
  count_told (Some calls) = count_for calls

  -- the own calls of a read are among the calls that were not told before, and those are of the log
  counts_read : (log : List RecordedCall) (read : Read) (from : ℕ) (old new : Option (List RecordedCall)) → IfSome old (λ calls. from ≡ length calls) → ExtendsCalls old new
      → IfSome new (λ calls. RisesThrough session from calls read.events read.replies read.told.next) → MatchOption new ⊥ (λ calls. IsPrefix calls log)
      → (count_told old + accepted_among read.events read.replies ≤ count_told new) × (count_told new ≤ count_for log)
  counts_read log read from old None is goes rises begins = absurd begins
  counts_read log read from None (Some more) is goes rises begins = absurd (cc)
  counts_read log read from (Some calls) (Some more) is goes rises begins =
      let w = accepts_for session in
      let rest : drop from more ≡ goes.0 = ap (λ (all : List RecordedCall). drop from all) (sym goes.1) ∙ drop_at calls goes.0 from (sym is) in (
        omega (arith, counts_among more from read.told.next read.events read.replies rises, ap (sum_by w) rest, ap (sum_by w) goes.1, sum_by-append w calls goes.0),
        omega (arith, ap (sum_by w) begins.1, sum_by-append w more begins.0),
      )

  -- the own calls of reads are calls of the log that were not told before
  counts_reads : (log : List RecordedCall) (told : ToldState) (reads : List Read) → told.session ≡ session → ReadsOn log told reads
      → accepted_in reads ≤ count_for log - count_told told.calls
  counts_reads log told [] is on = omega arith
  counts_reads log told (read ∷ reads) is (asks, order, begins, on) =
      let same : read.told.session ≡ session = asks.session ∙ is in
      let rises = rw same at order in
      let one = counts_read log read read.told.from told.calls read.told.calls asks.from asks.calls rises begins in
      omega (arith, one.0, one.1, counts_reads log read.told reads same on, sum_by-cons (λ (r : Read). accepted_among r.events r.replies) read reads)

-- ---- all sessions

-- how many calls of the log are accepted commands of a session
abbrev count_of : List RecordedCall → Reader → ℕ
count_of log reader = count_for reader.told.session log

-- a call counts for one session at most
counts_once : (of : Option ℕ) (n : ℕ) (readers : List Reader) → AreApart readers → sum_by (λ (r : Reader). counted_for r.told.session of n) readers ≤ n
counts_once of n [] apart = omega arith
counts_once of n (reader ∷ readers) apart =
    let f : Reader → ℕ = λ r. counted_for r.told.session of n in
    elim (counted_or_none reader.told.session of n) [
      | inl is ↦
          let zeros : All (λ (r : Reader). f r ≡ 0) readers = λ k d within. rw is (counted_none _ reader.told.session n (apart.0 k d within)) in
          omega (arith, counted_whole reader.told.session of n is, sum_of_zeros f readers zeros, sum_by-cons f reader readers)
      | inr none ↦ omega (arith, none, counts_once of n readers apart.1, sum_by-cons f reader readers)
    ]

-- so do the calls of a log
counts_log : (readers : List Reader) → AreApart readers → (log : List RecordedCall) → sum_by (count_of log) readers ≤ count_accepted log
counts_log readers apart [] = omega (arith, sum_of_zeros (count_of []) readers (λ k d within. refl))
counts_log readers apart (c ∷ log) =
    let here : Reader → ℕ = λ r. accepts_for r.told.session c in
    omega (
      arith,
      counts_once c.caller.session (accepted_by c.reply) readers apart,
      counts_log readers apart log,
      sum_of_both here (count_of log) readers,
      sum_by-le-sum_by (count_of (c ∷ log)) (λ (r : Reader). here r + count_of log r) readers (λ r. omega (arith, sum_by-cons (accepts_for r.told.session) c log)),
    )

-- each session is told of no more than its own calls
counts_all : (log : List RecordedCall) (readers : List Reader) → All (λ (r : Reader). ReadsOn log r.told r.reads) readers
    → sum_by (λ (r : Reader). accepted_in r.reads) readers ≤ sum_by (count_of log) readers
counts_all log [] on = omega arith
counts_all log (reader ∷ readers) on =
    let own : accepted_in reader.reads ≤ count_of log reader =
    omega (arith, counts_reads reader.told.session log reader.told reader.reads refl (All-head (λ (r : Reader). ReadsOn log r.told r.reads) reader readers on)) in
    omega (
      arith,
      own,
      counts_all log readers (All-tail (λ (r : Reader). ReadsOn log r.told r.reads) reader readers on),
      sum_by-cons (λ (r : Reader). accepted_in r.reads) reader readers,
      sum_by-cons (count_of log) reader readers,
    )

pub ledger : LedgerLaw
ledger log readers apart on = omega (arith, counts_all log readers on, counts_log readers apart log)
