-- Servings, from their openings, calls and crashes.
use Rattle.silt_desk.proofs.Common.{◌≡◌, ◌+◌, ◌≤◌, IsTrue, ◌++◌, length, Some, slice_get, refl, ap, ◌∙◌, subst, arith, rules, Content, Command, Map, delete, map_after, put, setting, Counts}
use Rattle.silt_desk.proofs.Common.{PlainReply, Step, accepted_command, acknowledged_after, acknowledged_by, Event, Put, Delete, Swap, map_of, RecordedCall, Replays, commands_of, replies_of}
use Rattle.std.proofs.Common.{ℕ, zero, suc, List, [], ◌∷◌}
use Rattle.silt_disk.proofs.Images.{shown_left}
use Rattle.silt_disk.specs.declared.disk.Disk.{Ghosts}
use Rattle.silt_event.specs.declared.reply.Reply.TheVariants.{Accepted, Acknowledged}
use Rattle.silt_image.specs.Meaning.{image_map}
use Rattle.silt_desk.specs.Servings.{ComesAfter, FollowsLaw, HeldLaw, IsServing, ServingHistory, ServingsLaw, acceptance}

module _ {D F : Type 0} (facts : Ghosts D F) where
  -- one serving, and what the next one finds
  serving : (calls : List RecordedCall) (old left next : Content) → IsTrue old.honest → IsServing facts old calls left → ComesAfter left next
      → IsTrue next.honest × ServingHistory (image_map old.shown) calls (image_map next.shown)
  serving calls old left next h serves follows =
      let opens = serves.opens in
      let there : IsTrue (facts.content serves.last.disk).honest = serves.leads.honest ∙ opens.disk.honest ∙ h in
      let stopped : IsTrue left.honest = ap (λ (c : Content). c.honest) serves.is ∙ there in
      let kept = serves.leads.survives.left.each there next.shown (rw serves.is at (follows.shown stopped)) in
      let none : serves.first.waiting ≡ [] = opens.waiting h in (
        follows.honest ∙ stopped,
        record {
          count = serves.last.count;
          end = map_of serves.last;
          kept = kept.0;
          legal = rw (opens.has_map h, opens.count) at (serves.leads.replays there);
          keeps = record {
            begins = record { rest = kept.1.begins.rest; is = kept.1.begins.is ∙ ap (λ (cs : List Command). cs ++ commands_of calls) none };
            acknowledged = let settled : 0 + length serves.first.waiting ≡ serves.first.count = omega (arith, ap length none, opens.count) in omega (arith, kept.1.acknowledged 0 settled);
          };
          left = kept.2.has_map ∙ ap (λ (m : Map). map_after m kept.0) (opens.base h);
        },
      )

  pub servings : ServingsLaw facts
  servings [] content h served = (image_map content.shown, refl)
  servings (calls ∷ later) content h (left, next, serves, follows, rest) =
      let one = serving calls content left next h serves follows in
      let others = servings later next one.0 rest in
      (others.0, (image_map next.shown, one.1, others.1))

pub follows : FollowsLaw
follows left next h2 = search (arith, shown_left)

-- ---- lists

get_behind : {A : Type 0} (xs ys : List A) (k : ℕ) (c : A) → slice_get ys k ≡ Some c → slice_get (xs ++ ys) (length xs + k) ≡ Some c
get_behind [] ys k c at = let e : k ≡ 0 + k = omega arith in subst (λ (n : ℕ). slice_get ys n ≡ Some c) e at
get_behind (x ∷ xs) ys k c at = search (arith, get_behind xs ys k c)

get_front : {A : Type 0} (xs ys : List A) (k : ℕ) (c : A) → suc k ≤ length xs → slice_get (xs ++ ys) k ≡ Some c → slice_get xs k ≡ Some c
get_front (x ∷ xs) ys (suc k) c less at = get_front xs ys k c (omega (arith, less)) at
get_front xs ys k c less at = search (rules, arith)

-- ---- one call

-- a call adds to the count as many commands as it accepts
adds : (map between : Map) (count next : ℕ) (e : Event) (r : PlainReply) → Counts count r next → Step map e r between → next ≡ count + length (accepted_command e r)
adds map between count next e r counts step = grind arith

-- an accepted event has a command
has_command : (map between : Map) (n : ℕ) (e : Event) → Step map e (acceptance n) between → (c : Command) × (accepted_command e (acceptance n) ≡ c ∷ [])
has_command map between n (Put key value) step = (put key.0 value, refl)
has_command map between n (Delete key) step = (delete key.0, refl)
has_command map between n (Swap key old new) step = (setting key.0 new, refl)
has_command map between n event step = search rules

-- the reply to a flush of so many commands
abbrev acknowledgement : ℕ → PlainReply
acknowledgement n = Acknowledged n

-- what was acknowledged stays so after a call
stays_by : (m s count next : ℕ) (r : PlainReply) → Counts count r next → m ≤ count → m ≤ s → (m ≤ acknowledged_by s r) × (m ≤ next)
stays_by m s count next r counts few most = grind arith

-- ---- many calls

stays : (m s count : ℕ) (map : Map) (calls : List RecordedCall) (end : ℕ) (to : Map) → Replays count map calls end to → m ≤ count → m ≤ s → m ≤ acknowledged_after s (replies_of calls)
stays m s count map [] end to legal few most = most
stays m s count map (c ∷ calls) end to (next, between, counts, step, rest) few most = search (arith, stays m (acknowledged_by s c.reply) next between calls end to rest, stays_by)

-- no fewer are acknowledged in the end than by any flush
acknowledges : (m s j count : ℕ) (map : Map) (calls : List RecordedCall) (flush : RecordedCall) (end : ℕ) (to : Map) → Replays count map calls end to → slice_get calls j ≡ Some flush
    → flush.reply ≡ Acknowledged m → m ≤ acknowledged_after s (replies_of calls)
acknowledges m s j count map [] flush end to legal at is = absurd cc
acknowledges m s zero count map (c ∷ calls) flush end to (next, between, counts, step, rest) at is =
    let reply : c.reply ≡ Acknowledged m = cc (at, is) in
    let now : Counts count (acknowledgement m) next = rw reply at counts in
    rw reply (stays m m next between calls end to rest (omega (arith, now.0, now.1)) (omega arith))
acknowledges m s (suc j) count map (c ∷ calls) flush end to (next, between, counts, step, rest) at is =
    acknowledges m (acknowledged_by s c.reply) j next between calls flush end to rest at is

-- the command of an accepted event has the place of its number
abbrev Placed : ℕ → List Command → Event → ℕ → Type 0
Placed count commands event n =
    (c : Command) × (accepted_command event (acceptance n) ≡ c ∷ []) × ((k : ℕ) × (n ≡ count + k + 1) × (slice_get commands k ≡ Some c))

placed : (i count : ℕ) (map : Map) (calls : List RecordedCall) (end : ℕ) (to : Map) (call : RecordedCall) (event : Event) (n : ℕ) → Replays count map calls end to
    → slice_get calls i ≡ Some call → call.event ≡ event → call.reply ≡ Accepted n → Placed count (commands_of calls) event n
placed i count map [] end to call event n legal at asked replied = absurd cc
placed zero count map (x ∷ calls) end to call event n (next, between, counts, step, rest) at asked replied = search (arith, has_command)
placed (suc i) count map (x ∷ calls) end to call event n (next, between, counts, step, rest) at asked replied =
    let spot = placed i next between calls end to call event n rest at asked replied in (
      spot.0,
      spot.1,
      (
        length (accepted_command x.event x.reply) + spot.2.0,
        omega (arith, spot.2.1, adds map between count next x.event x.reply counts step),
        get_behind (accepted_command x.event x.reply) (commands_of calls) spot.2.0 spot.0 spot.2.2,
      ),
    )

pub held : HeldLaw
held map calls to history event n is =
    let spot = placed is.place 0 map calls history.count history.end is.call event n history.legal is.at is.asked is.replied in
    let most = acknowledges is.most 0 is.flush_place 0 map calls is.flush history.count history.end history.legal is.flush_at is.flushed in
    search (arith, get_front)
