-- The calls of all desks of a set, and what its server writes.
use Rattle.silt_server.proofs.Names.{◌≡◌, ◌⊎◌, inl, inr, ◌<◌, ◌≤◌, ◌+◌, ◌%◌, ◌^◌, ℕ, zero, suc, List, [], ◌∷◌, ◌++◌, Some, arith, get_or, length, map, refl, slice_get, subst, sym, take, ◌∙◌, ap}
use Rattle.silt_server.proofs.Names.{All, IsSomeAnd, Option, None, sum, AllZip, length-map, map-append, take_all, take_more, All-cons, All-nil, Ghosts, CoreState, AnchoredState, LeadsFrom}
use Rattle.silt_server.proofs.Names.{SeenStore, seen, LeavesCalls, Appends-append, AreInPlace, AreNewLogs, CountsEach, EachFrom, IsLedFrom, IsNamedFor, LeavesEach, LeavesFrom, PrintsAllCalls}
use Rattle.silt_server.proofs.Names.{PrintsAllServed, WritesHead, head_text, seen_at, calls_text}
use Rattle.std.specs.Option.{option_map, unwrap_or}
use Rattle.std.proofs.lemmas.Option.{slice_get-map}
use Rattle.std.proofs.lemmas.List.Sums.{sum_by-append}
use Rattle.logbook.specs.Pages.{Book}
use Rattle.silt_desk.specs.CallLogs.{CallsSeen}

module _ {T : Type 0} (counts : T → ℕ → ℕ → Type 0) where
  -- one more trace counts so many calls
  pub counts_more : (traces : List T) (calls : List ℕ) (trace : T) (n m : ℕ) → CountsEach counts traces calls → counts trace n m
      → CountsEach counts (traces ++ trace ∷ []) (calls ++ n ∷ [])
  counts_more [] [] trace n m all one = ((m, one), tt)
  counts_more (t ∷ traces) (c ∷ calls) trace n m all one = (all.0, counts_more traces calls trace n m all.1 one)
  counts_more traces calls trace n m all one = absurd all

module _ {T D : Type 0} (counts : T → ℕ → ℕ → Type 0) (trace_of : D → T) (desks : List D) where
  -- the desk of this number counts so many calls
  pub calls_next : (i : ℕ) (desk : D) (calls : List ℕ) (n m : ℕ) → i < length desks → desk ≡ get_or desks i desk
      → CountsEach counts (map trace_of (take i desks)) calls → counts (trace_of desk) n m → CountsEach counts (map trace_of (take (i + 1) desks)) (calls ++ n ∷ [])
  calls_next i desk calls n m within is all one =
      rw (take_more desks i desk within, ← is, map-append trace_of (take i desks) (desk ∷ [])) (counts_more counts (map trace_of (take i desks)) calls (trace_of desk) n m all one)

  -- the desks so far are all
  pub calls_all : (i : ℕ) (calls : List ℕ) → length desks ≤ i → CountsEach counts (map trace_of (take i desks)) calls → CountsEach counts (map trace_of desks) calls
  calls_all i calls over all = rw (take_all i desks over) at all

-- the sum with one number more
pub sum_more : (calls : List ℕ) (n : ℕ) → sum (calls ++ n ∷ []) ≡ sum calls + n
sum_more calls n =
    let more : sum (calls ++ n ∷ []) ≡ sum calls + (0 + n) = sum_by-append (λ (x : ℕ). x) calls (n ∷ []) in
    omega (arith, more)

-- the head is written, and then the lines of the end
pub all_served_written : {T : Type 0} (has_port : ℕ → Type 0) (counts : T → ℕ → ℕ → Type 0) (traces : List T) (before mid after : Option (List ℕ))
    → WritesHead has_port before mid → PrintsAllCalls counts traces mid after → PrintsAllServed has_port counts traces before after
all_served_written has_port counts traces before mid after head printed =
    (head.0, head.1, printed.0, printed.1, Appends-append before mid after (head_text head.0) (calls_text (sum printed.0 % 2 ^ 64)) head.2 printed.2)

-- ---- items at their places

-- a fact of each item at its place, and of one item more
at_last : {X : Type 0} (P : ℕ → X → Type 0) (xs : List X) (x : X) → ((i : ℕ) (y : X) → slice_get xs i ≡ Some y → P i y) → P (length xs) x
    → (i : ℕ) (y : X) → slice_get (xs ++ x ∷ []) i ≡ Some y → P i y
at_last P [] x old new zero y here = let same : x ≡ y = cc in rw same at new
at_last P [] x old new (suc i) y here = absurd (cc)
at_last P (z ∷ xs) x old new zero y here = old 0 y here
at_last P (z ∷ xs) x old new (suc i) y here = at_last (λ n. P (suc n)) xs x (λ n. old (suc n)) new i y here

-- the same of what is made of each item
pub at_last_of : {X Y : Type 0} (P : ℕ → Y → Type 0) (f : X → Y) (xs all : List X) (x : X) → all ≡ xs ++ x ∷ []
    → ((i : ℕ) (y : Y) → slice_get (map f xs) i ≡ Some y → P i y) → P (length xs) (f x) → (i : ℕ) (y : Y) → slice_get (map f all) i ≡ Some y → P i y
at_last_of P f xs all x is old new = rw (is, map-append f xs (x ∷ [])) (at_last P (map f xs) (f x) old (rw (length-map xs f) new))

-- two lists that are related item by item, with one item more
pub zip_more : {X Y : Type 0} (R : X → Y → Type 0) (xs : List X) (ys : List Y) (x : X) (y : Y) → AllZip R xs ys → R x y → AllZip R (xs ++ x ∷ []) (ys ++ y ∷ [])
zip_more R [] [] x y all one = (one, tt)
zip_more R (a ∷ xs) (b ∷ ys) x y all one = (all.0, zip_more R xs ys x y all.1 one)
zip_more R xs ys x y all one = absurd all

-- ---- the names of the shards

-- a log's name where there is none
abbrev pub no_book : Book
no_book = record { number = 0; log_name = 0; cells_name = 0 }

-- the log of the shard of this number among these
abbrev pub book_at : List CallsSeen → ℕ → Book
book_at logs shard = unwrap_or (option_map (λ (log : CallsSeen). log.book) (slice_get logs shard)) no_book

module _ {D F S : Type 0} (facts : Ghosts D F) (core_of : S → CoreState D) (log_of : S → CallsSeen) where
  named_at : (first : ℕ → Option SeenStore) (calls : ℕ → Book) (place : ℕ → ℕ) (stores : List S)
      → ((i : ℕ) (log : CallsSeen) → slice_get (map log_of stores) i ≡ Some log → (log.shard ≡ place i) × (log.calls ≡ []))
      → ((i : ℕ) (store : S) → slice_get stores i ≡ Some store → (first (place i) ≡ Some (seen facts (core_of store))) × (calls (place i) ≡ (log_of store).book))
      → All (λ (store : S). IsNamedFor facts first calls (core_of store) (log_of store)) stores
  named_at first calls place [] logs names = All-nil (λ (store : S). IsNamedFor facts first calls (core_of store) (log_of store))
  named_at first calls place (store ∷ stores) logs names =
      let log = logs 0 (log_of store) refl in
      let name = names 0 store refl in
      All-cons (λ (s : S). IsNamedFor facts first calls (core_of s) (log_of s)) store stores
      (ap first log.0 ∙ name.0, sym (ap calls log.0 ∙ name.1), log.1)
      (named_at first calls (λ n. place (suc n)) stores (λ n. logs (suc n)) (λ n. names (suc n)))

  -- the names of new logs, by their places, are those of their stores
  pub named_all : (stores : List S) → AreNewLogs (map log_of stores)
      → All (λ (store : S). IsNamedFor facts (seen_at facts (map core_of stores)) (book_at (map log_of stores)) (core_of store) (log_of store)) stores
  named_all stores logs = named_at (seen_at facts (map core_of stores)) (book_at (map log_of stores)) (λ n. n) stores logs
      (λ i store here. (rw (slice_get-map core_of stores i, here), rw (slice_get-map log_of stores i, here)))

-- ---- the calls of all shards

module _ {D F T S : Type 0} (facts : Ghosts D F) (counts : T → ℕ → ℕ → Type 0) (core_of : S → CoreState D) (trace_of : S → AnchoredState T) where
  led_at : (first : ℕ → Option SeenStore) (place : ℕ → ℕ) (desks : List S) (disks : List D)
      → ((i : ℕ) (trace : AnchoredState T) → slice_get (map trace_of desks) i ≡ Some trace → trace.shard ≡ place i)
      → AllZip (λ (desk : S) (disk : D). IsLedFrom facts first counts (core_of desk) (trace_of desk) disk) desks disks
      → (i : ℕ) (disk : D) → slice_get disks i ≡ Some disk → LeavesFrom facts (first (place i)) disk
  led_at first place [] [] there led i disk here = absurd (cc)
  led_at first place (desk ∷ desks) (d ∷ disks) there led zero disk here =
      let same : d ≡ disk = cc in
      let past = led.0.1 in
      let leads : LeadsFrom (first (place 0)) past.calls (seen facts (core_of desk)) = rw (there 0 (trace_of desk) refl) at past.leads in
      subst (LeavesFrom facts (first (place 0))) same (core_of desk, past.calls, led.0.0, leads)
  led_at first place (desk ∷ desks) (d ∷ disks) there led (suc i) disk here = led_at first (λ n. place (suc n)) desks disks (λ n. there (suc n)) led.1 i disk here
  led_at first place desks disks there led i disk here = absurd led

  -- desks in their places leave disks that calls lead to, each from the store that is named for its place
  pub led_each : (first : ℕ → Option SeenStore) (desks : List S) (disks : List D) → AreInPlace (map trace_of desks)
      → AllZip (λ (desk : S) (disk : D). IsLedFrom facts first counts (core_of desk) (trace_of desk) disk) desks disks → EachFrom facts first disks
  led_each first desks disks there led = led_at first (λ n. n) desks disks there led

module _ {D F : Type 0} (facts : Ghosts D F) where
  leaves_zip : (first : ℕ → Option SeenStore) (cores : List (CoreState D)) (disks : List D) → ((i : ℕ) → first i ≡ seen_at facts cores i) → length disks ≡ length cores
      → EachFrom facts first disks → AllZip (LeavesCalls facts) cores disks
  leaves_zip first [] [] is long each = tt
  leaves_zip first (core ∷ cores) (disk ∷ disks) is long each =
      (rw (is 0) at (each 0 disk refl), leaves_zip (λ n. first (suc n)) cores disks (λ n. is (suc n)) (omega (arith, long)) (λ n. each (suc n)))
  leaves_zip first cores disks is long each = absurd (omega (arith, long))

  -- each disk is left by calls from the store at its place, if the names are those of these stores
  pub leaves_each : (first : ℕ → Option SeenStore) (cores : List (CoreState D)) (disks : List D) → ((i : ℕ) → first i ≡ seen_at facts cores i)
      → (disks ≡ []) ⊎ (length disks ≡ length cores) → EachFrom facts first disks → LeavesEach facts cores disks
  leaves_each first cores disks is (inl none) each = inl none
  leaves_each first cores disks is (inr long) each = inr (leaves_zip first cores disks is long each)

-- there are none, or as many as there are of others
pub as_many : (Nothing : Type 0) (l n m k : ℕ) → l ≡ n → m ≡ k → Nothing ⊎ (n ≡ m) → Nothing ⊎ (l ≡ k)
as_many Nothing l n m k first last (inl none) = inl none
as_many Nothing l n m k first last (inr many) = inr (first ∙ many ∙ last)

-- the same of all that is given back, if anything is
pub some_served_written : {X T : Type 0} (has_port : ℕ → Type 0) (counts : T → ℕ → ℕ → Type 0) (traces_of : X → List T) (given : Option X) (before mid after : Option (List ℕ))
    → WritesHead has_port before mid → IsSomeAnd given (λ x. PrintsAllCalls counts (traces_of x) mid after) → IsSomeAnd given (λ x. PrintsAllServed has_port counts (traces_of x) before after)
some_served_written has_port counts traces_of None before mid after head printed = absurd printed
some_served_written has_port counts traces_of (Some x) before mid after head printed = all_served_written has_port counts (traces_of x) before mid after head printed

-- there are no disks
pub each_none : {D F : Type 0} (facts : Ghosts D F) (first : ℕ → Option SeenStore) (disks : List D) → disks ≡ [] → EachFrom facts first disks
each_none facts first disks none = rw none (λ i disk here. absurd (cc))
