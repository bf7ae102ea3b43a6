-- What a guard passes on, and that a session does nothing for an HTTP request.
use Rattle.silt_wire.proofs.Common.{eqb-true, cases_Bool, ◌≡◌, ◌==◌, ◌&&◌, ◌+◌, ◌<◌, ◌≤◌, inl, inr, ℕ, true, false, cond, List, [], ◌∷◌, ◌++◌, length, take, drop, get_or, Option, Some, None, refl}
use Rattle.silt_wire.proofs.Common.{sym, ap, subst, ◌∙◌, append_assoc, arith, take-append-drop, common_steps, append-nil, length-take-le, take_all, take_more, Appends, Consumes, AnswersEach}
use Rattle.silt_wire.proofs.Common.{Answer, Query, is_turned_away, AnswersAll, AnswersSome, Ends, IsBeginning, ServesAll, ServesSome, lines_after, SessionEnd, End, ReadFault, ◌⊎◌, Bool}
use Rattle.silt_wire.proofs.Common.{option_map, IfSome, nat_lt, drop_more, take-take, IsAtEnd, Guards, IsHttp, ends_line, handed_on, http_mark, is_passed, line_after, open_after}
use Rattle.silt_wire.specs.declared.http_guard.FirstLine.{FirstLine}
use Rattle.silt_wire.specs.declared.http_guard.FirstLine.TheVariants.{Open, Passed, Refused}

-- ---- byte by byte

-- after a first line without the mark all is passed on
pub passed_all : (bytes : List ℕ) → handed_on Passed bytes ≡ bytes
passed_all [] = refl
passed_all (b ∷ bytes) = ap (λ l. b ∷ l) (passed_all bytes)

-- nothing is passed on after the mark
pub refused_none : (bytes : List ℕ) → handed_on Refused bytes ≡ []
refused_none [] = refl
refused_none (b ∷ bytes) = refl

passed_is : (line : FirstLine) → is_passed line ≡ true → line ≡ Passed
passed_is Passed e = refl
passed_is line e = absurd (cc)

pub refused_is : (line : FirstLine) → is_turned_away line ≡ true → line ≡ Refused
refused_is Refused e = refl
refused_is line e = absurd (cc)

-- of these bytes and any that follow, this many are passed on, and then what is passed on of the rest
abbrev pub HandsOn : FirstLine → List ℕ → FirstLine → ℕ → Type 0
HandsOn line bytes after at = (rest : List ℕ) → handed_on line (bytes ++ rest) ≡ take at bytes ++ handed_on after (drop at bytes ++ rest)

-- the next of the bytes completes the mark
pub hands_last : (first line : FirstLine) (bytes : List ℕ) (at : ℕ) → at < length bytes → is_turned_away (line_after line (get_or bytes at 0)) ≡ true
    → HandsOn first bytes line at
    → (rest : List ℕ) → handed_on first (bytes ++ rest) ≡ take at bytes ++ handed_on (line_after line (get_or bytes at 0)) rest
hands_last first line bytes at inside ends so = search (arith, drop_more, refused_none, refused_is)

-- the first line had passed
pub hands_passed : (line : FirstLine) (bytes : List ℕ) → is_passed line ≡ true
    → (rest : List ℕ) → handed_on line (bytes ++ rest) ≡ take (length bytes) bytes ++ handed_on line rest
hands_passed line bytes is = λ rest. cc (passed_is line is, passed_all (bytes ++ rest), passed_all rest, take_all (length bytes) bytes (omega arith))

-- ---- reads

-- of the bytes of one read this many are passed on
pub hands_read : (line after : FirstLine) (old new : Option (List ℕ)) (buf : List ℕ) (count given : ℕ) → given ≤ count → Consumes old new (take count buf)
    → ((rest : List ℕ) → handed_on line (take count buf ++ rest) ≡ take given (take count buf) ++ handed_on after rest)
    → Consumes (option_map (handed_on line) old) (option_map (handed_on after) new) (take given buf)
hands_read line after old new buf count given le took so = search (arith, take-take)

pub refused_end : (line : FirstLine) (known : Option (List ℕ)) → is_turned_away line ≡ true → IsAtEnd (option_map (handed_on line) known)
refused_end line None is = tt
refused_end line (Some xs) is = ap (λ l. handed_on l xs) (refused_is line is) ∙ refused_none xs

pub ended_end : (line : FirstLine) (known : Option (List ℕ)) → IsAtEnd known → IsAtEnd (option_map (handed_on line) known)
ended_end line None is = tt
ended_end line (Some xs) is = ap (handed_on line) is

-- after the refusal the reader returns no more bytes
pub refused_reads : (line : FirstLine) (known : Option (List ℕ)) → is_turned_away line ≡ true
    → Consumes (option_map (handed_on line) known) (option_map (handed_on line) known) []
refused_reads line None is = tt
refused_reads line (Some xs) is = refl

-- the reader returns no bytes only at the end
pub given_end : (line : FirstLine) (new : Option (List ℕ)) (buf : List ℕ) (count given : ℕ) → count ≤ length buf
    → (count ≡ 0 → 0 < length buf → IsAtEnd new) → (given ≡ 0 → 0 < length (take count buf) → is_turned_away line ≡ true)
    → given ≡ 0 → 0 < length buf → IsAtEnd (option_map (handed_on line) new)
given_end line new buf count given le inner mark none room = search (arith, ended_end, refused_end, length-take-le)

-- ---- a line that has the mark

-- a byte of bytes that end no line is no line feed
not_feed : (x : ℕ) (xs : List ℕ) → ends_line (x ∷ xs) ≡ false → ((x == 10) ≡ false) × (ends_line xs ≡ false)
not_feed x xs h = elim (cases_Bool (x == 10)) [ inl is ↦ absurd (cc) | inr is ↦ (is, cc) ]

ends_line-append : (xs ys : List ℕ) → ends_line xs ≡ false → ends_line ys ≡ false → ends_line (xs ++ ys) ≡ false
ends_line-append [] ys h k = k
ends_line-append (x ∷ xs) ys h k = let is_not = not_feed x xs h in cc (is_not.0, ends_line-append xs ys is_not.1 k)

ends_line-front : (xs ys : List ℕ) → ends_line (xs ++ ys) ≡ false → ends_line xs ≡ false
ends_line-front [] ys h = refl
ends_line-front (x ∷ xs) ys h = let is_not = not_feed x (xs ++ ys) h in cc (is_not.0, ends_line-front xs ys is_not.1)

ends_line-take : (n : ℕ) (xs : List ℕ) → ends_line xs ≡ false → ends_line (take n xs) ≡ false
ends_line-take n xs h = ends_line-front (take n xs) (drop n xs) (ap ends_line (take-append-drop n xs) ∙ h)

-- one byte more of a first line: a line feed ends it without the mark; or it completes the mark; or its last bytes are the first ones of
-- the mark, this many, after others that end no line
data Step (n b : ℕ) (line : FirstLine) : Type 0 where
  passes : b ≡ 10 → line ≡ Passed → Step n b line
  refuses : take n http_mark ++ b ∷ [] ≡ http_mark → line ≡ Refused → Step n b line
  goes_on : (m : ℕ) (front : List ℕ) → take n http_mark ++ b ∷ [] ≡ front ++ take m http_mark → ends_line front ≡ false → line ≡ Open m → Step n b line

is_marked : (n b : ℕ) → (nat_lt n 6 && (b == get_or http_mark n 0)) ≡ true → (n < 6) × (b ≡ get_or http_mark n 0)
is_marked n b e = grind (arith, common_steps)

-- this many bytes of the mark, and its next byte
mark_more : (n b : ℕ) → n < 6 → b ≡ get_or http_mark n 0 → take n http_mark ++ b ∷ [] ≡ take (n + 1) http_mark
mark_more n b inside is = ap (λ x. take n http_mark ++ x ∷ []) is ∙ sym (take_more http_mark n 0 inside)

step_marked : (n b : ℕ) (v : Bool) → n < 6 → b ≡ get_or http_mark n 0 → (n == 5) ≡ v → Step n b (cond v Refused (Open (n + 1)))
step_marked n b true inside is e = refuses (mark_more n b inside is ∙ ap (λ m. take (m + 1) http_mark) (eqb-true n 5 e)) refl
step_marked n b false inside is e = goes_on (n + 1) [] (mark_more n b inside is) refl refl

step_other : (n b : ℕ) (v : Bool) → (b == 10) ≡ false → (nat_lt n 6 && (b == get_or http_mark n 0)) ≡ v
    → Step n b (cond v (cond (n == 5) Refused (Open (n + 1))) (Open 0))
step_other n b true feed e = let is = is_marked n b e in step_marked n b (n == 5) is.0 is.1 refl
step_other n b false feed e =
    let front = take n http_mark in
    goes_on 0 (front ++ b ∷ []) (sym (append-nil (front ++ b ∷ []))) (search (arith, ends_line-append, ends_line-take)) refl

step_behind : (n b : ℕ) (v : Bool) → (b == 10) ≡ false → (b == 32) ≡ v
    → Step n b (cond v (Open 1) (cond (nat_lt n 6 && (b == get_or http_mark n 0)) (cond (n == 5) Refused (Open (n + 1))) (Open 0)))
step_behind n b true feed e = goes_on 1 (take n http_mark) (ap (λ x. take n http_mark ++ x ∷ []) (eqb-true b 32 e)) (ends_line-take n http_mark refl) refl
step_behind n b false feed e = step_other n b (nat_lt n 6 && (b == get_or http_mark n 0)) feed refl

step_by : (n b : ℕ) (v : Bool) → (b == 10) ≡ v
    → Step n b (cond v Passed (cond (b == 32) (Open 1) (cond (nat_lt n 6 && (b == get_or http_mark n 0)) (cond (n == 5) Refused (Open (n + 1))) (Open 0))))
step_by n b true e = passes (eqb-true b 10 e) refl
step_by n b false e = step_behind n b (b == 32) e refl

step : (n b : ℕ) → Step n b (open_after n b)
step n b = step_by n b (b == 10) refl

-- no line end of a first line with the mark is passed on
http_given : (n : ℕ) (front back : List ℕ) → ends_line front ≡ false → ends_line (handed_on (Open n) (front ++ (http_mark ++ back))) ≡ false
http_given n [] back none = refl
http_given n (x ∷ front) back none =
    let is_not = not_feed x front none in
    let rest = front ++ (http_mark ++ back) in
    let Given = λ (line : FirstLine). ends_line (cond (is_turned_away line) [] (x ∷ handed_on line rest)) ≡ false in
    elim (step n x) as (λ _. Given (open_after n x)) [
      | passes feed line ↦ absurd (cc (is_not.0, ap (λ b. b == 10) feed))
      | refuses mark line ↦ subst Given (sym line) refl
      | goes_on m before mark clear line ↦
          subst Given (sym line) (ap (λ b. cond b true (ends_line (handed_on (Open m) rest))) is_not.0 ∙ http_given m front back is_not.1)
    ]

-- this many bytes of the mark, followed by these bytes, have the mark in their first line
abbrev HasMark : ℕ → List ℕ → Type 0
HasMark n bytes = (front : List ℕ) × (back : List ℕ) × (ends_line front ≡ false) × (take n http_mark ++ bytes ≡ front ++ (http_mark ++ back))

-- the mark is found after one byte more
mark_behind : (n m x : ℕ) (bytes before : List ℕ) → take n http_mark ++ x ∷ [] ≡ before ++ take m http_mark → ends_line before ≡ false
    → HasMark m bytes → HasMark n (x ∷ bytes)
mark_behind n m x bytes before mark clear has = (
  before ++ has.0,
  has.1,
  ends_line-append before has.0 clear has.2,
  cc (append_assoc (take n http_mark) (x ∷ []) bytes, append_assoc before (take m http_mark) bytes, has.3, append_assoc before has.0 (http_mark ++ has.1)),
)

-- all bytes are passed on, or the first line has the mark
given_or_http : (n : ℕ) (bytes : List ℕ) → (handed_on (Open n) bytes ≡ bytes) ⊎ HasMark n bytes
given_or_http n [] = inl refl
given_or_http n (x ∷ bytes) =
    let Given = λ (line : FirstLine). (cond (is_turned_away line) [] (x ∷ handed_on line bytes) ≡ x ∷ bytes) ⊎ HasMark n (x ∷ bytes) in
    elim (step n x) as (λ _. Given (open_after n x)) [
      | passes feed line ↦ subst Given (sym line) (inl (ap (λ l. x ∷ l) (passed_all bytes)))
      | refuses mark line ↦ inr ([], bytes, refl, sym (append_assoc (take n http_mark) (x ∷ []) bytes) ∙ ap (λ l. l ++ bytes) mark)
      | goes_on m before mark clear line ↦ subst Given (sym line) (elim (given_or_http m bytes) as (λ _. Given (Open m)) [
        | inl all ↦ inl (ap (λ l. x ∷ l) all)
        | inr has ↦ inr (mark_behind n m x bytes before mark clear has)
      ])
    ]

-- before anything was read
pub guards_new : (known : Option (List ℕ)) → Guards known (option_map (handed_on (Open 0)) known)
guards_new known = search (arith, http_given, given_or_http)

-- ---- a session that is given no whole line

lines_none : (begun bytes : List ℕ) → ends_line bytes ≡ false → lines_after begun bytes ≡ []
lines_none begun [] none = refl
lines_none begun (x ∷ bytes) none = search (arith, lines_none (begun ++ x ∷ []) bytes, not_feed)

begins_none : {X : Type 0} (xs : List X) → IsBeginning xs [] → xs ≡ []
begins_none [] begins = refl
begins_none (x ∷ xs) begins = absurd (cc (begins.1))

module _ {A : Type 0} (answers : A → A → Query → Answer → Type 0) where
  each_none : (a b : A) (replies : List Answer) → AnswersEach answers a [] replies b → (b ≡ a) × (replies ≡ [])
  each_none a b [] each = (each, refl)
  each_none a b (r ∷ replies) each = absurd each

  all_none : (a b : A) (before after : Option (List ℕ)) → AnswersAll answers [] a b before after → (b ≡ a) × Appends before after []
  all_none a b before after all = ((each_none a b all.0 all.1).0, all.2)

  some_none : (a b : A) (before after : Option (List ℕ)) → AnswersSome answers [] a b before after → (b ≡ a) × Appends before after []
  some_none a b before after some =
      let each = subst (λ events. AnswersEach answers a events some.1 b) (begins_none some.0 some.3) some.4 in
      ((each_none a b some.1 each).0, subst (λ out. Appends before after out) (begins_none some.2 some.5) some.6)

  serves_none : (v : ℕ) (read : List ℕ) (a b : A) (before after : Option (List ℕ)) → ends_line read ≡ false
      → ServesAll answers v [] read a b before after → (b ≡ a) × Appends before after []
  serves_none v read a b before after none serves = search (arith, all_none, lines_none)

  serves_no_part : (v : ℕ) (read : List ℕ) (a b : A) (before after : Option (List ℕ)) → ends_line read ≡ false
      → ServesSome answers v [] read a b before after → (b ≡ a) × Appends before after []
  serves_no_part v read a b before after none serves = some_none a b before after (search (arith, lines_none))

  -- the bytes that were read of such a request end no line
  read_none : (given read : List ℕ) (left : Option (List ℕ)) → ends_line given ≡ false → Consumes (Some given) left read → ends_line read ≡ false
  read_none given read None none took = absurd took
  read_none given read (Some ys) none took = ends_line-front read ys (ap ends_line (sym took) ∙ none)

  ends_none : (end : SessionEnd) (v : ℕ) (given : List ℕ) (left before after : Option (List ℕ)) (a b : A) → ends_line given ≡ false
      → Ends answers end v (record { answerer = a; remaining = Some given; contents = before }) (record { answerer = b; remaining = left; contents = after })
      → (b ≡ a) × Appends before after []
  ends_none End v given left before after a b none ends = serves_none v ends.0 a b before after (read_none given ends.0 left none ends.1) ends.3
  ends_none ReadFault v given left before after a b none ends = serves_none v ends.0 a b before after (read_none given ends.0 left none ends.1) ends.2
  ends_none end v given left before after a b none ends = serves_no_part v ends.0 a b before after (read_none given ends.0 left none ends.1) ends.2

  -- an HTTP request gets no reply, and nothing is written
  pub http_nothing : (end : SessionEnd) (v : ℕ) (known given left before after : Option (List ℕ)) (a b : A) → Guards known given
      → Ends answers end v (record { answerer = a; remaining = given; contents = before }) (record { answerer = b; remaining = left; contents = after })
      → IfSome known (λ bytes. IsHttp bytes → (b ≡ a) × Appends before after [])
  http_nothing end v known given left before after a b guards ends = search (arith, ends_none)
