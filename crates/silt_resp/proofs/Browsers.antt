-- A session with a browser: its bytes end no line.
use Rattle.silt_resp.proofs.Common.{◌≡◌, ℕ, false, List, [], ◌∷◌, ◌++◌, length, refl, ap, ◌∙◌, arith, inl, inr, Option, Some, Consumes, cases_lt, AnswersEach, Answer, Query, IsBeginning}
use Rattle.silt_resp.proofs.Common.{ProtocolFault, Settings, RespEnd, End, Closed, ReadFault, NoFeed, Asked, says, AnswersCommands, AnswersSomeCommands, EndsWith, all_queries, asked_after}
use Rattle.silt_resp.proofs.Common.{asked_each, new_client, asked_texts, line_kind, line_limit, too_long}
use Rattle.std.proofs.Common.{append-nil}
use Rattle.std.specs.Prelude.{IfSome}
use Rattle.silt_wire.specs.Http.{Guards, IsHttp, ends_line}
use Rattle.silt_resp.specs.declared.fault.ProtocolFault.TheVariants.{BadCount}
use Rattle.silt_resp.specs.Commands.{broken_text, visitor_at_first}
use Rattle.silt_resp.specs.Sessions.{RespEnds, WritesAtMostFault}
use Rattle.silt_resp.proofs.Doing.{begins-trans}
use Rattle.silt_resp.proofs.Runs.{line_over, line_run}

-- ---- bytes without a line feed

no_feed : (xs : List ℕ) → ends_line xs ≡ false → NoFeed xs
no_feed [] e = tt
no_feed (x ∷ xs) e = search (arith, no_feed xs)

no_feed-front : (xs ys : List ℕ) → NoFeed (xs ++ ys) → NoFeed xs
no_feed-front [] ys h = tt
no_feed-front (x ∷ xs) ys h = (h.0, no_feed-front xs ys h.1)

read_no_feed : (given read : List ℕ) (left : Option (List ℕ)) → ends_line given ≡ false → Consumes (Some given) left read → NoFeed read
read_no_feed given read left none took = search (arith, no_feed-front, no_feed)

-- they end at most one command, which is none
at_most_fault : (s : Settings) (read : List ℕ) → NoFeed read → (fault : ProtocolFault) × IsBeginning (asked_after s (new_client s) read) (says (broken_text fault) ∷ [])
at_most_fault s read none =
    let kind = line_kind 0 read in
    elim (cases_lt (line_limit kind) (length read)) [
      | inl over ↦ let asked = ap (asked_each s (visitor_at_first s)) (line_over [] 0 [] read none (omega arith) over).commands_are in
          (too_long kind, ([], append-nil (asked_after s (new_client s) read) ∙ asked))
      | inr within ↦
          let asked = ap (λ cs. asked_each s (visitor_at_first s) cs ++ says (broken_text BadCount) ∷ []) (line_run [] 0 [] read none within).commands_are in
          (BadCount, (says (broken_text BadCount) ∷ [], asked))
    ]

-- ---- nothing is done

text_only : (asked : List Asked) (text : List ℕ) → IsBeginning asked (says text ∷ []) → (all_queries asked ≡ []) × IsBeginning (asked_texts asked []) text
text_only [] text h = (refl, (text, refl))
text_only (x ∷ []) text h = search (arith, append-nil)
text_only (x ∷ y ∷ asked) text h = absurd (cc (h.1))

module _ {A : Type 0} (answers : A → A → Query → Answer → Type 0) where
  none_each : (a b : A) (replies : List Answer) → AnswersEach answers a [] replies b → (b ≡ a) × (replies ≡ [])
  none_each a b [] each = (each, refl)
  none_each a b (r ∷ replies) each = absurd each

  none_done : (asked : List Asked) (text : List ℕ) (a b : A) (replies : List Answer) → IsBeginning asked (says text ∷ []) → AnswersEach answers a (all_queries asked) replies b
      → (b ≡ a) × IsBeginning (asked_texts asked replies) text
  none_done asked text a b replies begins each =
      let only = text_only asked text begins in search (arith, none_each)

  all_told : (asked : List Asked) (fault : ProtocolFault) (a b : A) (before after : Option (List ℕ)) → IsBeginning asked (says (broken_text fault) ∷ [])
      → AnswersCommands answers asked a b before after → (b ≡ a) × WritesAtMostFault before after
  all_told asked fault a b before after begins all =
      let done = none_done asked (broken_text fault) a b all.0 begins all.1 in (done.0, (fault, asked_texts asked all.0, done.1, all.2))

  some_told : (asked : List Asked) (fault : ProtocolFault) (a b : A) (before after : Option (List ℕ)) → IsBeginning asked (says (broken_text fault) ∷ [])
      → AnswersSomeCommands answers asked a b before after → (b ≡ a) × WritesAtMostFault before after
  some_told asked fault a b before after begins k =
      let done = none_done k.0 (broken_text fault) a b k.1 (begins-trans k.0 asked (says (broken_text fault) ∷ []) k.3 begins) k.4 in
      (done.0, (fault, k.2, begins-trans k.2 (asked_texts k.0 k.1) (broken_text fault) k.5 done.1, k.6))

  told_ends : (end : RespEnd) (s : Settings) (read : List ℕ) (a b : A) (before after : Option (List ℕ)) → NoFeed read
      → EndsWith answers end s (new_client s) read a b before after → (b ≡ a) × WritesAtMostFault before after
  told_ends End s read a b before after none h = let m = at_most_fault s read none in all_told _ m.0 a b before after m.1 h.0
  told_ends ReadFault s read a b before after none h = let m = at_most_fault s read none in all_told _ m.0 a b before after m.1 h.0
  told_ends Closed s read a b before after none h = let m = at_most_fault s read none in all_told _ m.0 a b before after m.1 h.0
  told_ends end s read a b before after none h = let m = at_most_fault s read none in some_told _ m.0 a b before after m.1 h

  -- an HTTP request does nothing, and has at most one error
  pub http_nothing : (end : RespEnd) (s : Settings) (known given left before after : Option (List ℕ)) (a b : A) → Guards known given
      → RespEnds answers end s (new_client s) (record { answerer = a; remaining = given; contents = before }) (record { answerer = b; remaining = left; contents = after })
      → IfSome known (λ bytes. IsHttp bytes → (b ≡ a) × WritesAtMostFault before after)
  http_nothing end s known given left before after a b guards ends = search (arith, told_ends, read_no_feed)
