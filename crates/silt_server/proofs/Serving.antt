-- What a server writes.
use Rattle.silt_server.proofs.Names.{◌≡◌, ◌⊎◌, ℕ, ◌%◌, ◌^◌, Option, List, [], ◌∷◌, ◌++◌, ap, arith, codes, inl, inr, length, refl, subst, sym, take, drop, take-append-drop, IfOk, OnOk, Result}
use Rattle.silt_server.proofs.Names.{Ok, Err, Appends-append, Appends-keeps, Appends-none, Ghosts, CoreState, SeenStore, LeavesCalls, BreaksServing, IsTraced, PrintsCalls, PrintsServed}
use Rattle.silt_server.proofs.Names.{ServesCalls, WritesHead, head_text, network_text, no_memory_text, calls_text, listening_text, refused_text}
use Rattle.silt_desk.specs.History.{count_accepted}
use Rattle.std.proofs.lemmas.Fmt.{decimal_digit}
use Rattle.std.specs.Io.KnownBytes.{Appends, WriteAppends}
use Rattle.silt_event.specs.declared.refusal.Refusal.{Refusal}
use Rattle.silt_event.specs.declared.refusal.Refusal.TheVariants.{NoMemory}
use Rattle.silt_wire.specs.Sessions.{IsBeginning}

no_memory_is : (F : Type 0) → codes "refused 6 NoMemory\n" ≡ refused_text {F = F} NoMemory
no_memory_is F = ap (λ (digits : List ℕ). (codes "refused " ++ (digits ++ codes " NoMemory")) ++ 10 ∷ []) (sym (decimal_digit 6 (search (arith))))

-- this line reports that memory ran out
pub reports_no_memory : {F : Type 0} (refusal : Refusal F) (before after : Option (List ℕ)) → refusal ≡ NoMemory
    → Appends before after (codes "refused 6 NoMemory\n") → Appends before after (refused_text refusal)
reports_no_memory {F} refusal before after is printed =
    rw is (subst (λ (text : List ℕ). Appends before after text) (no_memory_is F) printed)

-- the head is written by two lines
pub head_written : {X E : Type 0} (result : Result X E) (before mid after : Option (List ℕ)) (port : ℕ) → Appends before mid (codes "opened\n")
    → OnOk result (Appends mid after (listening_text port)) → OnOk result (Appends before after (head_text port))
head_written (Ok x) before mid after port first second = Appends-append before mid after (codes "opened\n") (listening_text port) first second
head_written (Err e) before mid after port first second = second

-- the lines say that the store is opened, and that the network failed
pub no_network_written : {E : Type 0} (result : Result ℕ E) (before mid after : Option (List ℕ)) → Appends before mid (codes "opened\n")
    → IfOk result (λ status. (status ≡ 1) × Appends mid after network_text)
    → IfOk result (λ status. (status ≡ 1) × Appends before after (codes "opened\n" ++ network_text))
no_network_written (Ok status) before mid after first second = (second.0, Appends-append before mid after (codes "opened\n") network_text first second.1)
no_network_written (Err e) before mid after first second = second

-- the head is written, and then the lines of the end
pub served_written : {T : Type 0} (has_port : ℕ → Type 0) (counts : T → ℕ → ℕ → Type 0) (trace : T) (before mid after : Option (List ℕ))
    → WritesHead has_port before mid → PrintsCalls counts trace mid after → PrintsServed has_port counts trace before after
served_written has_port counts trace before mid after head printed =
    (head.0, head.1, printed.0, printed.1, printed.2, Appends-append before mid after (head_text head.0) (calls_text (printed.0 % 2 ^ 64)) head.2 printed.3)

-- ---- the calls of a server

module _ {D F T E : Type 0} (facts : Ghosts D F) (agrees : T → SeenStore → Type 0) (counts : T → ℕ → ℕ → Type 0) (has_port : ℕ → Type 0) (first : CoreState D) (disk : D)
    (status : Result ℕ E) (before after : Option (List ℕ)) where
  -- the calls that a trace counts lead to the store on the disk
  pub leaves_traced : IsTraced facts agrees counts has_port first disk status before after → LeavesCalls facts first disk
  leaves_traced traced = (traced.last, traced.past.calls, traced.is, traced.past.leads)

  -- the number that was written is theirs, if the trace counts one number modulo 2^64
  pub calls_served : ((trace : T) (n m k l : ℕ) → counts trace n m → counts trace k l → n % 2 ^ 64 ≡ k % 2 ^ 64) → IsTraced facts agrees counts has_port first disk status before after
      → status ≡ Ok 0 → ServesCalls facts has_port first disk before after
  calls_served one traced is =
      let printed = traced.printed is in
      let calls = traced.past.calls in
      let number = one traced.state.trace printed.2 printed.3 (length calls) (count_accepted calls) printed.4 traced.past.counted in
      (traced.last, calls, traced.is, traced.past.leads, (printed.0, printed.1, rw number at printed.5))

-- one write took a first part of a text, or nothing
pub wrote_some : {E : Type 0} (result : Result ℕ E) (text : List ℕ) (before after : Option (List ℕ)) → WriteAppends before after result text
    → (written : List ℕ) × IsBeginning written text × Appends before after written
wrote_some (Ok n) text before after wrote = (take n text, (drop n text, take-append-drop n text), wrote)
wrote_some (Err e) text before after kept = ([], (text, refl), Appends-keeps before before after [] (Appends-none before) kept)

-- ---- a server that did not serve to its end

-- the head is written, and behind it why the server ends
pub breaks_behind : (has_port : ℕ → Type 0) (before mid after : Option (List ℕ)) → WritesHead has_port before mid
    → Appends mid after no_memory_text ⊎ Appends mid after network_text → BreaksServing has_port before after
breaks_behind has_port before mid after head (inl printed) = inr (inr (head.0, head.1, inl (Appends-append before mid after (head_text head.0) no_memory_text head.2 printed)))
breaks_behind has_port before mid after head (inr printed) = inr (inr (head.0, head.1, inr (Appends-append before mid after (head_text head.0) network_text head.2 printed)))
