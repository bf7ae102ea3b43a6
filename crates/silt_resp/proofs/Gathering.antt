-- What is gathered of a client's bytes, part by part.
use Rattle.silt_resp.proofs.Common.{◌≡◌, ◌+◌, ℕ, false, Bool, List, ◌++◌, take, drop, sym, ap, ◌∙◌, append_assoc, take-add, Settings, Batch, GathersAsked, HoldsAsked, HoldsClient, IsBehind, Asked}
use Rattle.silt_resp.proofs.Common.{Client, asked_after, client_after, start}
use Rattle.std.proofs.Common.{take-append-drop, arith}
use Rattle.silt_resp.specs.declared.session.Talk.{Talk}
use Rattle.silt_resp.specs.Batches.{GathersSomeAsked, KeepsAsked}
use Rattle.silt_resp.proofs.Doing.{asked_after-append, client_after-append}

-- ---- a batch

pub holds_keeps : (old new : Batch) (asked : List Asked) → HoldsAsked old asked → KeepsAsked old new → HoldsAsked new asked
holds_keeps old new asked h k = search arith

-- ---- one part after the other

pub gathers_part : (s : Settings) (c : Client) (bytes rest : List ℕ) (done count : ℕ) (start mid end : Batch) → rest ≡ drop done bytes → GathersAsked s c (take done bytes) start mid
    → GathersAsked s (client_after s c (take done bytes)) (take count rest) mid end → GathersAsked s c (take (done + count) bytes) start end
gathers_part s c bytes rest done count start mid end is h k = λ asked holds.
    let front = take done bytes in
    let more = take count (drop done bytes) in
    rw (take-add done count bytes, asked_after-append s c front more, ← append_assoc asked (asked_after s c front) (asked_after s (client_after s c front) more)) ((rw is
    at k) (asked ++ asked_after s c front) (h asked holds))

behind_append : (s : Settings) (c : Client) (xs ys : List ℕ) (ends : Bool) (talk : Talk) → IsBehind s (client_after s c xs) ys ends talk → IsBehind s c (xs ++ ys) ends talk
behind_append s c xs ys ends talk h = search (arith, client_after-append)

pub behind_part : (s : Settings) (c : Client) (bytes rest : List ℕ) (done count : ℕ) (ends : Bool) (talk : Talk) → rest ≡ drop done bytes
    → IsBehind s (client_after s c (take done bytes)) (take count rest) ends talk → IsBehind s c (take (done + count) bytes) ends talk
behind_part s c bytes rest done count ends talk is h = rw (take-add done count bytes) (search (arith, behind_append))

pub client_part : (s : Settings) (c : Client) (bytes rest : List ℕ) (done count : ℕ) (talk : Talk) → rest ≡ drop done bytes
    → HoldsClient talk (client_after s (client_after s c (take done bytes)) (take count rest)) → HoldsClient talk (client_after s c (take (done + count) bytes))
client_part s c bytes rest done count talk is h = behind_part s c bytes rest done count false talk is h

-- what was gathered of a part is a beginning of what the whole asks for
pub gathers_some : (s : Settings) (c : Client) (bytes : List ℕ) (count : ℕ) (start end : Batch) → GathersAsked s c (take count bytes) start end → GathersSomeAsked s c bytes start end
gathers_some s c bytes count start end h = λ asked holds.
    let front = take count bytes in
    let whole = sym (asked_after-append s c front (drop count bytes)) ∙ ap (asked_after s c) (take-append-drop count bytes) in
    (asked_after s c front, (asked_after s (client_after s c front) (drop count bytes), whole), h asked holds)

pub gathers_keeps : (s : Settings) (c : Client) (bytes : List ℕ) (start mid end : Batch) → GathersAsked s c bytes start mid → KeepsAsked mid end → GathersAsked s c bytes start end
gathers_keeps s c bytes start mid end h k = λ asked holds. holds_keeps mid end (asked ++ asked_after s c bytes) (h asked holds) k
