-- What a request asks for.
use Rattle.std.specs.Prelude.{◌≡◌, ◌⊎◌, ℕ, List, Option, Some, None, codes, if◌then◌else◌}
use Rattle.std.specs.Str.{bytes_eq}
use Rattle.httparse.specs.Grammar.{HasNoRequest, NeverHasRequest, ReadsRequest, RequestHead}
use Rattle.httparse.specs.Spans.{RequestExceeds}
use Rattle.silt_metrics.specs.declared.request.Wanted.{Wanted}
use Rattle.silt_metrics.specs.declared.request.Wanted.TheVariants.{Page, OtherPage, OtherMethod, Garbage}

-- what a method and a target ask for
abbrev pub wanted_of : List ℕ → List ℕ → Wanted
wanted_of method target = if bytes_eq method (codes "GET") then (if bytes_eq target (codes "/metrics") then Page else OtherPage) else OtherMethod

-- the bytes begin with a head that asks for this
abbrev pub Asks : List ℕ → Wanted → Type 0
Asks bytes wanted = (head : RequestHead) × (rest : List ℕ) × ReadsRequest bytes head rest × (wanted ≡ wanted_of head.method head.target)

-- These bytes ask for this. They are garbage if no head begins so, or only one with more than 64 fields.
abbrev pub AsksFor : List ℕ → Wanted → Type 0
AsksFor bytes Garbage = NeverHasRequest bytes ⊎ RequestExceeds 64 bytes
AsksFor bytes wanted = Asks bytes wanted

-- what bytes ask for, or that they have no head yet
abbrev pub IsWanted : List ℕ → Option Wanted → Type 0
IsWanted bytes None = HasNoRequest bytes
IsWanted bytes (Some wanted) = AsksFor bytes wanted

-- Bytes that were read are taken for this. They are also garbage if they have no head, and no more of them come.
abbrev pub IsTakenFor : List ℕ → Wanted → Type 0
IsTakenFor read Garbage = AsksFor read Garbage ⊎ HasNoRequest read
IsTakenFor read wanted = AsksFor read wanted
