-- What is written for a request.
use Rattle.std.specs.Prelude.{◌≡◌, ◌⊎◌, ℕ, List, [], ◌++◌, Option, codes, length}
use Rattle.std.specs.Fmt.{decimal}
use Rattle.std.specs.Io.KnownBytes.{Appends}
use Rattle.silt_event.specs.declared.counts.Counts.{Counts}
use Rattle.silt_event.specs.declared.facts.Facts.{Facts}
use Rattle.silt_metrics.specs.Pages.{page_text}
use Rattle.silt_metrics.specs.Requests.{IsTakenFor}
use Rattle.silt_wire.specs.Sessions.{IsBeginning}
use Rattle.silt_metrics.specs.declared.request.Wanted.{Wanted}
use Rattle.silt_metrics.specs.declared.request.Wanted.TheVariants.{Page, OtherPage, OtherMethod, Garbage}

-- the head and the body of a response
abbrev pub response_with : List ℕ → List ℕ → List ℕ
response_with status body =
    codes "HTTP/1.1 " ++ (status ++ (codes "\r\nContent-Type: text/plain; version=0.0.4; charset=utf-8\r\nContent-Length: "
    ++ (decimal (length body) ++ (codes "\r\nConnection: close\r\n\r\n" ++ body))))

-- the response to a request that asks for this
abbrev pub response_text : Wanted → Facts → Counts → List ℕ
response_text Page facts counts = response_with (codes "200 OK") (page_text facts counts)
response_text OtherPage facts counts = response_with (codes "404 Not Found") (codes "the page is /metrics\n")
response_text OtherMethod facts counts = response_with (codes "405 Method Not Allowed\r\nAllow: GET") (codes "the page is read with GET\n")
response_text Garbage facts counts = response_with (codes "400 Bad Request") (codes "this is no request\n")

-- what was written for the bytes that were read: the response to what they ask for, a first part of it, or nothing
abbrev pub IsAnsweredBy : Facts → Counts → List ℕ → Option (List ℕ) → Option (List ℕ) → Type 0
IsAnsweredBy facts counts read before after =
    (wanted : Wanted) × (out : List ℕ) × (IsTakenFor read wanted ⊎ (out ≡ [])) × IsBeginning out (response_text wanted facts counts) × Appends before after out
