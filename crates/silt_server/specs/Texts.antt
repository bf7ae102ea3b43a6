-- What a server writes.
use Rattle.std.specs.Prelude.{ℕ, List, [], ◌∷◌, ◌++◌, codes}
use Rattle.std.specs.Fmt.{decimal}
use Rattle.silt_event.specs.declared.refusal.Refusal.{Refusal}
use Rattle.silt_event.specs.declared.reply.Reply.TheVariants.{Refused}
use Rattle.silt_wire.specs.Replies.{reply_text}
use Rattle.silt_server.specs.declared.limits.Protocol.{Protocol}
use Rattle.silt_server.specs.declared.limits.Protocol.TheVariants.{Resp}

-- the line with the port on which the server listens
abbrev pub listening_text : ℕ → List ℕ
listening_text port = codes "listening " ++ (decimal port ++ codes "\n")

-- why a connection is closed where so many are served already: no reply to a line begins so
abbrev pub busy_text : Protocol → ℕ → List ℕ
busy_text Resp clients = codes "-ERR max number of clients reached\r\n"
busy_text protocol clients = codes "busy: " ++ (decimal clients ++ codes " connections are served already\n")

-- why a connection with a place is closed: the system gives no thread for it
abbrev pub no_thread_text : Protocol → List ℕ
no_thread_text Resp = codes "-ERR max number of clients reached\r\n"
no_thread_text protocol = codes "busy: the system gives no thread\n"

-- how many calls are recorded
abbrev pub calls_text : ℕ → List ℕ
calls_text calls = codes "calls " ++ (decimal calls ++ codes "\n")

-- why nothing is served
abbrev pub refused_text : {F : Type 0} → Refusal F → List ℕ
refused_text refusal = reply_text (Refused refusal) ++ 10 ∷ []
