-- What a client of a server sends, and what it prints.
use Rattle.std.specs.Prelude.{◌≡◌, ◌⊎◌, ◌++◌, ◌+◌, ◌-◌, ◌==◌, ◌||◌, ℕ, Bool, IfOk, List, [], MatchOption, Option, None, Some, codes, drop, if◌then◌else◌, length}
use Rattle.std.specs.Prelude.{nat_eq, not, take}
use Rattle.std.specs.declared.net.socket_addr.SocketAddr.{SocketAddr}
use Rattle.silt.specs.Common.{Appends, filter, position, starts_with, IsIpText, IsSocketText, socket_ip, socket_port, option_map_or, string_text, NamedContact}
use Rattle.silt.specs.Common.{Refuses, NoReply, NotAsked, StreamError, Urgent, NoEntrance, Password, Address}
use Rattle.silt_wire.specs.Numbers.{number_of}
use Rattle.silt_jobs.specs.declared.people.ended.Ended.{Ended}
use Rattle.silt.specs.declared.client_text.Call.{Call}
use Rattle.silt.specs.declared.client_text.Call.TheVariants.{Stop, Info}
use Rattle.silt.specs.Passwords.{ReadsLine}
use Rattle.silt.specs.Services.{TellsWhy}

-- what a client sends first, if it has a password
abbrev pub password_text : Option (List ℕ) → List ℕ
password_text None = []
password_text (Some password) = codes "*2\r\n" ++ (string_text (codes "AUTH") ++ string_text password)

-- the line of a command, which servers of lines and of Redis clients understand
abbrev pub command_line : Call → List ℕ
command_line Stop = codes "shutdown\n"
command_line Info = codes "info\n"

-- all that a client sends
abbrev pub request_text : Call → Option (List ℕ) → List ℕ
request_text call password = password_text password ++ command_line call

-- a text behind its first line
abbrev pub behind_line : List ℕ → List ℕ
behind_line text = option_map_or (λ at. drop (at + 1) text) (position (λ b. b == 10) text) []

-- a reply without carriage returns
abbrev pub plain_reply : List ℕ → List ℕ
plain_reply reply = filter (λ b. not (b == 13)) reply

-- a plain reply without the line that lets the client in
abbrev pub let_in : List ℕ → List ℕ
let_in text = if starts_with nat_eq text (codes "+") then behind_line text else text

-- a reply that refuses: of a server for Redis clients, or of a server of lines
abbrev pub is_refusal : List ℕ → Bool
is_refusal text = starts_with nat_eq text (codes "-") || starts_with nat_eq text (codes "refused ")

-- what people are shown of a reply: of a string its bytes, which end with a line feed of their own
abbrev pub shown : List ℕ → List ℕ
shown text = if starts_with nat_eq text (codes "$") then take (length (behind_line text) - 1) (behind_line text) else text

-- what a client prints of a reply: of an end only a refusal
abbrev pub printed : Call → List ℕ → List ℕ
printed Info text = shown text
printed Stop text = if is_refusal text then shown text else []

-- the status of a client with this reply
abbrev pub reply_status : List ℕ → ℕ
reply_status text = if is_refusal text then 1 else 0

-- a text says where a server is: at a port of this machine, or at an address and a port
abbrev pub IsAt : List ℕ → SocketAddr → Type 0
IsAt text socket = MatchOption (number_of text) (IsSocketText text socket) (λ port. IsIpText (codes "127.0.0.1") (socket_ip socket) × (socket_port socket ≡ port))

-- the password that a file gives, if one is named
abbrev pub HasLine : (List ℕ → List ℕ → Type 0) → Option (List ℕ) → Option (List ℕ) → Type 0
HasLine Begins None password = password ≡ None
HasLine Begins (Some path) password = (line : List ℕ) × (password ≡ Some line) × ReadsLine Begins path line

-- why a server is not asked: the file gives no password, or the text is no address
abbrev pub IsNoContact : NamedContact → NoEntrance → Type 0
IsNoContact contact (Password file error) = contact.password_file ≡ Some file.now
IsNoContact contact (Address text) = contact.address ≡ text.now
IsNoContact contact other = ⊥

module _ {E F : Type 0} where
  -- a reply came, and what is printed of it was written
  abbrev pub PrintsReply : Call → List ℕ → Ended E F → Option (List ℕ) → Option (List ℕ) → Type 0
  PrintsReply call text ended before after =
      (ended.why ≡ None) × IfOk ended.status (λ status. (status ≡ reply_status text) × Appends before after (printed call text))

  -- a server was asked: it gave a reply, or the reason says why there is none
  abbrev pub IsAnswered : Call → SocketAddr → Ended E F → Option (List ℕ) → Option (List ℕ) → Type 0
  IsAnswered call socket ended before after =
      ((error : StreamError) × Refuses (NoReply socket error) ended before after)
      ⊎ ((reply : List ℕ) × PrintsReply call (let_in (plain_reply reply)) ended before after)

  -- people were told why a server was not asked, or one was asked that is where the contact says
  abbrev pub AsksServer : (List ℕ → Urgent → Type 0) → Type 0 → Call → NamedContact → Ended E F → Option (List ℕ) → Option (List ℕ) → Type 0
  AsksServer Told Quiet call contact ended before after =
      ((why : NoEntrance) × IsNoContact contact why × TellsWhy Told [] why × Refuses NotAsked ended before after)
      ⊎ (Quiet × ((socket : SocketAddr) × IsAt contact.address socket × IsAnswered call socket ended before after))
