-- What commands ask of a store, and replies that need no store.
use Rattle.std.specs.Prelude.{◌==◌, ◌&&◌, ◌||◌, ◌/◌, ◌%◌, ℕ, Bool, true, false, nat_le, List, [], ◌∷◌, ◌++◌, length, map, take, drop, All, slice_get, codes}
use Rattle.std.specs.Prelude.{Option, Some, None, is_none, Result, Ok, Err, is_ok, if◌then◌else◌}
use Rattle.std.specs.Str.{bytes_eq}
use Rattle.sha1.specs.Sha1.{sha1}
use Rattle.silt_event.specs.declared.event.Event.{Event}
use Rattle.silt_event.specs.declared.event.Event.TheVariants.{Put, Delete, Swap, Get as LookUp}
use Rattle.silt_event.specs.Events.{HasValueOf}
use Rattle.silt_resp.specs.declared.fault.ProtocolFault.{ProtocolFault}
use Rattle.silt_resp.specs.declared.fault.CommandFault.{CommandFault}
use Rattle.silt_resp.specs.declared.fault.CommandFault.TheVariants.{LongValue, ManyKeys, ManyWords, ManyBytes, WrongCount, BadSyntax, BadIndex, BadSubcommand}
use Rattle.silt_resp.specs.declared.fault.CommandFault.TheVariants.{NoCluster, NotLetIn, NoPassword, WrongPassword, OtherProtocol}
use Rattle.silt_resp.specs.declared.settings.Settings.{Settings}
use Rattle.silt_resp.specs.declared.settings.Visitor.{Visitor}
use Rattle.silt_resp.specs.declared.table.CommandName.{CommandName}
use Rattle.silt_resp.specs.declared.table.CommandName.TheVariants.{Get, Strlen, Mget, Exists, Touch, Set, Setnx, Delifeq, Mset, Del, Unlink, Ping, Echo, Quit}
use Rattle.silt_resp.specs.declared.table.CommandName.TheVariants.{Select, Auth, Hello, Client, Command as CommandList, Config, Cluster, Info}
use Rattle.silt_resp.specs.declared.table.CommandName.TheVariants.{Shutdown as ShutdownName, Bgsave}
use Rattle.silt_event.specs.declared.admin.Admin.{Admin}
use Rattle.silt_event.specs.declared.admin.Admin.TheVariants as admin_case
use Rattle.silt_resp.specs.declared.asked.Tail.{Tail}
use Rattle.silt_resp.specs.declared.asked.Tail.TheVariants as tail_case
use Rattle.silt_resp.specs.declared.texts.Form.{Form}
use Rattle.silt_resp.specs.declared.texts.Form.TheVariants.{Value, Len, Stored, Swapped, Changed, Values, Counted}
use Rattle.silt_resp.specs.Arguments.{and_then, has_word, key_at, keys_named, puts_named, value_at}
use Rattle.silt_resp.specs.Faults.{command_fault_text, protocol_text}
use Rattle.silt_resp.specs.Info.{sections_named}
use Rattle.silt_resp.specs.Stream.{Command, Word, broken, complete, long, longest_word, many_bytes, many_words, whole}
use Rattle.silt_resp.specs.Table.{first_command, takes}
use Rattle.silt_resp.specs.Texts.{error_text, marked_line, null_text, number_text, ok_text, string_text}

-- what a command asks for: a reply that needs no store; events of which one reply of this form is made; or an admin command
pub data Asked : Type 0 where
  says : List ℕ → Asked
  asks : List Event → Form → Asked
  asks_admin : Tail → Asked

abbrev pub asked_events : Asked → List Event
asked_events (says text) = []
asked_events (asks events form) = events
asked_events (asks_admin tail) = []

-- what an admin command asks of the answerer
abbrev pub tail_command : Tail → Admin
tail_command (tail_case.Info sections) = admin_case.Info
tail_command tail_case.Shutdown = admin_case.Shutdown
tail_command tail_case.Backup = admin_case.Backup

-- each value of its events has the length of the store's values
abbrev pub FitsValues : ℕ → Asked → Type 0
FitsValues value_len asked = All (HasValueOf value_len) (asked_events asked)

-- ---- commands on keys

-- one event
abbrev pub one : Event → Form → Result Asked CommandFault
one event form = Ok (asks (event ∷ []) form)

-- the value of a key
abbrev pub look_made : List Word → Form → Result Asked CommandFault
look_made args form = and_then (key_at args 0) (λ key. one (LookUp key) form)

-- the most bytes of the values that a command asks for or brings
abbrev pub most_asked : ℕ
most_asked = 1048576

-- whether the values of so many keys are not too many together
abbrev pub is_few : Settings → ℕ → Bool
is_few settings count = nat_le count (most_asked / settings.value_len)

-- the values of keys
abbrev pub look_all_made : Settings → List Word → Form → Result Asked CommandFault
look_all_made settings args form =
    if is_few settings (length args) then and_then (keys_named args) (λ keys. Ok (asks (map (λ key. LookUp key) keys) form)) else Err ManyKeys

-- all keys are looked up, and then deleted
abbrev pub delete_made : Settings → List Word → Result Asked CommandFault
delete_made settings args =
    if is_few settings (length args) then
    and_then (keys_named args) (λ keys. Ok (asks (map (λ key. LookUp key) keys ++ map (λ key. Delete key) keys) Counted))
    else Err ManyKeys

-- a value for a key
abbrev pub put_made : Settings → List Word → Result Asked CommandFault
put_made settings args = and_then (key_at args 0) (λ key. and_then (value_at settings.value_len args 1) (λ value. one (Put key value) Stored))

-- a value for a key that has none
abbrev pub insert_made : Settings → List Word → Form → Result Asked CommandFault
insert_made settings args form =
    and_then (key_at args 0) (λ key. and_then (value_at settings.value_len args 1) (λ value. one (Swap key None (Some value)) form))

-- a value for a key that has the old one, the last word
abbrev pub replace_made : Settings → List Word → Result Asked CommandFault
replace_made settings args =
    and_then (key_at args 0) (λ key. and_then (value_at settings.value_len args 1) (λ value.
    and_then (value_at settings.value_len args 3) (λ old. one (Swap key (Some old) (Some value)) Swapped)))

-- no value for a key that has the old one
abbrev pub remove_made : Settings → List Word → Result Asked CommandFault
remove_made settings args =
    and_then (key_at args 0) (λ key. and_then (value_at settings.value_len args 1) (λ old. one (Swap key (Some old) None) Changed))

-- a value for a key, as the option says
abbrev pub set_made : Settings → List Word → Result Asked CommandFault
set_made settings args =
    if length args == 2 then put_made settings args
    else if length args == 3 then (if has_word args 2 (codes "nx") then insert_made settings args Swapped else Err BadSyntax)
    else if length args == 4 then (if has_word args 2 (codes "ifeq") then replace_made settings args else Err BadSyntax)
    else Err BadSyntax

-- values for keys, by turns
abbrev pub set_all_made : Settings → List Word → Result Asked CommandFault
set_all_made settings args =
    if length args % 2 == 1 then Err (WrongCount Mset)
    else if is_few settings (length args / 2) then and_then (puts_named settings.value_len args) (λ puts. Ok (asks puts Stored))
    else Err ManyKeys

-- ---- commands on the connection

abbrev pub echoed : Option Word → Result Asked CommandFault
echoed (Some (whole s)) = Ok (says (string_text s))
echoed (Some long) = Err (LongValue longest_word)
echoed None = Err BadSyntax

abbrev pub ping_made : List Word → Result Asked CommandFault
ping_made args = if length args == 0 then Ok (says (marked_line 43 (codes "PONG"))) else echoed (slice_get args 0)

-- there is one database
abbrev pub select_made : List Word → Result Asked CommandFault
select_made args = if has_word args 0 (codes "0") then Ok (says ok_text) else Err BadIndex

-- whether this password lets in
abbrev pub password_verdict : Option (List ℕ) → Option Word → Result (Unit {0}) CommandFault
password_verdict None word = Err NoPassword
password_verdict (Some digest) (Some (whole password)) = if bytes_eq (sha1 password) digest then Ok tt else Err WrongPassword
password_verdict (Some digest) word = Err WrongPassword

-- whether the user and the password with these numbers let in; there is only one user
abbrev pub user_verdict : Settings → List Word → ℕ → ℕ → Result (Unit {0}) CommandFault
user_verdict settings args user password =
    password_verdict settings.password (if has_word args user (codes "default") then slice_get args password else None)

abbrev pub auth_verdict : Settings → List Word → Result (Unit {0}) CommandFault
auth_verdict settings args =
    if length args == 1 then password_verdict settings.password (slice_get args 0)
    else if length args == 2 then user_verdict settings args 0 1
    else Err BadSyntax

abbrev pub auth_made : Settings → List Word → Result Asked CommandFault
auth_made settings args = and_then (auth_verdict settings args) (λ u. Ok (says ok_text))

-- a greeting with a user and a password
abbrev pub has_login : List Word → Bool
has_login args =
    has_word args 1 (codes "auth") && ((length args == 4) || ((length args == 6) && has_word args 4 (codes "setname")))

-- a greeting without them
abbrev pub has_no_login : List Word → Bool
has_no_login args = nat_le (length args) 1 || ((length args == 3) && has_word args 1 (codes "setname"))

-- a greeting in the one version that there is
abbrev pub has_version : List Word → Bool
has_version args = (length args == 0) || has_word args 0 (codes "2")

-- whether a greeting is answered
abbrev pub hello_verdict : Settings → Visitor → List Word → Result (Unit {0}) CommandFault
hello_verdict settings visitor args =
    if has_version args then
    (if has_login args then user_verdict settings args 2 3
    else if has_no_login args then (if visitor.is_let_in then Ok tt else Err NotLetIn)
    else Err BadSyntax)
    else Err OtherProtocol

-- what a greeting is told
abbrev pub hello_text : ℕ → List ℕ
hello_text id =
    codes "*14\r\n$6\r\nserver\r\n$5\r\nredis\r\n$7\r\nversion\r\n$5\r\n7.0.0\r\n$5\r\nproto\r\n:2\r\n$2\r\nid\r\n" ++ (number_text id
    ++ codes "$4\r\nmode\r\n$10\r\nstandalone\r\n$4\r\nrole\r\n$6\r\nmaster\r\n$7\r\nmodules\r\n*0\r\n")

abbrev pub hello_made : Settings → Visitor → List Word → Result Asked CommandFault
hello_made settings visitor args = and_then (hello_verdict settings visitor args) (λ u. Ok (says (hello_text visitor.id)))

-- whether the words are this subcommand and what follows it, so many words together
abbrev pub is_subcommand : List Word → List ℕ → ℕ → Bool
is_subcommand args text count = has_word args 0 text && (length args == count)

-- a client's name is not kept
abbrev pub client_made : Visitor → List Word → Result Asked CommandFault
client_made visitor args =
    if is_subcommand args (codes "setname") 2 then Ok (says ok_text)
    else if is_subcommand args (codes "setinfo") 3 then Ok (says ok_text)
    else if is_subcommand args (codes "id") 1 then Ok (says (number_text visitor.id))
    else if is_subcommand args (codes "getname") 1 then Ok (says null_text)
    else Err BadSubcommand

abbrev pub empty_array : List ℕ
empty_array = marked_line 42 (codes "0")

abbrev pub command_made : List Word → Result Asked CommandFault
command_made args = if length args == 0 then Ok (says empty_array) else Err BadSubcommand

-- a parameter's name and its value
abbrev pub pair_text : List ℕ → List ℕ → List ℕ
pair_text parameter value = marked_line 42 (codes "2") ++ (string_text parameter ++ string_text value)

-- the parameters that clients ask for
abbrev pub parameters : List Word → List ℕ
parameters args =
    if has_word args 1 (codes "save") then pair_text (codes "save") []
    else if has_word args 1 (codes "appendonly") then pair_text (codes "appendonly") (codes "yes")
    else empty_array

abbrev pub config_made : List Word → Result Asked CommandFault
config_made args =
    if is_subcommand args (codes "get") 2 then Ok (says (parameters args)) else Err BadSubcommand

-- ---- admin commands

-- whether these words may follow SHUTDOWN; none of them changes what it does
abbrev pub takes_shutdown : List Word → Bool
takes_shutdown args =
    (length args == 0)
    || ((length args == 1)
    && (has_word args 0 (codes "save") || (has_word args 0 (codes "nosave") || (has_word args 0 (codes "now") || has_word args 0 (codes "force")))))

-- the server ends
abbrev pub shutdown_made : List Word → Result Asked CommandFault
shutdown_made args = if takes_shutdown args then Ok (asks_admin tail_case.Shutdown) else Err BadSyntax

-- whether these words may follow BGSAVE
abbrev pub takes_backup : List Word → Bool
takes_backup args = (length args == 0) || ((length args == 1) && has_word args 0 (codes "schedule"))

-- the server writes a backup
abbrev pub backup_made : List Word → Result Asked CommandFault
backup_made args = if takes_backup args then Ok (asks_admin tail_case.Backup) else Err BadSyntax

-- ---- all commands

-- what a command makes of the words behind its name
abbrev pub made : Settings → Visitor → CommandName → List Word → Result Asked CommandFault
made settings visitor Get args = look_made args Value
made settings visitor Strlen args = look_made args Len
made settings visitor Mget args = look_all_made settings args Values
made settings visitor Exists args = look_all_made settings args Counted
made settings visitor Touch args = look_all_made settings args Counted
made settings visitor Set args = set_made settings args
made settings visitor Setnx args = insert_made settings args Changed
made settings visitor Delifeq args = remove_made settings args
made settings visitor Mset args = set_all_made settings args
made settings visitor Del args = delete_made settings args
made settings visitor Unlink args = delete_made settings args
made settings visitor Ping args = ping_made args
made settings visitor Echo args = echoed (slice_get args 0)
made settings visitor Quit args = Ok (says ok_text)
made settings visitor Select args = select_made args
made settings visitor Auth args = auth_made settings args
made settings visitor Hello args = hello_made settings visitor args
made settings visitor Client args = client_made visitor args
made settings visitor CommandList args = command_made args
made settings visitor Config args = config_made args
made settings visitor Cluster args = Err NoCluster
made settings visitor Info args = Ok (asks_admin (tail_case.Info (sections_named args)))
made settings visitor ShutdownName args = shutdown_made args
made settings visitor Bgsave args = backup_made args

-- whether a command is done for a visitor who is not let in
abbrev pub is_free : CommandName → Bool
is_free Auth = true
is_free Hello = true
is_free Quit = true
is_free name = false

-- what a command makes, if the visitor may give it and has given as many words as it takes
abbrev pub checked : Settings → Visitor → CommandName → List Word → Result Asked CommandFault
checked settings visitor name args =
    if visitor.is_let_in || is_free name then (if takes name (length args) then made settings visitor name args else Err (WrongCount name))
    else Err NotLetIn

-- a fault is told
abbrev pub told : Result Asked CommandFault → Asked
told (Ok asked) = asked
told (Err fault) = says (error_text (command_fault_text fault))

-- a byte that is shown
abbrev pub shown_byte : ℕ → ℕ
shown_byte b = if nat_le 33 b && nat_le b 126 then b else 63

-- the first bytes of a command's name
abbrev pub shown_name : List Word → List ℕ
shown_name [] = []
shown_name (whole name ∷ args) = map shown_byte (take 32 name)
shown_name (long ∷ args) = []

abbrev pub unknown_text : List Word → List ℕ
unknown_text words = error_text (codes "ERR unknown command '" ++ (shown_name words ++ codes "'"))

abbrev pub words_asked : Settings → Visitor → Option CommandName → List Word → Asked
words_asked settings visitor None words = if visitor.is_let_in then says (unknown_text words) else told (Err NotLetIn)
words_asked settings visitor (Some name) words = told (checked settings visitor name (drop 1 words))

-- a command that is not kept
abbrev pub unkept : Visitor → CommandFault → Asked
unkept visitor fault = told (Err (if visitor.is_let_in then fault else NotLetIn))

-- the error of bytes that begin no command
abbrev pub broken_text : ProtocolFault → List ℕ
broken_text fault = error_text (codes "ERR Protocol error: " ++ protocol_text fault)

-- what a command asks for
abbrev pub asked_for : Settings → Visitor → Command → Asked
asked_for settings visitor (complete words) = words_asked settings visitor (first_command words) words
asked_for settings visitor many_words = unkept visitor ManyWords
asked_for settings visitor many_bytes = unkept visitor ManyBytes
asked_for settings visitor (broken fault) = says (broken_text fault)

-- ---- visitors

-- a visitor who has given no command; with no password all are let in
abbrev pub visitor_at_first : Settings → Visitor
visitor_at_first settings = record { id = settings.id; is_let_in = is_none settings.password }

-- whether a command with these words behind its name lets a visitor in
abbrev pub lets_in : Settings → Visitor → Option CommandName → List Word → Bool
lets_in settings visitor (Some Auth) args = is_ok (auth_verdict settings args)
lets_in settings visitor (Some Hello) args = is_ok (hello_verdict settings visitor args)
lets_in settings visitor name args = false

-- the visitor after a command: only the password lets in
abbrev pub visitor_after : Settings → Visitor → Command → Visitor
visitor_after settings visitor (complete words) =
    record visitor { is_let_in = visitor.is_let_in || lets_in settings visitor (first_command words) (drop 1 words) }
visitor_after settings visitor command = visitor
