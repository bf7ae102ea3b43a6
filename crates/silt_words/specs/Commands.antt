-- The commands of the program, as clap reads them.
use Rattle.std.specs.Prelude.{ℕ, Bool, List, [], ◌∷◌, Option, Some, None, true, false, codes, is_some, not, ◌&&◌, ◌==◌, nat_le, if◌then◌else◌, option_map, option_and_then}
use Rattle.std.specs.Option.{option_map_or}
use Rattle.std.specs.Str.{bytes_eq}
use Rattle.clap.specs.Words.{App, Row, Rule, Text, Kinds, fault_of, first_of, new_app, new_rule, subcommand_of, with_rule, with_subcommand}
use Rattle.clap.specs.declared.builder.ArgAction.TheVariants.{Set, SetTrue}
use Rattle.silt_wire.specs.Numbers.{number_of}
use Rattle.silt_words.specs.Addresses.{is_address, is_contact, is_loopback}
use Rattle.silt_words.specs.Backups.{may_hold_backup}
use Rattle.silt_words.specs.Jobs.{Named, NamedAccess, NamedContact, NamedService, format, script, run, tend, check, dump, on_set, plan, plan_set, serve, stop, info}
use Rattle.silt_words.specs.declared.job.FormatOptions.{FormatOptions}
use Rattle.silt_words.specs.declared.job.Numbers.{Numbers}
use Rattle.silt_words.specs.declared.job.PlanRequest.{PlanRequest}
use Rattle.silt_words.specs.declared.job.RunOptions.{RunOptions}
use Rattle.silt_words.specs.declared.job.SetWork.TheVariants.{Format, Run, Tend, Check, Dump}

-- a value that has to be given
abbrev pub value_rule : Text → Rule
value_rule name = record (new_rule name) { required = true; action = Some Set }

-- an option with a value, by its long name
abbrev pub option_rule : Text → Rule
option_rule name = record (new_rule name) { long = Some name; action = Some Set }

-- an option without a value, by its long name
abbrev pub flag_rule : Text → Rule
flag_rule name = record (new_rule name) { long = Some name; action = Some SetTrue }

abbrev pub with_value : App → Text → App
with_value app name = with_rule app (value_rule name)

abbrev pub with_option : App → Text → App
with_option app name = with_rule app (option_rule name)

abbrev pub with_flag : App → Text → App
with_flag app name = with_rule app (flag_rule name)

abbrev pub with_file : App → App
with_file app = with_value app (codes "FILE")

-- the six numbers of a geometry
abbrev pub with_numbers : App → App
with_numbers app =
    with_value (with_value (with_value (with_value (with_value (with_value app (codes "V")) (codes "B")) (codes "CAP")) (codes "NL")) (codes "NH")) (codes "S")

-- the commands, each with its values and options
abbrev pub format_app : App
format_app = with_option (with_flag (with_flag (with_numbers (with_file (new_app (codes "format")))) (codes "force")) (codes "sparse")) (codes "shards")

abbrev pub script_app : App
script_app = with_numbers (new_app (codes "script"))

abbrev pub run_app : App
run_app = with_option (with_option (with_flag (with_flag (with_file (new_app (codes "run"))) (codes "tend")) (codes "strict")) (codes "merge-at")) (codes "shards")

abbrev pub tend_app : App
tend_app = with_option (with_option (with_file (new_app (codes "tend"))) (codes "merge-at")) (codes "shards")

abbrev pub check_app : App
check_app = with_option (with_file (new_app (codes "check"))) (codes "shards")

abbrev pub dump_app : App
dump_app = with_option (with_file (new_app (codes "dump"))) (codes "shards")

abbrev pub plan_app : App
plan_app =
    with_option (with_option (with_option (with_value (with_value (new_app (codes "plan")) (codes "KEYS")) (codes "V")) (codes "memory")) (codes "merge-writes")) (codes "shards")

abbrev pub serve_app : App
serve_app =
    with_option (with_option (with_option (with_option (with_flag
    (with_option (with_option
    (with_option (with_option (with_option (with_flag (with_flag (with_option (with_option (with_option (with_option (with_option (with_value (with_file (new_app (codes "serve"))) (codes "PORT"))
    (codes "audit")) (codes "sessions")) (codes "idle")) (codes "wait")) (codes "merge-at")) (codes "pipeline")) (codes "resp"))
    (codes "bind")) (codes "password-file")) (codes "clients")) (codes "shards")) (codes "mergers"))
    (codes "stay")) (codes "scrub")) (codes "scrub-rate")) (codes "metrics")) (codes "backup")

-- a command on a server that runs, by its name
abbrev pub contact_app : Text → App
contact_app name = with_option (with_value (new_app name) (codes "ADDRESS")) (codes "password-file")

abbrev pub stop_app : App
stop_app = contact_app (codes "stop")

abbrev pub info_app : App
info_app = contact_app (codes "info")

-- the program
abbrev pub silt : App
silt = with_subcommand (with_subcommand (with_subcommand (with_subcommand (with_subcommand (with_subcommand (with_subcommand (with_subcommand (with_subcommand (with_subcommand (new_app (codes "silt"))
    format_app.top) run_app.top) tend_app.top) check_app.top) dump_app.top) plan_app.top) script_app.top) serve_app.top) stop_app.top) info_app.top

-- ---- what is read of a command's matches

-- the number given for this value
abbrev pub number_in : List Row → Text → Option ℕ
number_in rows name = option_and_then number_of (first_of name rows)

-- the six numbers
abbrev pub numbers_in : List Row → Option Numbers
numbers_in rows =
    option_and_then (λ value_len. option_and_then (λ buckets. option_and_then (λ log_capacity.
    option_and_then (λ logs. option_and_then (λ hashes. option_map (λ sorted_capacity.
    record { value_len = value_len; buckets = buckets; log_capacity = log_capacity; logs = logs; hashes = hashes; sorted_capacity = sorted_capacity })
    (number_in rows (codes "S"))) (number_in rows (codes "NH"))) (number_in rows (codes "NL"))) (number_in rows (codes "CAP"))) (number_in rows (codes "B"))) (number_in rows (codes "V"))

abbrev pub file_in : List Row → Option Text
file_in rows = first_of (codes "FILE") rows

-- the number that a text spells, if a text is given
abbrev pub number_given : Option Text → Option (Option ℕ)
number_given None = Some None
number_given (Some text) = option_map (λ number. Some number) (number_of text)

-- the number of an option: none if the option is not given
abbrev pub option_in : List Row → Text → Option (Option ℕ)
option_in rows name = number_given (first_of name rows)

-- the port, of at most 65,535
abbrev pub port_in : List Row → Option ℕ
port_in rows = option_and_then (λ port. if nat_le port 65535 then Some port else None) (number_in rows (codes "PORT"))

-- whether a number is given that is 0
abbrev pub gives_zero : Option ℕ → Bool
gives_zero None = false
gives_zero (Some number) = number == 0

-- the number of an option that sets a limit: 0 means no limit
abbrev pub limit_in : List Row → Text → Option (Option ℕ)
limit_in rows name = option_map (option_and_then (λ limit. if limit == 0 then None else Some limit)) (option_in rows name)

-- the number of an option that counts something: at least 1, or none if the option is not given
abbrev pub count_in : List Row → Text → Option (Option ℕ)
count_in rows name = option_and_then (λ given. if gives_zero given then None else Some given) (option_in rows name)

-- whether a number, if one is given, is at most this
abbrev pub is_within : ℕ → Option ℕ → Bool
is_within most None = true
is_within most (Some number) = nat_le number most

-- the number of an option that counts something, up to this: at least 1, or none if the option is not given
abbrev pub count_within : List Row → Text → ℕ → Option (Option ℕ)
count_within rows name most = option_and_then (λ given. if is_within most given then Some given else None) (count_in rows name)

-- the smallest number of shards of a set
abbrev pub fewest_shards : ℕ
fewest_shards = 2

-- the greatest number of shards of a set
abbrev pub most_shards : ℕ
most_shards = 64

-- whether a number of shards, if one is given, is that of a set
abbrev pub makes_set : Option ℕ → Bool
makes_set None = true
makes_set (Some shards) = nat_le fewest_shards shards && nat_le shards most_shards

-- the number of shards of a set: none if the option is not given, and else one that a set can have
abbrev pub shards_in : List Row → Option (Option ℕ)
shards_in rows = option_and_then (λ given. if makes_set given then Some given else None) (option_in rows (codes "shards"))

-- the most calls of a record, if one is asked for: there is none of a set
abbrev pub audit_in : List Row → Option (Option ℕ)
audit_in rows =
    option_and_then (λ audit. option_and_then (λ shards. if is_some audit && is_some shards then None else Some audit) (shards_in rows)) (option_in rows (codes "audit"))

-- how many shards of a set may be merged at a time: at least one, and only of a set
abbrev pub mergers_in : List Row → Option (Option ℕ)
mergers_in rows =
    option_and_then (λ mergers. option_and_then (λ shards. if is_some mergers && not (is_some shards) then None else Some mergers) (shards_in rows))
    (count_in rows (codes "mergers"))

-- whether an option without a value is given
abbrev pub flag_in : List Row → Text → Bool
flag_in rows name = option_map_or (λ text. bytes_eq text (codes "true")) (first_of name rows) false

-- how the file of a new store is to be made
abbrev pub format_options_in : List Row → FormatOptions
format_options_in rows = record { force = flag_in rows (codes "force"); sparse = flag_in rows (codes "sparse") }

-- a number of hash stores is given, and no background work that would merge them
abbrev pub merges_untended : Option ℕ → Bool → Bool
merges_untended merge_at tends = is_some merge_at && not tends

-- how the lines of a run are to be answered
abbrev pub run_options_in : List Row → Option RunOptions
run_options_in rows =
    option_and_then (λ merge_at.
    if merges_untended merge_at (flag_in rows (codes "tend")) then None
    else Some (record { tend = flag_in rows (codes "tend"); strict = flag_in rows (codes "strict"); merge_at = merge_at }))
    (count_in rows (codes "merge-at"))

-- the formatting of a file, or of all files of a set
abbrev pub format_or_set : List ℕ → Numbers → FormatOptions → Option ℕ → Named
format_or_set file numbers options None = format file numbers options
format_or_set file numbers options (Some shards) = on_set file shards (Format numbers options)

-- the run of a file, or of a set
abbrev pub run_or_set : List ℕ → RunOptions → Option ℕ → Named
run_or_set file options None = run file options
run_or_set file options (Some shards) = on_set file shards (Run options)

-- the background work of a file, or of all files of a set
abbrev pub tend_or_set : List ℕ → Option ℕ → Option ℕ → Named
tend_or_set file merge_at None = tend file merge_at
tend_or_set file merge_at (Some shards) = on_set file shards (Tend merge_at)

-- the check of a file, or of all files of a set
abbrev pub check_or_set : List ℕ → Option ℕ → Named
check_or_set file None = check file
check_or_set file (Some shards) = on_set file shards Check

-- the dump of a file, or of all files of a set
abbrev pub dump_or_set : List ℕ → Option ℕ → Named
dump_or_set file None = dump file
dump_or_set file (Some shards) = on_set file shards Dump

-- the formatting that is asked for
abbrev pub format_in : List Row → Option Named
format_in rows =
    option_and_then (λ file. option_and_then (λ numbers. option_map (format_or_set file numbers (format_options_in rows)) (shards_in rows)) (numbers_in rows)) (file_in rows)

-- the run that is asked for
abbrev pub run_in : List Row → Option Named
run_in rows = option_and_then (λ file. option_and_then (λ options. option_map (run_or_set file options) (shards_in rows)) (run_options_in rows)) (file_in rows)

-- the background work that is asked for
abbrev pub tend_in : List Row → Option Named
tend_in rows = option_and_then (λ file. option_and_then (λ merge_at. option_map (tend_or_set file merge_at) (shards_in rows)) (count_in rows (codes "merge-at"))) (file_in rows)

-- the check that is asked for
abbrev pub check_in : List Row → Option Named
check_in rows = option_and_then (λ file. option_map (check_or_set file) (shards_in rows)) (file_in rows)

-- the dump that is asked for
abbrev pub dump_in : List Row → Option Named
dump_in rows = option_and_then (λ file. option_map (dump_or_set file) (shards_in rows)) (file_in rows)

-- the address that a text gives, if a text is given
abbrev pub address_given : Option Text → Option (Option Text)
address_given None = Some None
address_given (Some text) = if is_address text then Some (Some text) else None

-- whether a server may listen at this address with this password's file: both are for Redis clients, and other machines reach it only with a password
abbrev pub may_listen : Bool → Option Text → Option Text → Bool
may_listen resp None None = true
may_listen resp (Some address) None = resp && is_loopback address
may_listen resp address (Some file) = resp

-- how many clients there may be at once: none if the option is not given, and at most 1,024
abbrev pub clients_in : List Row → Option (Option ℕ)
clients_in rows = count_within rows (codes "clients") 1024

-- after how many hours a served store is scrubbed: none if the option is not given, and at most 8,760
abbrev pub scrub_in : List Row → Option (Option ℕ)
scrub_in rows = count_within rows (codes "scrub") 8760

-- how many megabytes a second a scrub reads at most, up to 10,000: only of a server that scrubs
abbrev pub scrub_rate_in : List Row → Option (Option ℕ)
scrub_rate_in rows =
    option_and_then (λ rate. option_and_then (λ scrub. if is_some rate && not (is_some scrub) then None else Some rate) (scrub_in rows))
    (count_within rows (codes "scrub-rate") 10000)

-- the port of the page of metrics: none if the option is not given, and at most 65,535
abbrev pub metrics_in : List Row → Option (Option ℕ)
metrics_in rows = option_and_then (λ given. if is_within 65535 given then Some given else None) (option_in rows (codes "metrics"))

-- the path that a text gives backups of the store in this file, if a text is given
abbrev pub backup_given : List ℕ → Option Text → Option (Option Text)
backup_given file None = Some None
backup_given file (Some path) = if may_hold_backup file path then Some (Some path) else None

-- the file that backups are written to: none if the option is not given, and else another file than the store's
abbrev pub backup_in : List Row → Option (Option Text)
backup_in rows = option_and_then (λ file. backup_given file (first_of (codes "backup") rows)) (file_in rows)

-- where a server listens, and who is let in
abbrev pub access_in : List Row → Option NamedAccess
access_in rows =
    option_and_then (λ address. option_and_then (λ clients.
    if may_listen (flag_in rows (codes "resp")) address (first_of (codes "password-file") rows)
    then Some (record { address = address; password_file = first_of (codes "password-file") rows; clients = clients }) else None)
    (clients_in rows)) (address_given (first_of (codes "bind") rows))

-- how a file is to be served
abbrev pub service_in : List Row → Option NamedService
service_in rows =
    option_and_then (λ file. option_and_then
    (λ port. option_and_then (λ access. option_and_then
    (λ audit. option_and_then (λ sessions. option_and_then
    (λ idle. option_and_then (λ wait. option_and_then
    (λ shards. option_and_then (λ mergers. option_and_then (λ merge_at. option_and_then (λ scrub. option_and_then (λ scrub_rate. option_and_then (λ metrics. option_map (λ backup.
    record {
      file = file;
      shards = shards;
      mergers = mergers;
      port = port;
      access = access;
      audit = audit;
      sessions = sessions;
      idle = idle;
      wait = wait;
      merge_at = merge_at;
      pipeline = flag_in rows (codes "pipeline");
      resp = flag_in rows (codes "resp");
      stay = flag_in rows (codes "stay");
      scrub = scrub;
      scrub_rate = scrub_rate;
      metrics = metrics;
      backup = backup;
    })
    (backup_in rows)) (metrics_in rows)) (scrub_rate_in rows)) (scrub_in rows)) (count_in rows (codes "merge-at"))) (mergers_in rows)) (shards_in rows))
    (option_in rows (codes "wait"))) (limit_in rows (codes "idle"))) (limit_in rows (codes "sessions"))) (audit_in rows)) (access_in rows)) (port_in rows)) (file_in rows)

-- what a store is to be planned for
abbrev pub request_in : List Row → Option PlanRequest
request_in rows =
    option_and_then (λ keys. option_and_then (λ value_len. option_and_then (λ memory. option_map (λ merge_writes.
    record { keys = keys; value_len = value_len; memory = memory; merge_writes = merge_writes })
    (count_in rows (codes "merge-writes"))) (option_in rows (codes "memory"))) (number_in rows (codes "V"))) (number_in rows (codes "KEYS"))

-- the plan of a store, or of one shard of a set
abbrev pub plan_or_set : PlanRequest → Option ℕ → Named
plan_or_set request None = plan request
plan_or_set request (Some shards) = plan_set shards request

-- the plan that is asked for
abbrev pub plan_in : List Row → Option Named
plan_in rows = option_and_then (λ request. option_map (plan_or_set request) (shards_in rows)) (request_in rows)

-- where a server is, by a text that may say so
abbrev pub contact_given : Text → Option Text
contact_given text = if is_contact text then Some text else None

-- the server that a client speaks to
abbrev pub contact_in : List Row → Option NamedContact
contact_in rows =
    option_map (λ address. record { address = address; password_file = first_of (codes "password-file") rows })
    (option_and_then contact_given (first_of (codes "ADDRESS") rows))

-- the job of the command that was met
abbrev pub job_in : Text → List Row → Option Named
job_in name rows =
    if bytes_eq name (codes "format") then format_in rows
    else if bytes_eq name (codes "script") then option_map script (numbers_in rows)
    else if bytes_eq name (codes "run") then run_in rows
    else if bytes_eq name (codes "tend") then tend_in rows
    else if bytes_eq name (codes "check") then check_in rows
    else if bytes_eq name (codes "dump") then dump_in rows
    else if bytes_eq name (codes "plan") then plan_in rows
    else if bytes_eq name (codes "serve") then option_map serve (service_in rows)
    else if bytes_eq name (codes "stop") then option_map stop (contact_in rows)
    else if bytes_eq name (codes "info") then option_map info (contact_in rows)
    else None

-- the job of the command that was met, if one was
abbrev pub job_met : Option (Text × List Row) → Option Named
job_met = option_and_then (λ met. job_in met.0 met.1)

-- the job, unless something is refused
abbrev pub unless_refused : Kinds → Option Named → Option Named
unless_refused [] job = job
unless_refused (kind ∷ kinds) job = None

-- the job that the words name, if they name one: the first of them is the program's own, and clap reads the others as the commands above
abbrev pub job_named : List Text → Option Named
job_named words = unless_refused (fault_of silt words) (job_met (subcommand_of silt words))
