-- The jobs that the words of a command line may name.
use Rattle.std.specs.Prelude.{ℕ, Bool, List, Option, Some, None, option_map}
use Rattle.silt_words.specs.declared.job.Job.{Job}
use Rattle.silt_words.specs.declared.job.Job.TheVariants.{Format, Script, Run, Tend, Check, Dump, Set, Plan, PlanSet, Serve, Stop, Info}
use Rattle.silt_words.specs.declared.job.FormatOptions.{FormatOptions}
use Rattle.silt_words.specs.declared.job.Numbers.{Numbers}
use Rattle.silt_words.specs.declared.job.PlanRequest.{PlanRequest}
use Rattle.silt_words.specs.declared.job.RunOptions.{RunOptions}
use Rattle.silt_words.specs.declared.job.SetWork.{SetWork}
use Rattle.silt_words.specs.declared.job.Access.{Access}
use Rattle.silt_words.specs.declared.job.Contact.{Contact}
use Rattle.silt_words.specs.declared.job.Service.{Service}

-- where a server listens and who is let in, by the texts of the names
pub record NamedAccess : Type 0 where
  pub address : Option (List ℕ)
  pub password_file : Option (List ℕ)
  pub clients : Option ℕ

-- what an access is by those texts
abbrev pub named_access : Access → NamedAccess
named_access access = record {
  address = option_map (λ text. text.now) access.address;
  password_file = option_map (λ file. file.now) access.password_file;
  clients = access.clients;
}

-- how a file is to be served, by the text of its name
pub record NamedService : Type 0 where
  pub file : List ℕ
  pub shards : Option ℕ
  pub mergers : Option ℕ
  pub port : ℕ
  pub access : NamedAccess
  pub audit : Option ℕ
  pub sessions : Option ℕ
  pub idle : Option ℕ
  pub wait : Option ℕ
  pub merge_at : Option ℕ
  pub pipeline : Bool
  pub resp : Bool
  pub stay : Bool
  pub scrub : Option ℕ
  pub scrub_rate : Option ℕ
  pub metrics : Option ℕ
  pub backup : Option (List ℕ)

-- what a service is by that text
abbrev pub named_service : Service → NamedService
named_service service = record {
  file = service.file.now;
  shards = service.shards;
  mergers = service.mergers;
  port = service.port;
  access = named_access service.access;
  audit = service.audit;
  sessions = service.sessions;
  idle = service.idle;
  wait = service.wait;
  merge_at = service.merge_at;
  pipeline = service.pipeline;
  resp = service.resp;
  stay = service.stay;
  scrub = service.scrub;
  scrub_rate = service.scrub_rate;
  metrics = service.metrics;
  backup = option_map (λ path. path.now) service.backup;
}

-- a server that runs, by the texts of its address and of the name of its password's file
pub record NamedContact : Type 0 where
  pub address : List ℕ
  pub password_file : Option (List ℕ)

-- what a contact is by those texts
abbrev pub named_contact : Contact → NamedContact
named_contact contact = record { address = contact.address.now; password_file = option_map (λ file. file.now) contact.password_file }

-- a job, by the text of its file's name
pub data Named : Type 0 where
  format : List ℕ → Numbers → FormatOptions → Named
  script : Numbers → Named
  run : List ℕ → RunOptions → Named
  tend : List ℕ → Option ℕ → Named
  check : List ℕ → Named
  dump : List ℕ → Named
  on_set : List ℕ → ℕ → SetWork → Named
  plan : PlanRequest → Named
  plan_set : ℕ → PlanRequest → Named
  serve : NamedService → Named
  stop : NamedContact → Named
  info : NamedContact → Named

-- what a job is by that text
abbrev pub named : Job → Named
named (Format file numbers options) = format file.now numbers options
named (Script numbers) = script numbers
named (Run file options) = run file.now options
named (Tend file merge_at) = tend file.now merge_at
named (Check file) = check file.now
named (Dump file) = dump file.now
named (Set job) = on_set job.file.now job.shards job.work
named (Plan request) = plan request
named (PlanSet shards request) = plan_set shards request
named (Serve service) = serve (named_service service)
named (Stop contact) = stop (named_contact contact)
named (Info contact) = info (named_contact contact)

-- the name of the file that a job works on, or of the files of its set, if it works on one
abbrev pub job_file : Job → Option (List ℕ)
job_file (Format file numbers options) = Some file.now
job_file (Script numbers) = None
job_file (Run file options) = Some file.now
job_file (Tend file merge_at) = Some file.now
job_file (Check file) = Some file.now
job_file (Dump file) = Some file.now
job_file (Set job) = Some job.file.now
job_file (Plan request) = None
job_file (PlanSet shards request) = None
job_file (Serve service) = Some service.file.now
job_file (Stop contact) = None
job_file (Info contact) = None

-- the number of the files that a job works on, if these are a set
abbrev pub job_shards : Job → Option ℕ
job_shards (Set job) = Some job.shards
job_shards (Serve service) = service.shards
job_shards job = None
