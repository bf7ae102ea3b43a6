-- What serving the disk of a path does.
use Rattle.std.specs.Prelude.{◌≡◌, ◌⊎◌, ◌<◌, ◌/◌, ℕ, max, Bool, true, false, IfOk, IfSome, List, Option, None, Some, codes, unwrap_or}
use Rattle.silt.specs.Common.{socket_port, IsSomeAnd, Ghosts, LeavesCalls, IsServed, ServesKept, PrintsNotServed, Says, CoreState, Opens, NamedAccess, named_access}
use Rattle.silt.specs.Common.{Service, Refuses, RefusesFewRegions, ShortValues, Failures, Urgent, NoEntrance, Password, Address, Socket, Page}
use Rattle.silt_server.specs.declared.limits.Protocol.{Protocol}
use Rattle.silt_server.specs.declared.limits.Protocol.TheVariants.{Lines, PipelinedLines, Resp}
use Rattle.silt_shards.specs.declared.mark.Marking.TheVariants.{Unmarked}
use Rattle.silt_jobs.specs.Openings.{RefusesDisk, RefusesNoDisk}
use Rattle.silt_jobs.specs.declared.people.ended.Ended.{Ended}
use Rattle.silt_jobs.specs.declared.people.urgent.Urgent.TheVariants.{NoAddress, NoPassword, NoPort}

-- what a server and its clients send each other
abbrev pub protocol_of : Bool → Bool → Protocol
protocol_of pipeline true = Resp
protocol_of true false = PipelinedLines
protocol_of false false = Lines

-- of how many hash stores a merge begins, if a store has this many regions for them: half of them, but at least one, if no number is asked for
abbrev pub least_merged : Option ℕ → ℕ → ℕ
least_merged asked hashes = unwrap_or asked (max (hashes / 2) 1)

-- the values of a store for Redis clients have no room for a string's length: the job is refused, and the disk is returned
abbrev pub RefusesShortValues : {D E F : Type 0} → Bool → CoreState D → D → Ended E F → Option (List ℕ) → Option (List ℕ) → Type 0
RefusesShortValues resp core new ended before after = (new ≡ core.disk) × (resp ≡ true) × (core.shape.value_len < 2) × Refuses ShortValues ended before after

-- the address to listen on: this machine's own if none is given
abbrev pub address_text : NamedAccess → List ℕ
address_text access = unwrap_or access.address (codes "127.0.0.1")

-- the file that is to give the password gives none
abbrev pub IsNoPassword : NamedAccess → NoEntrance → Type 0
IsNoPassword access (Password file error) = access.password_file ≡ Some file.now
IsNoPassword access other = ⊥

-- the text to listen on is no address
abbrev pub IsNoAddress : NamedAccess → NoEntrance → Type 0
IsNoAddress access (Address text) = address_text access ≡ text.now
IsNoAddress access other = ⊥

-- why a service cannot be entered: its password's file, its address, or a socket at its port or at that of its page
abbrev pub IsNoEntrance : Service → NoEntrance → Type 0
IsNoEntrance service (Password file error) = (named_access service.access).password_file ≡ Some file.now
IsNoEntrance service (Address text) = address_text (named_access service.access) ≡ text.now
IsNoEntrance service (Socket socket error) = socket_port socket ≡ service.port
IsNoEntrance service (Page socket error) = Some (socket_port socket) ≡ service.metrics

-- this is told of the password's file, of the address, or of the store's file
abbrev pub TellsWhy : (List ℕ → Urgent → Type 0) → List ℕ → NoEntrance → Type 0
TellsWhy Told file (Password path error) = Told path.now (NoPassword error)
TellsWhy Told file (Address text) = Told text.now NoAddress
TellsWhy Told file (Socket socket error) = Told file (NoPort socket error)
TellsWhy Told file (Page socket error) = Told file (NoPort socket error)

-- if the server can be entered, nothing is told, and else why it cannot
abbrev pub TellsEntrance : (List ℕ → Urgent → Type 0) → Type 0 → Service → Bool → Type 0
TellsEntrance Told Quiet service true = Quiet
TellsEntrance Told Quiet service false = (why : NoEntrance) × IsNoEntrance service why × TellsWhy Told service.file.now why

-- The store on a disk was served to the end. If its calls were kept, they are a history of the store that is left.
abbrev pub EndsServe : {D F : Type 0} → Ghosts D F → Option ℕ → D → Option (List ℕ) → Option (List ℕ) → Type 0
EndsServe facts audit new before after = IsServed (facts.content new) before after × IfSome audit (λ most. ServesKept facts (λ port. Unit {0}) new before after)

module _ {D F : Type 0} (facts : Ghosts D F) where
  -- A server of an opened store ended with this status: it had a listener and served to the end, with nothing to say; or the line says why
  -- it did not, or it did, and meanwhile the store failed or a merge was refused.
  abbrev pub ServesStore : Option ℕ → Bool → Type 0 → CoreState D → ℕ → D → Option (List ℕ) → Option (List ℕ) → Type 0
  ServesStore audit bound Quiet core status new before after =
      ((status ≡ 0) × (bound ≡ true) × Quiet × EndsServe facts audit new before after)
      ⊎ ((status ≡ 1) × (PrintsNotServed facts (λ port. Unit {0}) core new before after ⊎ EndsServe facts audit new before after))

module _ {D E F : Type 0} (facts : Ghosts D F) (Failed : D → Failures → Type 0) (service : Service) where
  -- an opened store was served, with the calls of its disk that failed, or it has too few hash regions or too short values
  abbrev pub ServesOpened : Bool → CoreState D → D → Ended E F → Option (List ℕ) → Option (List ℕ) → Type 0
  ServesOpened bound core new ended before after =
      RefusesFewRegions service.merge_at core new ended before after
      ⊎ (RefusesShortValues service.resp core new ended before after
      ⊎ (Failed new ended.failures
      × IfOk ended.status (λ status. ServesStore facts service.audit bound (ended.why ≡ None) core status new before after)))

  -- The port was bound before the opening, or people were told why not. The store was not opened, or it was served. Then some calls lead from
  -- the store that was opened to the one that is left: they have the replies of a plain map, and a crash keeps only what they allow.
  abbrev pub ServesDisk : (List ℕ → Urgent → Type 0) → Type 0 → D → Option D → Ended E F → Option (List ℕ) → Option (List ℕ) → Type 0
  ServesDisk Told Quiet old given ended before after =
      (bound : Bool) × TellsEntrance Told Quiet service bound
      × (RefusesDisk facts old given ended before after
      ⊎ (Says facts old Unmarked × ((core : CoreState D) × Opens facts (facts.content old) core
      × IsSomeAnd given (λ new. ServesOpened bound core new ended before after × LeavesCalls facts core new))))

  -- the disk that the source opened was served, or it opened none
  abbrev pub ServesFile : (D → Type 0) → (E → Type 0) → (List ℕ → Urgent → Type 0) → Type 0 → Option D → Ended E F → Option (List ℕ) → Option (List ℕ) → Type 0
  ServesFile Given NotGiven Told Quiet given ended before after =
      (Quiet × RefusesNoDisk NotGiven given ended before after) ⊎ ((old : D) × Given old × ServesDisk Told Quiet old given ended before after)
