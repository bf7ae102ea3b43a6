-- What clap is given, and what is read from its matches.
use Rattle.std.proofs.Common.{◌≡◌, ◌∙◌, ◌||◌, Bool, true, false, cond, List, [], ◌∷◌, map, Option, Some, None, option_map, option_and_then, refl, ap, ap₂, subst, sym, find, inl, inr}
use Rattle.std.specs.Prelude.{slice_get, MatchResult, Result, Ok, Err, IfOk}
use Rattle.std.specs.declared.alloc.AllocError.{AllocError}
use Rattle.clap.specs.declared.builder.Command.{Command}
use Rattle.clap.specs.declared.builder.Arg.{Arg}
use Rattle.std.specs.Option.{ok_or}
use Rattle.std.specs.Str.{bytes_eq}
use Rattle.std.specs.Borrow.{Bor}
use Rattle.clap.specs.Words.{AddsArg, App, Rule, app_of, rule_of, with_rule, HasKind, IsAmong, Kinds, kind_of, Row, Text, fault_of, first_of, first_value, rows_of, subcommand_of}
use Rattle.clap.specs.Walk.{row_of}
use Rattle.clap.specs.declared.error.Error.{Error}
use Rattle.clap.specs.declared.error.kind.ErrorKind.{ErrorKind}
use Rattle.clap.specs.declared.error.kind.ErrorKind.TheVariants.{OutOfMemory}
use Rattle.silt_words.specs.Jobs.{named}
use Rattle.silt_words.specs.declared.job.Job.{Job}
use Rattle.silt_words.specs.declared.job.WordsError.TheVariants.{Usage}
use Rattle.silt_words.specs.Forms.{Adds, Stands}
use Rattle.silt_words.specs.Commands.{job_met, job_named, silt, unless_refused}
use Rattle.clap.specs.declared.parser.matches.Found.{Found}
use Rattle.clap.specs.declared.parser.matches.MatchedArg.{MatchedArg}

-- with a part that is not global a local whole stays local
pub stays_local : {new old global : Bool} → new ≡ (old || global) → old ≡ false → global ≡ false → new ≡ false
stays_local is o g = is ∙ ap₂ (λ (a b : Bool). a || b) o g

-- with one more rule, and then by a step, it is made by both
pub then_adds : (rule : Rule) (step : App → App) (old : Command) (arg : Arg) (added after : Result Command AllocError)
    → rule_of arg ≡ rule → arg.global ≡ false → IfOk added (AddsArg old arg) → Adds step added after → Adds (λ app. step (with_rule app rule)) (Ok old) after
then_adds rule step old arg (Ok new) (Ok last) ruled local adds more = λ none.
    subst (λ (app : App). Stands (step app) last) (adds.shape local ∙ ap (with_rule (app_of old)) ruled) (more (stays_local adds.globals none local))
then_adds rule step old arg (Err error) (Ok last) ruled local adds more = absurd more
then_adds rule step old arg added (Err error) ruled local adds more = tt

first_mapped : (texts : List (Bor Text)) → option_map (λ s. s.now) (slice_get texts 0) ≡ slice_get (map (λ s. s.now) texts) 0
first_mapped [] = refl
first_mapped (text ∷ texts) = refl

-- the first value of an id, read of the entries or of their rows
pub first_is : (found : Found) (id : Text) → first_value found id ≡ first_of id (rows_of found)
first_is found id = go found.entries.items
  where
    in_entry : Option (Bor Text × MatchedArg) → Option Text
    in_entry o = option_and_then (λ (a : MatchedArg). option_map (λ s. s.now) (slice_get a.vals.items 0)) (option_map (λ e. e.1) o)

    in_row : Option Row → Option Text
    in_row o = option_and_then (λ (r : Row). slice_get r.values 0) o

    pick : (b : Bool) (e : Bor Text × MatchedArg) (rest : Option (Bor Text × MatchedArg)) (rows : Option Row) → in_entry rest ≡ in_row rows
        → in_entry (cond b (Some e) rest) ≡ in_row (cond b (Some (row_of e)) rows)
    pick true e rest rows same = first_mapped e.1.vals.items
    pick false e rest rows same = same

    go : (entries : List (Bor Text × MatchedArg)) → in_entry (find (λ e. bytes_eq e.0.now id) entries) ≡ in_row (find (λ (r : Row). bytes_eq r.id id) (map row_of entries))
    go [] = refl
    go (e ∷ entries) = pick (bytes_eq e.0.now id) e _ _ (go entries)

-- if nothing is refused, the job is that of the matched command
pub taken : (words : List Text) → fault_of silt words ≡ [] → job_named words ≡ job_met (subcommand_of silt words)
taken words is = ap (λ (kinds : Kinds). unless_refused kinds (job_met (subcommand_of silt words))) is

-- if something is refused, the words name no job
pub refused : (words : List Text) (kind : ErrorKind) → IsAmong kind (fault_of silt words) → job_named words ≡ None
refused words kind among = go (fault_of silt words) among
  where
    go : (kinds : Kinds) → IsAmong kind kinds → unless_refused kinds (job_met (subcommand_of silt words)) ≡ None
    go [] among = absurd among
    go (first ∷ kinds) among = refl

-- the same if the parse failed for another cause than out of memory
pub refused_by : (words : List Text) (app : App) (error : Error) → app ≡ silt → HasKind (fault_of app words) error → (kind_of error ≡ OutOfMemory → ⊥) → job_named words ≡ None
refused_by words app error is (inl memory) other = absurd (other memory)
refused_by words app error is (inr among) other = refused words (kind_of error) (subst (λ (a : App). IsAmong (kind_of error) (fault_of a words)) is among)

-- the result, by the job that was read
pub answered : (words : List Text) (job : Option Job) → option_map named job ≡ job_named words
    → MatchResult (ok_or job Usage) (λ found. job_named words ≡ Some (named found)) (λ error. error ≡ Usage → job_named words ≡ None)
answered words (Some job) is = sym is
answered words None is = λ _. sym is
