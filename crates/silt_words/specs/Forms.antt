-- What clap reads of the forms of the jobs.
use Rattle.std.specs.Prelude.{◌≡◌, List, [], ◌∷◌, Result, IfOk, IsOkAnd, false, is_some, if◌then◌else◌}
use Rattle.std.specs.Borrow.{Bor}
use Rattle.std.specs.declared.alloc.AllocError.{AllocError}
use Rattle.clap.specs.Words.{App, Rule, Text, app_of, new_app, with_rule, with_subcommand}
use Rattle.clap.specs.declared.builder.Command.{Command}
use Rattle.clap.specs.declared.builder.command.Command.TheViews.{out-Command as fields_of}
use Rattle.silt_words.specs.Commands.{flag_rule, option_rule, with_value}
use Rattle.silt_words.specs.declared.forms.Choice.{Choice}
use Rattle.silt_words.specs.declared.forms.Form.{Form}

-- the rule of an option
abbrev pub choice_rule : Choice → Rule
choice_rule choice = if is_some choice.operand then option_rule choice.name.now else flag_rule choice.name.now

-- the app with a value of each of these names
abbrev pub with_names : App → List (Bor Text) → App
with_names app [] = app
with_names app (name ∷ names) = with_names (with_value app name.now) names

-- the app with each of these options
abbrev pub with_choices : App → List Choice → App
with_choices app [] = app
with_choices app (choice ∷ choices) = with_choices (with_rule app (choice_rule choice)) choices

-- the command of a job
abbrev pub form_app : Form → App
form_app form = with_choices (with_names (new_app form.job.now) form.values.now) form.options.now

-- the app with the commands of these jobs below it
abbrev pub with_forms : App → List Form → App
with_forms app [] = app
with_forms app (form ∷ forms) = with_forms (with_subcommand app (form_app form).top) forms

-- a command is this app, and has no global part
abbrev pub Stands : App → Command → Type 0
Stands app command = (app_of command ≡ app) × ((fields_of command).has_globals ≡ false)

-- what was made, if it was, is made by this step of what was made before, if that has no global part
abbrev pub Adds : (App → App) → Result Command AllocError → Result Command AllocError → Type 0
Adds step before after = IfOk after (λ new. IsOkAnd before (λ old. (fields_of old).has_globals ≡ false → Stands (step (app_of old)) new))
