-- What clap is told of the command line (own).
use Rattle.std.specs.Prelude.{◌≡◌, ◌≢◌, ◌⊎◌, Bool, List, Some, true, false, codes}
use Rattle.std.specs.Prelude.{Result, IfOk}
use Rattle.clap.specs.Walk.{Rule}
use Rattle.clap.specs.Simple.{App, app_of, new_rule, new_app, with_rule, with_subcommand}
use Rattle.clap.specs.Simple.{on_top}
use Rattle.clap.specs.Kinds.{Kinds, IsAmong}
use Rattle.clap.specs.Faults.{fault_of}
use Rattle.clap.specs.Takes.{takes}
use Rattle.clap.specs.declared.builder.action.ArgAction.TheVariants.{Append, Set}
use Rattle.clap.specs.declared.builder.command.Command.{Command}
use Rattle.clap.specs.declared.builder.command.Command.TheViews.{out-Command}
use Rattle.clap.specs.declared.error.kind.ErrorKind.{ErrorKind}
use Rattle.clap.specs.declared.error.kind.ErrorKind.TheVariants as kind
use Rattle.std.specs.declared.alloc.AllocError.{AllocError}
use Rattle.tuple_values.specs.Document.{ByteList}
use Rattle.command_words.specs.declared.fault.WordsFault.{WordsFault}
use Rattle.command_words.specs.declared.fault.WordsFault.TheVariants as fault

-- the argument of a command for the words behind it, of which there may be any number
abbrev pub words_rule : Rule
words_rule = record (new_rule (codes "words")) { action = Some Append; value_names = 1 }

-- an option with one value, which may come again
abbrev pub option_rule : ByteList → Rule
option_rule name = record (new_rule name) { long = Some name; action = Some Set; value_names = 1 }

-- a command of this name with words alone
abbrev pub words_app : ByteList → App
words_app name = with_rule (new_app name) words_rule

-- the argument of a load for its number, of which there is one at most
abbrev pub number_rule : Rule
number_rule = record (new_rule (codes "number")) { action = Some Set; value_names = 1 }

-- the command of a load
abbrev pub load_app : App
load_app = with_rule (new_app (codes "load")) number_rule

-- a command that takes the last use of an option
abbrev pub overriding : App → App
overriding app = on_top (λ s. record s { args_override_self = true }) app

-- the command of a server
abbrev pub serve_app : App
serve_app =
    with_rule (with_rule (with_rule
    (overriding (words_app (codes "serve"))) (option_rule (codes "port")))
    (option_rule (codes "workers"))) (option_rule (codes "runners"))

-- the program before it has commands: its words are those behind its own name, and it has a version
abbrev pub bare_program : App
bare_program =
    on_top (λ s. record s { no_binary_name = true; has_version = true })
    (new_app (codes "solr_streams"))

-- the program
abbrev pub program : App
program =
    with_subcommand (with_subcommand (with_subcommand (with_subcommand bare_program
    (words_app (codes "eval")).top) (words_app (codes "script")).top) serve_app.top)
    load_app.top

-- clap takes the words
abbrev pub is_taken : List ByteList → Bool
is_taken words = takes program words

-- why clap may refuse the words, or show a text instead
abbrev pub refusals_of : List ByteList → Kinds
refusals_of words = fault_of program words

-- a text that was asked for: help, or the version
abbrev pub IsShownKind : ErrorKind → Type 0
IsShownKind k = (k ≡ kind.DisplayHelp) ⊎ (k ≡ kind.DisplayVersion)

-- clap may show a text at the words
abbrev pub MayShow : List ByteList → Type 0
MayShow words = (k : ErrorKind) × IsAmong k (refusals_of words) × IsShownKind k

-- clap may refuse the words
abbrev pub MayRefuse : List ByteList → Type 0
MayRefuse words = (k : ErrorKind) × IsAmong k (refusals_of words) × ¬ (IsShownKind k)

-- what is told of words at such an error
abbrev pub IsToldBy : ErrorKind → WordsFault → Type 0
IsToldBy k (fault.Shown text) = IsShownKind k
IsToldBy k (fault.RefusedBy text) = (k ≢ kind.OutOfMemory) × ¬ (IsShownKind k)
IsToldBy k fault.Refused = ⊥
IsToldBy k fault.OutOfMemory = ⊥

-- what is told of words has its reason
abbrev pub HasReason : List ByteList → WordsFault → Type 0
HasReason words (fault.Shown text) = MayShow words
HasReason words (fault.RefusedBy text) = MayRefuse words
HasReason words fault.Refused = Unit {0}
HasReason words fault.OutOfMemory = Unit {0}

-- the command, where it was made, is this one
abbrev pub Makes : Result Command AllocError → App → Type 0
Makes made app = IfOk made (λ c. (app_of c ≡ app) × ((out-Command c).has_globals ≡ false))
