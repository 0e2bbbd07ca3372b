-- What the words of a command line say (own).
use Rattle.std.specs.Prelude.{ℕ, ◌≤◌, List, [], ◌∷◌, Option, None}
use Rattle.std.specs.Prelude.{option_map, option_and_then, bytes_eq, codes, if◌then◌else◌}
use Rattle.tuple_values.specs.Document.{ByteList}
use Rattle.tuple_values.specs.declared.names.NameShards.{NameShards}
use Rattle.command_words.specs.Names.{names_of, some_names_of}
use Rattle.command_words.specs.Words.{number_of}
use Rattle.command_words.specs.Settings.{settings_of}
use Rattle.command_words.specs.declared.command.Command.{Command}
use Rattle.command_words.specs.declared.command.Command.TheVariants.{Eval, Script, Serve, Load}
use Rattle.command_words.specs.declared.command.Settings.{Settings}

-- the server of the settings that are read, over the collections that the words behind name
abbrev pub server_of : Settings × List ByteList → Option Command
server_of read = option_map (Serve read.0) (some_names_of read.1)

-- the number of a load, which is the one word
abbrev pub load_of : List ByteList → Option ℕ
load_of [] = None
load_of (digits ∷ []) = number_of 1 200000 digits
load_of (digits ∷ other ∷ others) = None

-- the command of this word, by the words behind it
abbrev pub command_by : ByteList → List ByteList → Option Command
command_by word words =
    if bytes_eq word (codes "eval") then option_map Eval (names_of words)
    else if bytes_eq word (codes "script") then option_map Script (some_names_of words)
    else if bytes_eq word (codes "serve") then option_and_then server_of (settings_of words)
    else if bytes_eq word (codes "load") then option_map Load (load_of words)
    else None

-- the command that the words say
abbrev pub command_of : List ByteList → Option Command
command_of [] = None
command_of (word ∷ words) = command_by word words

-- the collections that a command names
abbrev pub names_in : Command → List NameShards
names_in (Eval names) = names
names_in (Script names) = names
names_in (Serve settings names) = names
names_in (Load n) = []

-- a server may have these settings
pub record AreRanged (settings : Settings) : Type 0 where
  pub port : settings.port ≤ 65535
  pub workers : (1 ≤ settings.workers) × (settings.workers ≤ 16)
  pub runners : (1 ≤ settings.runners) × (settings.runners ≤ 4)

-- a command may have its settings or its number, where it has some
abbrev pub IsRanged : Command → Type 0
IsRanged (Eval names) = Unit {0}
IsRanged (Script names) = Unit {0}
IsRanged (Serve settings names) = AreRanged settings
IsRanged (Load n) = (1 ≤ n) × (n ≤ 200000)
