-- The words of commands by what they look like (own).
use Rattle.std.specs.Prelude.{◌≡◌, ◌≢◌, ℕ, ◌≤◌, List, [], ◌∷◌, ◌++◌, true, Some, codes}
use Rattle.std.specs.Char.{is_ascii_digit}
use Rattle.std.specs.List.{list_all}
use Rattle.std.specs.Str.Parse.{digits_value}
use Rattle.tuple_values.specs.Document.{ByteList}
use Rattle.tuple_values.specs.declared.names.NameShards.{NameShards}
use Rattle.command_words.specs.Words.{is_name, number_of}
use Rattle.command_words.specs.Names.{IsFit, differ, shards_in}
use Rattle.command_words.specs.declared.command.Command.{Command}
use Rattle.command_words.specs.declared.command.Command.TheVariants.{Eval, Script, Serve, Load}
use Rattle.command_words.specs.declared.command.Settings.{Settings}

-- the word names the collection: its name, an equals sign and the digits of its shards
pub record IsWord (word : ByteList) (n : NameShards) : Type 0 where
  pub digits : ByteList
  pub printed : word ≡ n.name ++ (61 ∷ digits)
  pub named : is_name n.name ≡ true
  pub written : list_all is_ascii_digit digits ≡ true
  pub counted : digits_value 10 digits ≡ n.shards
  pub fit : IsFit n

-- each word names the collection in its place
abbrev pub AreWords : List ByteList → List NameShards → Type 0
AreWords [] [] = Unit {0}
AreWords [] (n ∷ names) = ⊥
AreWords (word ∷ words) [] = ⊥
AreWords (word ∷ words) (n ∷ names) = IsWord word n × AreWords words names

-- the words name the collections, no two by one name, with 16 shards at most all together
pub record AreNames (words : List ByteList) (names : List NameShards) : Type 0 where
  pub each : AreWords words names
  pub apart : differ names ≡ true
  pub few : shards_in names ≤ 16

-- how an option is spelled: its value is the next word, or stands behind an equals sign in its own
pub data Spelling : Type 0 where
  Apart : Spelling
  Joined : Spelling

-- an option, with the digits of its value
pub data ServeOption : Type 0 where
  PortOption : Spelling → ByteList → ServeOption
  WorkersOption : Spelling → ByteList → ServeOption
  RunnersOption : Spelling → ByteList → ServeOption

-- the words of an option of this name, before others
abbrev pub spelled : Spelling → (name digits : ByteList) → List ByteList → List ByteList
spelled Apart name digits words = name ∷ digits ∷ words
spelled Joined name digits words = (name ++ (61 ∷ digits)) ∷ words

-- the words of options
abbrev pub words_of : List ServeOption → List ByteList
words_of [] = []
words_of (PortOption by digits ∷ options) = spelled by (codes "--port") digits (words_of options)
words_of (WorkersOption by digits ∷ options) =
    spelled by (codes "--workers") digits (words_of options)
words_of (RunnersOption by digits ∷ options) =
    spelled by (codes "--runners") digits (words_of options)

-- the digits of each option for the port
abbrev pub ports_in : List ServeOption → List ByteList
ports_in [] = []
ports_in (PortOption by digits ∷ options) = digits ∷ ports_in options
ports_in (WorkersOption by digits ∷ options) = ports_in options
ports_in (RunnersOption by digits ∷ options) = ports_in options

-- the digits of each option for the workers
abbrev pub workers_in : List ServeOption → List ByteList
workers_in [] = []
workers_in (PortOption by digits ∷ options) = workers_in options
workers_in (WorkersOption by digits ∷ options) = digits ∷ workers_in options
workers_in (RunnersOption by digits ∷ options) = workers_in options

-- the digits of each option for the runners
abbrev pub runners_in : List ServeOption → List ByteList
runners_in [] = []
runners_in (PortOption by digits ∷ options) = runners_in options
runners_in (WorkersOption by digits ∷ options) = runners_in options
runners_in (RunnersOption by digits ∷ options) = digits ∷ runners_in options

-- one option at most says the value, from the least to the most; where none does it is the default
abbrev pub IsSaid : (default least most : ℕ) → List ByteList → ℕ → Type 0
IsSaid default least most [] value = value ≡ default
IsSaid default least most (digits ∷ []) value = number_of least most digits ≡ Some value
IsSaid default least most (digits ∷ other ∷ others) value = ⊥

-- the words are options in any order, and the settings what these say
pub record AreOptions (words : List ByteList) (settings : Settings) : Type 0 where
  pub options : List ServeOption
  pub printed : words ≡ words_of options
  pub port : IsSaid 8983 0 65535 (ports_in options) settings.port
  pub workers : IsSaid 4 1 16 (workers_in options) settings.workers
  pub runners : IsSaid 1 1 4 (runners_in options) settings.runners

-- the words are the command: its own word, the options of a server, and then the names, of which
-- a script and a server have one at least, or the digits of a load
abbrev pub IsCommand : List ByteList → Command → Type 0
IsCommand words (Eval names) =
    (rest : List ByteList) × (words ≡ codes "eval" ∷ rest) × AreNames rest names
IsCommand words (Script names) =
    (rest : List ByteList) × (words ≡ codes "script" ∷ rest) × AreNames rest names
    × (names ≢ [])
IsCommand words (Serve settings names) =
    (options : List ByteList) × (rest : List ByteList)
    × (words ≡ codes "serve" ∷ (options ++ rest))
    × AreOptions options settings × AreNames rest names × (names ≢ [])
IsCommand words (Load n) =
    (digits : ByteList) × (words ≡ codes "load" ∷ digits ∷ [])
    × (number_of 1 200000 digits ≡ Some n)

-- the words say some command
abbrev pub IsReadable : List ByteList → Type 0
IsReadable words = (command : Command) × IsCommand words command
