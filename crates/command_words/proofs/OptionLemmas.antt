-- What options say by their looks is what is read of them.
use Rattle.std.proofs.Common.{◌≡◌, ℕ, ◌≤◌, List, [], ◌∷◌, ◌++◌, Option, Some, None}
use Rattle.std.proofs.Common.{refl, sym, ◌∙◌, ap, subst, arith}
use Rattle.std.specs.Prelude.{unwrap_or, codes, option_and_then}
use Rattle.std.specs.Option.{option_map_or}
use Rattle.std.proofs.lemmas.Option.{option_and_then_some, some_pair_parts}
use Rattle.tuple_values.specs.Document.{ByteList}
use Rattle.command_words.specs.Words.{number_of}
use Rattle.command_words.specs.Settings.{setting_of, joined_of, value_of, said_of, with_value}
use Rattle.command_words.specs.Settings.{said_with}
use Rattle.command_words.specs.Settings.{settings_by, settings_behind, settings_of}
use Rattle.command_words.specs.Grammar.{Spelling, Apart, Joined, spelled, ServeOption, words_of}
use Rattle.command_words.specs.Grammar.{ports_in, workers_in, runners_in}
use Rattle.command_words.specs.Grammar.{PortOption, WorkersOption, RunnersOption}
use Rattle.command_words.specs.Grammar.{IsSaid, AreOptions}
use Rattle.command_words.specs.Commands.{AreRanged}
use Rattle.command_words.specs.declared.command.Settings.{Settings}
use Rattle.command_words.specs.declared.settings.Said.{Said}
use Rattle.command_words.specs.declared.settings.Setting.{Setting}
use Rattle.command_words.specs.declared.settings.Setting.TheVariants.{Port, Workers, Runners}
use Rattle.command_words.proofs.WordLemmas.{number_is}
use Rattle.command_words.proofs.SettingLemmas.{IsBehind, settings-next, settings-joined}
use Rattle.command_words.proofs.SettingLemmas.{settings-end, said_with_value, said_with_is, word_of}
use Rattle.command_words.proofs.SettingLemmas.{setting_word, word-setting, word-apart, word-joined}
use Rattle.command_words.proofs.SettingLemmas.{joined_word}

-- the value is what was said before, and then no option says it; or else one option at most does
abbrev pub IsSaidOn : Option ℕ → (default least most : ℕ) → List ByteList → ℕ → Type 0
IsSaidOn None default least most digits value = IsSaid default least most digits value
IsSaidOn (Some before) default least most [] value = value ≡ before
IsSaidOn (Some before) default least most (digits ∷ others) value = ⊥

-- the settings are what was said before and what the options say
record SayOn (said : Said) (options : List ServeOption) (settings : Settings) : Type 0 where
  port : IsSaidOn said.port 8983 0 65535 (ports_in options) settings.port
  workers : IsSaidOn said.workers 4 1 16 (workers_in options) settings.workers
  runners : IsSaidOn said.runners 1 1 4 (runners_in options) settings.runners

-- an option that says a value is the only one
said_once : (o : Option ℕ) (default least most : ℕ) (digits : ByteList) (others : List ByteList)
    (value : ℕ) → IsSaidOn o default least most (digits ∷ others) value
    → (o ≡ None) × (number_of least most digits ≡ Some value)
    × IsSaidOn (Some value) default least most others value
said_once None default least most digits [] value w = (refl, w, refl)
said_once None default least most digits (other ∷ others) value w = absurd w
said_once (Some before) default least most digits others value w = absurd w

-- an option says the value where it is the only one
said_first : (o : Option ℕ) (default least most : ℕ) (digits : ByteList) (others : List ByteList)
    (value found : ℕ) → o ≡ None → number_of least most digits ≡ Some found
    → IsSaidOn (Some found) default least most others value
    → IsSaidOn o default least most (digits ∷ others) value
said_first None default least most digits [] value found none is w = is ∙ ap Some (sym w)
said_first None default least most digits (other ∷ others) value found none is w = absurd w
said_first (Some before) default least most digits others value found none is w = absurd (cc)

-- a value that no option says
said_none : (o : Option ℕ) (default least most value : ℕ) → IsSaidOn o default least most [] value
    → unwrap_or o default ≡ value
said_none None default least most value w = sym w
said_none (Some before) default least most value w = sym w

-- the same the other way round
none_said : (o : Option ℕ) (default least most value : ℕ) → unwrap_or o default ≡ value
    → IsSaidOn o default least most [] value
none_said None default least most value e = sym e
none_said (Some before) default least most value e = sym e

-- settings of these values
abbrev made : (port workers runners : ℕ) → Settings
made port workers runners = record { port = port; workers = workers; runners = runners }

-- the settings, where there are no options
said_all : (said : Said) (settings : Settings) → SayOn said [] settings
    → settings_by said ≡ settings
said_all said settings w =
    let port = said_none said.port 8983 0 65535 settings.port w.port in
    let workers = said_none said.workers 4 1 16 settings.workers w.workers in
    let runners = said_none said.runners 1 1 4 settings.runners w.runners in
    ap (λ p. made p (unwrap_or said.workers 4) (unwrap_or said.runners 1)) port
    ∙ ap (λ n. made settings.port n (unwrap_or said.runners 1)) workers
    ∙ ap (λ n. made settings.port settings.workers n) runners

-- words behind those of an option
pub spelled-append : (by : Spelling) (name digits : ByteList) (words rest : List ByteList)
    → spelled by name digits words ++ rest ≡ spelled by name digits (words ++ rest)
spelled-append Apart name digits words rest = refl
spelled-append Joined name digits words rest = refl

-- an option is read with what is said behind it
spelled_read : (by : Spelling) (said more : Said) (setting : Setting) (digits : ByteList)
    (words : List ByteList) → said_with said setting digits ≡ Some more
    → settings_behind said (spelled by (word_of setting) digits words) ≡ settings_behind more words
spelled_read Apart said more setting digits words taken =
    settings-next said more (word_of setting) digits words setting (word-apart setting)
    (word-setting setting) taken
spelled_read Joined said more setting digits words taken =
    settings-joined said more (word_of setting ++ (61 ∷ digits)) digits words setting
    (word-joined setting digits) taken

-- the same before the words of other options and the words behind those
option_read : (by : Spelling) (said more : Said) (setting : Setting) (digits : ByteList)
    (words rest : List ByteList) → said_with said setting digits ≡ Some more
    → settings_behind said (spelled by (word_of setting) digits words ++ rest)
    ≡ settings_behind more (words ++ rest)
option_read by said more setting digits words rest taken =
    ap (settings_behind said) (spelled-append by (word_of setting) digits words rest)
    ∙ spelled_read by said more setting digits (words ++ rest) taken

-- what options say is read of their words
options_read : (options : List ServeOption) (said : Said) (settings : Settings)
    (rest : List ByteList) → SayOn said options settings → IsBehind rest
    → settings_behind said (words_of options ++ rest) ≡ Some (settings, rest)
options_read [] said settings rest w none =
    settings-end said rest none ∙ ap (λ s. Some (s, rest)) (said_all said settings w)
options_read (PortOption by digits ∷ options) said settings rest w none =
    let value = settings.port in
    let more = with_value said Port value in
    let once = said_once said.port 8983 0 65535 digits (ports_in options) value w.port in
    option_read by said more Port digits (words_of options) rest
    (said_with_value said Port digits value once.0 once.1)
    ∙ options_read options more settings rest
    (record { port = once.2; workers = w.workers; runners = w.runners }) none
options_read (WorkersOption by digits ∷ options) said settings rest w none =
    let value = settings.workers in
    let more = with_value said Workers value in
    let once = said_once said.workers 4 1 16 digits (workers_in options) value w.workers in
    option_read by said more Workers digits (words_of options) rest
    (said_with_value said Workers digits value once.0 once.1)
    ∙ options_read options more settings rest
    (record { port = w.port; workers = once.2; runners = w.runners }) none
options_read (RunnersOption by digits ∷ options) said settings rest w none =
    let value = settings.runners in
    let more = with_value said Runners value in
    let once = said_once said.runners 1 1 4 digits (runners_in options) value w.runners in
    option_read by said more Runners digits (words_of options) rest
    (said_with_value said Runners digits value once.0 once.1)
    ∙ options_read options more settings rest
    (record { port = w.port; workers = w.workers; runners = once.2 }) none

-- words are options, and others behind them
record LookOn (said : Said) (words : List ByteList) (settings : Settings) (rest : List ByteList)
    : Type 0 where
  options : List ServeOption
  printed : words ≡ words_of options ++ rest
  say : SayOn said options settings

-- words of which none is an option
none_look : (said : Said) (words : List ByteList) (settings : Settings) (rest : List ByteList)
    → ◌≡◌ {A = Option (Settings × List ByteList)} (Some (settings_by said, words))
    (Some (settings, rest)) → LookOn said words settings rest
none_look said words settings rest e =
    let parts = some_pair_parts (settings_by said) settings words rest e in
    let same = parts.0 in
    record {
      options = [];
      printed = parts.1;
      say = record {
        port = none_said said.port 8983 0 65535 settings.port (ap (λ s. s.port) same);
        workers = none_said said.workers 4 1 16 settings.workers (ap (λ s. s.workers) same);
        runners = none_said said.runners 1 1 4 settings.runners (ap (λ s. s.runners) same);
      };
    }

-- one option more, before words that are options and others behind them
option_look : (by : Spelling) (said : Said) (setting : Setting) (digits : ByteList)
    (words : List ByteList) (settings : Settings) (rest : List ByteList) (value : ℕ)
    → said_of said setting ≡ None → value_of setting digits ≡ Some value
    → LookOn (with_value said setting value) words settings rest
    → LookOn said (spelled by (word_of setting) digits words) settings rest
option_look by said Port digits words settings rest value none is look = record {
  options = PortOption by digits ∷ look.options;
  printed = ap (spelled by (codes "--port") digits) look.printed
      ∙ sym (spelled-append by (codes "--port") digits (words_of look.options) rest);
  say = record {
    port = said_first said.port 8983 0 65535 digits (ports_in look.options) settings.port value
        none is look.say.port;
    workers = look.say.workers;
    runners = look.say.runners;
  };
}
option_look by said Workers digits words settings rest value none is look = record {
  options = WorkersOption by digits ∷ look.options;
  printed = ap (spelled by (codes "--workers") digits) look.printed
      ∙ sym (spelled-append by (codes "--workers") digits (words_of look.options) rest);
  say = record {
    port = look.say.port;
    workers = said_first said.workers 4 1 16 digits (workers_in look.options) settings.workers value
        none is look.say.workers;
    runners = look.say.runners;
  };
}
option_look by said Runners digits words settings rest value none is look = record {
  options = RunnersOption by digits ∷ look.options;
  printed = ap (spelled by (codes "--runners") digits) look.printed
      ∙ sym (spelled-append by (codes "--runners") digits (words_of look.options) rest);
  say = record {
    port = look.say.port;
    workers = look.say.workers;
    runners = said_first said.runners 1 1 4 digits (runners_in look.options) settings.runners value
        none is look.say.runners;
  };
}

-- words that say on are read to look like options
abbrev Looks : List ByteList → Settings → List ByteList → Type 0
Looks words settings rest =
    (more : Said) → settings_behind more words ≡ Some (settings, rest)
    → LookOn more words settings rest

-- the words of an option, before words that say on
taken_look : (by : Spelling) (said : Said) (setting : Setting) (digits : ByteList)
    (words : List ByteList) (settings : Settings) (rest : List ByteList)
    → option_and_then (λ m. settings_behind m words) (said_with said setting digits)
    ≡ Some (settings, rest) → Looks words settings rest
    → LookOn said (spelled by (word_of setting) digits words) settings rest
taken_look by said setting digits words settings rest e others =
    option_and_then_some (λ m. settings_behind m words) (said_with said setting digits)
    (settings, rest) e
    (λ more taken behind.
    let found = said_with_is said setting digits more taken in
    let look =
    others (with_value said setting found.0) (ap (λ m. settings_behind m words) found.3 ∙ behind) in
    option_look by said setting digits words settings rest found.0 found.1 found.2 look)

-- a word with a value joined, before words that say on
joined_look : (said : Said) (word : ByteList) (words : List ByteList) (settings : Settings)
    (rest : List ByteList) (j : Setting × ByteList) → joined_of word ≡ Some j
    → option_and_then (λ m. settings_behind m words) (said_with said j.0 j.1)
    ≡ Some (settings, rest) → Looks words settings rest → LookOn said (word ∷ words) settings rest
joined_look said word words settings rest j is e others =
    subst (λ (w : ByteList). LookOn said (w ∷ words) settings rest)
    (sym (joined_word word j.1 j.0 is))
    (taken_look Joined said j.0 j.1 words settings rest e others)

-- one word, by the settings that it is for
word_look : (said : Said) (word : ByteList) (settings : Settings) (rest : List ByteList)
    (j : Option (Setting × ByteList)) (o : Option Setting) → joined_of word ≡ j
    → ◌≡◌ {A = Option (Settings × List ByteList)}
    (option_map_or
    (λ i. option_and_then (λ m. settings_behind m []) (said_with said i.0 i.1)) j
    (option_map_or (λ s. None) o (Some (settings_by said, word ∷ [])))) (Some (settings, rest))
    → Looks [] settings rest → LookOn said (word ∷ []) settings rest
word_look said word settings rest None None is e others =
    none_look said (word ∷ []) settings rest e
word_look said word settings rest None (Some setting) is e others = absurd (cc)
word_look said word settings rest (Some j) o is e others =
    joined_look said word [] settings rest j is e others

-- two words before others, by the settings that the first is for
words_look : (said : Said) (word digits : ByteList) (words : List ByteList) (settings : Settings)
    (rest : List ByteList) (j : Option (Setting × ByteList)) (o : Option Setting)
    → joined_of word ≡ j → setting_of word ≡ o
    → ◌≡◌ {A = Option (Settings × List ByteList)}
    (option_map_or
    (λ i. option_and_then (λ m. settings_behind m (digits ∷ words)) (said_with said i.0 i.1)) j
    (option_map_or
    (λ s. option_and_then (λ m. settings_behind m words) (said_with said s digits)) o
    (Some (settings_by said, word ∷ digits ∷ words)))) (Some (settings, rest))
    → Looks (digits ∷ words) settings rest → Looks words settings rest
    → LookOn said (word ∷ digits ∷ words) settings rest
words_look said word digits words settings rest None None isj iso e next others =
    none_look said (word ∷ digits ∷ words) settings rest e
words_look said word digits words settings rest None (Some setting) isj iso e next others =
    subst (λ (w : ByteList). LookOn said (w ∷ digits ∷ words) settings rest)
    (sym (setting_word word setting iso))
    (taken_look Apart said setting digits words settings rest e others)
words_look said word digits words settings rest (Some j) o isj iso e next others =
    joined_look said word (digits ∷ words) settings rest j isj e next

-- words look like the options that are read of them
options_look : (words : List ByteList) (said : Said) (settings : Settings) (rest : List ByteList)
    → settings_behind said words ≡ Some (settings, rest) → LookOn said words settings rest
options_look [] said settings rest e = none_look said [] settings rest e
options_look (word ∷ []) said settings rest e =
    word_look said word settings rest (joined_of word) (setting_of word) refl e
    (λ more behind. options_look [] more settings rest behind)
options_look (word ∷ digits ∷ words) said settings rest e =
    words_look said word digits words settings rest (joined_of word) (setting_of word) refl refl e
    (λ more behind. options_look (digits ∷ words) more settings rest behind)
    (λ more behind. options_look words more settings rest behind)

-- nothing is said
abbrev unsaid : Said
unsaid = record { port = None; workers = None; runners = None }

-- the settings that the words look like are read, where no option stands behind them
pub settings_read : (words rest : List ByteList) (settings : Settings) → AreOptions words settings
    → IsBehind rest → settings_of (words ++ rest) ≡ Some (settings, rest)
settings_read words rest settings w none =
    ap (λ l. settings_of (l ++ rest)) w.printed
    ∙ options_read w.options unsaid settings rest
    (record { port = w.port; workers = w.workers; runners = w.runners }) none

-- words look like the settings that are read, before others
pub settings_looks : (words : List ByteList) (settings : Settings) (rest : List ByteList)
    → settings_of words ≡ Some (settings, rest)
    → (options : List ByteList) × (words ≡ options ++ rest) × AreOptions options settings
settings_looks words settings rest e =
    let look = options_look words unsaid settings rest e in (
      words_of look.options,
      look.printed,
      record {
        options = look.options;
        printed = refl;
        port = look.say.port;
        workers = look.say.workers;
        runners = look.say.runners;
      },
    )

-- a value that is said is in its range, if the default is
said_ranged : (default least most : ℕ) (digits : List ByteList) (value : ℕ) → least ≤ default
    → default ≤ most → IsSaid default least most digits value → (least ≤ value) × (value ≤ most)
said_ranged default least most [] value low high w = (omega (arith, w), omega (arith, w))
said_ranged default least most (digits ∷ []) value low high w =
    let number = number_is least most digits value w in (number.2, number.3)
said_ranged default least most (digits ∷ other ∷ others) value low high w = absurd w

-- settings that words look like are ranged
pub options_ranged : (words : List ByteList) (settings : Settings) → AreOptions words settings
    → AreRanged settings
options_ranged words settings w = record {
  port = (said_ranged 8983 0 65535 (ports_in w.options) settings.port (omega arith) (omega arith)
      w.port).1;
  workers = said_ranged 4 1 16 (workers_in w.options) settings.workers (omega arith) (omega arith)
      w.workers;
  runners = said_ranged 1 1 4 (runners_in w.options) settings.runners (omega arith) (omega arith)
      w.runners;
}
