-- The settings that the options of `serve` say before the names, as they are read (own).
use Rattle.std.specs.Prelude.{ℕ, nat_lt, List, [], ◌∷◌, length, Option, Some, None, is_some}
use Rattle.std.specs.Prelude.{unwrap_or, option_map, option_and_then, bytes_eq, codes}
use Rattle.std.specs.Prelude.{if◌then◌else◌}
use Rattle.std.specs.Option.{option_map_or}
use Rattle.std.specs.List.{position_or_len, before_first, after_first}
use Rattle.tuple_values.specs.Document.{ByteList}
use Rattle.command_words.specs.Words.{number_of, is_equals}
use Rattle.command_words.specs.declared.command.Settings.{Settings}
use Rattle.command_words.specs.declared.settings.Said.{Said}
use Rattle.command_words.specs.declared.settings.Setting.{Setting}
use Rattle.command_words.specs.declared.settings.Setting.TheVariants.{Port, Workers, Runners}

-- the setting that an option's word is for
abbrev pub setting_of : ByteList → Option Setting
setting_of word =
    if bytes_eq word (codes "--port") then Some Port
    else if bytes_eq word (codes "--workers") then Some Workers
    else if bytes_eq word (codes "--runners") then Some Runners
    else None

-- a setting and what stands behind the first equals sign of a word, where what stands before it is
-- the setting's option
abbrev pub joined_of : ByteList → Option (Setting × ByteList)
joined_of word =
    if nat_lt (position_or_len is_equals word) (length word)
    then option_map (λ setting. (setting, after_first is_equals word))
    (setting_of (before_first is_equals word))
    else None

-- the value that digits give a setting, where it may have that
abbrev pub value_of : Setting → ByteList → Option ℕ
value_of Port digits = number_of 0 65535 digits
value_of Workers digits = number_of 1 16 digits
value_of Runners digits = number_of 1 4 digits

-- the value of a setting, where it is said
abbrev pub said_of : Said → Setting → Option ℕ
said_of said Port = said.port
said_of said Workers = said.workers
said_of said Runners = said.runners

-- what is said, and this value of a setting
abbrev pub with_value : Said → Setting → ℕ → Said
with_value said Port value = record said { port = Some value }
with_value said Workers value = record said { workers = Some value }
with_value said Runners value = record said { runners = Some value }

-- what is said with one setting more, which isn't said yet and may have the value of the digits
abbrev pub said_with : Said → Setting → ByteList → Option Said
said_with said setting digits =
    if is_some (said_of said setting) then None
    else option_map (with_value said setting) (value_of setting digits)

-- the settings: what is said, and the defaults of all else
abbrev pub settings_by : Said → Settings
settings_by said = record {
  port = unwrap_or said.port 8983;
  workers = unwrap_or said.workers 4;
  runners = unwrap_or said.runners 1;
}

-- the settings that options at the front say, after others that said so much, and the words behind
abbrev pub settings_behind : Said → List ByteList → Option (Settings × List ByteList)
settings_behind said [] = Some (settings_by said, [])
settings_behind said (word ∷ []) =
    option_map_or
    (λ joined. option_and_then (λ more. settings_behind more [])
    (said_with said joined.0 joined.1))
    (joined_of word)
    (option_map_or (λ setting. None) (setting_of word) (Some (settings_by said, word ∷ [])))
settings_behind said (word ∷ digits ∷ words) =
    option_map_or
    (λ joined. option_and_then (λ more. settings_behind more (digits ∷ words))
    (said_with said joined.0 joined.1))
    (joined_of word)
    (option_map_or
    (λ setting. option_and_then (λ more. settings_behind more words)
    (said_with said setting digits))
    (setting_of word) (Some (settings_by said, word ∷ digits ∷ words)))

-- the settings that options at the front of the words say, and the words behind these
abbrev pub settings_of : List ByteList → Option (Settings × List ByteList)
settings_of words = settings_behind (record { port = None; workers = None; runners = None }) words
