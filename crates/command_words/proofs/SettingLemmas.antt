-- The settings that options say, as they are read one by one.
use Rattle.std.proofs.Common.{◌≡◌, ℕ, List, [], ◌∷◌, ◌++◌, Bool, true, false, ◌&&◌, ◌==◌}
use Rattle.std.proofs.Common.{Option, Some, None, refl, ◌∙◌, ap, arith, if◌then◌else◌, length}
use Rattle.std.proofs.Common.{◌<◌}
use Rattle.std.specs.Prelude.{is_some, codes, nat_lt, option_map, option_and_then}
use Rattle.std.specs.List.{position_or_len, before_first, after_first}
use Rattle.std.specs.Option.{option_map_or}
use Rattle.std.specs.Str.{bytes_eq}
use Rattle.std.proofs.lemmas.Bool.{cond-true, cond-false, eqb-true, lt-ltb}
use Rattle.std.proofs.lemmas.List.{length-append}
use Rattle.std.proofs.lemmas.Option.{some_pair_parts}
use Rattle.std.proofs.lemmas.Slice.Eq.{bytes_eq-Decides}
use Rattle.tuple_values.specs.Document.{ByteList}
use Rattle.command_words.specs.Words.{is_first, begins_well, is_equals}
use Rattle.command_words.specs.Settings.{setting_of, joined_of, value_of, said_of, with_value}
use Rattle.command_words.specs.Settings.{said_with}
use Rattle.command_words.specs.Settings.{settings_by, settings_behind}
use Rattle.command_words.specs.declared.command.Settings.{Settings}
use Rattle.command_words.specs.declared.settings.Said.{Said}
use Rattle.command_words.specs.declared.settings.Setting.{Setting}
use Rattle.command_words.specs.declared.settings.Setting.TheVariants.{Port, Workers, Runners}
use Rattle.command_words.proofs.WordLemmas.{guard_some}
use Rattle.command_words.proofs.GrammarLemmas.{equals_split}

-- what is read of the words behind an option with its value joined, or else this
abbrev joined_or : Said → List ByteList → Option (Settings × List ByteList)
    → Option (Setting × ByteList) → Option (Settings × List ByteList)
joined_or said words stop o =
    option_map_or
    (λ j. option_and_then (λ m. settings_behind m words) (said_with said j.0 j.1)) o stop

-- what is read of the words behind an option and its value, or else this
abbrev apart_or : Said → ByteList → List ByteList → Option (Settings × List ByteList)
    → Option Setting → Option (Settings × List ByteList)
apart_or said digits words stop o =
    option_map_or
    (λ s. option_and_then (λ m. settings_behind m words) (said_with said s digits)) o stop

-- an option at the front is read with what is said behind it
pub settings-next : (said more : Said) (word digits : ByteList) (words : List ByteList)
    (setting : Setting) → joined_of word ≡ None → setting_of word ≡ Some setting
    → said_with said setting digits ≡ Some more
    → settings_behind said (word ∷ digits ∷ words) ≡ settings_behind more words
settings-next said more word digits words setting none is taken =
    let stop : Option (Settings × List ByteList) = Some (settings_by said, word ∷ digits ∷ words) in
    ap (joined_or said (digits ∷ words) (apart_or said digits words stop (setting_of word))) none
    ∙ ap (apart_or said digits words stop) is
    ∙ ap (option_and_then (λ m. settings_behind m words)) taken

-- an option at the front with its value joined is read so too
pub settings-joined : (said more : Said) (word digits : ByteList) (words : List ByteList)
    (setting : Setting) → joined_of word ≡ Some (setting, digits)
    → said_with said setting digits ≡ Some more
    → settings_behind said (word ∷ words) ≡ settings_behind more words
settings-joined said more word digits [] setting is taken =
    let stop : Option (Settings × List ByteList) = Some (settings_by said, word ∷ []) in
    ap (joined_or said [] (option_map_or (λ s. None) (setting_of word) stop)) is
    ∙ ap (option_and_then (λ m. settings_behind m [])) taken
settings-joined said more word digits (other ∷ words) setting is taken =
    let stop : Option (Settings × List ByteList) = Some (settings_by said, word ∷ other ∷ words) in
    ap (joined_or said (other ∷ words) (apart_or said other words stop (setting_of word))) is
    ∙ ap (option_and_then (λ m. settings_behind m (other ∷ words))) taken

-- no option stands at the front
abbrev pub IsBehind : List ByteList → Type 0
IsBehind [] = Unit {0}
IsBehind (word ∷ words) = (joined_of word ≡ None) × (setting_of word ≡ None)

-- the settings are those said where no more options stand at the front
pub settings-end : (said : Said) (words : List ByteList) → IsBehind words
    → settings_behind said words ≡ Some (settings_by said, words)
settings-end said [] none = refl
settings-end said (word ∷ []) none =
    let stop : Option (Settings × List ByteList) = Some (settings_by said, word ∷ []) in
    ap (joined_or said [] (option_map_or (λ s. None) (setting_of word) stop)) none.0
    ∙ ap (λ (o : Option Setting). option_map_or (λ s. None) o stop) none.1
settings-end said (word ∷ digits ∷ words) none =
    let stop : Option (Settings × List ByteList) = Some (settings_by said, word ∷ digits ∷ words) in
    ap (joined_or said (digits ∷ words) (apart_or said digits words stop (setting_of word))) none.0
    ∙ ap (apart_or said digits words stop) none.1

-- a setting that isn't said yet is said with a value that it may have
pub said_with_value : (said : Said) (setting : Setting) (digits : ByteList) (value : ℕ)
    → said_of said setting ≡ None → value_of setting digits ≡ Some value
    → said_with said setting digits ≡ Some (with_value said setting value)
said_with_value said setting digits value none is =
    ap (λ (o : Option ℕ). if is_some o then None
    else option_map (with_value said setting) (value_of setting digits)) none
    ∙ ap (option_map (with_value said setting)) is

-- what is said with a setting more, by what was said of that and by its value
said_by : (o : Option ℕ) (v : Option ℕ) (f : ℕ → Said) (more : Said)
    → (if is_some o then None else option_map f v) ≡ Some more
    → (value : ℕ) × (o ≡ None) × (v ≡ Some value) × (f value ≡ more)
said_by (Some before) v f more e = absurd (cc)
said_by None None f more e = absurd (cc)
said_by None (Some value) f more e = (value, refl, refl, (cc))

-- a setting that is said was not said before, and has a value that it may have
pub said_with_is : (said : Said) (setting : Setting) (digits : ByteList) (more : Said)
    → said_with said setting digits ≡ Some more
    → (value : ℕ) × (said_of said setting ≡ None) × (value_of setting digits ≡ Some value)
    × (with_value said setting value ≡ more)
said_with_is said setting digits more e =
    said_by (said_of said setting) (value_of setting digits) (with_value said setting) more e

-- the word of a setting's option
abbrev pub word_of : Setting → ByteList
word_of Port = codes "--port"
word_of Workers = codes "--workers"
word_of Runners = codes "--runners"

-- the setting of the first of some words that this one is
first_word : (word text : ByteList) (setting found : Setting) (o : Option Setting) (test : Bool)
    → bytes_eq word text ≡ test → text ≡ word_of setting
    → (if test then Some setting else o) ≡ Some found
    → (o ≡ Some found → word ≡ word_of found) → word ≡ word_of found
first_word word text setting found o true is text_is e others =
    let same : setting ≡ found = cc in
    (bytes_eq-Decides word text).0 is ∙ text_is ∙ ap word_of same
first_word word text setting found o false is text_is e others = others e

-- a word that is for a setting is the word of its option
pub setting_word : (word : ByteList) (setting : Setting) → setting_of word ≡ Some setting
    → word ≡ word_of setting
setting_word word setting e =
    first_word word (codes "--port") Port setting _ (bytes_eq word (codes "--port")) refl refl e
    (λ f. first_word word (codes "--workers") Workers setting _
    (bytes_eq word (codes "--workers")) refl refl f
    (λ g. first_word word (codes "--runners") Runners setting None
    (bytes_eq word (codes "--runners")) refl refl g (λ h. absurd (cc))))

-- the word of a setting's option is for that setting
pub word-setting : (setting : Setting) → setting_of (word_of setting) ≡ Some setting
word-setting Port = refl
word-setting Workers = refl
word-setting Runners = refl

-- and has no value joined
pub word-apart : (setting : Setting) → joined_of (word_of setting) ≡ None
word-apart Port = refl
word-apart Workers = refl
word-apart Runners = refl

-- the length of a word's end
end_length : (word digits : ByteList) → length word < length (word ++ (61 ∷ digits))
end_length word digits = omega (arith, length-append word (61 ∷ digits))

-- a value that is joined to the word of a setting's option
pub word-joined : (setting : Setting) (digits : ByteList)
    → joined_of (word_of setting ++ (61 ∷ digits)) ≡ Some (setting, digits)
word-joined Port digits =
    cond-true (nat_lt 6 (length (codes "--port" ++ (61 ∷ digits)))) (Some (Port, digits)) None
    (lt-ltb 6 (length (codes "--port" ++ (61 ∷ digits))) (end_length (codes "--port") digits))
word-joined Workers digits =
    cond-true (nat_lt 9 (length (codes "--workers" ++ (61 ∷ digits)))) (Some (Workers, digits)) None
    (lt-ltb 9 (length (codes "--workers" ++ (61 ∷ digits))) (end_length (codes "--workers") digits))
word-joined Runners digits =
    cond-true (nat_lt 9 (length (codes "--runners" ++ (61 ∷ digits)))) (Some (Runners, digits)) None
    (lt-ltb 9 (length (codes "--runners" ++ (61 ∷ digits))) (end_length (codes "--runners") digits))

-- a setting with the value of a word, by the option that stands in it
setting_joined : (o : Option Setting) (word digits : ByteList) (setting : Setting)
    → option_map {U = Setting × ByteList} (λ s. (s, word)) o ≡ Some (setting, digits)
    → (o ≡ Some setting) × (word ≡ digits)
setting_joined None word digits setting e = absurd (cc)
setting_joined (Some found) word digits setting e =
    let parts = some_pair_parts found setting word digits e in (ap Some parts.0, parts.1)

-- a word that says a setting's value is the word of its option with the value joined
pub joined_word : (word digits : ByteList) (setting : Setting)
    → joined_of word ≡ Some (setting, digits) → word ≡ word_of setting ++ (61 ∷ digits)
joined_word word digits setting e =
    let name = before_first is_equals word in
    let value = after_first is_equals word in
    let split =
    guard_some (nat_lt (position_or_len is_equals word) (length word))
    (option_map {U = Setting × ByteList} (λ s. (s, value)) (setting_of name)) (setting, digits) e in
    let parts = setting_joined (setting_of name) value digits setting split.1 in
    equals_split word split.0
    ∙ ap (λ n. n ++ (61 ∷ value)) (setting_word name setting parts.0)
    ∙ ap (λ v. word_of setting ++ (61 ∷ v)) parts.1

-- a byte that begins a name is no hyphen
pub first_apart : (b : ℕ) (test : Bool) → (b == 45) ≡ test → is_first b ≡ true → (b == 45) ≡ false
first_apart b false is first = is
first_apart b true is first =
    let same : b ≡ 45 = eqb-true b 45 is in
    let none : is_first b ≡ false = ap is_first same in absurd (cc)

-- bytes that differ from a text in the first one
bytes_apart : (b c : ℕ) (bytes text : ByteList) → (b == c) ≡ false
    → bytes_eq (b ∷ bytes) (c ∷ text) ≡ false
bytes_apart b c bytes text apart = ap (λ t. t && bytes_eq bytes text) apart

-- none, whatever the test
cond-same : {X : Type 0} (b : Bool) (o : Option X) → (if b then o else o) ≡ o
cond-same true o = refl
cond-same false o = refl

-- a word whose part before the first equals sign is for no setting has none joined
pub before_apart : (word : ByteList) → setting_of (before_first is_equals word) ≡ None
    → joined_of word ≡ None
before_apart word none =
    let nothing : Option (Setting × ByteList) = None in
    ap (λ (o : Option Setting). if nat_lt (position_or_len is_equals word) (length word)
    then option_map {U = Setting × ByteList} (λ s. (s, after_first is_equals word)) o
    else nothing) none
    ∙ cond-same (nat_lt (position_or_len is_equals word) (length word)) nothing

-- a word that begins like a name is for no setting
pub begun_apart : (name bytes : ByteList) → begins_well name ≡ true
    → setting_of (name ++ bytes) ≡ None
begun_apart [] bytes begun = absurd (cc)
begun_apart (b ∷ name) bytes begun =
    let apart = first_apart b (b == 45) refl begun in
    let word = b ∷ (name ++ bytes) in
    cond-false (bytes_eq word (codes "--port")) (Some Port) _
    (bytes_apart b 45 (name ++ bytes) (codes "-port") apart)
    ∙ cond-false (bytes_eq word (codes "--workers")) (Some Workers) _
    (bytes_apart b 45 (name ++ bytes) (codes "-workers") apart)
    ∙ cond-false (bytes_eq word (codes "--runners")) (Some Runners) None
    (bytes_apart b 45 (name ++ bytes) (codes "-runners") apart)
