-- Clap takes all words that say a command.
use Rattle.std.proofs.Common.{◌≡◌, List, [], ◌∷◌, ◌++◌, Bool, true, false, ◌&&◌, not}
use Rattle.std.proofs.Common.{Option, Some, None, refl, sym, ◌∙◌, ap, subst}
use Rattle.std.specs.Prelude.{codes, fold, find, is_some}
use Rattle.std.specs.Option.{option_map_or}
use Rattle.std.specs.List.{list_all}
use Rattle.std.proofs.lemmas.Bool.{and_from}
use Rattle.clap.specs.Walk.{Rule, Row, Walk, idle, option, walked, walk, walk_from}
use Rattle.clap.specs.Walk.{nothing_held, settled_rows, used, after_step, word_met}
use Rattle.clap.specs.Walk.{answers_to, has_row, finished}
use Rattle.clap.specs.Simple.{App, Shape, filled, built, is_simple, names_of, label_of, entered}
use Rattle.clap.specs.Simple.{inherited, with_leaf_noted, marked_built, built_leaf, help_rule}
use Rattle.clap.specs.Simple.{with_index}
use Rattle.clap.specs.Takes.{built_takes, level_passes, turn_passes, walk_passes}
use Rattle.clap.specs.Takes.{word_passes, step_passes, settle_passes, default_passes, is_valid}
use Rattle.clap.specs.Takes.{entered_passes}
use Rattle.clap.proofs.OnLiterals.{clap_on_literals}
use Rattle.tuple_values.specs.Document.{ByteList}
use Rattle.command_words.specs.Grammar.{Spelling, Apart, Joined, spelled, ServeOption, words_of}
use Rattle.command_words.specs.Grammar.{PortOption, WorkersOption, RunnersOption}
use Rattle.command_words.specs.Grammar.{ports_in, workers_in, runners_in}
use Rattle.command_words.specs.Program.{number_rule, option_rule, words_app, load_app, serve_app}
use Rattle.command_words.specs.Program.{program, is_taken}
use Rattle.command_words.specs.declared.settings.Setting.{Setting}
use Rattle.command_words.specs.declared.settings.Setting.TheVariants.{Port, Workers, Runners}
use Rattle.command_words.proofs.SettingLemmas.{word_of}
use Rattle.command_words.proofs.OptionLemmas.{spelled-append}
use Rattle.command_words.proofs.WalkLemmas.{IsBare, AreBare, bare_met, bare_asks, at, Passes}
use Rattle.command_words.proofs.WalkLemmas.{passes-nil, passes-cons, level_taken, words_built}
use Rattle.command_words.proofs.WalkLemmas.{words_pass}
use Rattle.command_words.proofs.WalkLemmas.{or_true, stopped_walk, stopped_pass}

-- the program, as its commands take settings from it
abbrev above : Shape
above = with_leaf_noted (marked_built program.top)

-- a command with words alone, as it is built
abbrev words_shape : ByteList → Shape
words_shape name = built_leaf (inherited above (words_app name).top)

-- the command of a server, as it is built
abbrev serve_shape : Shape
serve_shape = built_leaf (inherited above serve_app.top)

-- the option of a setting, without its hyphens
abbrev id_of : Setting → ByteList
id_of Port = codes "port"
id_of Workers = codes "workers"
id_of Runners = codes "runners"

-- an option, as it is built
abbrev option_built : Setting → Rule
option_built setting = filled (option_rule (id_of setting))

-- the arguments of a server but for its words
abbrev options_built : List Rule
options_built = option_built Port ∷ option_built Workers ∷ option_built Runners
    ∷ filled help_rule ∷ []

-- the arguments of a server
abbrev c : List Rule
c = words_built ∷ options_built

-- what is pending passes
abbrev settles : List Row → Option (ByteList × List ByteList) → Bool
settles rows p = settle_passes c true (record { rows = rows; pending = p; skip = 0 })

-- an option's word is met
apart_walked : (setting : Setting) (rows : List Row) (p : Option (ByteList × List ByteList))
    → walked c [] (at rows p idle) (word_of setting)
    ≡ at (settled_rows c p rows) (Some (id_of setting, [])) (option (id_of setting))
unfolding clap_on_literals
apart_walked Port rows p = refl
apart_walked Workers rows p = refl
apart_walked Runners rows p = refl

-- it passes where what is pending does
apart_turn : (setting : Setting) (rows : List Row) (p : Option (ByteList × List ByteList))
    → turn_passes serve_shape [] (at rows p idle) (word_of setting) ≡ (settles rows p && true)
unfolding clap_on_literals
apart_turn Port rows p = refl
apart_turn Workers rows p = refl
apart_turn Runners rows p = refl

-- between an option's word and its value
abbrev wanting : Setting → List Row → Walk
wanting setting rows = at rows (Some (id_of setting, [])) (option (id_of setting))

-- its value is met
value_walked : (setting : Setting) (rows : List Row) (digits : ByteList) → IsBare digits
    → walked c [] (wanting setting rows) digits
    ≡ at rows (Some (id_of setting, digits ∷ [])) idle
unfolding walked
value_walked Port rows digits bare =
    let w = wanting Port rows in
    ap (λ met. after_step c digits w met.0 met.1) (bare_met c w.waiting digits w.held bare)
value_walked Workers rows digits bare =
    let w = wanting Workers rows in
    ap (λ met. after_step c digits w met.0 met.1) (bare_met c w.waiting digits w.held bare)
value_walked Runners rows digits bare =
    let w = wanting Runners rows in
    ap (λ met. after_step c digits w met.0 met.1) (bare_met c w.waiting digits w.held bare)

-- it passes
value_turn : (setting : Setting) (rows : List Row) (digits : ByteList) → IsBare digits
    → turn_passes serve_shape [] (wanting setting rows) digits ≡ true
value_turn setting rows digits bare =
    let w = wanting setting rows in
    let met = word_met c [] false w.waiting 1 digits w.held in
    and_from (word_passes serve_shape [] false w.waiting digits w.held)
    (step_passes serve_shape 1 met.0 met.1)
    (bare_asks serve_shape w.waiting digits w.held bare)
    (ap (λ m. step_passes serve_shape 1 m.0 m.1) (bare_met c w.waiting digits w.held bare))

-- an option with its value joined is met
joined_walked : (setting : Setting) (rows : List Row) (p : Option (ByteList × List ByteList))
    (digits : ByteList)
    → walked c [] (at rows p idle) (word_of setting ++ (61 ∷ digits))
    ≡ at (used (option_built setting) (digits ∷ []) (settled_rows c p rows)) None idle
unfolding clap_on_literals
joined_walked Port rows p digits = refl
joined_walked Workers rows p digits = refl
joined_walked Runners rows p digits = refl

-- it passes where what is pending does, and then it
joined_turn : (setting : Setting) (rows : List Row) (p : Option (ByteList × List ByteList))
    (digits : ByteList)
    → turn_passes serve_shape [] (at rows p idle) (word_of setting ++ (61 ∷ digits))
    ≡ ((settles rows p
    && settles (settled_rows c p rows) (Some (id_of setting, digits ∷ []))) && true)
unfolding clap_on_literals
joined_turn Port rows p digits = refl
joined_turn Workers rows p digits = refl
joined_turn Runners rows p digits = refl

-- a value of an option passes
value_settles : (setting : Setting) (rows : List Row) (digits : ByteList)
    → settles rows (Some (id_of setting, digits ∷ [])) ≡ true
value_settles Port rows digits =
    ap (λ b. b && true) (or_true (not (has_row (codes "port") rows)))
value_settles Workers rows digits =
    ap (λ b. b && true) (or_true (not (has_row (codes "workers") rows)))
value_settles Runners rows digits =
    ap (λ b. b && true) (or_true (not (has_row (codes "runners") rows)))

-- the words pass, whatever was found and is pending, where that passes
abbrev PassesOn : List ByteList → Type 0
PassesOn words =
    (rows : List Row) (p : Option (ByteList × List ByteList)) → settles rows p ≡ true
    → Passes serve_shape (at rows p idle) words

-- an option passes before words that do
option_pass : (by : Spelling) (setting : Setting) (digits : ByteList) (words : List ByteList)
    → IsBare digits → PassesOn words → PassesOn (spelled by (word_of setting) digits words)
option_pass Apart setting digits words bare others rows p passes =
    let found = settled_rows c p rows in
    let next = at found (Some (id_of setting, digits ∷ [])) idle in
    passes-cons serve_shape (at rows p idle) (wanting setting found) (word_of setting)
    (digits ∷ words) (apart_turn setting rows p ∙ ap (λ b. b && true) passes)
    (apart_walked setting rows p)
    (passes-cons serve_shape (wanting setting found) next digits words
    (value_turn setting found digits bare) (value_walked setting found digits bare)
    (others found (Some (id_of setting, digits ∷ [])) (value_settles setting found digits)))
option_pass Joined setting digits words bare others rows p passes =
    let found = settled_rows c p rows in
    let more = used (option_built setting) (digits ∷ []) found in
    passes-cons serve_shape (at rows p idle) (at more None idle) (word_of setting ++ (61 ∷ digits))
    words
    (joined_turn setting rows p digits
    ∙ ap (λ b. b && true)
    (and_from (settles rows p) (settles found (Some (id_of setting, digits ∷ []))) passes
    (value_settles setting found digits)))
    (joined_walked setting rows p digits) (others more None refl)

-- the same before the words of other options and the words behind those
option_pass_on : (by : Spelling) (setting : Setting) (digits : ByteList)
    (words rest : List ByteList) → IsBare digits → PassesOn (words ++ rest)
    → PassesOn (spelled by (word_of setting) digits words ++ rest)
option_pass_on by setting digits words rest bare others =
    subst PassesOn (sym (spelled-append by (word_of setting) digits words rest))
    (option_pass by setting digits (words ++ rest) bare others)

-- options pass before words that begin with no hyphen
options_pass : (options : List ServeOption) (rest : List ByteList) → AreBare (ports_in options)
    → AreBare (workers_in options) → AreBare (runners_in options) → AreBare rest
    → PassesOn (words_of options ++ rest)
options_pass [] rest ports workers runners bare =
    λ rows p passes. words_pass serve_shape options_built rest rows p idle tt bare passes
options_pass (PortOption by digits ∷ options) rest ports workers runners bare =
    option_pass_on by Port digits (words_of options) rest ports.0
    (options_pass options rest ports.1 workers runners bare)
options_pass (WorkersOption by digits ∷ options) rest ports workers runners bare =
    option_pass_on by Workers digits (words_of options) rest workers.0
    (options_pass options rest ports workers.1 runners bare)
options_pass (RunnersOption by digits ∷ options) rest ports workers runners bare =
    option_pass_on by Runners digits (words_of options) rest runners.0
    (options_pass options rest ports workers runners.1 bare)

-- a server's words pass at its level
serve_level : (options : List ServeOption) (rest : List ByteList) → AreBare (ports_in options)
    → AreBare (workers_in options) → AreBare (runners_in options) → AreBare rest
    → level_passes serve_shape [] nothing_held (words_of options ++ rest) false ≡ true
serve_level options rest ports workers runners bare =
    level_taken serve_shape (words_of options ++ rest)
    (options_pass options rest ports workers runners bare [] None refl) refl (λ rows. refl)

-- the words of a command with words alone pass at its level
words_level : (name : ByteList) (words : List ByteList) → AreBare words
    → level_passes (words_shape name) [] nothing_held words false ≡ true
words_level name words bare =
    level_taken (words_shape name) words
    (words_pass (words_shape name) (filled help_rule ∷ []) words [] None idle tt bare refl) refl
    (λ rows. refl)

-- the command of a load, as it is built
abbrev load_shape : Shape
load_shape = built_leaf (inherited above load_app.top)

-- the arguments of a load
abbrev load_rules : List Rule
load_rules = with_index 1 (filled number_rule) ∷ filled help_rule ∷ []

-- behind its number
abbrev numbered : ByteList → Walk
numbered digits = record (at [] (Some (codes "number", digits ∷ [])) idle) { position = 2 }

-- its number is met
number_walked : (digits : ByteList) → IsBare digits
    → walked load_rules [] (at [] None idle) digits ≡ numbered digits
unfolding walked
number_walked digits bare =
    let w = at [] None idle in
    ap (λ met. after_step load_rules digits w met.0 met.1)
    (bare_met load_rules idle digits w.held bare)

-- it passes
number_turn : (digits : ByteList) → IsBare digits
    → turn_passes load_shape [] (at [] None idle) digits ≡ true
number_turn digits bare =
    let w = at [] None idle in
    let met = word_met load_rules [] false idle 1 digits w.held in
    and_from (word_passes load_shape [] false idle digits w.held)
    (step_passes load_shape 1 met.0 met.1) (bare_asks load_shape idle digits w.held bare)
    (ap (λ m. step_passes load_shape 1 m.0 m.1) (bare_met load_rules idle digits w.held bare))

-- the word of a load passes at its level
load_level : (digits : ByteList) → IsBare digits
    → level_passes load_shape [] nothing_held (digits ∷ []) false ≡ true
load_level digits bare =
    level_taken load_shape (digits ∷ [])
    (passes-cons load_shape (at [] None idle) (numbered digits) digits [] (number_turn digits bare)
    (number_walked digits bare) (passes-nil load_shape (numbered digits) refl)) refl (λ rows. refl)

-- the program, as it is built
abbrev whole : App
whole = built program

-- where the walk stops at a command
abbrev stopped_at : ByteList → List ByteList → Walk
stopped_at name words = record (walk_from nothing_held) { stopped = Some (name, words) }

-- clap takes the words of a command that it meets, where they pass at its level
met_taken : (name : ByteList) (words : List ByteList) (s : Shape)
    → turn_passes whole.top (names_of whole) (walk_from nothing_held) name ≡ true
    → walked whole.top.rules (names_of whole) (walk_from nothing_held) name ≡ stopped_at name []
    → find (λ (t : Shape). answers_to name (label_of t)) whole.subs ≡ Some s
    → level_passes s [] nothing_held words false ≡ true
    → is_simple program ≡ true → list_all default_passes whole.top.rules ≡ true
    → ((rows : List Row) (b : Bool) → is_valid whole.top rows b ≡ true)
    → settle_passes whole.top.rules whole.top.args_override_self nothing_held ≡ true
    → is_taken (name ∷ words) ≡ true
unfolding walk_passes
met_taken name words s turn step found level simple defaults valid settled =
    let rules = whole.top.rules in
    let names = names_of whole in
    let end : walk rules names nothing_held (name ∷ words) ≡ stopped_at name words =
    ap (λ w. fold (walked rules names) w words) step
    ∙ stopped_walk rules names (walk_from nothing_held) name [] words in
    let stop = (walk rules names nothing_held (name ∷ words)).stopped in
    let held = (walk rules names nothing_held (name ∷ words)).held in
    let below : entered_passes whole stop ≡ true =
    ap (λ (w : Walk). entered_passes whole w.stopped) end
    ∙ ap (λ (o : Option Shape).
    option_map_or (λ t. level_passes t [] nothing_held words false) o true)
    found ∙ level in
    let walks : walk_passes whole.top names (walk_from nothing_held) (name ∷ words) ≡ true =
    and_from (turn_passes whole.top names (walk_from nothing_held) name)
    (walk_passes whole.top names (walked rules names (walk_from nothing_held) name) words) turn
    (ap (λ w. walk_passes whole.top names w words) step
    ∙ stopped_pass whole.top names (walk_from nothing_held) name [] words) in
    let settles : settle_passes rules whole.top.args_override_self held ≡ true =
    ap (λ (w : Walk). settle_passes rules whole.top.args_override_self w.held) end ∙ settled in
    let here : level_passes whole.top names nothing_held (name ∷ words)
    (is_some (entered whole stop)) ≡ true =
    and_from (walk_passes whole.top names (walk_from nothing_held) (name ∷ words)) _ walks
    (and_from (settle_passes rules whole.top.args_override_self held) _ settles
    (and_from (list_all default_passes rules)
    (is_valid whole.top (finished rules held) (is_some (entered whole stop))) defaults
    (valid (finished rules held) (is_some (entered whole stop))))) in
    and_from (is_simple program) (built_takes whole nothing_held (name ∷ words)) simple
    (and_from (entered_passes whole stop)
    (level_passes whole.top names nothing_held (name ∷ words) (is_some (entered whole stop))) below
    here)

-- the words of an evaluation
pub eval_taken : (words : List ByteList) → AreBare words → is_taken (codes "eval" ∷ words) ≡ true
unfolding clap_on_literals
eval_taken words bare =
    met_taken (codes "eval") words (words_shape (codes "eval")) refl refl refl
    (words_level (codes "eval") words bare) refl refl (λ rows b. refl) refl

-- the words of a script
pub script_taken : (words : List ByteList) → AreBare words
    → is_taken (codes "script" ∷ words) ≡ true
unfolding clap_on_literals
script_taken words bare =
    met_taken (codes "script") words (words_shape (codes "script")) refl refl refl
    (words_level (codes "script") words bare) refl refl (λ rows b. refl) refl

-- the words of a load
pub load_taken : (digits : ByteList) → IsBare digits
    → is_taken (codes "load" ∷ digits ∷ []) ≡ true
unfolding clap_on_literals
load_taken digits bare =
    met_taken (codes "load") (digits ∷ []) load_shape refl refl refl (load_level digits bare) refl
    refl (λ rows b. refl) refl

-- the words of a server
pub serve_taken : (options : List ServeOption) (rest : List ByteList) → AreBare (ports_in options)
    → AreBare (workers_in options) → AreBare (runners_in options) → AreBare rest
    → is_taken (codes "serve" ∷ (words_of options ++ rest)) ≡ true
unfolding clap_on_literals
serve_taken options rest ports workers runners bare =
    met_taken (codes "serve") (words_of options ++ rest) serve_shape refl refl refl
    (serve_level options rest ports workers runners bare) refl refl (λ rows b. refl) refl
