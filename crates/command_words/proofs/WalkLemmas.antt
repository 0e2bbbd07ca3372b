-- How clap goes over words that stand behind a command.
use Rattle.std.proofs.Common.{◌≡◌, ℕ, List, [], ◌∷◌, ◌++◌, Bool, true, false, ◌&&◌, ◌||◌, ◌==◌}
use Rattle.std.proofs.Common.{Option, Some, None, refl, sym, ◌∙◌, ap, if◌then◌else◌, append_assoc}
use Rattle.std.specs.Prelude.{codes, fold, option_and_then}
use Rattle.std.specs.Option.{option_map_or}
use Rattle.std.specs.Str.{bytes_eq}
use Rattle.std.specs.List.{list_all}
use Rattle.std.proofs.lemmas.Bool.{and_from}
use Rattle.std.proofs.lemmas.List.{append-nil}
use Rattle.clap.specs.Lexer.{strip_byte, long_of, short_of, long_of_rest, short_of_rest}
use Rattle.clap.specs.Walk.{Rule, Row, Held, Walk, Names, Waiting, idle, option, positional}
use Rattle.clap.specs.Walk.{value, trailing, walked, walk, walk_from, nothing_held, settled}
use Rattle.clap.specs.Walk.{settled_rows, pushed, is_pending, word_met, plain_word, after_step}
use Rattle.clap.specs.Walk.{finished, subcommand_met, subcommand_or_other, long_or_other}
use Rattle.clap.specs.Walk.{short_or_plain}
use Rattle.clap.specs.Simple.{Shape, filled, with_index}
use Rattle.clap.specs.Takes.{walk_passes, turn_passes, word_passes, step_passes, other_passes}
use Rattle.clap.specs.Takes.{flag_word_passes, bundle_passes, settle_passes, default_passes}
use Rattle.clap.specs.Takes.{is_valid, level_passes}
use Rattle.tuple_values.specs.Document.{ByteList}
use Rattle.command_words.specs.Program.{words_rule}

-- a word that begins with no hyphen
abbrev pub IsBare : ByteList → Type 0
IsBare word = strip_byte 45 word ≡ None

-- each of the words begins with none
abbrev pub AreBare : List ByteList → Type 0
AreBare [] = Unit {0}
AreBare (word ∷ words) = IsBare word × AreBare words

-- the first byte of such a word, by the test of it
bare_first : (b : ℕ) (bytes : ByteList) (test : Bool) → (b == 45) ≡ test
    → (if test then Some bytes else None) ≡ None → (b == 45) ≡ false
bare_first b bytes false is bare = is
bare_first b bytes true is bare = absurd (cc)

-- it isn't two hyphens
bare_apart : (word : ByteList) → IsBare word → bytes_eq word (45 ∷ 45 ∷ []) ≡ false
bare_apart [] bare = refl
bare_apart (b ∷ bytes) bare =
    ap (λ t. t && bytes_eq bytes (45 ∷ [])) (bare_first b bytes (b == 45) refl bare)

-- it is no long option
bare_long : (word : ByteList) → IsBare word → long_of word ≡ None
bare_long word bare =
    ap (λ (o : Option ByteList). option_and_then long_of_rest (option_and_then (strip_byte 45) o))
    bare

-- it is no short one
bare_short : (word : ByteList) → IsBare word → short_of word ≡ None
bare_short word bare = ap (λ (o : Option ByteList). option_and_then short_of_rest o) bare

-- what is false on the right
and_false : (b : Bool) → (b && false) ≡ false
and_false true = refl
and_false false = refl

-- what is true on the right
pub or_true : (b : Bool) → (b || true) ≡ true
or_true true = refl
or_true false = refl

-- no command is met behind a command
none_met : (waiting : Waiting) (word : ByteList) → subcommand_met [] waiting word ≡ None
none_met idle word = refl
none_met (option id) word = refl
none_met positional word = refl

-- what becomes of a word that begins with no hyphen
pub bare_met : (c : List Rule) (waiting : Waiting) (word : ByteList) (h : Held) → IsBare word
    → word_met c [] false waiting 1 word h ≡ plain_word c waiting word h
bare_met c waiting word h bare =
    ap (λ o. subcommand_or_other c o waiting 1 word h) (none_met waiting word)
    ∙ ap (λ b. if b then (h, trailing 1) else long_or_other c waiting word (long_of word) h)
    (bare_apart word bare)
    ∙ ap (λ o. long_or_other c waiting word o h) (bare_long word bare)
    ∙ ap (λ o. short_or_plain c waiting word o h) (bare_short word bare)

-- it calls for no help, and names nothing that isn't there
pub bare_asks : (s : Shape) (waiting : Waiting) (word : ByteList) (h : Held) → IsBare word
    → word_passes s [] false waiting word h ≡ true
bare_asks s waiting word h bare =
    ap (λ o. other_passes s o word h) (none_met waiting word)
    ∙ ap (λ o. bytes_eq word (45 ∷ 45 ∷ [])
    || flag_word_passes s.rules s.args_override_self o word h) (bare_long word bare)
    ∙ ap (λ o. bytes_eq word (45 ∷ 45 ∷ [])
    || option_map_or (λ flags. bundle_passes s.rules s.args_override_self flags h) o true)
    (bare_short word bare)
    ∙ or_true (bytes_eq word (45 ∷ 45 ∷ []))

-- between two words: what was found, what is pending, and what waits
abbrev pub at : List Row → Option (ByteList × List ByteList) → Waiting → Walk
at rows p waiting = record {
  held = record { rows = rows; pending = p; skip = 0 };
  waiting = waiting;
  position = 1;
  is_trailing = false;
  stopped = None;
}

-- the words pass from here on, and so does what is pending at their end
abbrev pub Passes : Shape → Walk → List ByteList → Type 0
Passes s w words = (walk_passes s [] w words ≡ true)
    × (settle_passes s.rules s.args_override_self (fold (walked s.rules []) w words).held ≡ true)

-- no word
pub passes-nil : (s : Shape) (w : Walk)
    → settle_passes s.rules s.args_override_self w.held ≡ true → Passes s w []
unfolding walk_passes
passes-nil s w settled = (refl, settled)

-- one word more
pub passes-cons : (s : Shape) (w next : Walk) (word : ByteList) (words : List ByteList)
    → turn_passes s [] w word ≡ true → walked s.rules [] w word ≡ next → Passes s next words
    → Passes s w (word ∷ words)
unfolding walk_passes
passes-cons s w next word words turn step rest = (
  and_from (turn_passes s [] w word) (walk_passes s [] (walked s.rules [] w word) words) turn
      (ap (λ v. walk_passes s [] v words) step ∙ rest.0),
  ap (λ v. settle_passes s.rules s.args_override_self (fold (walked s.rules []) v words).held) step
      ∙ rest.1,
)

-- a level of the parse passes where its words do
pub level_taken : (s : Shape) (words : List ByteList) → Passes s (walk_from nothing_held) words
    → list_all default_passes s.rules ≡ true → ((rows : List Row) → is_valid s rows false ≡ true)
    → level_passes s [] nothing_held words false ≡ true
level_taken s words passes defaults valid =
    let end = (walk s.rules [] nothing_held words).held in
    and_from (walk_passes s [] (walk_from nothing_held) words) _ passes.0
    (and_from (settle_passes s.rules s.args_override_self end) _ passes.1
    (and_from (list_all default_passes s.rules) (is_valid s (finished s.rules end) false) defaults
    (valid (finished s.rules end))))

-- the argument for the words of a command, as it is built
abbrev pub words_built : Rule
words_built = with_index 1 (filled words_rule)

-- nothing waits for the value of an option
abbrev pub IsOpen : Waiting → Type 0
IsOpen idle = Unit {0}
IsOpen (option id) = ⊥
IsOpen positional = Unit {0}

-- a word that is no option is a value
open_plain : (c : List Rule) (waiting : Waiting) (word : ByteList) (h : Held) → IsOpen waiting
    → plain_word c waiting word h ≡ (h, value)
open_plain c idle word h is = refl
open_plain c (option id) word h is = absurd is
open_plain c positional word h is = refl

module _ (s : Shape) (more : List Rule) where
  -- a command with words, and other arguments
  abbrev pub with_words : Shape
  with_words = record s { rules = words_built ∷ more }

  abbrev c : List Rule
  c = words_built ∷ more

  -- what is pending passes
  abbrev pub settles : List Row → Option (ByteList × List ByteList) → Bool
  settles rows p =
      settle_passes c s.args_override_self (record { rows = rows; pending = p; skip = 0 })

  -- a word is one more value of the words
  word_walked : (rows : List Row) (p : Option (ByteList × List ByteList)) (waiting : Waiting)
      (word : ByteList) → IsOpen waiting → IsBare word
      → walked c [] (at rows p waiting) word
      ≡ at (settled_rows c p rows) (Some (codes "words", word ∷ [])) positional
  unfolding walked
  word_walked rows p waiting word is bare =
      let w = at rows p waiting in
      let h = w.held in
      ap (λ met. after_step c word w met.0 met.1)
      (bare_met c waiting word h bare ∙ open_plain c waiting word h is)
      ∙ ap (λ b. record {
        held = pushed (codes "words") word (if b then h else settled c h);
        waiting = positional;
        position = 1;
        is_trailing = false;
        stopped = None;
      }) (and_false (is_pending words_built p))

  -- it passes, where what is pending does
  word_turn : (rows : List Row) (p : Option (ByteList × List ByteList)) (waiting : Waiting)
      (word : ByteList) → IsOpen waiting → IsBare word → settles rows p ≡ true
      → turn_passes with_words [] (at rows p waiting) word ≡ true
  word_turn rows p waiting word is bare passes =
      let h : Held = record { rows = rows; pending = p; skip = 0 } in
      let met = word_met c [] false waiting 1 word h in
      and_from (word_passes with_words [] false waiting word h)
      (step_passes with_words 1 met.0 met.1)
      (bare_asks with_words waiting word h bare)
      (ap (λ m. step_passes with_words 1 m.0 m.1)
      (bare_met c waiting word h bare ∙ open_plain c waiting word h is)
      ∙ ap (λ b. b || settles rows p) (and_false (is_pending words_built p)) ∙ passes)

  -- words that begin with no hyphen pass, where what is pending does
  pub words_pass : (words : List ByteList) (rows : List Row)
      (p : Option (ByteList × List ByteList)) (waiting : Waiting) → IsOpen waiting
      → AreBare words → settles rows p ≡ true → Passes with_words (at rows p waiting) words
  words_pass [] rows p waiting is bare passes = passes-nil with_words (at rows p waiting) passes
  words_pass (word ∷ words) rows p waiting is bare passes =
      passes-cons with_words (at rows p waiting)
      (at (settled_rows c p rows) (Some (codes "words", word ∷ [])) positional) word words
      (word_turn rows p waiting word is bare.0 passes)
      (word_walked rows p waiting word is bare.0)
      (words_pass words (settled_rows c p rows) (Some (codes "words", word ∷ [])) positional tt
      bare.1 refl)

-- the walk behind a command that was met goes over the words, and keeps them
pub stopped_walk : (c : List Rule) (names : Names) (w : Walk) (name : ByteList)
    (before words : List ByteList)
    → fold (walked c names) (record w { stopped = Some (name, before) }) words
    ≡ record w { stopped = Some (name, before ++ words) }
unfolding walked
stopped_walk c names w name before [] =
    ap (λ l. record w { stopped = Some (name, l) }) (sym (append-nil before))
stopped_walk c names w name before (word ∷ words) =
    stopped_walk c names w name (before ++ word ∷ []) words
    ∙ ap (λ l. record w { stopped = Some (name, l) }) (append_assoc before (word ∷ []) words)

-- they pass at the level above
pub stopped_pass : (s : Shape) (names : Names) (w : Walk) (name : ByteList)
    (before words : List ByteList)
    → walk_passes s names (record w { stopped = Some (name, before) }) words ≡ true
unfolding walked walk_passes
stopped_pass s names w name before [] = refl
stopped_pass s names w name before (word ∷ words) =
    stopped_pass s names w name (before ++ word ∷ []) words
