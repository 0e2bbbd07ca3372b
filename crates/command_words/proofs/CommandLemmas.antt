-- What words say by their looks is what is read of them.
use Rattle.std.proofs.Common.{◌≡◌, ◌≢◌, ℕ, List, [], ◌∷◌, Bool, true, false, if◌then◌else◌, arith}
use Rattle.std.proofs.Common.{Option, Some, None, ◌&&◌, length, refl, sym, ◌∙◌, ap, subst}
use Rattle.std.specs.Prelude.{nat_le, option_map, option_and_then, codes}
use Rattle.std.specs.Str.{bytes_eq}
use Rattle.std.specs.List.{AllByRecursion, list_all, before_first}
use Rattle.std.proofs.lemmas.Bool.{and_parts, and_from, leb-true, le-leb, cond-true, cond-false}
use Rattle.std.proofs.lemmas.List.{append-nil}
use Rattle.std.proofs.lemmas.Option.{option_and_then_some}
use Rattle.std.proofs.lemmas.Slice.Eq.{bytes_eq-Decides}
use Rattle.tuple_values.specs.Document.{ByteList}
use Rattle.tuple_values.specs.declared.names.NameShards.{NameShards}
use Rattle.command_words.specs.Words.{is_later, begins_well, is_equals, number_of, name_of}
use Rattle.command_words.specs.Names.{differ, shards_in, go_together, joined, each_of, behind}
use Rattle.command_words.specs.Names.{names_of, some_of, some_names_of, IsFit, AreFit}
use Rattle.command_words.specs.Settings.{setting_of, joined_of, settings_of}
use Rattle.command_words.specs.Commands.{server_of, load_of, command_by, command_of, names_in}
use Rattle.command_words.specs.Commands.{IsRanged}
use Rattle.command_words.specs.Grammar.{IsWord, AreWords, AreNames, IsCommand, IsReadable}
use Rattle.command_words.specs.declared.command.Command.{Command}
use Rattle.command_words.specs.declared.command.Command.TheVariants.{Eval, Script, Serve, Load}
use Rattle.command_words.proofs.WordLemmas.{guard_some, number_is}
use Rattle.command_words.proofs.GrammarLemmas.{word_read, word_looks, name_before}
use Rattle.command_words.proofs.SettingLemmas.{IsBehind, before_apart, begun_apart}
use Rattle.command_words.proofs.OptionLemmas.{settings_read, settings_looks, options_ranged}

-- what is joined isn't none
pub joined-nil : (o : Option NameShards) (p : Option (List NameShards)) → joined o p ≡ Some [] → ⊥
joined-nil None p e = cc
joined-nil (Some n) None e = cc
joined-nil (Some n) (Some names) e = cc

-- the parts of what is joined
pub joined-cons : (o : Option NameShards) (p : Option (List NameShards)) (n : NameShards)
    (names : List NameShards) → joined o p ≡ Some (n ∷ names) → (o ≡ Some n) × (p ≡ Some names)
joined-cons None p n names e = absurd (cc)
joined-cons (Some m) None n names e = absurd (cc)
joined-cons (Some m) (Some others) n names e = ((cc), (cc))

-- what the words look like is read of each
each_read : (words : List ByteList) (names : List NameShards) → AreWords words names
    → each_of words ≡ Some names
each_read [] [] w = refl
each_read [] (n ∷ names) w = absurd w
each_read (word ∷ words) [] w = absurd w
each_read (word ∷ words) (n ∷ names) w =
    ap (λ o. joined o (each_of words)) (word_read word n w.0)
    ∙ ap (joined (Some n)) (each_read words names w.1)

-- what is read of each they look like
each_looks : (words : List ByteList) (names : List NameShards) → each_of words ≡ Some names
    → AreWords words names
each_looks [] [] e = tt
each_looks [] (n ∷ names) e = absurd (cc)
each_looks (word ∷ words) [] e = absurd (joined-nil (name_of word) (each_of words) e)
each_looks (word ∷ words) (n ∷ names) e =
    let parts = joined-cons (name_of word) (each_of words) n names e in
    (word_looks word n parts.0, each_looks words names parts.1)

-- the names that the words look like are read
pub names_read : (words : List ByteList) (names : List NameShards) → AreNames words names
    → names_of words ≡ Some names
names_read words names w =
    ap (behind []) (each_read words names w.each)
    ∙ cond-true (go_together names) (Some names) None
    (and_from (differ names) (nat_le (shards_in names) 16) w.apart
    (le-leb (shards_in names) 16 w.few))

-- names that go together, of words that look like them
behind_looks : (words : List ByteList) (o : Option (List NameShards)) (names : List NameShards)
    → each_of words ≡ o → behind [] o ≡ Some names → AreNames words names
behind_looks words None names is e = absurd (cc)
behind_looks words (Some others) names is e =
    let given = guard_some (go_together others) (Some others) names e in
    let same : others ≡ names = let found = given.1 in cc in
    let parts = and_parts (differ others) (nat_le (shards_in others) 16) given.0 in
    subst (λ (l : List NameShards). AreNames words l) same (record {
      each = each_looks words others is;
      apart = parts.0;
      few = leb-true (shards_in others) 16 parts.1;
    })

-- the words look like the names that are read
pub names_looks : (words : List ByteList) (names : List NameShards) → names_of words ≡ Some names
    → AreNames words names
names_looks words names e = behind_looks words (each_of words) names refl e

-- collections that words name are each fit
each_fit : (words : List ByteList) (names : List NameShards) → AreWords words names
    → AllByRecursion IsFit names
each_fit [] [] w = tt
each_fit [] (n ∷ names) w = absurd w
each_fit (word ∷ words) [] w = absurd w
each_fit (word ∷ words) (n ∷ names) w = (w.0.fit, each_fit words names w.1)

-- collections that words look like may be named together
fit_together : (words : List ByteList) (names : List NameShards) → AreNames words names
    → AreFit names
fit_together words names w =
    record { each = each_fit words names w.each; apart = w.apart; few = w.few }

-- collections that words name may be named together
pub names_of_fit : (words : List ByteList) (names : List NameShards)
    → names_of words ≡ Some names → AreFit names
names_of_fit words names e = fit_together words names (names_looks words names e)

-- some names, of words that name them
some_read : (words : List ByteList) (names : List NameShards) → AreNames words names → names ≢ []
    → some_names_of words ≡ Some names
some_read words [] w some = absurd (some refl)
some_read words (n ∷ names) w some =
    ap (option_and_then some_of) (names_read words (n ∷ names) w)

-- names, where there is one
some_is : (names found : List NameShards) → some_of names ≡ Some found
    → (names ≡ found) × (found ≢ [])
some_is [] found e = absurd (cc)
some_is (n ∷ names) found e = ((cc), (λ none. cc))

-- the words look like the names that are read, of which there is one
some_looks : (words : List ByteList) (names : List NameShards) → some_names_of words ≡ Some names
    → AreNames words names × (names ≢ [])
some_looks words names e =
    option_and_then_some some_of (names_of words) names e
    (λ found is some.
    let same = some_is found names some in
    (names_looks words names (is ∙ ap Some same.0), same.1))

-- a word that names a collection is for no setting
word_behind : (word : ByteList) (n : NameShards) → IsWord word n
    → (joined_of word ≡ None) × (setting_of word ≡ None)
word_behind word n w =
    let front = (and_parts (begins_well n.name && list_all is_later n.name)
    (nat_le (length n.name) 64) w.named).0 in
    let parts = and_parts (begins_well n.name) (list_all is_later n.name) front in
    let before : before_first is_equals word ≡ n.name =
    ap (before_first is_equals) w.printed ∙ name_before n.name w.digits parts.1 in
    let name_apart = begun_apart n.name [] parts.0 in (
      before_apart word
          (ap setting_of before ∙ ap setting_of (sym (append-nil n.name)) ∙ name_apart),
      ap setting_of w.printed ∙ begun_apart n.name (61 ∷ w.digits) parts.0,
    )

-- no option stands at the front of words that name some collections
names_behind : (words : List ByteList) (names : List NameShards) → AreWords words names
    → names ≢ [] → IsBehind words
names_behind [] names w some = tt
names_behind (word ∷ words) [] w some = absurd w
names_behind (word ∷ words) (n ∷ names) w some = word_behind word n w.0

-- the command that the words look like is read
pub command_read : (words : List ByteList) (command : Command) → IsCommand words command
    → command_of words ≡ Some command
command_read words (Eval names) w =
    ap command_of w.1 ∙ ap (option_map Eval) (names_read w.0 names w.2)
command_read words (Script names) w =
    ap command_of w.1 ∙ ap (option_map Script) (some_read w.0 names w.2 w.3)
command_read words (Serve settings names) w =
    ap command_of w.2
    ∙ ap (option_and_then server_of)
    (settings_read w.0 w.1 settings w.3 (names_behind w.1 names w.4.each w.5))
    ∙ ap (option_map (Serve settings)) (some_read w.1 names w.4 w.5)
command_read words (Load n) w = ap command_of w.1 ∙ ap (option_map Load) w.2

-- what a command is made of
map_some : {X : Type 0} (f : X → Command) (o : Option X) (command : Command)
    → option_map f o ≡ Some command → (x : X) × (o ≡ Some x) × (f x ≡ command)
map_some f None command e = absurd (cc)
map_some f (Some x) command e = (x, refl, (cc))

-- the words of an evaluation
eval_looks : (words : List ByteList) (command : Command)
    → option_map Eval (names_of words) ≡ Some command → IsCommand (codes "eval" ∷ words) command
eval_looks words command e =
    let made = map_some Eval (names_of words) command e in
    subst (λ (c : Command). IsCommand (codes "eval" ∷ words) c) made.2
    (words, refl, names_looks words made.0 made.1)

-- the words of a script
script_looks : (words : List ByteList) (command : Command)
    → option_map Script (some_names_of words) ≡ Some command
    → IsCommand (codes "script" ∷ words) command
script_looks words command e =
    let made = map_some Script (some_names_of words) command e in
    let some = some_looks words made.0 made.1 in
    subst (λ (c : Command). IsCommand (codes "script" ∷ words) c) made.2
    (words, refl, some.0, some.1)

-- the words of a server
serve_looks : (words : List ByteList) (command : Command)
    → option_and_then server_of (settings_of words) ≡ Some command
    → IsCommand (codes "serve" ∷ words) command
serve_looks words command e =
    option_and_then_some server_of (settings_of words) command e
    (λ read is server.
    let made = map_some (Serve read.0) (some_names_of read.1) command server in
    let some = some_looks read.1 made.0 made.1 in
    let look = settings_looks words read.0 read.1 is in
    subst (λ (c : Command). IsCommand (codes "serve" ∷ words) c) made.2
    (look.0, read.1, ap (λ l. codes "serve" ∷ l) look.1, look.2, some.0, some.1))

-- the only word of a load
load_word : (words : List ByteList) (n : ℕ) → load_of words ≡ Some n
    → (digits : ByteList) × (words ≡ digits ∷ []) × (number_of 1 200000 digits ≡ Some n)
load_word [] n e = absurd (cc)
load_word (digits ∷ []) n e = (digits, refl, e)
load_word (digits ∷ other ∷ others) n e = absurd (cc)

-- the words of a load
load_looks : (words : List ByteList) (command : Command)
    → option_map Load (load_of words) ≡ Some command → IsCommand (codes "load" ∷ words) command
load_looks words command e =
    let made = map_some Load (load_of words) command e in
    let word = load_word words made.0 made.1 in
    subst (λ (c : Command). IsCommand (codes "load" ∷ words) c) made.2
    (word.0, ap (λ l. codes "load" ∷ l) word.1, word.2)

-- the test of a word that isn't this text
text_apart : (word text : ByteList) (test : Bool) → bytes_eq word text ≡ test → word ≢ text
    → bytes_eq word text ≡ false
text_apart word text true is other = absurd (other ((bytes_eq-Decides word text).0 is))
text_apart word text false is other = is

-- a word that is none of the commands'
pub word_other : (word : ByteList) (words : List ByteList) → word ≢ codes "eval"
    → word ≢ codes "script" → word ≢ codes "serve" → word ≢ codes "load"
    → command_by word words ≡ None
word_other word words eval script serve load =
    cond-false (bytes_eq word (codes "eval")) (option_map Eval (names_of words)) _
    (text_apart word (codes "eval") _ refl eval)
    ∙ cond-false (bytes_eq word (codes "script")) (option_map Script (some_names_of words)) _
    (text_apart word (codes "script") _ refl script)
    ∙ cond-false (bytes_eq word (codes "serve")) (option_and_then server_of (settings_of words)) _
    (text_apart word (codes "serve") _ refl serve)
    ∙ cond-false (bytes_eq word (codes "load")) (option_map Load (load_of words)) None
    (text_apart word (codes "load") _ refl load)

-- words of one command, or of another where the first word isn't this one
chosen_looks : (word text : ByteList) (words : List ByteList) (this other : Option Command)
    (command : Command) (test : Bool) → bytes_eq word text ≡ test
    → (if test then this else other) ≡ Some command
    → (this ≡ Some command → IsCommand (text ∷ words) command)
    → (other ≡ Some command → IsCommand (word ∷ words) command)
    → IsCommand (word ∷ words) command
chosen_looks word text words this other command true is e first others =
    subst (λ (w : ByteList). IsCommand (w ∷ words) command)
    (sym ((bytes_eq-Decides word text).0 is)) (first e)
chosen_looks word text words this other command false is e first others = others e

-- the words look like the command that is read
pub command_looks : (words : List ByteList) (command : Command)
    → command_of words ≡ Some command → IsCommand words command
command_looks [] command e = absurd (cc)
command_looks (word ∷ words) command e =
    chosen_looks word (codes "eval") words (option_map Eval (names_of words)) _ command
    (bytes_eq word (codes "eval")) refl e (eval_looks words command)
    (λ f. chosen_looks word (codes "script") words (option_map Script (some_names_of words)) _
    command (bytes_eq word (codes "script")) refl f (script_looks words command)
    (λ g. chosen_looks word (codes "serve") words (option_and_then server_of (settings_of words)) _
    command (bytes_eq word (codes "serve")) refl g (serve_looks words command)
    (λ h. chosen_looks word (codes "load") words (option_map Load (load_of words)) None command
    (bytes_eq word (codes "load")) refl h (load_looks words command) (λ i. absurd (cc)))))

-- the collections of a command that the words look like
looks_fit : (words : List ByteList) (command : Command) → IsCommand words command
    → AreFit (names_in command)
looks_fit words (Eval names) w = fit_together w.0 names w.2
looks_fit words (Script names) w = fit_together w.0 names w.2
looks_fit words (Serve settings names) w = fit_together w.1 names w.4
looks_fit words (Load n) w = record { each = tt; apart = refl; few = omega arith }

-- the collections of a command may be named together
pub command_of_fit : (words : List ByteList) (command : Command)
    → command_of words ≡ Some command → AreFit (names_in command)
command_of_fit words command e = looks_fit words command (command_looks words command e)

-- the settings of a command that the words look like
looks_ranged : (words : List ByteList) (command : Command) → IsCommand words command
    → IsRanged command
looks_ranged words (Eval names) w = tt
looks_ranged words (Script names) w = tt
looks_ranged words (Serve settings names) w = options_ranged w.0 settings w.3
looks_ranged words (Load n) w =
    let number = number_is 1 200000 w.0 n w.2 in (number.2, number.3)

-- the settings of a command are ranged
pub command_of_ranged : (words : List ByteList) (command : Command)
    → command_of words ≡ Some command → IsRanged command
command_of_ranged words command e = looks_ranged words command (command_looks words command e)

-- words that say nothing look like no command
pub command_none : (words : List ByteList) → command_of words ≡ None → IsReadable words → ⊥
command_none words none some =
    let read : command_of words ≡ Some some.0 = command_read words some.0 some.1 in cc
