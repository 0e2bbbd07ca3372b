-- Words that say a command are words that clap takes.
use Rattle.std.proofs.Common.{◌≡◌, ◌≢◌, ℕ, List, [], ◌∷◌, ◌++◌, Bool, true, false, ◌&&◌, ◌==◌}
use Rattle.std.proofs.Common.{Option, Some, None, length, refl, sym, ◌∙◌, ap, subst}
use Rattle.std.proofs.Common.{◌⊎◌, inl, inr, IfSome, IfErr, Result}
use Rattle.std.specs.Prelude.{nat_le, codes}
use Rattle.std.specs.Char.{is_ascii_digit}
use Rattle.std.specs.List.{list_all}
use Rattle.std.proofs.lemmas.Bool.{and_parts, eqb-true, cond-false}
use Rattle.tuple_values.specs.Document.{ByteList}
use Rattle.tuple_values.specs.declared.names.NameShards.{NameShards}
use Rattle.command_words.specs.Words.{is_later, begins_well, number_of}
use Rattle.command_words.specs.Commands.{command_of}
use Rattle.command_words.specs.Grammar.{IsWord, AreWords, IsSaid, IsCommand}
use Rattle.command_words.specs.Grammar.{ports_in, workers_in, runners_in}
use Rattle.command_words.specs.Program.{program, is_taken, refusals_of, IsShownKind, IsToldBy}
use Rattle.command_words.specs.Program.{HasReason}
use Rattle.command_words.specs.declared.command.Command.{Command}
use Rattle.command_words.specs.declared.command.Command.TheVariants.{Eval, Script, Serve, Load}
use Rattle.command_words.specs.declared.fault.WordsFault.{WordsFault}
use Rattle.command_words.specs.declared.fault.WordsFault.TheVariants as fault
use Rattle.clap.specs.Kinds.{IsAmong, FailsBy}
use Rattle.clap.specs.Values.{kind_of}
use Rattle.clap.specs.Simple.{App}
use Rattle.clap.specs.Takes.{takes}
use Rattle.clap.specs.Faults.{fault_of, is_simple_and_free}
use Rattle.clap.specs.declared.error.Error.{Error}
use Rattle.clap.proofs.OnLiterals.{clap_on_literals}
use Rattle.clap.specs.declared.error.kind.ErrorKind.{ErrorKind}
use Rattle.clap.specs.declared.error.kind.ErrorKind.TheVariants as kind
use Rattle.command_words.proofs.WordLemmas.{number_is}
use Rattle.command_words.proofs.SettingLemmas.{first_apart}
use Rattle.command_words.proofs.CommandLemmas.{command_looks}
use Rattle.command_words.proofs.WalkLemmas.{IsBare, AreBare}
use Rattle.command_words.proofs.TakesLemmas.{eval_taken, script_taken, serve_taken, load_taken}

-- a digit is no hyphen
digit_apart : (d : ℕ) (test : Bool) → (d == 45) ≡ test → is_ascii_digit d ≡ true
    → (d == 45) ≡ false
digit_apart d false is digit = is
digit_apart d true is digit =
    let same : d ≡ 45 = eqb-true d 45 is in
    let none : is_ascii_digit d ≡ false = ap is_ascii_digit same in absurd (cc)

-- a word whose first byte is no hyphen
first_bare : (b : ℕ) (bytes : ByteList) → (b == 45) ≡ false → IsBare (b ∷ bytes)
first_bare b bytes apart = cond-false (b == 45) (Some bytes) None apart

-- digits begin with no hyphen
digits_bare : (digits : ByteList) → list_all is_ascii_digit digits ≡ true → IsBare digits
digits_bare [] all = refl
digits_bare (d ∷ digits) all =
    first_bare d digits (digit_apart d (d == 45) refl
    (and_parts (is_ascii_digit d) (list_all is_ascii_digit digits) all).0)

-- neither do those of a number
number_bare : (least most : ℕ) (digits : ByteList) (n : ℕ) → number_of least most digits ≡ Some n
    → IsBare digits
number_bare least most digits n e = digits_bare digits (number_is least most digits n e).0

-- nor a word that begins like a name
begun_bare : (name bytes : ByteList) → begins_well name ≡ true → IsBare (name ++ bytes)
begun_bare [] bytes begun = absurd (cc)
begun_bare (b ∷ name) bytes begun =
    first_bare b (name ++ bytes) (first_apart b (b == 45) refl begun)

-- nor a word that names a collection
word_bare : (word : ByteList) (n : NameShards) → IsWord word n → IsBare word
word_bare word n w =
    let front = (and_parts (begins_well n.name && list_all is_later n.name)
    (nat_le (length n.name) 64) w.named).0 in
    subst IsBare (sym w.printed)
    (begun_bare n.name (61 ∷ w.digits)
    (and_parts (begins_well n.name) (list_all is_later n.name) front).0)

-- words that name collections
names_bare : (words : List ByteList) (names : List NameShards) → AreWords words names
    → AreBare words
names_bare [] [] w = tt
names_bare [] (n ∷ names) w = absurd w
names_bare (word ∷ words) [] w = absurd w
names_bare (word ∷ words) (n ∷ names) w = (word_bare word n w.0, names_bare words names w.1)

-- the digits of options that say a value
said_bare : (default least most : ℕ) (digits : List ByteList) (value : ℕ)
    → IsSaid default least most digits value → AreBare digits
said_bare default least most [] value w = tt
said_bare default least most (digits ∷ []) value w = (number_bare least most digits value w, tt)
said_bare default least most (digits ∷ other ∷ others) value w = absurd w

-- clap takes words that look like a command
looks_taken : (words : List ByteList) (command : Command) → IsCommand words command
    → is_taken words ≡ true
looks_taken words (Eval names) w =
    ap is_taken w.1 ∙ eval_taken w.0 (names_bare w.0 names w.2.each)
looks_taken words (Script names) w =
    ap is_taken w.1 ∙ script_taken w.0 (names_bare w.0 names w.2.each)
looks_taken words (Serve settings names) w =
    ap is_taken w.2 ∙ ap (λ l. is_taken (codes "serve" ∷ (l ++ w.1))) w.3.printed
    ∙ serve_taken w.3.options w.1
    (said_bare 8983 0 65535 (ports_in w.3.options) settings.port w.3.port)
    (said_bare 4 1 16 (workers_in w.3.options) settings.workers w.3.workers)
    (said_bare 1 1 4 (runners_in w.3.options) settings.runners w.3.runners)
    (names_bare w.1 names w.4.each)
looks_taken words (Load n) w =
    ap is_taken w.1 ∙ load_taken w.0 (number_bare 1 200000 w.0 n w.2)

-- clap takes words that say a command
pub command_taken : (words : List ByteList) (command : Command)
    → command_of words ≡ Some command → is_taken words ≡ true
command_taken words command e = looks_taken words command (command_looks words command e)

-- the program is simple, and no argument of it has a rule on another
program_simple : is_simple_and_free program ≡ true
unfolding clap_on_literals
program_simple = refl

-- a parse of the program passes words that it takes
pub program_passes : (given words : List ByteList) (app : App) (r : Result (Unit {0}) Error)
    → app ≡ program → given ≡ words
    → IfErr r (λ e. takes app given ≡ true → kind_of e ≡ kind.OutOfMemory)
    → IfErr r (λ e. is_taken words ≡ true → kind_of e ≡ kind.OutOfMemory)
program_passes given words app r made same passes =
    subst (λ (l : List ByteList). IfErr r (λ e. is_taken l ≡ true → kind_of e ≡ kind.OutOfMemory))
    same
    (subst (λ (a : App). IfErr r (λ e. takes a given ≡ true → kind_of e ≡ kind.OutOfMemory)) made
    passes)

-- it fails for what the words have
pub program_fails : (given words : List ByteList) (app : App) (r : Result (Unit {0}) Error)
    → app ≡ program → given ≡ words
    → (is_simple_and_free app ≡ true → FailsBy (fault_of app given) r)
    → FailsBy (refusals_of words) r
program_fails given words app r made same fails =
    subst (λ (l : List ByteList). FailsBy (refusals_of l) r) same
    (subst (λ (a : App). is_simple_and_free a ≡ true → FailsBy (fault_of a given) r) made fails
    program_simple)

-- words of which clap has an error without want of memory say no command
told_none : (words : List ByteList) (o : Option Command) → command_of words ≡ o → (k : ErrorKind)
    → (is_taken words ≡ true → k ≡ kind.OutOfMemory) → k ≢ kind.OutOfMemory
    → command_of words ≡ None
told_none words None is k passes other = is
told_none words (Some command) is k passes other =
    absurd (other (passes (command_taken words command is)))

-- an error without want of memory is one of those that may come
among : (words : List ByteList) (k : ErrorKind)
    → (k ≡ kind.OutOfMemory) ⊎ IsAmong k (refusals_of words) → k ≢ kind.OutOfMemory
    → IsAmong k (refusals_of words)
among words k has other = elim has [ inl is ↦ absurd (other is) | inr is ↦ is ]

-- a text that was asked for tells of no want of memory
shown_other : (k : ErrorKind) → IsShownKind k → k ≢ kind.OutOfMemory
shown_other k shown = λ is. elim shown [ inl help ↦ cc (is, help) | inr version ↦ cc (is, version) ]

-- what is told of words at an error of clap: they say no command, and it has its reason
pub told_reason : (words : List ByteList) (k : ErrorKind) (f : WordsFault)
    → (is_taken words ≡ true → k ≡ kind.OutOfMemory)
    → (k ≡ kind.OutOfMemory) ⊎ IsAmong k (refusals_of words) → IsToldBy k f
    → (command_of words ≡ None) × (f ≢ fault.OutOfMemory) × HasReason words f
told_reason words k (fault.Shown text) passes has told =
    let other = shown_other k told in (
      told_none words (command_of words) refl k passes other,
      (λ is. cc),
      (k, among words k has other, told),
    )
told_reason words k (fault.RefusedBy text) passes has told = (
  told_none words (command_of words) refl k passes told.0,
  (λ is. cc),
  (k, among words k has told.0, told.1),
)
told_reason words k fault.Refused passes has told = absurd told
told_reason words k fault.OutOfMemory passes has told = absurd told

-- the same of an answer
pub told_all : (words : List ByteList) (k : ErrorKind) (o : Option WordsFault)
    → (is_taken words ≡ true → k ≡ kind.OutOfMemory)
    → (k ≡ kind.OutOfMemory) ⊎ IsAmong k (refusals_of words) → IfSome o (IsToldBy k)
    → IfSome o (λ f. (command_of words ≡ None) × (f ≢ fault.OutOfMemory) × HasReason words f)
told_all words k None passes has told = tt
told_all words k (Some f) passes has told = told_reason words k f passes has told
