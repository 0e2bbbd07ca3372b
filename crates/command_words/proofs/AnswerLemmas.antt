-- What follows of an answer from its being right.
use Rattle.std.proofs.Common.{◌≡◌, ◌≢◌, Bool, true, false, Result, Ok, Err, IfOk, IfErr, IsErrOf}
use Rattle.std.proofs.Common.{List, [], ◌∷◌}
use Rattle.std.proofs.Common.{Option, Some, None, refl, sym, ap, subst, ◌∙◌, if◌then◌else◌}
use Rattle.std.specs.Prelude.{IsSome, is_some, option_and_then, length, ◌==◌}
use Rattle.tuple_values.specs.Document.{ByteList}
use Rattle.command_words.specs.Answering.{Answers, IsPlainFault}
use Rattle.command_words.specs.Program.{HasReason}
use Rattle.command_words.specs.Commands.{command_of, names_in, IsRanged}
use Rattle.command_words.specs.Words.{name_of}
use Rattle.command_words.specs.Grammar.{IsCommand, IsReadable}
use Rattle.tuple_values.specs.declared.names.NameShards.{NameShards}
use Rattle.command_words.specs.Names.{go_together, each_of, behind, names_of, some_of}
use Rattle.command_words.specs.Names.{some_names_of, AreFit}
use Rattle.command_words.specs.declared.command.Command.{Command}
use Rattle.command_words.specs.declared.fault.WordsFault.{WordsFault}
use Rattle.command_words.specs.declared.fault.WordsFault.TheVariants.{Shown, RefusedBy, Refused}
use Rattle.command_words.specs.declared.fault.WordsFault.TheVariants.{OutOfMemory}
use Rattle.command_words.proofs.CommandLemmas.{joined-nil, command_looks, command_none}
use Rattle.command_words.proofs.CommandLemmas.{names_of_fit, command_of_fit, command_of_ranged}
use Rattle.command_words.proofs.WordLemmas.{guard_some}

-- words that say something look like it
some_readable : (words : List ByteList) (o : Option Command) → command_of words ≡ o
    → IsSome (command_of words) → IsReadable words
some_readable words None is some =
    let none : IsSome (let o : Option Command = None in o) = subst IsSome is some in
    absurd (cc)
some_readable words (Some command) is some = (command, command_looks words command is)

-- what is there under a condition is all that it gives
guard_is : (b : Bool) (names : List NameShards)
    → true ≡ is_some (if b then Some names else None)
    → (if b then Some names else None) ≡ Some names
guard_is true names e = refl
guard_is false names e = absurd (cc)

-- the words look like the command that is answered
pub answers_ok : (words : List ByteList) (result : Result Command WordsFault)
    → Answers (command_of words) result → IfOk result (λ command. IsCommand words command)
answers_ok words (Ok command) a = command_looks words command a
answers_ok words (Err fault) a = tt

-- its collections may be named together
pub answers_fit : (words : List ByteList) (result : Result Command WordsFault)
    → Answers (command_of words) result → IfOk result (λ command. AreFit (names_in command))
answers_fit words (Ok command) a = command_of_fit words command a
answers_fit words (Err fault) a = tt

-- its settings are ranged
pub answers_ranged : (words : List ByteList) (result : Result Command WordsFault)
    → Answers (command_of words) result → IfOk result IsRanged
answers_ranged words (Ok command) a = command_of_ranged words command a
answers_ranged words (Err fault) a = tt

-- words that are refused look like no command
pub answers_refused : (words : List ByteList) (result : Result Command WordsFault)
    → Answers (command_of words) result → IsErrOf result Refused → IsReadable words → ⊥
answers_refused words (Ok command) a is = absurd (cc)
answers_refused words (Err (Shown text)) a is = absurd (cc)
answers_refused words (Err (RefusedBy text)) a is = absurd (cc)
answers_refused words (Err Refused) a is = command_none words a
answers_refused words (Err OutOfMemory) a is = absurd (cc)

-- nor do words of which something is told
pub answers_told : (words : List ByteList) (result : Result Command WordsFault)
    → Answers (command_of words) result
    → IfErr result (λ fault. fault ≢ OutOfMemory → IsReadable words → ⊥)
answers_told words (Ok command) a = tt
answers_told words (Err (Shown text)) a = λ other. command_none words a
answers_told words (Err (RefusedBy text)) a = λ other. command_none words a
answers_told words (Err Refused) a = λ other. command_none words a
answers_told words (Err OutOfMemory) a = λ other. absurd (other refl)

-- what is told of words that say nothing
pub told_answers : (words : List ByteList) (fault : WordsFault) → command_of words ≡ None
    → Answers (command_of words) (Err fault)
told_answers words (Shown text) none = none
told_answers words (RefusedBy text) none = none
told_answers words Refused none = none
told_answers words OutOfMemory none = tt

-- a fault without a text needs no reason
pub plain_reason : (words : List ByteList) (result : Result Command WordsFault)
    → IfErr result IsPlainFault → IfErr result (HasReason words)
plain_reason words (Ok command) plain = tt
plain_reason words (Err (Shown text)) plain = absurd plain
plain_reason words (Err (RefusedBy text)) plain = absurd plain
plain_reason words (Err Refused) plain = tt
plain_reason words (Err OutOfMemory) plain = tt

-- the words look like a command where memory is wanting
pub answers_memory : (words : List ByteList) (result : Result Command WordsFault)
    → (IsErrOf result OutOfMemory → IsSome (command_of words))
    → IsErrOf result OutOfMemory → IsReadable words
answers_memory words result memory is = some_readable words (command_of words) refl (memory is)

-- the names are those of each word, where these go together
pub names_answered : (words : List ByteList) (result : Result (List NameShards) WordsFault)
    → true ≡ is_some (names_of words) → Answers (each_of words) result
    → Answers (names_of words) result
names_answered words (Ok names) some a =
    let e : names_of words ≡ behind [] (Some names) = ap (behind []) a in
    e ∙ guard_is (go_together names) names (some ∙ ap is_some e)
names_answered words (Err (Shown text)) some a = ap (behind []) a
names_answered words (Err (RefusedBy text)) some a = ap (behind []) a
names_answered words (Err Refused) some a = ap (behind []) a
names_answered words (Err OutOfMemory) some a = tt

-- and they may be named together
pub names_fit : (words : List ByteList) (result : Result (List NameShards) WordsFault)
    → Answers (names_of words) result → IfOk result AreFit
names_fit words (Ok names) a = names_of_fit words names a
names_fit words (Err fault) a = tt

-- what is given under a condition is no empty list unless that is given
guard_nil : (o : Option (List NameShards)) → behind [] o ≡ Some [] → o ≡ Some []
guard_nil None e = absurd (cc)
guard_nil (Some names) e = (guard_some (go_together names) (Some names) [] e).1

-- words name some collection where there is a word
names_there : (words : List ByteList) → names_of words ≡ Some [] → words ≡ []
names_there [] e = refl
names_there (word ∷ words) e =
    absurd (joined-nil (name_of word) (each_of words) (guard_nil (each_of (word ∷ words)) e))

-- there is a word where their number isn't 0
pub some_word : (words : List ByteList) → false ≡ (length words == 0) → words ≡ [] → ⊥
some_word [] some e = absurd (cc)
some_word (word ∷ words) some e = absurd (cc)

-- some collections are what words name, where there is a word
some_said : (words : List ByteList) (names : List NameShards) → (words ≡ [] → ⊥)
    → names_of words ≡ Some names → some_names_of words ≡ Some names
some_said words [] some e = absurd (some (names_there words e))
some_said words (n ∷ names) some e = ap (option_and_then some_of) e

-- an answer that names what the words do names some, where there is a word
pub some_answered : (words : List ByteList) (result : Result (List NameShards) WordsFault)
    → (words ≡ [] → ⊥) → Answers (names_of words) result → Answers (some_names_of words) result
some_answered words (Ok names) some a = some_said words names some a
some_answered words (Err (Shown text)) some a = ap (option_and_then some_of) a
some_answered words (Err (RefusedBy text)) some a = ap (option_and_then some_of) a
some_answered words (Err Refused) some a = ap (option_and_then some_of) a
some_answered words (Err OutOfMemory) some a = tt

-- by what they name
some_by : (words : List ByteList) (o : Option (List NameShards)) → names_of words ≡ o
    → (words ≡ [] → ⊥) → IsSome o → IsSome (some_names_of words)
some_by words None e some there =
    let none : IsSome (let o : Option (List NameShards) = None in o) = there in absurd (cc)
some_by words (Some names) e some there = subst IsSome (sym (some_said words names some e)) refl

-- words name some collections, where there is a word
pub some_there : (words : List ByteList) → (words ≡ [] → ⊥) → IsSome (names_of words)
    → IsSome (some_names_of words)
some_there words some there = some_by words (names_of words) refl some there
