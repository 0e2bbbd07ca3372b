use Rattle.std.proofs.Common.{◌≡◌, drop}
use Rattle.std.specs.Prelude.{string_bytes}
use Rattle.topic_book.specs.Kept.{names_text}
use Rattle.topic_book.proofs.KeptLemmas.{texts_after}
use Rattle.topic_book.proofs.kept.names_text.Given as goal

-- the names to come stand behind those so far
abbrev pub invariant-loop-name : goal.invariant-loop-name
invariant-loop-name l =
    names_text l.names
    ≡ texts_after (λ name. name) l.first (string_bytes l.out) (drop l.name-index l.name-items)
