use Rattle.std.proofs.Common.{◌≡◌, drop}
use Rattle.std.specs.Prelude.{string_bytes}
use Rattle.expr_check.specs.Faults.{names_text}
use Rattle.expr_check.proofs.TextLemmas.{texts_after}
use Rattle.expr_check.proofs.texts.names_text.Given as goal

-- the names to come stand behind those so far
abbrev pub invariant-loop-name : goal.invariant-loop-name
invariant-loop-name l =
    names_text l.names
    ≡ texts_after (λ name. name) l.first (string_bytes l.out) (drop l.name-index l.name-items)
