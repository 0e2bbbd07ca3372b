use Rattle.std.proofs.Common.{◌≡◌, drop}
use Rattle.std.specs.Prelude.{string_bytes}
use Rattle.expr_check.specs.Faults.{sort_text, term_text}
use Rattle.expr_check.proofs.TextLemmas.{texts_after}
use Rattle.expr_check.proofs.texts.sort_text.Given as goal

-- the terms to come stand behind those so far
abbrev pub invariant-loop-term : goal.invariant-loop-term
invariant-loop-term l =
    sort_text l.sort
    ≡ texts_after term_text l.first (string_bytes l.out) (drop l.term-index l.term-items)
