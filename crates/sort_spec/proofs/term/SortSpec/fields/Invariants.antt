use Rattle.std.proofs.Common.{◌≡◌, map, take}
use Rattle.sort_spec.proofs.term.SortSpec.fields.Given as goal

-- the fields of the terms so far
abbrev pub invariant-loop-term : goal.invariant-loop-term
invariant-loop-term l = l.names ≡ map (λ t. t.field) (take l.term-index l.term-items)
