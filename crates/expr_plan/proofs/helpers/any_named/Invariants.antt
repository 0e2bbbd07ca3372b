use Rattle.std.proofs.Common.{◌≡◌, drop}
use Rattle.std.specs.List.{list_any}
use Rattle.tuple_values.specs.Document.{is_named}
use Rattle.expr_plan.proofs.helpers.any_named.Given as goal

-- one is named where one of those to come is
abbrev pub invariant-loop-name : goal.invariant-loop-name
invariant-loop-name l =
    list_any (λ name. is_named name l.names) l.made
    ≡ list_any (λ name. is_named name l.names) (drop l.name-index l.made)
