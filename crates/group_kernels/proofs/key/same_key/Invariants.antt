use Rattle.std.proofs.Common.{◌≡◌, drop}
use Rattle.std.specs.List.{list_all}
use Rattle.std.specs.Ordering.{is_eq}
use Rattle.sort_spec.specs.Terms.{field_cmp}
use Rattle.expr_types.specs.Groups.{same_key}
use Rattle.group_kernels.proofs.key.same_key.Given as goal

-- the values so far are equal, so the other fields decide
abbrev pub invariant-loop-name : goal.invariant-loop-name
invariant-loop-name l =
    same_key l.names l.a l.b
    ≡ list_all (λ name. is_eq (field_cmp name l.a l.b)) (drop l.name-index l.name-items)
