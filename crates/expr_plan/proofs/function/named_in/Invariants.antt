use Rattle.std.proofs.Common.{◌≡◌, drop}
use Rattle.std.specs.List.{find}
use Rattle.std.specs.Str.{bytes_eq}
use Rattle.expr_plan.specs.Functions.{name_of}
use Rattle.expr_plan.proofs.function.named_in.Given as goal

-- the first of the name is among those to come
abbrev pub invariant-loop-function : goal.invariant-loop-function
invariant-loop-function l =
    find (λ f. bytes_eq (name_of f) l.name) l.functions
    ≡ find (λ f. bytes_eq (name_of f) l.name) (drop l.function-index l.functions)
