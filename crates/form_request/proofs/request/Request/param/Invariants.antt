use Rattle.std.proofs.Common.{◌≡◌, drop}
use Rattle.form_request.specs.Params.{first_value}
use Rattle.form_request.proofs.request.Request.param.Given as goal

-- the first of the name is the first of the name among those to come
abbrev pub invariant-loop-param : goal.invariant-loop-param
invariant-loop-param l = first_value l.name l.param-items ≡ first_value l.name (drop l.param-index l.param-items)
