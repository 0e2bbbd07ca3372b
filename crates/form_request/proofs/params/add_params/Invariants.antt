use Rattle.std.proofs.Common.{◌≡◌, ◌++◌}
use Rattle.form_urlencoded.specs.Parse.{raw_pairs_left}
use Rattle.form_request.specs.Params.{params_of, params_of_pairs}
use Rattle.form_request.proofs.params.add_params.Given as goal

-- those that are added with those that are left are those of the text
abbrev pub invariant-loop-name : goal.invariant-loop-name
invariant-loop-name l =
    l.params ++ params_of_pairs (raw_pairs_left l.pairs) ≡ l.fn.params ++ params_of l.text
