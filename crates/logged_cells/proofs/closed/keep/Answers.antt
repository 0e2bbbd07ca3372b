use Rattle.std.proofs.Common.{◌≡◌, ◌++◌, sym, ap, ◌∙◌, append-nil, subst}
use Rattle.std.specs.Prelude.{OnOk, option_to_list}
use Rattle.logged_cells.proofs.closed.keep.Goals as goal

pub returns-in-Some : goal.returns-in-Some
returns-in-Some g c =
    subst (λ o. OnOk c.push.result (c.push.new.self ≡ c.args.logs.now ++ option_to_list o))
    (sym c.in-Some.is) c.push.ensures.ok

pub returns-in-None : goal.returns-in-None
returns-in-None g c =
    sym (ap (λ o. c.args.logs.now ++ option_to_list o) c.in-None.is ∙ append-nil c.args.logs.now)
