use Rattle.std.proofs.Common.{◌≡◌, ◌++◌, sym, ap, ◌∙◌, append-nil, subst}
use Rattle.std.specs.Prelude.{OnOk}
use Rattle.running_site.specs.Records.{inside_of}
use Rattle.running_site.proofs.record.keep.Goals as goal

pub returns-in-Some : goal.returns-in-Some
returns-in-Some g c =
    subst (λ o. OnOk c.push.result (c.push.new.self ≡ c.args.passes.now ++ inside_of o))
    (sym c.in-Some.is) c.push.ensures.ok

pub returns-in-None : goal.returns-in-None
returns-in-None g c =
    sym (ap (λ o. c.args.passes.now ++ inside_of o) c.in-None.is
    ∙ append-nil c.args.passes.now)
