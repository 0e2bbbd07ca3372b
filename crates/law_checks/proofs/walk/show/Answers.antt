use Rattle.std.proofs.Common.{ap}
use Rattle.std.specs.Prelude.{option_copied}
use Rattle.law_checks.proofs.WalkLemmas.{show-new}
use Rattle.law_checks.proofs.walk.show.Goals as goal

pub returns-in_ok-push-in-Some : goal.returns-in_ok-push-in-Some
returns-in_ok-push-in-Some c =
    show-new c.args.shown.now.items c.push.new.self.items (record { version = c.args.version; document = c.in-Some.document })
    (option_copied c.args.left) c.args.new c.if-not-new.false (ap option_copied c.in-Some.is) c.in_ok-push-in-Some.ensures.items
