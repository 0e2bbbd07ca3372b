use Rattle.std.proofs.Common.{◌≡◌}
use Rattle.law_checks.proofs.SentLemmas.{over-admits}
use Rattle.law_checks.proofs.sight.Sight.admits.Goals as goal

pub returns : goal.returns
returns c =
    let view : c.self.inside.history.now ≡ c.args.self.now = cc in
    over-admits c.self.inside.sent c.self.inside.history.now c.args.self.now c.args.src.now c.args.id.now c.args.version c.is_above.result
    c.self.invariant.sent view c.is_above.ensures
