use Rattle.std.proofs.Common.{◌≡◌, ◌∙◌, Some, sym}
use Rattle.shard_versions.specs.Indexes.{greater}
use Rattle.law_checks.specs.Numbers.{number_at}
use Rattle.law_checks.proofs.NumberLemmas.{raised, greater-first, greater-more}
use Rattle.law_checks.proofs.greatest.Greatest.raise.Goals.{in-Some, in-None}
use Rattle.law_checks.proofs.greatest.Greatest.raise.Goals as goal

pub returns : goal.returns
returns c =
    let before = number_at c.args.self.now c.args.first.now c.args.second.now c.args.third in
    let now : Some c.match-at.greatest ≡ greater c.args.number before =
    elim c.match-at.branch [
      | in-Some w ↦ greater-more c.args.number c.match-at.greatest w.in-Some.before before (sym c.at.ensures ∙ w.in-Some.is) (w.greatest-is ∙ w.max-greatest.ensures)
      | in-None w ↦ greater-first c.args.number c.match-at.greatest before (sym c.at.ensures ∙ w.in-None.is) w.greatest-is
    ] in
    raised c.args.self.now (record { numbers = c.insert.new.self }) c.args.first c.args.second c.args.third c.args.number
    c.match-at.greatest c.in_ok-insert.ensures.updates now
