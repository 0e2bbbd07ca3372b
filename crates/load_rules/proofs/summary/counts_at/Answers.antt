use Rattle.std.proofs.Common.{[], ◌∙◌, sym, ap, option_copied}
use Rattle.once_core.proofs.CellLemmas.{got_none}
use Rattle.load_rules.proofs.WalkLemmas.{count-none}
use Rattle.load_rules.proofs.summary.counts_at.Goals as goal

pub returns-in-None-clause-counts : goal.returns-in-None-clause-counts
returns-in-None-clause-counts c =
    count-none c.none.result _ c.none.ensures
    (got_none c.args.cells.now c.args.cell [] (sym (ap option_copied c.in-None.is) ∙ c.get.ensures))
