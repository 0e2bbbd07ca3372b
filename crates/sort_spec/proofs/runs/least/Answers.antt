use Rattle.std.proofs.Common.{sym, ◌∙◌, arith}
use Rattle.sort_spec.specs.Runs.{parts_in}
use Rattle.sort_spec.specs.Terms.{less}
use Rattle.sort_spec.proofs.RunLemmas.{foremost_one, foremost_new, foremost_stays}
use Rattle.sort_spec.proofs.TermLemmas.{less_is_weak}
use Rattle.sort_spec.proofs.runs.least.Goals.{then-is_less, else-is_less}
use Rattle.sort_spec.proofs.runs.least.Goals as goal

pub loop-i-init : goal.loop-i-init
loop-i-init g c = record {
  foremost =
      foremost_one (less c.args.terms.now)
      (parts_in g.T.Lends.doc (g.S.Ascends.to_come c.args.terms.now)) c.args.runs.now
      c.requires.some;
  within = omega arith;
}

pub loop-i-preserved : goal.loop-i-preserved
loop-i-preserved g c =
    let terms = c.args.terms.now in
    let parts = parts_in g.T.Lends.doc (g.S.Ascends.to_come terms) in
    elim c.if-is_less.branch [
      | then-is_less w ↦
          rw w.best-is (record {
            foremost =
                foremost_new (less terms) (less_is_weak terms) parts
                c.args.runs.now c.loop-i.i c.loop-i.best c.index-runs-i.result
                c.index-runs-best.result c.loop-i-test.true c.loop-i.invariant.within
                (sym c.is_less.ensures ∙ w.if-is_less.true) c.loop-i.invariant.foremost;
            within = omega arith;
          })
      | else-is_less w ↦
          rw w.best-is (record {
            foremost =
                foremost_stays (less terms) parts
                c.args.runs.now c.loop-i.i c.loop-i.best c.index-runs-i.result
                c.index-runs-best.result c.loop-i-test.true c.loop-i.invariant.within
                (sym c.is_less.ensures ∙ w.if-is_less.false) c.loop-i.invariant.foremost;
            within = let h = c.loop-i.invariant.within in omega arith;
          })
    ]
