use Rattle.std.proofs.Common.{subst, sym}
use Rattle.case_items.specs.Items.{AreShown, IsShownPart}
use Rattle.case_items.proofs.PartLemmas.{each-first, part-made, part-shown}
use Rattle.case_items.proofs.items.cut_items.Goals as goal

pub loop-part-preserved : goal.loop-part-preserved
loop-part-preserved c =
    let src = c.args.src.now in
    let ps = c.as_slice-part-items.result.now in
    let i = c.loop-part.part-index in
    let p = c.part-item.result in
    let lt = c.loop-part-test.true in (
      part-made src ps i p c.loop-part.batch c.add_items.new.batch lt c.part-item.is
          c.loop-part.invariant.0 (c.in_ok-add_items.ensures.made c.if-not-branch.false),
      λ seen dest a.
          let both = part-shown c.args.names.now seen src ps i p lt c.part-item.is a in
          c.in_ok-add_items.ensures.items seen dest both.1.shown
          (c.loop-part.invariant.1 seen dest both.0),
    )

pub returns-clause-items : goal.returns-clause-items
returns-clause-items c seen dest a =
    let P = IsShownPart c.args.names.now seen c.args.src.now in
    c.loop-part.invariant.1 seen dest
    (each-first P c.loop-part.part-index c.as_slice-part-items.result.now
    (subst (AreShown c.args.names.now seen c.args.src.now) (sym c.as_slice-part-items.ensures) a))
