use Rattle.std.proofs.Common.{◌≡◌, ◌<◌, length, arith}
use Rattle.expr_reader.specs.Views.{arg_tree}
use Rattle.expr_plan.proofs.WordsLemmas.{plain_found, plain_passed, plain_skipped}
use Rattle.expr_plan.proofs.words.plain_at.Goals as goal
use Rattle.expr_plan.proofs.words.plain_at.Goals.{in-Some-2, in-None}

pub returns-in-Some : goal.returns-in-Some
returns-in-Some c =
    let lt : c.loop-k.k < length c.args.args.now = omega arith in
    let none : c.loop-k.left ≡ 0 = omega arith in
    plain_found c.args.args.now c.args.place c.loop-k.k c.loop-k.left (arg_tree c.get.result.now)
    c.in-Some.word.now lt (c.get.ensures.value _) c.in-Some.ensures none c.loop-k.invariant

pub loop-k-preserved : goal.loop-k-preserved
loop-k-preserved c =
    let lt : c.loop-k.k < length c.args.args.now = omega arith in
    let args = c.args.args.now in
    let a = arg_tree c.get.result.now in
    elim c.match-plain_of.branch [
      | in-Some-2 w ↦
          let some : 0 < c.loop-k.left = omega (arith, w.if-left-eq0.false) in
          rw w.left-is (plain_passed args c.args.place c.loop-k.k c.loop-k.left a
          w.in-Some.word.now lt (c.get.ensures.value _) w.in-Some.ensures some c.loop-k.invariant)
      | in-None w ↦
          rw w.left-is (plain_skipped args c.args.place c.loop-k.k c.loop-k.left a lt
          (c.get.ensures.value _) w.in-None.ensures c.loop-k.invariant)
    ]
