use Rattle.std.proofs.Common.{sym, ap, ◌∙◌}
use Rattle.merge_join.specs.Runs.{is_behind}
use Rattle.merge_join.proofs.RunLemmas.{past_run, equal_run}
use Rattle.merge_join.proofs.join.let_go.Goals as goal

pub returns-then-is_behind-clause-out : goal.returns-then-is_behind-clause-out
returns-then-is_behind-clause-out c = λ outer place lefts rights ascends kept.
    let terms = c.args.terms.now in
    let left = c.args.left.now in
    let same = c.is_behind.ensures ∙ ap (is_behind terms left) c.deref.ensures.value in
    past_run outer terms place left lefts c.args.run.now.items c.clear.new.self.items rights
    (sym same ∙ c.if-is_behind.true) c.clear.ensures.items ascends kept

pub returns-else-is_behind-clause-equal : goal.returns-else-is_behind-clause-equal
returns-else-is_behind-clause-equal c = λ lefts kept.
    let terms = c.args.terms.now in
    let left = c.args.left.now in
    let same = c.is_behind.ensures ∙ ap (is_behind terms left) c.deref.ensures.value in
    equal_run terms left lefts c.args.run.now.items (sym same ∙ c.if-is_behind.false) kept
