use Rattle.std.proofs.Common.{◌∙◌, List, ap, sym, subst}
use Rattle.tuple_values.specs.Document.{ByteList}
use Rattle.expr_types.specs.ExprTree.{expr_tree}
use Rattle.expr_types.specs.Lists.{list_of}
use Rattle.expr_types.specs.declared.expr.Expr.{Expr}
use Rattle.expr_check.specs.Fields.{HaveOnly}
use Rattle.expr_check.specs.Walk.{fields_of}
use Rattle.expr_check.proofs.FieldLemmas.{within_of}
use Rattle.expr_check.proofs.checked.Checked.fields.Goals as goal

pub returns-clause-value : goal.returns-clause-value
returns-clause-value c =
    c.self.invariant.named ∙ ap (λ (e : Expr). fields_of (expr_tree e)) c.self.view_is

pub returns-clause-within : goal.returns-clause-within
returns-clause-within c = λ docs.
    let t = expr_tree c.args.self.now in
    subst (λ (names : List ByteList). HaveOnly names (list_of docs t))
    (sym (c.self.invariant.named ∙ ap (λ (e : Expr). fields_of (expr_tree e)) c.self.view_is))
    (within_of docs t)
