use Rattle.std.proofs.Common.{◌<◌, length, ◌∙◌, ap, nat_eq, arith}
use Rattle.std.proofs.lemmas.Grind.{common_steps}
use Rattle.expr_plan.proofs.WordsLemmas.{is_field-by_length}
use Rattle.expr_plan.proofs.words.is_field.Goals as goal

pub returns-then-not-is_empty : goal.returns-then-not-is_empty
returns-then-not-is_empty c =
    let some : 0 < length c.args.text.now = grind (arith, common_steps) in
    ap (λ n. nat_eq n (length c.args.text.now)) c.field_end.ensures.end
    ∙ is_field-by_length c.args.text.now some
