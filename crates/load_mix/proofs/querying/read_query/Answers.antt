use Rattle.std.proofs.Common.{Err, subst}
use Rattle.expr_check.specs.Views.{tree_of}
use Rattle.expr_check.specs.declared.roots.Roots.TheVariants.{Plain}
use Rattle.expr_text.specs.Reading.{expression_of, IsTold}
use Rattle.load_mix.proofs.QueryLemmas.{query-faultless, query-is, query-plain, query_text}
use Rattle.load_mix.proofs.querying.read_query.Goals as goal

pub returns-in-Ok-clause-tree : goal.returns-in-Ok-clause-tree
returns-in-Ok-clause-tree c =
    query-is c.args.names.now c.requires (tree_of c.in-Ok.checked) c.in-Ok.ensures

pub returns-in-Ok-clause-plain : goal.returns-in-Ok-clause-plain
returns-in-Ok-clause-plain c =
    query-plain c.args.names.now c.requires (tree_of c.in-Ok.checked) c.in-Ok.ensures

pub unreachable-requires : goal.unreachable-requires
unreachable-requires c =
    query-faultless c.args.names.now c.requires c.in-Err-Told.field-0-0
    (subst (λ fault. IsTold (expression_of Plain c.args.names.now query_text) (Err fault))
    c.in-Err-Told.field-0-is c.in-Err-Told.ensures)
