use Rattle.std.proofs.Common.{subst}
use Rattle.std.specs.Prelude.{Err}
use Rattle.expr_check.specs.declared.roots.Roots.TheVariants.{All}
use Rattle.expr_check.specs.Views.{tree_of}
use Rattle.expr_text.specs.Reading.{expression_of, IsTold}
use Rattle.load_mix.proofs.TextLemmas.{load-sound, load-told, load_text}
use Rattle.load_mix.proofs.topic.load_update.Goals as goal

pub returns-in-Ok : goal.returns-in-Ok
returns-in-Ok c =
    load-told c.args.names.now (tree_of c.in-Ok.checked) c.requires c.in-Ok.ensures

pub unreachable-requires : goal.unreachable-requires
unreachable-requires c =
    load-sound c.args.names.now c.in-Err-Told.field-0-0 c.requires
    (subst (λ f. IsTold (expression_of All c.args.names.now load_text) (Err f))
    c.in-Err-Told.field-0-is c.in-Err-Told.ensures)
