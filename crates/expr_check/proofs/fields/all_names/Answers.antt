use Rattle.std.proofs.Common.{List, [], ◌++◌, ◌∙◌, ap}
use Rattle.std.proofs.lemmas.List.{flat_map_more}
use Rattle.tuple_values.specs.Document.{ByteList}
use Rattle.expr_check.proofs.fields.all_names.Goals as goal

pub loop-names-preserved : goal.loop-names-preserved
loop-names-preserved c =
    c.in_ok-append.ensures
    ∙ ap (λ l. l ++ c.in-Some.names) c.loop-names.invariant
    ∙ flat_map_more (λ (names : List ByteList). names) [] c.loop-names.yielded c.in-Some.names
