use Rattle.std.proofs.Common.{[], ◌∷◌, ◌++◌, ap, ◌∙◌}
use Rattle.tuple_values.specs.declared.names.NameShards.{NameShards}
use Rattle.topic_book.specs.Cells.{cells_in}
use Rattle.disk_tests.proofs.of_logged_sites.two_names.Goals as goal

pub returns : goal.returns
unfolding cells_in
returns c =
    let first : NameShards = record { name = c.in_ok-of.field-0; shards = 1 } in
    let second : NameShards = record { name = c.in_ok-of-2.field-0; shards = 1 } in
    ap cells_in (c.in_ok-push-2.ensures.ok ∙ ap (λ l. l ++ second ∷ [])
    (c.in_ok-push.ensures.ok ∙ ap (λ l. l ++ first ∷ []) c.new-names.ensures))
