use Rattle.std.proofs.Common.{rules}
use Rattle.std.proofs.lemmas.Fn.{always_returns_same}
use Rattle.tuple_values.specs.Document.{bytes_cmp}
use Rattle.tuple_values.proofs.SearchLemmas.{searched}
use Rattle.tuple_values.proofs.tuple.place_of.Goals as goal

pub returns : goal.returns
returns c =
    let facts = c.binary_search_by.ensures in
    let by_name = facts.position (λ f. bytes_cmp f.name c.args.name.now) (always_returns_same _ _ _ (λ a r g called. search rules)) in
    let found = searched c.args.name.now _ c.requires _ facts.bound by_name in
    record { bound = facts.bound; found = found.found; absent = found.absent }
