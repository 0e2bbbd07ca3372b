use Rattle.std.proofs.Common.{List, ap, ◌∙◌}
use Rattle.tuple_values.specs.Document.{ByteList, is_named}
use Rattle.sort_spec.proofs.NameSetLemmas.{is_named-keys}
use Rattle.sort_spec.proofs.names.NameSet.has.Goals as goal

pub returns : goal.returns
returns c =
    c.contains.ensures
    ∙ is_named-keys (λ k. k.now) c.args.name.now c.self.inside.names.keys
    ∙ ap (λ (names : List ByteList). is_named c.args.name.now names) c.self.view_is
