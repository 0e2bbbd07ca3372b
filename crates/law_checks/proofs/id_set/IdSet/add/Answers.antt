use Rattle.std.proofs.Common.{List, ap, ◌∙◌, not, ◌||◌, map}
use Rattle.std.specs.Prelude.{bytes_eq}
use Rattle.tuple_values.specs.Document.{ByteList, is_named}
use Rattle.law_checks.proofs.IdSetLemmas.{is_named-keys, is_named-insert}
use Rattle.law_checks.proofs.id_set.IdSet.add.Goals as goal

pub returns-clause-new : goal.returns-clause-new
returns-clause-new c =
    c.in_ok-insert.ensures.added
    ∙ ap not
    (is_named-keys (λ k. k.now) c.args.id.now c.self.inside.ids.keys
    ∙ ap (λ (names : List ByteList). is_named c.args.id.now names) c.self.view_is)

pub returns-clause-added : goal.returns-clause-added
returns-clause-added c = λ other.
    ap (λ keys. is_named other (map (λ k. k.now) keys)) c.in_ok-insert.ensures.keys
    ∙ is_named-insert (λ k. k.now) other c.args.id c.self.inside.ids.keys
    ∙ ap (λ (names : List ByteList). bytes_eq c.args.id.now other || is_named other names)
    c.self.view_is
