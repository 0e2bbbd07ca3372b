use Rattle.std.proofs.Common.{◌≡◌, filter, ap, ◌∙◌}
use Rattle.std.proofs.lemmas.List.{take_all}
use Rattle.tuple_values.specs.Document.{is_named}
use Rattle.tuple_values.specs.declared.value.Field.{Field}
use Rattle.tuple_values.proofs.FieldLemmas.{doc-filter, filter_rises}
use Rattle.tuple_values.proofs.value.Tuple.cut.Goals as goal
use Rattle.tuple_values.proofs.value.Tuple.cut.Goals.{After-loop-field}

kept : (c : After-loop-field) → c.loop-field.fields.items ≡ filter (λ f. is_named f.name c.args.names.now) c.self.inside.fields.items
kept c = c.loop-field.invariant ∙ ap (filter (λ (f : Field). is_named f.name c.args.names.now)) (take_all _ _ c.loop-field-test.false ∙ c.deref-field-items.ensures.value)

pub invariant_of-result : goal.invariant_of-result
invariant_of-result c = rw (kept c) (filter_rises (λ n. is_named n c.args.names.now) _ c.self.invariant)

pub returns : goal.returns
returns c = rw (kept c, ← c.self.view_is) (doc-filter (λ n. is_named n c.args.names.now) _)
