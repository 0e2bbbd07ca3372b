use Rattle.std.proofs.Common.{◌≡◌, ◌+◌, take, sym, subst, ◌∙◌}
use Rattle.tuple_values.specs.Document.{ByteList, is_named}
use Rattle.sort_spec.proofs.NameSetLemmas.{same_names-push, first_names-next}
use Rattle.sort_spec.proofs.names.NameSet.of.Goals as goal

pub loop-name-preserved : goal.loop-name-preserved
loop-name-preserved c =
    let list = c.as_slice-name-items.result.now in
    let i = c.loop-name.name-index in
    let word = c.as_str.result.now in
    let before =
    subst (λ names. (name : ByteList) → is_named name c.loop-name.set ≡ is_named name (take i names))
    (sym c.as_slice-name-items.ensures) c.loop-name.invariant in
    subst
    (λ names. (name : ByteList) → is_named name c.add.new.self ≡ is_named name (take (i + 1) names))
    c.as_slice-name-items.ensures
    (subst (λ names. (name : ByteList) → is_named name c.add.new.self ≡ is_named name names)
    (sym
    (first_names-next list i c.name-item.result word c.loop-name-test.true
    (c.as_str.ensures ∙ c.name-item.is)))
    (same_names-push c.loop-name.set c.add.new.self word (take i list) before
    c.in_ok-add.ensures.added))
