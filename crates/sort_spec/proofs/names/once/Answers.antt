use Rattle.std.proofs.Common.{◌≡◌, [], ◌∷◌, ◌++◌, ◌+◌, take, sym, subst, ap, ◌∙◌}
use Rattle.tuple_values.specs.Document.{ByteList}
use Rattle.sort_spec.proofs.NameSetLemmas.{IsOnceOf, once_of-new, once_of-known, first_names-next}
use Rattle.sort_spec.proofs.names.once.Goals as goal
use Rattle.sort_spec.proofs.names.once.Goals.{then-branch+in_ok-copy+in_ok-push, else-branch}

pub loop-name-preserved : goal.loop-name-preserved
loop-name-preserved c =
    let names = c.as_slice-name-items.result.now in
    let i = c.loop-name.name-index in
    let seen = c.loop-name.seen in
    let more = c.add.new.self in
    let word = c.as_str.result.now in
    let before =
    subst (λ written. IsOnceOf (take i written) c.loop-name.list seen)
    (sym c.as_slice-name-items.ensures) c.loop-name.invariant in
    subst (λ written. IsOnceOf (take (i + 1) written) c.if-branch.list more)
    c.as_slice-name-items.ensures
    (subst (λ written. IsOnceOf written c.if-branch.list more)
    (sym
    (first_names-next names i c.name-item.result word c.loop-name-test.true
    (c.as_str.ensures ∙ c.name-item.is)))
    (elim c.if-branch.branch [
      | then-branch+in_ok-copy+in_ok-push w ↦
          let copied : w.in_ok-copy.field-0 ≡ word = w.in_ok-copy.ensures ∙ sym c.as_str.ensures in
          let added =
          w.list-is ∙ w.in_ok-push.ensures.ok
          ∙ ap (λ (name : ByteList). c.loop-name.list ++ name ∷ []) copied in
          subst (λ list. IsOnceOf (take i names ++ word ∷ []) list more) (sym added)
          (once_of-new (take i names) c.loop-name.list seen more word before
          c.in_ok-add.ensures.added (sym w.if-branch.true ∙ c.in_ok-add.ensures.new))
      | else-branch w ↦
          subst (λ list. IsOnceOf (take i names ++ word ∷ []) list more) (sym w.list-is)
          (once_of-known (take i names) c.loop-name.list seen more word before
          c.in_ok-add.ensures.added (sym w.if-branch.false ∙ c.in_ok-add.ensures.new))
    ]))
