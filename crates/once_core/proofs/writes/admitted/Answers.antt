use Rattle.std.proofs.Common.{◌≡◌, ◌∷◌, [], ◌++◌, drop, ◌+◌, List, sym, ap, subst, ◌∙◌}
use Rattle.shard_versions.specs.declared.entry.Entry.{Entry}
use Rattle.shard_versions.specs.Deliveries.{admits_kind, admitted}
use Rattle.once_core.proofs.WrittenLemmas.{admitted_more, admitted_less, admitted_all}
use Rattle.once_core.proofs.writes.admitted.Goals.{then-is_admitted+in_ok-copy+in_ok-push, else-is_admitted}
use Rattle.once_core.proofs.writes.admitted.Goals as goal

pub loop-entry-preserved : goal.loop-entry-preserved
loop-entry-preserved c =
    let history : List Entry = c.args.history.now in
    let step : List Entry = c.args.step.now in
    let at = c.loop-entry.entry-index in
    let entry : Entry = c.entry-item.result in
    let kept : List Entry = c.loop-entry.kept in
    let Keeps : List Entry → Type 0 = λ ks. admitted history step ≡ ks ++ admitted (history ++ ks) (drop (at + 1) step) in
    let tested : admits_kind (history ++ kept) entry.kind ≡ c.is_admitted.result =
    ap (λ (ks : List Entry). admits_kind (history ++ ks) entry.kind) (sym c.as_slice.ensures) ∙ sym c.is_admitted.ensures in
    elim c.if-is_admitted.branch [
      | then-is_admitted+in_ok-copy+in_ok-push w ↦
          let grown : c.if-is_admitted.kept ≡ kept ++ entry ∷ [] =
          w.kept-is ∙ w.in_ok-push.ensures.ok ∙ ap (λ (e : Entry). kept ++ e ∷ []) w.in_ok-copy.ensures in
          subst Keeps (sym grown)
          (admitted_more history kept step at entry c.loop-entry-test.true c.entry-item.is c.loop-entry.invariant (tested ∙ w.if-is_admitted.true))
      | else-is_admitted w ↦ subst Keeps (sym w.kept-is)
          (admitted_less history kept step at entry c.loop-entry-test.true c.entry-item.is c.loop-entry.invariant (tested ∙ w.if-is_admitted.false))
    ]

pub returns : goal.returns
returns c = admitted_all c.args.history.now c.loop-entry.kept c.args.step.now c.loop-entry.entry-index c.loop-entry-test.false c.loop-entry.invariant
