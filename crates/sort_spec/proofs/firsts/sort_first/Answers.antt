use Rattle.std.proofs.Common.{◌≡◌, [], ◌∷◌, map, take, ap, sym, ◌∙◌}
use Rattle.std.proofs.lemmas.List.{map-append}
use Rattle.sort_spec.specs.Sorting.{ins_sort}
use Rattle.sort_spec.specs.Terms.{less}
use Rattle.sort_spec.proofs.FirstLemmas.{first_of_more, first_again}
use Rattle.sort_spec.proofs.TermLemmas.{less_is_weak}
use Rattle.sort_spec.proofs.firsts.sort_first.Goals as goal
use Rattle.sort_spec.proofs.firsts.sort_first.Goals.{then-len-room-2+in_ok-held-2, else-len-room-2}

pub loop-item-preserved : goal.loop-item-preserved
loop-item-preserved g c =
    let by = c.args.by.now in
    let lt = less by in
    let weak = less_is_weak by in
    let most = c.args.most in
    let doc = g.T.Lends.doc in
    let held = c.if-len-room-2.held.items in
    let yielded = c.loop-item.yielded in
    let item = c.in-Some.item in
    let same : take most (ins_sort lt (map doc held)) ≡ take most (ins_sort lt (map doc yielded)) =
    elim c.if-len-room-2.branch [
      | then-len-room-2+in_ok-held-2 w ↦
          rw (w.held-is, w.in_ok-held-2.ensures)
          (first_again lt weak most (map doc c.loop-item.held.items) ∙ c.loop-item.invariant)
      | else-len-room-2 w ↦ rw w.held-is c.loop-item.invariant
    ] in
    ap (λ l. take most (ins_sort lt l))
    (ap (map doc) c.in_ok-push.ensures.items ∙ map-append doc held (item ∷ []))
    ∙ first_of_more lt weak most (map doc held) (map doc yielded) (doc item ∷ []) same
    ∙ ap (λ l. take most (ins_sort lt l)) (sym (map-append doc yielded (item ∷ [])))
