use Rattle.std.proofs.Common.{map, take, ap, sym, ◌∙◌}
use Rattle.std.proofs.lemmas.List.{take-map}
use Rattle.sort_spec.proofs.firsts.cut_sorted.Goals as goal

pub returns : goal.returns
returns g c =
    let doc = g.T.Lends.doc in
    let most = c.args.most in
    ap (map doc) c.truncate.ensures.items
    ∙ sym (take-map doc most c.in_ok-sorted.sorted.items)
    ∙ ap (take most) c.in_ok-sorted.ensures
