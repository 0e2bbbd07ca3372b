use Rattle.std.proofs.Common.{rules, ◌≡◌, ◌∙◌}
use Rattle.sort_spec.specs.Rows.{row_in}
use Rattle.sort_spec.proofs.KeyedLemmas.{row_less, row_less-for}
use Rattle.sort_spec.proofs.runs.is_less.Goals as goal

pub returns : goal.returns
returns g c =
    let doc = g.T.Lends.doc in
    let terms = c.args.terms.now in
    let a = c.args.a.now in
    let b = c.args.b.now in
    let is : c.is_lt.result ≡ row_less terms (row_in doc a) (row_in doc b) = search rules in
    let of = c.requires.a in
    let other = c.requires.b in
    is ∙ (λ j. row_less terms (of j) (other j)) ∙ row_less-for terms (doc a.item) (doc b.item)
