use Rattle.std.proofs.Common.{◌≡◌, [], ◌∷◌, ap, rules}
use Rattle.exchange_rules.specs.Cells.{book_in}
use Rattle.case_items.proofs.CutLemmas.{cut-shown, cut-whole, cut-past}
use Rattle.case_items.proofs.source.cut_of.Goals as goal

pub returns-in-Ok-clause-shown : goal.returns-in-Ok-clause-shown
returns-in-Ok-clause-shown g c =
    let one : c.push.new.self ≡ c.args.collection.now ∷ [] = search rules in
    cut-shown (g.T.Turns.writer c.args.site.now) (g.T.Turns.writer c.take_cut_over.new.site)
    (g.T.Turns.layout c.args.site.now).names c.args.collection.now c.push.new.self _ one
    c.in-Ok.ensures.course

pub returns-in-Ok-clause-whole : goal.returns-in-Ok-clause-whole
returns-in-Ok-clause-whole g c =
    let one : c.push.new.self ≡ c.args.collection.now ∷ [] = search rules in
    cut-whole (g.T.Turns.writer c.args.site.now) (g.T.Turns.writer c.take_cut_over.new.site)
    (g.T.Turns.layout c.args.site.now).names c.args.collection.now c.push.new.self _ one
    c.in-Ok.ensures.course

pub returns-in-Ok-clause-book : goal.returns-in-Ok-clause-book
returns-in-Ok-clause-book g c =
    let one : c.push.new.self ≡ c.args.collection.now ∷ [] = search rules in
    ap book_in (cut-past (g.T.Turns.writer c.args.site.now)
    (g.T.Turns.writer c.take_cut_over.new.site)
    (g.T.Turns.layout c.args.site.now).names c.args.collection.now c.push.new.self _ one
    c.in-Ok.ensures.course)
