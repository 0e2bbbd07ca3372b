use Rattle.std.proofs.Common.{◌<◌, sym, ap, subst, ◌∙◌}
use Rattle.std.specs.Prelude.{IfSome}
use Rattle.std.specs.List.{AllByRecursion}
use Rattle.topic_book.specs.Fitness.{shards_of}
use Rattle.exchange_rules.specs.Following.{Writer}
use Rattle.exchange_rules.specs.Rows.{Layout}
use Rattle.site_laws.specs.Duties.{IsItem}
use Rattle.case_items.specs.Items.{AreShown}
use Rattle.case_items.proofs.current.current_items.Goals as goal

pub cut_items-requires : goal.cut_items-requires
cut_items-requires g c =
    let l = g.T.Turns.layout c.args.site.now in
    subst (λ n. 0 < shards_of n c.args.src.now)
    (sym (c.names.ensures.names
    ∙ ap (λ (x : Layout). x.names) (c.leave.ensures.layout ∙ c.cut_of-cut.ensures.layout)))
    c.requires

pub returns-clause-items : goal.returns-clause-items
returns-clause-items g c dest =
    let l = g.T.Turns.layout c.args.site.now in
    let w = g.T.Turns.writer c.leave.new.self in
    let src = c.args.src.now in
    let cut = c.in_ok-cut.field-0 in
    let names = c.names.ensures.names
    ∙ ap (λ (x : Layout). x.names) (c.leave.ensures.layout ∙ c.cut_of-cut.ensures.layout) in
    let shown = subst (λ (x : Writer). AreShown l.names x.seen src cut)
    (sym c.leave.ensures.writer) c.in_ok-cut.ensures.shown in
    let items = subst (λ n. AreShown n w.seen src cut
    → IfSome c.in_ok-items.field-0 (AllByRecursion (IsItem n w.seen dest src)))
    names (c.in_ok-items.ensures.items w.seen dest) shown in
    let made = subst (λ o. IfSome o (AllByRecursion (IsItem l.names w.seen dest src)))
    c.in-Some.is items in
    c.in_ok-wanted.ensures l.names w.seen dest src made
