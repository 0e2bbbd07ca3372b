use Rattle.std.proofs.Common.{◌≡◌, length, sym, ap, subst, ◌∙◌, arith}
use Rattle.std.specs.Bool.{Decides}
use Rattle.std.specs.Prelude.{IfNone, IfSome}
use Rattle.tuple_values.specs.Document.{ByteList}
use Rattle.topic_book.specs.Fitness.{shards_of}
use Rattle.once_core.specs.Allowed.{AreReached}
use Rattle.exchange_rules.specs.Bindings.{book_seen}
use Rattle.exchange_rules.specs.Rows.{Layout}
use Rattle.site_laws.specs.SiteCells.{histories_in}
use Rattle.case_items.specs.Stores.{IsBoundNowhere, ShowsAll}
use Rattle.case_items.proofs.StoreLemmas.{counted-decided, not-nowhere}
use Rattle.case_items.proofs.storing.may_store_over.Goals as goal

pub returns-in_default-clause-exact : goal.returns-in_default-clause-exact
returns-in_default-clause-exact g c =
    let l = g.T.Turns.layout c.args.site.now in
    let w = g.T.Turns.writer c.source_of.new.site in
    let key = c.args.key.now in
    not-nowhere l.names (histories_in l.names w.seen) key c.args.upto.now
    (subst (λ o. IfNone o ((src : ByteList) → ¬ (IsBoundNowhere key src (book_seen l w))))
    c.in_default.is c.in_ok-src.ensures.absent)

pub returns-clause-exact : goal.returns-clause-exact
returns-clause-exact g c =
    let l = g.T.Turns.layout c.args.site.now in
    let early = g.T.Turns.writer c.source_of.new.site in
    let late = g.T.Turns.writer c.cut_of.new.site in
    let key = c.args.key.now in
    let src = c.in-Some.src in
    let found = subst (λ o. IfSome o (λ s. IsBoundNowhere key s (book_seen l early)))
    c.in-Some.is c.in_ok-src.ensures.found in
    let book = subst (λ (x : Layout). book_seen x late ≡ book_seen x early)
    c.in_ok-src.ensures.layout c.in_ok-cut.ensures.book in
    let whole = subst (λ (x : Layout). ShowsAll x.names late.seen src c.in_ok-cut.cut)
    c.in_ok-src.ensures.layout c.in_ok-cut.ensures.whole in
    let shards : c.shards_of-shards.result ≡ shards_of l.names src =
    c.shards_of-shards.ensures
    ∙ (ap (λ n. shards_of n c.as_str.result.now)
    (c.names.ensures.names ∙ ap (λ (x : Layout). x.names) c.in_ok-src.ensures.layout)
    ∙ ap (shards_of l.names) c.as_str.ensures) in
    let many = c.len.ensures in
    let same = c.if-len-from.false in
    let wide = c.from.ensures in
    let counted : length c.args.upto.now ≡ shards_of l.names src =
    omega (arith, many, same, wide, shards) in
    let hs = histories_in l.names late.seen in
    let reached = subst (λ u. Decides c.are_reached.result (AreReached l.names hs src u))
    c.as_slice.ensures (c.are_reached.ensures l.names late.seen src whole shards) in
    counted-decided l.names hs key src c.args.upto.now c.are_reached.result
    (subst (IsBoundNowhere key src) (sym book) found) counted reached
