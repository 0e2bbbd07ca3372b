use Rattle.std.proofs.Common.{◌≡◌, ◌<◌, List, ℕ, length, get_or, arith, sym, ap, ◌∙◌}
use Rattle.std.proofs.lemmas.List.{take_more_same}
use Rattle.topic_book.proofs.alike.same_names.Goals as goal

pub loop-i-preserved : goal.loop-i-preserved
loop-i-preserved c =
    let same : c.index-left-i.result ≡ c.index-right-i.result = c.same_text.ensures.0 c.if-not-same_text.false in
    take_more_same c.as_slice-left.result.now c.as_slice-right.result.now c.loop-i.i c.index-left-i.result
    (omega arith)
    (omega (arith, ap length c.as_slice-left.ensures, ap length c.as_slice-right.ensures, c.if-len.false, c.len.ensures, c.len-2.ensures))
    c.loop-i.invariant
    (sym c.index-left-i.is ∙ (same ∙ (c.index-right-i.is
    ∙ ap (get_or c.as_slice-right.result.now c.loop-i.i) (sym same))))
