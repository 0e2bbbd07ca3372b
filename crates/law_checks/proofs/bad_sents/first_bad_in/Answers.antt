use Rattle.std.proofs.Common.{length, arith, ◌≡◌, ◌+◌, ◌∙◌, ltb, take, drop, refl, ap, sym}
use Rattle.shard_versions.specs.Histories.{History, has_mark}
use Rattle.law_checks.proofs.SentLemmas.{mark-behind, told-none}
use Rattle.law_checks.proofs.FirstLemmas.{first-here, first-on, first-end, sent-more}
use Rattle.law_checks.proofs.bad_sents.first_bad_in.Goals as goal

pub loop-at-init : goal.loop-at-init
loop-at-init c = record {
  sent = told-none c.none-sent.result c.none-sent.ensures;
  good = λ hs cell same p lt. absurd (omega arith);
}

pub returns-then-is_bad : goal.returns-then-is_bad
returns-then-is_bad c = λ hs cell same.
    let h = c.args.history.now in
    let at = c.loop-at.at in
    let marked : ltb (at + 1) (length c.settled-closed.result.now) ≡ has_mark (drop (at + 1) h) =
    ap (λ (s : History). ltb (at + 1) (length s)) c.settled-closed.ensures ∙ sym (mark-behind (at + 1) h) in
    first-here c.args.names.now hs cell h at c.index-history-at.result c.loop-at-test.true c.index-history-at.is
    (rw c.if-is_bad.true at (c.is_bad.ensures hs cell (take at h) (drop (at + 1) h) same c.loop-at.invariant.sent marked))
    (c.loop-at.invariant.good hs cell same)

pub loop-at-preserved : goal.loop-at-preserved
loop-at-preserved c =
    let h = c.args.history.now in
    let at = c.loop-at.at in
    let marked : ltb (at + 1) (length c.settled-closed.result.now) ≡ has_mark (drop (at + 1) h) =
    ap (λ (s : History). ltb (at + 1) (length s)) c.settled-closed.ensures ∙ sym (mark-behind (at + 1) h) in
    record {
      sent = sent-more c.tell.new.sent h at c.index-history-at.result c.loop-at-test.true c.index-history-at.is
          (c.in_ok-tell.ensures (take at h) c.index-history-at.result refl c.loop-at.invariant.sent);
      good = λ hs cell same.
          first-on c.args.names.now hs cell h at c.index-history-at.result c.loop-at-test.true c.index-history-at.is
          (rw c.if-is_bad.false at (c.is_bad.ensures hs cell (take at h) (drop (at + 1) h) same c.loop-at.invariant.sent marked))
          (c.loop-at.invariant.good hs cell same);
    }

pub returns : goal.returns
returns c = λ hs cell same.
    first-end c.args.names.now hs cell c.args.history.now c.loop-at.at c.loop-at-test.false (c.loop-at.invariant.good hs cell same)
