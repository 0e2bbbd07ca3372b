use Rattle.std.proofs.Common.{◌≡◌, suc, ◌+◌, ◌<◌, ◌≤◌, drop, length, refl, sym, ap, subst, ◌∙◌, arith}
use Rattle.exchange_rules.specs.Calls.{Ended}
use Rattle.exchange_rules.specs.Following.{Reaches}
use Rattle.exchange_rules.specs.Updates.{commit_round_course, commits_before, commits_course}
use Rattle.exchange_rules.proofs.ReachLemmas.{reaches_none}
use Rattle.stream_site.proofs.TestLemmas.{handed_on}
use Rattle.update_sink.proofs.CommitLemmas.{commit_ended, commit_last, committed, left_below, left_none, left_over, left_reached}
use Rattle.update_sink.proofs.commit.commit_each.Goals as goal
use Rattle.update_sink.proofs.commit.commit_each.Goals.{then-is_reached+in_ok-commit_all_over, else-is_reached}

pub loop-k-init : goal.loop-k-init
loop-k-init g c =
    let l = g.T.Turns.layout c.args.site.now in
    record {
      same = refl;
      home = refl;
      reached = reaches_none (g.T.Turns.writer c.args.site.now)
          (commit_round_course l c.args.dest.now c.args.batch_size c.args.summaries
          c.args.tuples.now);
    }

pub returns-in_err-count-clause-course : goal.returns-in_err-count-clause-course
returns-in_err-count-clause-course g c =
    let l = g.T.Turns.layout c.args.site.now in
    let w = g.T.Turns.writer c.args.site.now in
    let course = commit_round_course l c.args.dest.now c.args.batch_size c.args.summaries
    c.args.tuples.now in
    handed_on (Ended w (g.T.Turns.writer c.loop-k.site) course) _ _ c.from_residual.ensures.1 (
      left_over l c.args.dest.now c.args.batch_size c.args.summaries c.loop-k.count
          (drop c.loop-k.k c.args.tuples.now),
      c.loop-k.invariant.reached,
    )

pub returns-in_err-commit_all_over-clause-course
    : goal.returns-in_err-commit_all_over-clause-course
returns-in_err-commit_all_over-clause-course g c =
    let l = g.T.Turns.layout c.args.site.now in
    let w = g.T.Turns.writer c.args.site.now in
    let mid = g.T.Turns.writer c.loop-k.site in
    let new = g.T.Turns.writer c.commit_all_over.new.site in
    let size = c.args.batch_size in
    let summaries = c.args.summaries in
    let docs = c.args.tuples.now in
    let course = commit_round_course l c.args.dest.now size summaries docs in
    let n = commits_before size c.loop-k.count summaries (drop c.loop-k.k docs) in
    handed_on (Ended w new course) _ _
    c.from_residual-in_err-commit_all_over.ensures.1
    (commit_ended w mid new course l (g.T.Turns.layout c.loop-k.site) c.args.dest.now
    c.loop-k.invariant.same n _ c.loop-k.invariant.reached
    c.in_err-commit_all_over.ensures.course)

pub loop-k-preserved : goal.loop-k-preserved
loop-k-preserved g c =
    let l = g.T.Turns.layout c.args.site.now in
    let w = g.T.Turns.writer c.args.site.now in
    let mid = g.T.Turns.writer c.loop-k.site in
    let size = c.args.batch_size in
    let summaries = c.args.summaries in
    let docs = c.args.tuples.now in
    let dest = c.args.dest.now in
    let course = commit_round_course l dest size summaries docs in
    let k = c.loop-k.k in
    let doc = c.get.result.now in
    let lt : k < length docs = omega arith in
    let total = c.in_ok-count.ensures
    ∙ ap (λ x. c.loop-k.count + x) c.weight.ensures in
    let n = c.loop-k.count in
    elim c.if-is_reached.branch [
      | then-is_reached+in_ok-commit_all_over a ↦ (
          let new = g.T.Turns.writer a.commit_all_over.new.site in
          let left = left_reached size n c.in_ok-count.count summaries docs k doc lt
          c.get.ensures.value total (sym c.is_reached.ensures ∙ a.if-is_reached.true) in
          let next = commits_before size 0 summaries (drop (k + 1) docs) in
          let made = committed w mid new course l (g.T.Turns.layout c.loop-k.site) dest
          c.loop-k.invariant.same (suc next)
          (subst (λ m. Reaches w mid course (commits_course l dest (suc m))) left
          c.loop-k.invariant.reached) a.in_ok-commit_all_over.ensures.course in
          record {
            same = subst (λ s. g.T.Turns.layout s ≡ l) (sym a.site-is)
                (a.in_ok-commit_all_over.ensures.layout ∙ c.loop-k.invariant.same);
            home = subst (λ s. g.T.Turns.home s ≡ g.T.Turns.home c.args.site.now) (sym a.site-is)
                (a.in_ok-commit_all_over.ensures.home ∙ c.loop-k.invariant.home);
            reached = subst (λ s. Reaches w (g.T.Turns.writer s) course
                (left_over l dest size summaries c.if-is_reached.count (drop (k + 1) docs)))
                (sym a.site-is)
                (subst (λ m. Reaches w new course
                (left_over l dest size summaries m (drop (k + 1) docs))) (sym a.count-is) made);
          })
      | else-is_reached a ↦ (
          let left = left_below size n c.in_ok-count.count summaries docs k doc lt
          c.get.ensures.value total (sym c.is_reached.ensures ∙ a.if-is_reached.false) in
          record {
            same = subst (λ s. g.T.Turns.layout s ≡ l) (sym a.site-is) c.loop-k.invariant.same;
            home = subst (λ s. g.T.Turns.home s ≡ g.T.Turns.home c.args.site.now) (sym a.site-is)
                c.loop-k.invariant.home;
            reached = subst (λ s. Reaches w (g.T.Turns.writer s) course
                (left_over l dest size summaries c.if-is_reached.count (drop (k + 1) docs)))
                (sym a.site-is)
                (subst (λ m. Reaches w mid course
                (left_over l dest size summaries m (drop (k + 1) docs))) (sym a.count-is)
                (subst (λ m. Reaches w mid course (commits_course l dest (suc m))) left
                c.loop-k.invariant.reached));
          })
    ]

pub returns-clause-course : goal.returns-clause-course
returns-clause-course g c =
    let l = g.T.Turns.layout c.args.site.now in
    let w = g.T.Turns.writer c.args.site.now in
    let mid = g.T.Turns.writer c.loop-k.site in
    let new = g.T.Turns.writer c.commit_all_over-2.new.site in
    let size = c.args.batch_size in
    let docs = c.args.tuples.now in
    let all : length docs ≤ c.loop-k.k = omega arith in
    let none = left_none size c.loop-k.count c.args.summaries docs c.loop-k.k all in
    commit_last w mid new (commit_round_course l c.args.dest.now size c.args.summaries docs) l
    (g.T.Turns.layout c.loop-k.site) c.args.dest.now c.loop-k.invariant.same
    c.commit_all_over-2.result
    (subst (λ n. Reaches w mid (commit_round_course l c.args.dest.now size c.args.summaries docs)
    (commits_course l c.args.dest.now (suc n))) none c.loop-k.invariant.reached)
    c.commit_all_over-2.ensures.course
