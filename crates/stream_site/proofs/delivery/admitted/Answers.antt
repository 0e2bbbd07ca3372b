use Rattle.std.proofs.Common.{true, false, ◌∙◌}
use Rattle.stream_site.proofs.AdmitLemmas.{admits_as, admitted_none, kept_more, kept_same}
use Rattle.stream_site.proofs.delivery.admitted.Goals as goal

pub loop-entry-init : goal.loop-entry-init
loop-entry-init c = c.new-kept.ensures ∙ admitted_none c.args.shard.now.entries

pub loop-entry-preserved-in-Continue-branch-2 : goal.loop-entry-preserved-in-Continue-branch-2
loop-entry-preserved-in-Continue-branch-2 c =
    c.in_ok-push.ensures.ok
    ∙ kept_more c.args.shard.now.entries c.loop-entry.kept c.loop-entry.yielded c.in-Some.entry
    c.loop-entry.invariant (admits_as c.args.shard.now.entries c.loop-entry.kept
    c.as_slice.result.now c.in-Some.entry c.in_ok-is_admitted.field-0 true c.as_slice.ensures
    c.in_ok-is_admitted.ensures c.if-branch.true)

pub loop-entry-preserved : goal.loop-entry-preserved
loop-entry-preserved c =
    kept_same c.args.shard.now.entries c.loop-entry.kept c.loop-entry.yielded c.in-Some.entry
    c.loop-entry.invariant (admits_as c.args.shard.now.entries c.loop-entry.kept
    c.as_slice.result.now c.in-Some.entry c.in_ok-is_admitted.field-0 false c.as_slice.ensures
    c.in_ok-is_admitted.ensures c.if-branch.false)
