use Rattle.std.proofs.Common.{arith}
use Rattle.std.specs.Prelude.{None, Some}
use Rattle.root_runs.proofs.StaysLemmas.{stays_self, stays_then}
use Rattle.stream_handler.proofs.ConnectionLemmas.{ends_when_full, goes_at_start, ends_of_memory, leads_to}
use Rattle.stream_handler.proofs.connection.serve_all.Goals as goal

pub loop-init : goal.loop-init
loop-init g c = record {
  goes = goes_at_start c.new-exchanges.ensures.items c.requires;
  stays = stays_self c.args.site.now;
}

pub returns-then-is_err-clause-served : goal.returns-then-is_err-clause-served
returns-then-is_err-clause-served g c =
    ends_of_memory c.loop.invariant.goes c.loop-test.true c.reserve.ensures.items

pub returns-in-Some-clause-served : goal.returns-in-Some-clause-served
returns-in-Some-clause-served g c =
    leads_to _ _ c.serve_one-one.result (Some c.in-Some.end) c.loop.invariant.goes c.loop-test.true
    c.reserve.ensures.items c.serve_one-one.ensures.served c.serve_one-one.ensures.stays.layout
    c.keep.ensures.items c.keep.ensures.end c.in-Some.is

pub loop-preserved : goal.loop-preserved
loop-preserved g c = record {
  goes = leads_to _ _ c.serve_one-one.result None c.loop.invariant.goes c.loop-test.true
      c.reserve.ensures.items c.serve_one-one.ensures.served c.serve_one-one.ensures.stays.layout
      c.keep.ensures.items c.keep.ensures.end c.in_default.is;
  stays = stays_then c.loop.invariant.stays c.serve_one-one.ensures.stays;
}

pub returns-clause-served : goal.returns-clause-served
returns-clause-served g c = ends_when_full c.loop.invariant.goes (omega arith)
