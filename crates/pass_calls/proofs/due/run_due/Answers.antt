use Rattle.std.proofs.Common.{refl}
use Rattle.std.specs.Prelude.{Some}
use Rattle.pass_calls.proofs.due.run_due.Goals as goal

pub returns-clause-turn : goal.returns-clause-turn
returns-clause-turn g c = record {
  now = c.now_ms.result;
  told = c.now_ms.ensures;
  claim = Some c.in-Some.claim;
  between = g.D.Daemons.shown c.claim_due.new.self;
  claimed = c.in-Some.ensures.told;
  carried = (
    refl,
    record {
      run = c.run_claim-read.result;
      ran = c.run_claim-read.ensures.run;
      now = c.now_ms-2.result;
      told = c.now_ms-2.ensures;
      finished = c.finish.ensures.told;
    },
  );
}
