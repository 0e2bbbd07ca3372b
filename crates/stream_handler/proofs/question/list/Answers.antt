use Rattle.std.proofs.Common.{ap}
use Rattle.std.specs.Prelude.{None}
use Rattle.std.proofs.lemmas.Result.{err_from_is_err_and}
use Rattle.stream_handler.specs.declared.outcome.Outcome.TheVariants.{ResultSet}
use Rattle.stream_handler.proofs.BoardLemmas.{list_broken}
use Rattle.stream_handler.proofs.question.list.Goals as goal

pub returns-in_err-docs : goal.returns-in_err-docs
returns-in_err-docs g c =
    let r = err_from_is_err_and c.from_residual.result c.from_residual.ensures.1 in
    list_broken _ _ r.0 c.from_residual.result r.1 c.in_err-docs.ensures.told
    c.in_err-docs.ensures.counted

pub returns : goal.returns
returns g c = record {
  docs = c.in_ok-docs.docs;
  outcome = ap (λ docs. ResultSet docs None) c.listed.ensures;
  told = c.in_ok-docs.ensures.told;
  counted = c.in_ok-docs.ensures.counted;
}
