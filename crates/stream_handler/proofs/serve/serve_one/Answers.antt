use Rattle.std.proofs.Common.{ap, refl, ◌∙◌}
use Rattle.exchange_rules.specs.Rows.{Layout}
use Rattle.stream_handler.proofs.OneLemmas.{one_end_of, over_none}
use Rattle.stream_handler.proofs.serve.serve_one.Goals as goal

pub returns-in-Ok-clause-served : goal.returns-in-Ok-clause-served
returns-in-Ok-clause-served g c =
    one_end_of _ _ _ c.names.result.now _ _ _ _ _ c.in-Ok.request _ _ _ c.reply_to.result
    c.names.ensures.names c.take_record_over.ensures.stays.layout c.take_record_over.ensures.rest
    (c.in-Ok.ensures _) c.reply_to.ensures.replied

pub returns-in-Err-clause-served : goal.returns-in-Err-clause-served
returns-in-Err-clause-served g c =
    over_none _ _ c.names.result.now _ _ _ _ c.in-Err.end
    (c.names.ensures.names ∙ ap (λ (l : Layout). l.names) c.take_record_over.ensures.stays.layout)
    c.take_record_over.ensures.rest refl (c.in-Err.ensures _)
