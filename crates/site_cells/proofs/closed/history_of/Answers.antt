use Rattle.std.proofs.Common.{◌≡◌, IfOk, sym, ap, ◌∙◌, subst}
use Rattle.exchange_rules.specs.Cells.{history_in}
use Rattle.exchange_rules.proofs.StepLemmas.{history_in-log_of}
use Rattle.site_cells.specs.Values.{log_in}
use Rattle.site_cells.proofs.CellLemmas.{history_in-log_of_book}
use Rattle.site_cells.proofs.closed.history_of.Goals as goal

pub returns-in-Shard : goal.returns-in-Shard
returns-in-Shard c =
    subst (λ h. IfOk c.into_entries.result (λ history. history ≡ h))
    (sym (ap (λ v. history_in (log_in v)) c.in-Shard.is
    ∙ history_in-log_of c.in-Shard.shard.entries)) c.into_entries.ensures

pub returns : goal.returns
returns c =
    c.new.ensures
    ∙ sym (ap (λ v. history_in (log_in v)) c.in-Book.is
    ∙ history_in-log_of_book c.in-Book.field-0.entries)
