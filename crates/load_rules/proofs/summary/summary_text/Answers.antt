use Rattle.std.proofs.Common.{◌≡◌, append_assoc, ◌∙◌, ap, string_bytes}
use Rattle.load_rules.specs.Summary.{summary}
use Rattle.load_rules.proofs.SummaryLemmas.{summary-counted}
use Rattle.load_rules.proofs.summary.summary_text.Goals as goal

pub returns : goal.returns
returns c =
    let written : string_bytes c.in_ok-text.text
    ≡ summary c.in_ok-src.src.documents c.in_ok-src.src.writes c.in_ok-dest.dest.documents
    c.in_ok-dest.dest.amounts c.in_ok-dest.dest.revisions =
    c.in_ok-text.ensures.ok ∙ simp append_assoc in
    c.from_vec.ensures ∙ ap (λ v. v.items) c.into_bytes.ensures.value ∙ written
    ∙ summary-counted c.args.histories.now c.in_ok-src.src c.in_ok-dest.dest c.in_ok-src.ensures
    c.in_ok-dest.ensures
