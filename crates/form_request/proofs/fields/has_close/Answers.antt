use Rattle.std.proofs.Common.{rules, ℕ, ◌==◌, List}
use Rattle.std.specs.Prelude.{codes}
use Rattle.std.proofs.lemmas.Iterator.Search.{any_from_yields_List}
use Rattle.std.proofs.lemmas.Iterator.Splits.{YieldsList-from_slice_split}
use Rattle.httparse.specs.Grammar.{trim_ows}
use Rattle.form_request.specs.Fields.{is_word}
use Rattle.form_request.proofs.fields.has_close.Goals as goal

pub returns : goal.returns
returns c =
    any_from_yields_List (λ (item : List ℕ). is_word (trim_ows item) (codes "close")) _ _ _ c.any.ensures.ran
    (YieldsList-from_slice_split _ (λ (b : ℕ). b == 44) c.args.value.now c.split.ensures.rest
    c.split.ensures.done c.split.ensures.closure (search rules))
    (search rules)
