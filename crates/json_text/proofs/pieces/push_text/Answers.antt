use Rattle.std.proofs.Common.{◌≡◌, ◌++◌, OnOk, List, ℕ, true, sym, ◌∙◌, subst, ap}
use Rattle.std.specs.List.{list_all}
use Rattle.json_text.specs.Plain.{is_plain_byte}
use Rattle.json_text.proofs.PlainLemmas.{string_text-plain}
use Rattle.json_text.proofs.pieces.push_text.Goals as goal

pub returns-then-is_plain : goal.returns-then-is_plain
returns-then-is_plain c =
    let plain : list_all is_plain_byte c.args.text.now ≡ true =
    ap (list_all is_plain_byte) (sym c.as_bytes.ensures.value) ∙ sym c.is_plain.ensures
    ∙ c.if-is_plain.true in
    let Adds : List ℕ → Type 0 =
    λ t. OnOk c.push_plain.result (c.push_plain.new.out ≡ c.args.out.now ++ t) in
    subst Adds (sym (string_text-plain c.args.text.now plain)) c.push_plain.ensures
