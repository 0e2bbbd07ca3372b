-- Names of collections.
use Rattle.std.proofs.Common.{◌≡◌, ◌≢◌, Bool, true, false, sym, ◌∙◌, bytes_eq}
use Rattle.std.proofs.lemmas.Slice.Eq.{bytes_eq-Decides}
use Rattle.tuple_values.specs.Document.{ByteList}

-- names that were compared as different are different
pub apart : (src dest left right : ByteList) (answer : Bool) → left ≡ src → right ≡ dest
    → answer ≡ bytes_eq left right → answer ≡ false → src ≢ dest
apart src dest left right answer a b c f e =
    let same : bytes_eq left right ≡ true = (bytes_eq-Decides left right).1 (a ∙ (e ∙ sym b)) in
    let p : true ≡ false = sym same ∙ (sym c ∙ f) in absurd (cc)
