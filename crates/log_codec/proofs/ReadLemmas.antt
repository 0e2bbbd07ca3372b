-- What a reader of a list has found so far.
use Rattle.std.proofs.Common.{◌≡◌, ℕ, ◌+◌, ◌-◌, List, [], ◌∷◌, ◌++◌, length, drop, sym, ◌∙◌, ap, arith, append_assoc, length-append}
use Rattle.std.specs.List.{flat_map}
use Rattle.std.proofs.lemmas.List.{drop_at}
use Rattle.tuple_values.specs.Document.{ByteList}
use Rattle.log_codec.specs.Codes.{AreSoMany, IsAtFront}
use Rattle.log_codec.proofs.CodeLemmas.{each-push, items-push}

-- one more item was read
pub items-next : {X : Type 0} (F : X → Type 0) (s : X → ByteList) (bytes rest after : ByteList) (xs : List X) (x : X) (k : ℕ)
    → IsAtFront (AreSoMany F k) (flat_map s) bytes xs rest → IsAtFront F s rest x after
    → IsAtFront (AreSoMany F (k + 1)) (flat_map s) bytes (xs ++ x ∷ []) after
items-next F s bytes rest after xs x k read next = record {
  is = read.is ∙ ap (λ (l : ByteList). flat_map s xs ++ l) next.is ∙ sym (append_assoc (flat_map s xs) (s x) after) ∙ ap (λ (l : ByteList). l ++ after) (sym (items-push s xs x));
  fits = record { many = omega (arith, length-append xs (x ∷ []), read.fits.many); each = each-push F xs x read.fits.each next.fits };
}

-- what is behind the front is what is left
pub rest-left : (bytes front rest : ByteList) → bytes ≡ front ++ rest → drop (length bytes - length rest) bytes ≡ rest
rest-left bytes front rest is =
    ap (λ (l : ByteList). drop (length bytes - length rest) l) is ∙ drop_at front rest (length bytes - length rest) (omega (arith, ap length is, length-append front rest))
