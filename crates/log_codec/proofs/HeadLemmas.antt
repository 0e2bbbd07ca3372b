-- What follows the front of an entry.
use Rattle.std.proofs.Common.{◌≡◌, ℕ, ◌∷◌, ◌++◌, sym, ◌∙◌, ap, append_assoc}
use Rattle.tuple_values.specs.Document.{ByteList}
use Rattle.log_codec.specs.Codes.{spelled_number, IsNumber}
use Rattle.log_codec.specs.Heads.{spelled_head}
use Rattle.log_codec.specs.declared.head.Head.{Head}
use Rattle.log_codec.proofs.CodeLemmas.{number-one}
use Rattle.log_codec.proofs.PairLemmas.{head_of, tail_of}

module _ {X : Type 0} (kind_of by_of : X → ℕ) (parts : X → ByteList) where
  -- a byte, the number of a writer, and parts
  abbrev pub headed : X → ByteList
  headed x = kind_of x ∷ (spelled_number (by_of x) ++ parts x)

  -- a whole at one place with a front has that front
  pub headed-same : (tail rest : ByteList) (head : Head) (x : X) → IsNumber head.by → IsNumber (by_of x) → spelled_head head ++ tail ≡ headed x ++ rest
      → (kind_of x ≡ head.kind) × (by_of x ≡ head.by) × (tail ≡ parts x ++ rest)
  headed-same tail rest head x low high same =
      let tails : spelled_number head.by ++ tail ≡ spelled_number (by_of x) ++ (parts x ++ rest) =
      ap tail_of same ∙ append_assoc (spelled_number (by_of x)) (parts x) rest in
      let numbers = number-one head.by (by_of x) tail (parts x ++ rest) low high tails in
      (sym (ap head_of same), sym numbers.0, numbers.1)

  -- two wholes at one front have one byte, one writer, and their parts at one front
  pub headed-one : (a b : X) (x y : ByteList) → IsNumber (by_of a) → IsNumber (by_of b) → headed a ++ x ≡ headed b ++ y
      → (kind_of a ≡ kind_of b) × (by_of a ≡ by_of b) × (parts a ++ x ≡ parts b ++ y)
  headed-one a b x y low high same =
      let front : Head = record { kind = kind_of a; by = by_of a } in
      let found = headed-same (parts a ++ x) y front b low high (ap (λ (l : ByteList). kind_of a ∷ l) (sym (append_assoc (spelled_number (by_of a)) (parts a) x)) ∙ same) in
      (sym found.0, sym found.1, found.2)
