-- What is read one after another.
use Rattle.std.proofs.Common.{◌≡◌, ℕ, List, [], ◌∷◌, ◌++◌, sym, ◌∙◌, ap, append_assoc}
use Rattle.tuple_values.specs.Document.{ByteList}
use Rattle.log_codec.specs.Codes.{HasNone, IsAtFront, IsReadInOneWay}

-- the first element of a list, and 0 where there is none
abbrev pub head_of : List ℕ → ℕ
head_of [] = 0
head_of (x ∷ xs) = x

-- what follows the first element
abbrev pub tail_of : List ℕ → List ℕ
tail_of [] = []
tail_of (x ∷ xs) = xs

module _ {X Y : Type 0} (F : X → Type 0) (G : Y → Type 0) (s : X → ByteList) (t : Y → ByteList) where
  -- a pair of which both fit
  abbrev pub BothFit : X × Y → Type 0
  BothFit p = F p.0 × G p.1

  -- both, one after another
  abbrev pub both : X × Y → ByteList
  both p = s p.0 ++ t p.1

  -- both were read
  pub pair-read : (bytes rest after : ByteList) (a : X) (b : Y) → IsAtFront F s bytes a rest → IsAtFront G t rest b after → IsAtFront BothFit both bytes (a, b) after
  pair-read bytes rest after a b first second = record {
    is = first.is ∙ ap (λ (l : ByteList). s a ++ l) second.is ∙ sym (append_assoc (s a) (t b) after);
    fits = (first.fits, second.fits);
  }

  -- where the first isn't there, there are not both
  pub pair-no_first : (bytes : ByteList) → HasNone F s bytes → HasNone BothFit both bytes
  pair-no_first bytes none = λ p after fits same. none p.0 (t p.1 ++ after) fits.0 (same ∙ append_assoc (s p.0) (t p.1) after)

  -- where the second doesn't follow the first, there are not both
  pub pair-no_second : IsReadInOneWay F s → (bytes rest : ByteList) (a : X) → IsAtFront F s bytes a rest → HasNone G t rest → HasNone BothFit both bytes
  pair-no_second one bytes rest a first none = λ p after fits same.
      let found = one a p.0 rest (t p.1 ++ after) first.fits fits.0 (sym first.is ∙ same ∙ append_assoc (s p.0) (t p.1) after) in
      none p.1 after fits.1 found.1

  -- both are read in one way
  pub pair-one : IsReadInOneWay F s → IsReadInOneWay G t → IsReadInOneWay BothFit both
  pair-one one other a b x y fa fb same =
      let all : s a.0 ++ (t a.1 ++ x) ≡ s b.0 ++ (t b.1 ++ y) = sym (append_assoc (s a.0) (t a.1) x) ∙ same ∙ append_assoc (s b.0) (t b.1) y in
      let first = one a.0 b.0 (t a.1 ++ x) (t b.1 ++ y) fa.0 fb.0 all in
      let second = other a.1 b.1 x y fa.1 fb.1 first.1 in
      (ap (λ (n : X). (n, a.1)) first.0 ∙ ap (λ (n : Y). (b.0, n)) second.0, second.1)
