-- What a writer of a list has written so far.
use Rattle.std.proofs.Common.{◌≡◌, ℕ, ◌+◌, ◌<◌, List, [], ◌∷◌, ◌++◌, length, take, get_or, sym, ◌∙◌, ap, subst, append_assoc}
use Rattle.std.specs.List.{flat_map, AllByRecursion}
use Rattle.std.proofs.lemmas.List.{take_more}
use Rattle.tuple_values.specs.Document.{ByteList}
use Rattle.log_codec.proofs.CodeLemmas.{each-push, items-push}

-- so many of the items are written behind what was there, and each of them fits
pub record AreWritten {X : Type 0} (F : X → Type 0) (s : X → ByteList) (before : ByteList) (items : List X) (k : ℕ) (after : ByteList) : Type 0 where
  pub is : after ≡ before ++ flat_map s (take k items)
  pub each : AllByRecursion F (take k items)

-- one more item is written
pub written-next : {X : Type 0} (F : X → Type 0) (s : X → ByteList) (before after next : ByteList) (items : List X) (k : ℕ) (d : X)
    → AreWritten F s before items k after → k < length items → next ≡ after ++ s (get_or items k d) → F (get_or items k d)
    → AreWritten F s before items (k + 1) next
written-next {X = X} F s before after next items k d w low more fits =
    let item : X = get_or items k d in
    let longer : take (k + 1) items ≡ take k items ++ item ∷ [] = take_more items k d low in record {
      is = more ∙ ap (λ (l : ByteList). l ++ s item) w.is ∙ append_assoc before (flat_map s (take k items)) (s item)
          ∙ ap (λ (l : ByteList). before ++ l) (sym (items-push s (take k items) item)) ∙ ap (λ (l : List X). before ++ flat_map s l) (sym longer);
      each = subst (AllByRecursion F) (sym longer) (each-push F (take k items) item w.each fits);
    }
