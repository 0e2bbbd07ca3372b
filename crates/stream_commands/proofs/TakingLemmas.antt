-- What has been taken from a source, piece by piece.
use Rattle.std.proofs.Common.{◌≡◌, ℕ, ◌+◌, ◌≤◌, List, [], ◌++◌, length, take, drop, Option, Some, None, refl, ap, sym, ◌∙◌, subst, arith, length-append, length-drop, length-take}
use Rattle.std.proofs.lemmas.List.{drop-drop, take-append-le, take_all, drop_all}
use Rattle.std.proofs.Math.Seq.{take-add}
use Rattle.std.specs.Prelude.{IfSome}
use Rattle.io_edge.specs.Edge.{GivesFront, HasEnded}
use Rattle.stream_commands.specs.Inputs.{limit, HasTaken, IsInput, IsReadWithin}

limit-is : limit ≡ 65537
unfolding limit
limit-is = refl

-- one more piece, of the first n bytes of a room
pub taken_more : (old mid new : Option (List ℕ)) (bytes room rest : List ℕ) (n : ℕ) → HasTaken old mid bytes → GivesFront mid new room n → n ≤ length room
    → HasTaken old new (bytes ++ take n (room ++ rest))
taken_more None mid new bytes room rest n h g fits = let g' : GivesFront None new room n = subst (λ m. GivesFront m new room n) h g in g'
taken_more (Some all) mid new bytes room rest n h g fits =
    let k = length bytes in
    let g' : GivesFront (Some (drop k all)) new room n = subst (λ m. GivesFront m new room n) h.2 g in
    let piece : take n (room ++ rest) ≡ take n (drop k all) = take-append-le n room rest fits ∙ g'.1 in
    let long : length (bytes ++ take n (room ++ rest)) ≡ k + n = rw piece (omega (arith, length-append bytes (take n (drop k all)), length-take n (drop k all), g'.0)) in
    let left : length (drop k all) + k ≡ length all = omega (arith, length-drop k all, h.0) in
    let same : bytes ++ take n (room ++ rest) ≡ take (k + n) all = ap (λ p. bytes ++ p) piece ∙ ap (λ b. b ++ take n (drop k all)) h.1 ∙ sym (take-add k n all) in
    rw long (omega (arith, left, g'.0), same, g'.2 ∙ ap Some (drop-drop n k all))

pub taken_all : (old mid : Option (List ℕ)) (bytes : List ℕ) → HasTaken old mid bytes → HasEnded mid → length bytes ≤ 65537
    → IsInput old mid bytes
taken_all None mid bytes h e small = tt
taken_all (Some all) mid bytes h e small =
    let e' : drop (length bytes) all ≡ [] = subst (λ m. HasEnded m) h.2 e in
    let whole : length all ≤ length bytes = omega (arith, length-drop (length bytes) all, ap length e') in
    let short : length all ≤ limit = omega (arith, limit-is, whole, small) in (
      h.1 ∙ take_all (length bytes) all whole ∙ sym (take_all limit all short),
      h.2 ∙ ap Some (e' ∙ sym (drop_all limit all short)),
    )

pub taken_full : (old mid : Option (List ℕ)) (bytes : List ℕ) → HasTaken old mid bytes → length bytes ≡ 65537
    → IsInput old mid bytes
taken_full None mid bytes h full = tt
taken_full (Some all) mid bytes h full = (
  h.1 ∙ ap (λ k. take k all) (full ∙ sym limit-is),
  h.2 ∙ ap (λ k. Some (drop k all)) (full ∙ sym limit-is),
)

-- no more than the limit was taken
pub taken_within : (old new : Option (List ℕ)) (bytes : List ℕ) → HasTaken old new bytes
    → length bytes ≤ 65537 → IfSome old (λ all. IsReadWithin all new)
taken_within None new bytes h small = tt
taken_within (Some all) new bytes h small = (bytes, h, omega (arith, limit-is, small))
