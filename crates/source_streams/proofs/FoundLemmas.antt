-- What is found of the documents to come.
use Rattle.std.proofs.Common.{◌≡◌, ℕ, ◌+◌, ◌<◌, List, [], ◌∷◌, ◌++◌, Bool, true, false, length}
use Rattle.std.proofs.Common.{get_or, drop, map, filter, refl, ap, sym, ◌∙◌, append_assoc}
use Rattle.std.proofs.lemmas.List.{at_drop_more}
use Rattle.tuple_values.specs.Document.{Doc}

-- a document that is found stands behind those found before
pub found_more : (test : Doc → Bool) (found : List Doc) (docs : List (ℕ × Doc)) (k : ℕ) (d : Doc)
    → k < length docs → ((e : ℕ × Doc) → d ≡ (get_or docs k e).1) → test d ≡ true
    → found ++ filter test (map (λ p. p.1) (drop k docs))
    ≡ (found ++ d ∷ []) ++ filter test (map (λ p. p.1) (drop (k + 1) docs))
found_more test found docs k d lt is passes =
    ap (λ rest. found ++ rest)
    (at_drop_more (λ rest. filter test (map (λ p. p.1) rest)) docs k (0, d) lt
    ∙ rw (← is (0, d), passes) refl)
    ∙ sym (append_assoc found (d ∷ []) (filter test (map (λ p. p.1) (drop (k + 1) docs))))

-- one that isn't found leaves those to come
pub found_less : (test : Doc → Bool) (found : List Doc) (docs : List (ℕ × Doc)) (k : ℕ) (d : Doc)
    → k < length docs → ((e : ℕ × Doc) → d ≡ (get_or docs k e).1) → test d ≡ false
    → found ++ filter test (map (λ p. p.1) (drop k docs))
    ≡ found ++ filter test (map (λ p. p.1) (drop (k + 1) docs))
found_less test found docs k d lt is fails =
    ap (λ rest. found ++ rest)
    (at_drop_more (λ rest. filter test (map (λ p. p.1) rest)) docs k (0, d) lt
    ∙ rw (← is (0, d), fails) refl)

module _ {X Y Z : Type 0} (test : Z → Bool) (f : Y → Z) (g : X → Y) where
  -- what is made of an element and passes stands behind what was kept before
  pub kept_more : (kept : List Z) (xs : List X) (k : ℕ) (x : X) → k < length xs
      → x ≡ get_or xs k x → test (f (g x)) ≡ true
      → kept ++ filter test (map f (map g (drop k xs)))
      ≡ (kept ++ f (g x) ∷ []) ++ filter test (map f (map g (drop (k + 1) xs)))
  kept_more kept xs k x lt is passes =
      ap (λ rest. kept ++ rest)
      (at_drop_more (λ rest. filter test (map f (map g rest))) xs k x lt
      ∙ rw (← is, passes) refl)
      ∙ sym (append_assoc kept (f (g x) ∷ []) (filter test (map f (map g (drop (k + 1) xs)))))

  -- what doesn't pass leaves what is to come
  pub kept_less : (kept : List Z) (xs : List X) (k : ℕ) (x : X) → k < length xs
      → x ≡ get_or xs k x → test (f (g x)) ≡ false
      → kept ++ filter test (map f (map g (drop k xs)))
      ≡ kept ++ filter test (map f (map g (drop (k + 1) xs)))
  kept_less kept xs k x lt is fails =
      ap (λ rest. kept ++ rest)
      (at_drop_more (λ rest. filter test (map f (map g rest))) xs k x lt
      ∙ rw (← is, fails) refl)
