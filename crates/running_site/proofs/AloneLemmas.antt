-- What a pass has seen that is alone at its site.
use Rattle.std.proofs.Common.{◌≡◌, ◌≢◌, ℕ, [], ◌∷◌, get_or, inl, inr, sym, ◌∙◌, subst}
use Rattle.std.specs.Prelude.{All}
use Rattle.std.proofs.lemmas.Bool.{cases_eq}
use Rattle.std.proofs.lemmas.List.Elements.{All-cons, All-nil, All-weaker}
use Rattle.exchange_rules.specs.Cells.{author_of}
use Rattle.turn_table.specs.Calls.{known}
use Rattle.running_site.specs.Alone.{IsLawOfOnePass}
use Rattle.running_site.specs.Passes.{writer_where, IsListed}

-- a list of one number has no other
pub only-one : (n m : ℕ) → IsListed (n ∷ []) m → m ≡ n
only-one n m listed = elim (cases_eq m n) [
  | inl same ↦ same
  | inr apart ↦ absurd (listed (All-cons (λ k. k ≢ m) n [] (λ e. apart (sym e)) (All-nil (λ k. k ≢ m))))
]

-- it is its own
pub alone-own : (D : Type 0) → IsLawOfOnePass D
alone-own D table key l pass p one cell =
    let k = known p.inside in
    let numbers : k.numbers ≡ 1 ∷ [] = p.numbered ∙ one in
    let me : k.number ≡ 1 = only-one 1 k.number
    (subst (λ ns. IsListed ns k.number) numbers p.knowing.listed) in
    subst (λ o. All (λ entry. author_of entry
    ≡ (writer_where o pass.marks.items pass.own.items).me)
    (get_or (writer_where o pass.marks.items pass.own.items).seen cell [])) (sym p.there)
    (All-weaker (λ entry. IsListed k.numbers (author_of entry))
    (λ entry. author_of entry ≡ k.number)
    (λ entry listed. only-one 1 (author_of entry)
    (subst (λ ns. IsListed ns (author_of entry)) numbers listed) ∙ sym me)
    (get_or k.seen cell []) (p.knowing.signed cell))
