use Rattle.std.proofs.Common.{◌≡◌, ◌≤◌, ◌++◌, length, take, drop, refl, sym, ◌∙◌, ap, arith}
use Rattle.std.proofs.lemmas.List.{take_all, take-append-drop}
use Rattle.sort_spec.proofs.term.SortSpec.is_prefix_of.Goals as goal

pub returns : goal.returns
returns c =
    let k = c.loop-k.k in
    let terms = c.as_slice-terms.result.now in
    let others = c.as_slice-others.result.now in
    let all : length terms ≤ k = omega arith in
    let first : take k others ≡ terms = sym c.loop-k.invariant ∙ take_all k terms all in
    let whole : others ≡ terms ++ drop k others =
    sym (take-append-drop k others) ∙ ap (λ l. l ++ drop k others) first in
    let said : c.args.other.now ≡ c.args.self.now ++ drop k others =
    sym c.as_slice-others.ensures
    ∙ whole ∙ ap (λ l. l ++ drop k others) c.as_slice-terms.ensures in
    (λ _. (drop k others, said), λ _. refl)
