-- The law between the cells of the tests: the second never has more entries than the first (own).
use Rattle.std.specs.Prelude.{ℕ, ◌+◌, ◌≡◌, ◌≢◌, ◌<◌, ◌≤◌, List, [], ◌∷◌, ◌++◌, All, length}
use Rattle.std.proofs.Common.{ap, arith, refl, subst, sym, length-append, get_or-set_other, get_or-set_same}
use Rattle.std.proofs.lemmas.List.Elements.{All-cons, All-nil}
use mathlib.Core.Logic.{dite}
use native.Mathlib.Decide.{ℕ_discrete}
use Rattle.turn_table.specs.Histories.{at, with_more, ArePrefixes}

-- an entry: the number of its pass, and an amount
abbrev pub Amount : Type 0
Amount = ℕ × ℕ

-- the second history is no longer than the first
abbrev pub IsBehind : List (List Amount) → Type 0
IsBehind histories = length (at histories 1) ≤ length (at histories 0)

-- where the cell is the second, its history was seen to be shorter
abbrev pub MayAdd : List (List Amount) → ℕ → Type 0
MayAdd seen cell = cell ≡ 1 → length (at seen 1) < length (at seen 0)

-- where the cell is the second, the first is no shorter than what was seen of it
abbrev pub IsCovered : ℕ → List (List Amount) → List (List Amount) → Type 0
IsCovered cell seen histories = cell ≡ 1 → length (at seen 1) ≤ length (at histories 0)

longer : (early late : List (List Amount)) (cell : ℕ) → ArePrefixes early late
    → length (at early cell) ≤ length (at late cell)
longer early late cell prefixes =
    let t = prefixes cell in let e = ap length t.1 in
    let s = length-append (at early cell) t.0 in omega (arith, e, s)

pub behind_kept : (histories seen : List (List Amount)) (cell : ℕ) (e : Amount)
    → IsBehind histories → ArePrefixes seen histories → cell < length histories
    → at seen cell ≡ at histories cell → MayAdd seen cell
    → IsBehind (with_more histories cell (e ∷ []))
behind_kept histories seen cell e behind prefixes low whole may =
    let now : List (List Amount) = with_more histories cell (e ∷ []) in
    let here : at now cell ≡ at histories cell ++ e ∷ [] =
    get_or-set_same histories cell (at histories cell ++ e ∷ []) [] low in
    let other : (d : ℕ) → d ≢ cell → at now d ≡ at histories d = λ d apart.
    get_or-set_other histories cell d (at histories cell ++ e ∷ []) [] apart in
    let more = length-append (at histories cell) (e ∷ []) in let long = ap length here in
    let saw = ap length whole in
    dite (ℕ_discrete cell 1)
    (λ second. let less = may second in let grown = longer seen histories 0 prefixes in
    let zero = ap length (other 0 (λ z. omega arith)) in
    let P : ℕ → Type 0 = λ c. length (at now c) ≤ length (at histories c) + 1 in
    let one : P 1 = subst P second (omega (arith, long, more)) in
    let Q : ℕ → Type 0 = λ c. length (at seen c) ≡ length (at histories c) in
    let same : Q 1 = subst Q second saw in omega (arith, less, grown, zero, one, same, behind))
    (λ apart. let one = ap length (other 1 (λ z. apart (sym z))) in
    let R : ℕ → Type 0 = λ c. length (at histories c) ≤ length (at now c) in
    let zero : R 0 = dite (ℕ_discrete cell 0)
    (λ z. subst R z (omega (arith, long, more)))
    (λ n. let same = ap length (other 0 (λ z. n (sym z))) in
    omega (arith, same)) in
    omega (arith, one, zero, behind))

pub covered_at_look : (histories seen : List (List Amount)) (cell : ℕ) → IsBehind histories
    → ArePrefixes seen histories → IsCovered cell seen histories
covered_at_look histories seen cell behind prefixes second =
    let grown = longer seen histories 1 prefixes in omega (arith, grown, behind)

pub covered_later : (cell : ℕ) (seen histories later : List (List Amount))
    → IsCovered cell seen histories → ArePrefixes histories later → IsCovered cell seen later
covered_later cell seen histories later covered prefixes second =
    let grown = longer histories later 0 prefixes in
    let now = covered second in omega (arith, grown, now)

pub signed_one : (by amount : ℕ) → All (λ (e : Amount). e.0 ≡ by) ((by, amount) ∷ [])
signed_one by amount = All-cons (λ (e : Amount). e.0 ≡ by) (by, amount) [] refl
    (All-nil (λ (e : Amount). e.0 ≡ by))

pub signed_by : (by : ℕ) → All (λ (e : ℕ). e ≡ by) (by ∷ [])
signed_by by = All-cons (λ (e : ℕ). e ≡ by) by [] refl (All-nil (λ (e : ℕ). e ≡ by))
