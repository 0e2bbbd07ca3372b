-- The histories of a closed site are those that its passes have seen.
use Rattle.std.proofs.Common.{◌≡◌, ◌≢◌, ℕ, zero, suc, ◌+◌, ◌-◌, ◌<◌, List, [], ◌∷◌, ◌++◌, length, get_or, map, refl, sym, ap, ◌∙◌, subst, arith, length-append}
use Rattle.std.specs.Prelude.{All, Contains}
use Rattle.std.proofs.lemmas.List.{append-nil, get_or-append-add}
use Rattle.std.proofs.lemmas.List.Elements.{All-contains, All-get_or}
use Rattle.exchange_rules.specs.Cells.{author_of, Log}
use Rattle.exchange_rules.specs.declared.log_entry.LogEntry.{LogEntry}
use Rattle.turn_table.specs.Histories.{GrewBy}
use Rattle.running_site.specs.Ends.{IsEnd, IsOneEnd}
use Rattle.running_site.specs.Passes.{number_of, numbers_to, writer_of, TablePass}
use Rattle.running_site.specs.declared.pass.PassOf.{PassOf}

module _ {D : Type 0} where
  -- one of the passes has the number, and what is so of all passes is so of it
  with-number : (Q : PassOf (TablePass D) → Type 0) (ps : List (PassOf (TablePass D))) (n : ℕ)
      → Contains (map number_of ps) n → All Q ps
      → (p : PassOf (TablePass D)) × (number_of p ≡ n) × Q p
  with-number Q [] n (k, lt, e) all = absurd (omega (arith, lt))
  with-number Q (p ∷ ps) n (zero, lt, e) all = (p, e, all zero p (omega arith))
  with-number Q (p ∷ ps) n (suc k, lt, e) all =
      with-number Q ps n (k, omega (arith, lt), e) (λ j d low. all (suc j) d (omega (arith, low)))

-- where the last entry carries a number that no entry of the end carries, the end is empty
nothing-behind : (n : ℕ) (seen more : Log) (d : LogEntry)
    → author_of (get_or (seen ++ more) (length (seen ++ more) - 1) d) ≡ n
    → All (λ entry. author_of entry ≢ n) more → more ≡ []
nothing-behind n seen [] d last none = refl
nothing-behind n seen (e ∷ more) d last none =
    let long = length-append seen (e ∷ more) in
    let place : length (seen ++ e ∷ more) - 1 ≡ length seen + length more = omega (arith, long) in
    let there : get_or (seen ++ e ∷ more) (length (seen ++ e ∷ more) - 1) d
    ≡ get_or (e ∷ more) (length more) d =
    ap (λ k. get_or (seen ++ e ∷ more) k d) place ∙ get_or-append-add seen (e ∷ more) (length more) d in
    absurd (All-get_or (λ entry. author_of entry ≢ n) (e ∷ more) (length more) d (omega arith) none
    (sym (ap author_of there) ∙ last))

-- the cell has entries only where it is there
cell-there : (logs : List Log) (cell : ℕ) (e : LogEntry) (es : Log)
    → get_or logs cell [] ≡ e ∷ es → cell < length logs
cell-there [] cell e es is = absurd (cc)
cell-there (log ∷ logs) zero e es is = omega arith
cell-there (log ∷ logs) (suc cell) e es is =
    let lt = cell-there logs cell e es is in omega (arith, lt)

module _ {D : Type 0} (passes : List (PassOf (TablePass D))) (count : ℕ)
    (made : All (λ number. Contains (map number_of passes) number) (numbers_to count)) where
  -- the cell's entries in one end begin those in the other
  begins : (logs others : List Log) → IsEnd passes count logs → IsEnd passes count others
      → (cell : ℕ) → (more : Log) × (get_or others cell [] ≡ get_or logs cell [] ++ more)
  begins logs others one other cell = go (get_or logs cell []) refl
    where
      -- what is so of the pass that appended the last entry
      Both : PassOf (TablePass D) → Type 0
      Both p = GrewBy (λ entry. author_of entry ≢ number_of p) (writer_of p).seen logs
          × GrewBy (λ entry. author_of entry ≢ number_of p) (writer_of p).seen others

      go : (log : Log) → get_or logs cell [] ≡ log
          → (more : Log) × (get_or others cell [] ≡ get_or logs cell [] ++ more)
      go [] is = (get_or others cell [], ap (λ l. l ++ get_or others cell []) (sym is))
      go (e ∷ es) is =
          let log = get_or logs cell [] in
          let some : 0 < length log = subst (λ (l : Log). 0 < length l) (sym is) (omega arith) in
          let here = All-get_or (All (λ entry. Contains (numbers_to count) (author_of entry)))
          logs cell [] (cell-there logs cell e es is) one.signed in
          let signed = All-get_or (λ entry. Contains (numbers_to count) (author_of entry))
          log (length log - 1) e (omega (arith, some)) here in
          let n = author_of (get_or log (length log - 1) e) in
          let p = with-number Both passes n
          (All-contains (λ number. Contains (map number_of passes) number) (numbers_to count) n made
          signed) (λ k d lt. (one.seen k d lt, other.seen k d lt)) in
          let seen = get_or (writer_of p.0).seen cell [] in
          let a = p.2.0 cell in
          let b = p.2.1 cell in
          let last : author_of (get_or (seen ++ a.0) (length (seen ++ a.0) - 1) e) ≡ number_of p.0 =
          ap (λ (l : Log). author_of (get_or l (length l - 1) e)) (sym a.1) ∙ sym p.1 in
          let none : a.0 ≡ [] = nothing-behind (number_of p.0) seen a.0 e last a.2 in
          let whole : log ≡ seen = a.1 ∙ (ap (λ l. seen ++ l) none ∙ append-nil seen) in
          (b.0, b.1 ∙ ap (λ l. l ++ b.0) (sym whole))

-- two lists that begin each other are one
same-lists : (xs ys : Log) → (more : Log) × (ys ≡ xs ++ more) → (less : Log) × (xs ≡ ys ++ less)
    → xs ≡ ys
same-lists xs ys a b = go a.0 a.1
  where
    go : (more : Log) → ys ≡ xs ++ more → xs ≡ ys
    go [] is = sym (is ∙ append-nil xs)
    go (e ∷ more) is =
        let one = ap length is in
        let two = length-append xs (e ∷ more) in
        let three = ap length b.1 in
        let four = length-append ys b.0 in absurd (omega (arith, one, two, three, four))

-- all passes have just one end
pub one-end : (D : Type 0) → IsOneEnd D
one-end D passes count made logs others one other cell =
    same-lists (get_or logs cell []) (get_or others cell [])
    (begins passes count made logs others one other cell)
    (begins passes count made others logs other one cell)
