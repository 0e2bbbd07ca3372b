-- Histories as they grow.
use Rattle.std.proofs.Common.{ℕ, ◌≡◌, ◌≢◌, ◌<◌, List, [], ◌++◌, length, set, sym, ap, ◌∙◌, append_assoc, append-nil, get_or-set_other, get_or-set_same}
use Rattle.std.proofs.lemmas.List.Elements.{All-append, All-nil}
use Rattle.std.specs.Prelude.{All}
use mathlib.Core.Logic.{dite}
use native.Mathlib.Decide.{ℕ_discrete}
use Rattle.turn_table.specs.Histories.{at, with_more, ArePrefixes, GrewBy}

module _ {E : Type 0} where
  -- what grew by entries of some kind has the old histories as its beginnings
  pub prefixes_of_grown : (P : E → Type 0) (early late : List (List E)) → GrewBy P early late
      → ArePrefixes early late
  prefixes_of_grown P early late grown cell = let t = grown cell in (t.0, t.1)

  pub prefixes-self : (histories : List (List E)) → ArePrefixes histories histories
  prefixes-self histories cell = ([], sym (append-nil (at histories cell)))

  pub prefixes-on : (xs ys zs : List (List E)) → ArePrefixes xs ys → ArePrefixes ys zs
      → ArePrefixes xs zs
  prefixes-on xs ys zs one two cell =
      let u = one cell in let v = two cell in
      (u.0 ++ v.0, v.1 ∙ (ap (λ l. l ++ v.0) u.1 ∙ append_assoc (at xs cell) u.0 v.0))

  pub grown-self : (P : E → Type 0) (histories : List (List E)) → GrewBy P histories histories
  grown-self P histories cell = ([], sym (append-nil (at histories cell)), All-nil P)

  pub grown-on : (P : E → Type 0) (xs ys zs : List (List E)) → GrewBy P xs ys → GrewBy P ys zs
      → GrewBy P xs zs
  grown-on P xs ys zs one two cell =
      let u = one cell in let v = two cell in (
        u.0 ++ v.0,
        v.1 ∙ (ap (λ l. l ++ v.0) u.1 ∙ append_assoc (at xs cell) u.0 v.0),
        All-append P u.0 v.0 u.2 v.2,
      )

  -- a cell's history after it grew
  pub at-with_more : (histories : List (List E)) (cell : ℕ) (more : List E)
      → cell < length histories
      → at (with_more histories cell more) cell ≡ at histories cell ++ more
  at-with_more histories cell more inside =
      get_or-set_same histories cell (at histories cell ++ more) [] inside

  -- the other histories stay
  pub at-with_more_other : (histories : List (List E)) (cell : ℕ) (more : List E) (other : ℕ)
      → other ≢ cell → at (with_more histories cell more) other ≡ at histories other
  at-with_more_other histories cell more other apart =
      get_or-set_other histories cell other (at histories cell ++ more) [] apart

  -- a history grows at one cell
  pub grown-with_more : (P : E → Type 0) (histories : List (List E)) (cell : ℕ) (more : List E)
      → cell < length histories → All P more
      → GrewBy P histories (with_more histories cell more)
  grown-with_more P histories cell more inside each other = dite (ℕ_discrete other cell)
      (λ same. (
        more,
        ap (at (with_more histories cell more)) same
            ∙ (at-with_more histories cell more inside ∙ ap (λ c. at histories c ++ more) (sym
            same)),
        each,
      ))
      (λ apart. (
        [],
        at-with_more_other histories cell more other apart
            ∙ sym (append-nil (at histories other)),
        All-nil P,
      ))

  -- a cell is seen whole, and of the others no less
  pub grown-seen : (P : E → Type 0) (seen histories later : List (List E)) (cell : ℕ)
      (whole : List E) → cell < length seen → at later cell ≡ whole
      → ((other : ℕ) → other ≢ cell → at later other ≡ at histories other)
      → GrewBy P seen histories → GrewBy P (set seen cell whole) later
  grown-seen P seen histories later cell whole inside is same grown other =
      dite (ℕ_discrete other cell)
      (λ here. (
        [],
        ap (at later) here ∙ (is
            ∙ (sym (get_or-set_same seen cell whole [] inside)
            ∙ (ap (at (set seen cell whole)) (sym here)
            ∙ sym (append-nil (at (set seen cell whole) other))))),
        All-nil P,
      ))
      (λ apart. let t = grown other in (
        t.0,
        same other apart ∙ (t.1
            ∙ ap (λ l. l ++ t.0) (sym (get_or-set_other seen cell other whole [] apart))),
        t.2,
      ))

  -- what was seen begins what is seen after a look
  pub prefixes-seen : (seen : List (List E)) (cell : ℕ) (whole : List E) → cell < length seen
      → (more : List E) × (whole ≡ at seen cell ++ more) → ArePrefixes seen (set seen cell whole)
  prefixes-seen seen cell whole inside more other = dite (ℕ_discrete other cell)
      (λ here. (
        more.0,
        ap (at (set seen cell whole)) here
            ∙ (get_or-set_same seen cell whole [] inside
            ∙ (more.1 ∙ ap (λ c. at seen c ++ more.0) (sym here))),
      ))
      (λ apart. (
        [],
        get_or-set_other seen cell other whole [] apart
            ∙ sym (append-nil (at seen other)),
      ))
