-- A moment at which nothing changes keeps the rule.
use Rattle.std.proofs.Common.{ℕ, ◌≡◌, ◌≢◌, Bool, List, set, sym, refl, ap, ◌∙◌, subst, Option}
use mathlib.Core.Option.{none, some}
use Rattle.std.proofs.lemmas.List.{set-get_or}
use Rattle.atomic_table.specs.Table.{Allows, Me, State, keeps, step}
use Rattle.turn_table.specs.declared.knowledge.Known.{Known}
use Rattle.turn_table.specs.declared.knowledge.View.{View}
use Rattle.turn_table.specs.Histories.{GrewBy}
use Rattle.turn_table.specs.Knowledge.{lone}
use Rattle.turn_table.specs.Rule.{Kept}
use Rattle.turn_table.specs.Steps.{Watched, Watches}
use Rattle.turn_table.proofs.KnowledgeLemmas.{same_pass}
use Rattle.turn_table.proofs.MoveLemmas.{cell_stays, moves}

module _ {C A E : Type 0} (about : C → A) (history : C → List E) (writer : E → ℕ)
    (law : List A → List (List E) → Type 0)
    (tells : List A → ℕ → List (List E) → List (List E) → Type 0) (settled : C → Type 0)
    (is_shut : C → Bool) (fault_count : C → ℕ)
    (abouts : List A) (start : List (List E)) (numbers : List ℕ) where
  abbrev K : Type 0
  K = Known A E

  abbrev St : Type 0
  St = State (Option C) (View A E)

  abbrev Rule : St → Type 0
  Rule = Kept about history writer law tells settled is_shut fault_count abouts start numbers

  -- what a state of the pass's table shows to it
  watched_of : (k : K) (s : St) (r : Rule s) → k.about ≡ abouts → k.start ≡ start
      → k.numbers ≡ numbers → GrewBy (λ entry. writer entry ≢ k.number) k.seen r.histories
      → Watched about history writer law tells settled is_shut fault_count k
  watched_of k s r about_is start_is numbers_are seen =
      subst (λ (z : List A × (List (List E) × List ℕ)).
      (q : Kept about history writer law tells settled is_shut fault_count z.0 z.1.0 z.1.1 s)
      → GrewBy (λ entry. writer entry ≢ k.number) k.seen q.histories
      → Watched about history writer law tells settled is_shut fault_count k)
      (λ n. (about_is n, (start_is n, numbers_are n)))
      (λ q within. record { state = s; kept = q; seen = within }) r seen

  pub watches : (slots id : ℕ) (me : Me (Option C) (View A E)) (f : List ℕ) (k : K)
      → me.0 ≡ lone f k
      → (word : ℕ) → Allows Rule slots id me word (λ n. n)
      (Watches about history writer law tells settled is_shut fault_count (step slots word 0 0
      none) me)
  watches slots id me f k is word s r deep at_id fits =
      let here = at_id ∙ ap some is in
      let mine = r.each_pass id 0 (lone f k) k here refl in
      let shown = watched_of k s r mine.about_is mine.start_is mine.numbers_are mine.seen in (
        lone f k,
        keeps,
        tt,
        subst (λ ws. Rule record {
          words = ws;
          homes = s.homes;
          views = set s.views id (lone f k);
        })
            (sym (set-get_or s.words word 0))
            (moves about history writer law tells settled is_shut fault_count abouts start numbers
            s r id f f k k s.words s.homes
            r.histories r.holder here refl refl refl refl
            (λ e l. cell_stays about history settled is_shut fault_count abouts r.histories
            r.histories s.words s.words s.homes s.homes s.views id f f k k e here refl refl refl
            refl refl refl (r.each_cell e l))
            (λ j g x apart ok. ok) mine r.lawful r.grown),
        λ g x v. (
          (λ n. (sym is n, me.1)),
          subst (Watched about history writer law tells settled is_shut fault_count) (same_pass f g
              k x (sym is ∙ v)) shown,
        ),
      )
