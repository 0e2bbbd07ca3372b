-- Passes with their records.
use Rattle.std.proofs.Common.{◌≡◌, List, [], ◌∷◌, ◌++◌, map, refl, sym, ap, ◌∙◌, append_assoc, append-nil}
use Rattle.std.proofs.lemmas.List.{map-append}
use Rattle.running_site.specs.Passes.{TablePass}
use Rattle.running_site.specs.Records.{content, inside_of, passes_in, recorded}
use Rattle.running_site.specs.declared.pass.PassOf.{PassOf}

module _ {D : Type 0} where
  -- one more pass gets a record
  pub content-push : (made : List (PassOf (TablePass D))) (passes : List (TablePass D))
      (one : PassOf (TablePass D)) (pass : TablePass D) → map content made ≡ map recorded passes
      → content one ≡ recorded pass
      → map content (made ++ one ∷ []) ≡ map recorded (passes ++ pass ∷ [])
  content-push made passes one pass e f =
      map-append content made (one ∷ [])
      ∙ ((λ i. e i ++ f i ∷ []) ∙ sym (map-append recorded passes (pass ∷ [])))

  -- the passes of two lists
  pub passes_in-append : (a b : List (PassOf (TablePass D)))
      → passes_in (a ++ b) ≡ passes_in a ++ passes_in b
  passes_in-append [] b = refl
  passes_in-append (pass ∷ a) b =
      ap (λ l. inside_of pass.pass ++ l) (passes_in-append a b)
      ∙ sym (append_assoc (inside_of pass.pass) (passes_in a) (passes_in b))

  -- one more pass that is there, and one that isn't
  pub passes-push : (made : List (TablePass D)) (passes : List (PassOf (TablePass D)))
      (pass : PassOf (TablePass D)) → made ≡ passes_in passes
      → made ++ inside_of pass.pass ≡ passes_in (passes ++ pass ∷ [])
  passes-push made passes pass e =
      (ap (λ l. l ++ inside_of pass.pass) e
      ∙ ap (λ l. passes_in passes ++ l) (sym (append-nil (inside_of pass.pass))))
      ∙ sym (passes_in-append passes (pass ∷ []))
