-- What stays over calls, one after another.
use Rattle.std.proofs.Common.{refl, ◌∙◌}
use Rattle.root_runs.specs.Stays.{Stays}

-- all stays where nothing is done
pub stays_self : {S L H : Type 0} {layout_of : S → L} {home_of : S → H} {is_free : S → Type 0}
    (a : S) → Stays layout_of home_of is_free a a
stays_self a = record { layout = refl; home = refl; free = λ f. f }

-- what stays over each of two stays over both
pub stays_then : {S L H : Type 0} {layout_of : S → L} {home_of : S → H} {is_free : S → Type 0}
    {a b c : S} → Stays layout_of home_of is_free a b → Stays layout_of home_of is_free b c
    → Stays layout_of home_of is_free a c
stays_then p q = record {
  layout = q.layout ∙ p.layout;
  home = q.home ∙ p.home;
  free = λ f. q.free (p.free f);
}
