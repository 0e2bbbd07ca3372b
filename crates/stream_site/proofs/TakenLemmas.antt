-- The step that is taken for a shard.
use Rattle.std.proofs.Common.{◌≡◌, ◌≢◌, ℕ, ◌+◌, ◌-◌, ◌^◌, ◌<◌, List, [], length, get_or, set, refl, sym, ap, ◌∙◌, subst, arith, length-set}
use Rattle.std.proofs.lemmas.List.{length-map, get_or-set_other}
use Rattle.shard_versions.specs.declared.entry.Entry.{Entry}
use Rattle.exchange_rules.specs.Rows.{length_below}
use Rattle.exchange_rules.specs.Steps.{AreBy, kinds_of, writes_in}
use Rattle.exchange_rules.proofs.RoutingLemmas.{length_below-le}
use Rattle.stream_site.specs.Shares.{AreLeft, AreSteps, share_in}
use Rattle.stream_site.proofs.IndexLemmas.{below_next}

-- at first all are there
pub left_all : (steps : List (List Entry)) → AreLeft steps steps 0
left_all steps = record { long = refl; rest = λ s le. refl }

-- the next one is
pub left_here : (steps left : List (List Entry)) (step : List Entry) (s : ℕ) → AreLeft steps left s
    → step ≡ get_or left s [] → step ≡ get_or steps s []
left_here steps left step s a is = is ∙ a.rest s (omega arith)

-- and once it is taken, those behind it
pub left_after : (steps left new : List (List Entry)) (s : ℕ) → AreLeft steps left s
    → new ≡ set left s [] → AreLeft steps new (s + 1)
left_after steps left new s a e = record {
  long = ap length e ∙ (length-set left s [] ∙ a.long);
  rest = λ x le. let other : x ≢ s = omega arith in
      ap (λ y. get_or y x []) e
      ∙ (get_or-set_other left s x [] [] other ∙ a.rest x (omega arith));
}

-- the step is the shard's, and what stands after it can be counted
pub record IsTaken (me s : ℕ) (steps : List (List Entry)) (step : List Entry) (stand count : ℕ)
    : Type 0 where
  pub kinds : kinds_of step ≡ share_in steps s
  pub own : AreBy me step
  pub writes : writes_in (kinds_of step) ≡ count
  pub next : stand + count ≡ length_below (share_in steps) (s + 1)
  pub fits : stand + count < 2 ^ 64

-- by what stands so far
pub taken : (me now n s : ℕ) (steps left : List (List Entry)) (step : List Entry)
    (stand count : ℕ) → AreSteps me n steps → now ≡ me → s < n → step ≡ get_or left s []
    → AreLeft steps left s → stand ≡ length_below (share_in steps) s → count ≡ length step
    → IsTaken now s steps step stand count
taken me now n s steps left step stand count a m lt is rest b e =
    let same = left_here steps left step s rest is in
    let kinds : kinds_of step ≡ share_in steps s = ap kinds_of same in
    let long : length (kinds_of step) ≡ length step = simp length-map in
    let size = ap length kinds in
    let writes : writes_in (kinds_of step) ≡ count =
    ap writes_in kinds ∙ (a.writes s lt ∙ omega (arith, size, long, e)) in
    let more = below_next (share_in steps) s in
    let next : stand + count ≡ length_below (share_in steps) (s + 1) =
    omega (arith, more, b, e, size, long) in
    let all : (s + 1) + (n - (s + 1)) ≡ n = omega arith in
    let whole = ap (length_below (share_in steps)) all in
    let le = length_below-le (share_in steps) (s + 1) (n - (s + 1)) in
    let few = a.few in
    record {
      kinds = kinds;
      own = subst (λ x. AreBy x step) (sym m) (subst (AreBy me) (sym same) (a.own s lt));
      writes = writes;
      next = next;
      fits = omega (arith, next, whole, le, few);
    }
