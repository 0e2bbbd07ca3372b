-- What a writer added to the cells: just what the own marks of its accesses say.
use Rattle.std.proofs.Common.{◌≡◌, ℕ, List, [], ◌∷◌, ◌++◌, length, get_or, drop, refl, sym, ap, ◌∙◌, arith, append_assoc, append-nil}
use Rattle.std.proofs.lemmas.List.{take_all}
use Rattle.std.proofs.Math.Seq.{drop-append_seam}
use Rattle.shard_versions.specs.declared.cut.OwnMark.{OwnMark}
use Rattle.exchange_rules.specs.Accesses.{between, own_of}
use Rattle.exchange_rules.specs.Cells.{Log}
use Rattle.exchange_rules.specs.Courses.{Course}
use Rattle.exchange_rules.specs.Following.{Reaches, Writer, counts}
use Rattle.exchange_rules.specs.Own.{by_writer, step_at, steps_at}
use Rattle.exchange_rules.proofs.CountLemmas.{by_writer-append, follows_counted}
use Rattle.exchange_rules.proofs.GrowthLemmas.{count_at, grows_at, grows_join, grows_same}
use Rattle.load_rules.specs.Worked.{HasAdded, own_at}

-- what two lists of own marks say was appended to the cell
pub steps_at-append : (c : ℕ) (seen : List Log) (a b : List OwnMark)
    → steps_at c seen (a ++ b) ≡ steps_at c seen a ++ steps_at c seen b
steps_at-append c seen [] b = refl
steps_at-append c seen (o ∷ a) b =
    ap (λ x. step_at c seen o ++ x) (steps_at-append c seen a b)
    ∙ sym (append_assoc (step_at c seen o) (steps_at c seen a) (steps_at c seen b))

-- a writer's own entries at the end are those before and those of its steps
own_at-reached : {A : Type 0} (old new : Writer) (p q : Course A) (r : Reaches old new p q) (c : ℕ)
    → own_at new c ≡ own_at old c ++ steps_at c new.seen (own_of r.accesses)
own_at-reached old new p q r c =
    let h = get_or old.seen c [] in
    let k = get_or new.seen c [] in
    let to = get_or (counts new.seen) c 0 in
    let g = grows_at old.seen new.seen r.grown c in
    let n = follows_counted old.me new.seen (counts old.seen) p r.accesses q (counts new.seen) c
    r.followed in
    let behind : between (get_or (counts old.seen) c 0) to k ≡ g.0 =
    ap (λ a. between a to k) (count_at old.seen c)
    ∙ (ap (λ b. between (length h) b k) (count_at new.seen c)
    ∙ (ap (drop (length h)) (take_all (length k) k (omega arith))
    ∙ (ap (drop (length h)) g.1 ∙ drop-append_seam h g.0))) in
    ap (λ m. by_writer m k) r.same
    ∙ (ap (by_writer old.me) g.1
    ∙ (by_writer-append old.me h g.0
    ∙ ap (λ x. by_writer old.me h ++ x) (ap (by_writer old.me) (sym behind) ∙ n.counted)))

-- whoever followed a course added what its steps appended
pub added_reached : {A : Type 0} (old new : Writer) (p q : Course A) (r : Reaches old new p q)
    → HasAdded (λ c. steps_at c new.seen (own_of r.accesses)) old new
added_reached old new p q r =
    record { same = r.same; grown = r.grown; own = own_at-reached old new p q r }

-- nothing was added where nothing was done
pub added_none : (w : Writer) → HasAdded (λ c. []) w w
added_none w =
    record { same = refl; grown = grows_same w.seen; own = λ c. sym (append-nil (own_at w c)) }

-- what was added twice
pub added_join : (a b : ℕ → Log) (old mid new : Writer) → HasAdded a old mid → HasAdded b mid new
    → HasAdded (λ c. a c ++ b c) old new
added_join a b old mid new x y = record {
  same = y.same ∙ x.same;
  grown = grows_join old.seen mid.seen new.seen x.grown y.grown;
  own = λ c. y.own c
      ∙ (ap (λ l. l ++ b c) (x.own c) ∙ append_assoc (own_at old c) (a c) (b c));
}

-- the same, told otherwise
pub added_as : (a b : ℕ → Log) (old new : Writer) → ((c : ℕ) → a c ≡ b c)
    → HasAdded a old new → HasAdded b old new
added_as a b old new e x = record {
  same = x.same;
  grown = x.grown;
  own = λ c. x.own c ∙ ap (λ l. own_at old c ++ l) (e c);
}
