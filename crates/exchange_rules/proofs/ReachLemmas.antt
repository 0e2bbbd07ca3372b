-- What a writer did goes on: from one course to its rest, and under another course.
use Rattle.std.proofs.Common.{◌≡◌, ℕ, ◌+◌, ◌==◌, List, [], ◌∷◌, ◌++◌, get_or, Bool, cond, refl, sym, ap, ◌∙◌, subst, arith, append_assoc, append-nil, add-zero}
use Rattle.std.specs.Prelude.{count_by}
use Rattle.std.proofs.lemmas.List.Sums.{sum_by-append}
use Rattle.shard_versions.specs.declared.cut.CutMark.{CutMark}
use Rattle.shard_versions.specs.declared.cut.OwnMark.{OwnMark}
use Rattle.exchange_rules.specs.Cells.{Log}
use Rattle.exchange_rules.specs.Courses.{Course, ends, looks, makes, and_then}
use Rattle.exchange_rules.specs.Accesses.{Access, a_look, a_step, marks_of, own_of, at_own, at_owns, had_after, looks_at}
use Rattle.exchange_rules.specs.Following.{rest_after, AreNoFewer, Faults, Follows, Grows, Writer, counts, Reaches}
use Rattle.exchange_rules.proofs.FaultLemmas.{no_fewer_same, no_fewer_join}
use Rattle.exchange_rules.proofs.GrowthLemmas.{grows_same, grows_join, own_still}
use Rattle.exchange_rules.proofs.FollowLemmas.{follows_still, follows_join, follows_then, own_within}

-- the marks of two lists of accesses
pub marks_of-append : (a b : List Access) → marks_of (a ++ b) ≡ marks_of a ++ marks_of b
marks_of-append [] b = refl
marks_of-append (a_look m ∷ a) b = ap (λ x. m ∷ x) (marks_of-append a b)
marks_of-append (a_step o ∷ a) b = marks_of-append a b

-- their own marks
pub own_of-append : (a b : List Access) → own_of (a ++ b) ≡ own_of a ++ own_of b
own_of-append [] b = refl
own_of-append (a_look m ∷ a) b = own_of-append a b
own_of-append (a_step o ∷ a) b = ap (λ x. o ∷ x) (own_of-append a b)

-- how many pass in two lists
pub count_by-append : {X : Type 0} (p : X → Bool) (a b : List X)
    → count_by p (a ++ b) ≡ count_by p a + count_by p b
count_by-append p a b = sum_by-append (λ x. cond (p x) 1 0) a b

-- the looks at a cell in two lists of accesses
pub looks_at-append : (cell : ℕ) (a b : List Access)
    → looks_at cell (marks_of (a ++ b)) ≡ looks_at cell (marks_of a) + looks_at cell (marks_of b)
looks_at-append cell a b =
    ap (looks_at cell) (marks_of-append a b)
    ∙ count_by-append (λ (m : CutMark). m.cell == cell) (marks_of a) (marks_of b)

-- what two lists of own marks say
pub at_owns-append : (seen : List Log) (a b : List OwnMark)
    → at_owns seen (a ++ b) ≡ at_owns seen a ++ at_owns seen b
at_owns-append seen [] b = refl
at_owns-append seen (o ∷ a) b =
    ap (λ x. at_own seen o ++ x) (at_owns-append seen a b)
    ∙ sym (append_assoc (at_own seen o) (at_owns seen a) (at_owns seen b))

-- nothing was done yet
unfoldable pub reaches_none : {A : Type 0} (w : Writer) (p : Course A) → Reaches w w p p
reaches_none w p = record {
  same = refl;
  grown = grows_same w.seen;
  accesses = [];
  marks = sym (append-nil w.marks);
  own = sym (append-nil w.own);
  looked = λ cell. sym (add-zero (get_or w.looks cell 0));
  faults = no_fewer_same w.faults;
  followed = (refl, refl);
}

-- one course after the other
unfoldable pub reaches_join : {A : Type 0} (old mid new : Writer) (p q r : Course A)
    → Reaches old mid p q
    → Reaches mid new q r → Reaches old new p r
reaches_join old mid new p q r a b =
    let first = follows_still old.me mid.seen new.seen (counts old.seen) p a.accesses q
    (counts mid.seen) b.grown a.followed in
    let second = subst (λ me. Follows me new.seen (counts mid.seen) q b.accesses r
    (counts new.seen))
    a.same b.followed in
    record {
      same = b.same ∙ a.same;
      grown = grows_join old.seen mid.seen new.seen a.grown b.grown;
      accesses = a.accesses ++ b.accesses;
      marks = b.marks ∙ (ap (λ x. x ++ marks_of b.accesses) a.marks
          ∙ (append_assoc old.marks (marks_of a.accesses) (marks_of b.accesses)
          ∙ ap (λ x. old.marks ++ x) (sym (marks_of-append a.accesses b.accesses))));
      own = b.own ∙ (ap (λ x. x ++ own_of b.accesses) a.own
          ∙ (append_assoc old.own (own_of a.accesses) (own_of b.accesses)
          ∙ ap (λ x. old.own ++ x) (sym (own_of-append a.accesses b.accesses))));
      looked = λ cell. omega (
        arith,
        looks_at-append cell a.accesses b.accesses,
        a.looked cell,
        b.looked cell,
      );
      faults = no_fewer_join old.faults mid.faults new.faults a.faults b.faults;
      followed = follows_join old.me new.seen (counts old.seen) p a.accesses q (counts mid.seen)
          b.accesses r (counts new.seen) first second;
    }

-- the course before any other
unfoldable pub reaches_then : {A B : Type 0} (old new : Writer) (p q : Course A) (k : A → Course B)
    → Reaches old new p q → Reaches old new (and_then p k) (and_then q k)
reaches_then old new p q k a = record {
  same = a.same;
  grown = a.grown;
  accesses = a.accesses;
  marks = a.marks;
  own = a.own;
  looked = a.looked;
  faults = a.faults;
  followed = follows_then old.me new.seen (counts old.seen) p k a.accesses q (counts new.seen)
      a.followed;
}

-- faults that were met afterwards
unfoldable pub reaches_faulted : {A : Type 0} (old new : Writer) (f : Faults) (p q : Course A)
    → AreNoFewer new.faults f → Reaches old new p q → Reaches old (record new { faults = f }) p q
reaches_faulted old new f p q more a = record {
  same = a.same;
  grown = a.grown;
  accesses = a.accesses;
  marks = a.marks;
  own = a.own;
  looked = a.looked;
  faults = no_fewer_join old.faults new.faults f a.faults more;
  followed = a.followed;
}

-- what was appended by accesses that follow a course stays as logs grow
pub owns_still : {A : Type 0} (me : ℕ) (s t : List Log) (had : List ℕ) (p : Course A)
    (accesses : List Access) (q : Course A) (end : List ℕ) → Grows s t
    → Follows me s had p accesses q end
    → at_owns t (own_of accesses) ≡ at_owns s (own_of accesses)
owns_still me s t had p [] q end g f = refl
owns_still me s t had (ends a) (access ∷ accesses) q end g f = absurd f.0
owns_still me s t had (looks c see) (a_step o ∷ accesses) q end g f = absurd f.0
owns_still me s t had (makes c step p) (a_look m ∷ accesses) q end g f = absurd f.0
owns_still me s t had (looks c see) (a_look m ∷ accesses) q end g f =
    owns_still me s t (had_after had (a_look m))
    (rest_after s (looks c see) (a_look m)) accesses q end
    g f.1
owns_still me s t had (makes c step p) (a_step o ∷ accesses) q end g f =
    ap (λ x. x ++ at_owns t (own_of accesses))
    (own_still s t g o (own_within me s had c step o f.0))
    ∙ ap (λ x. at_own s o ++ x)
    (owns_still me s t (had_after had (a_step o)) p accesses q end g f.1)
