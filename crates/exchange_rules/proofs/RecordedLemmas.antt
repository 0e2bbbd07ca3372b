-- Own steps, as their marks tell them.
use Rattle.std.proofs.Common.{◌≡◌, ℕ, ◌+◌, List, [], ◌∷◌, ◌++◌, get_or, refl, sym, ap, ◌∙◌, arith, append_assoc, inl, inr}
use Rattle.std.specs.Prelude.{Option, Some, None}
use Rattle.std.specs.List.{AllByRecursion}
use Rattle.shard_versions.specs.declared.cut.CutMark.{CutMark}
use Rattle.shard_versions.specs.declared.cut.OwnMark.{OwnMark}
use Rattle.exchange_rules.specs.Cells.{Log}
use Rattle.exchange_rules.specs.Courses.{Course}
use Rattle.exchange_rules.specs.Accesses.{Access, a_look, a_step, between, marks_of, own_of}
use Rattle.exchange_rules.specs.Following.{Follows}
use Rattle.exchange_rules.specs.Own.{by_writer, step_at, steps_at}
use Rattle.exchange_rules.specs.Looking.{LooksFirst, AreBehind}
use Rattle.exchange_rules.specs.Recorded.{AreRecorded, IsLookedAt, AreLookedAt}
use Rattle.exchange_rules.proofs.CountLemmas.{IsCounted, between_join, by_writer-append, follows_counted, none_between}
use Rattle.exchange_rules.proofs.LookingLemmas.{follows_behind}

-- what more own marks say was appended to a cell
steps_at-append : (cell : ℕ) (seen : List Log) (os ps : List OwnMark)
    → steps_at cell seen (os ++ ps) ≡ steps_at cell seen os ++ steps_at cell seen ps
steps_at-append cell seen [] ps = refl
steps_at-append cell seen (o ∷ os) ps =
    ap (λ x. step_at cell seen o ++ x) (steps_at-append cell seen os ps)
    ∙ sym (append_assoc (step_at cell seen o) (steps_at cell seen os) (steps_at cell seen ps))

-- between a time and itself nothing was appended
pub counted_none : (me : ℕ) (seen : List Log) (had : List ℕ) (c : ℕ)
    → IsCounted me seen had had [] c
counted_none me seen had c = record {
  risen = omega arith;
  counted = ap (by_writer me) (none_between (get_or had c 0) (get_or seen c []));
}

-- what was appended from one time to another and from there to a third
pub counted_join : (me : ℕ) (seen : List Log) (had mid end : List ℕ) (os ps : List OwnMark) (c : ℕ)
    → IsCounted me seen had mid os c → IsCounted me seen mid end ps c
    → IsCounted me seen had end (os ++ ps) c
counted_join me seen had mid end os ps c p q =
    let h = get_or seen c [] in
    let a = get_or had c 0 in
    let m = get_or mid c 0 in
    let b = get_or end c 0 in
    record {
      risen = omega (arith, p.risen, q.risen);
      counted = ap (by_writer me) (between_join a m b h p.risen q.risen)
          ∙ (by_writer-append me (between a m h) (between m b h)
          ∙ (ap (λ x. x ++ by_writer me (between m b h)) p.counted
          ∙ (ap (λ x. steps_at c seen os ++ x) q.counted
          ∙ sym (steps_at-append c seen os ps))));
    }

-- accesses that follow a course record what was appended meanwhile
pub follows_recorded : {A : Type 0} (me : ℕ) (seen : List Log) (had : List ℕ) (p : Course A)
    (accesses : List Access) (q : Course A) (end : List ℕ) → Follows me seen had p accesses q end
    → AreRecorded me seen had end (own_of accesses)
follows_recorded me seen had p accesses q end f =
    λ cell. (follows_counted me seen had p accesses q end cell f).counted

-- with one mark more each own mark has its mark
looked_more : (m : CutMark) (marks : List CutMark) (own : List OwnMark) → AreLookedAt marks own
    → AreLookedAt (m ∷ marks) own
looked_more m marks [] a = tt
looked_more m marks (o ∷ own) a = (inr a.0, looked_more m marks own a.1)

-- the last mark, where there is one, and the others
abbrev with_last : Option CutMark → List CutMark → List CutMark
with_last None marks = marks
with_last (Some m) marks = m ∷ marks

-- steps that stand right behind their looks have their marks
behind_looked : (last : Option CutMark) (accesses : List Access) → AreBehind last accesses
    → AreLookedAt (with_last last (marks_of accesses)) (own_of accesses)
behind_looked last [] b = tt
behind_looked None (a_look m ∷ accesses) b = behind_looked (Some m) accesses b
behind_looked (Some l) (a_look m ∷ accesses) b =
    looked_more l (m ∷ marks_of accesses) (own_of accesses) (behind_looked (Some m) accesses b)
behind_looked None (a_step o ∷ accesses) b = absurd b.0
behind_looked (Some l) (a_step o ∷ accesses) b =
    (inl b.0, looked_more l (marks_of accesses) (own_of accesses) (behind_looked None accesses b.1))

-- so have those of accesses that follow a course which looks first
pub follows_looked : {A : Type 0} (me : ℕ) (seen : List Log) (had : List ℕ) (p : Course A)
    (accesses : List Access) (q : Course A) (end : List ℕ) → LooksFirst None p
    → Follows me seen had p accesses q end
    → AreBehind None accesses × AreLookedAt (marks_of accesses) (own_of accesses)
follows_looked me seen had p accesses q end first f =
    let b : AreBehind None accesses =
    follows_behind me seen had p accesses q end None None first tt f in
    (b, behind_looked None accesses b)
