-- What a writer appended is just what its own marks say.
use Rattle.std.proofs.Common.{◌≡◌, ◌≢◌, ℕ, ◌+◌, ◌-◌, ◌<◌, ◌≤◌, ◌==◌, Bool, true, false, List, [], ◌∷◌, ◌++◌, length, get_or, set, take, drop, refl, sym, ap, ◌∙◌, subst, arith, inl, inr, if◌then◌else◌}
use Rattle.std.proofs.lemmas.List.{get_or-set_same, get_or-set_other, drop-take}
use Rattle.std.proofs.lemmas.List.Elements.{filter-append}
use Rattle.std.proofs.lemmas.Bool.{eq-eqb}
use Rattle.std.proofs.lemmas.Bool.Decides.{eqb_tells}
use Rattle.std.proofs.Math.Seq.{take-add}
use Rattle.std.specs.List.{AllByRecursion}
use Rattle.shard_versions.specs.declared.cut.CutMark.{CutMark}
use Rattle.shard_versions.specs.declared.cut.OwnMark.{OwnMark}
use Rattle.exchange_rules.specs.declared.log_entry.LogEntry.{LogEntry}
use Rattle.exchange_rules.specs.Cells.{Log, Payload, author_of, signed, signed_by, write, bind, store}
use Rattle.exchange_rules.specs.Courses.{Course, ends, looks, makes}
use Rattle.exchange_rules.specs.Accesses.{Access, a_look, a_step, own_of, at_own, between, IsLook, IsOwn, had_after}
use Rattle.exchange_rules.specs.Following.{rest_after, Follows}
use Rattle.exchange_rules.specs.Own.{by_writer, own_entries, step_at, steps_at}
use Rattle.exchange_rules.proofs.AloneLemmas.{drop_take, drop_more}

-- a part of a log is its two parts
pub between_join : (a u b : ℕ) (h : Log) → a ≤ u → u ≤ b
    → between a b h ≡ between a u h ++ between u b h
between_join a u b h p q =
    let n : b - a ≡ (u - a) + (b - u) = omega arith in
    let m : a + (u - a) ≡ u = omega arith in
    let tail : take (b - u) (drop (u - a) (drop a h)) ≡ between u b h =
    ap (take (b - u)) (sym (drop_more a (u - a) h) ∙ ap (λ x. drop x h) m)
    ∙ sym (drop_take h u b q) in
    drop_take h a b (omega arith)
    ∙ (ap (λ x. take x (drop a h)) n
    ∙ (take-add (u - a) (b - u) (drop a h)
    ∙ (ap (λ x. x ++ take (b - u) (drop (u - a) (drop a h))) (sym (drop_take h a u p))
    ∙ ap (λ x. between a u h ++ x) tail)))

-- the writer's entries of two logs
pub by_writer-append : (me : ℕ) (a b : Log)
    → by_writer me (a ++ b) ≡ by_writer me a ++ by_writer me b
by_writer-append me a b = filter-append (λ (n : LogEntry). author_of n == me) a b

-- an entry that fails a test
skip : (t : Bool) (e : LogEntry) (x : Log) → t ≡ false → (if t then e ∷ x else x) ≡ x
skip t e x p = ap (λ b. if b then e ∷ x else x) p

-- one that passes it
keep : (t : Bool) (e : LogEntry) (x : Log) → t ≡ true → (if t then e ∷ x else x) ≡ e ∷ x
keep t e x p = ap (λ b. if b then e ∷ x else x) p

-- numbers that differ fail their test
differs : (a b : ℕ) → a ≢ b → (a == b) ≡ false
differs a b n = elim (eqb_tells a b) [ inl w ↦ absurd (n w.1) | inr w ↦ w.0 ]

-- others' entries aren't the writer's
by_writer_none : (me : ℕ) (h : Log) → AllByRecursion (λ n. author_of n ≢ me) h
    → by_writer me h ≡ []
by_writer_none me [] a = refl
by_writer_none me (e ∷ h) a =
    skip (author_of e == me) e (by_writer me h) (differs (author_of e) me a.0)
    ∙ by_writer_none me h a.1

-- a step under a number is by that writer
author_of-signed : (me : ℕ) (d : Payload) → author_of (signed_by me d) ≡ me
author_of-signed me (write kind) = refl
author_of-signed me (bind key b) = refl
author_of-signed me (store key upto) = refl

-- a step is the writer's own
by_writer_signed : (me : ℕ) (step : List Payload) → by_writer me (signed me step) ≡ signed me step
by_writer_signed me [] = refl
by_writer_signed me (d ∷ step) =
    let e = signed_by me d in
    keep (author_of e == me) e (by_writer me (signed me step))
    (eq-eqb (author_of e) me (author_of-signed me d))
    ∙ ap (λ x. e ∷ x) (by_writer_signed me step)

-- from one time to another, what the writer appended to the cell is what the own marks say
pub record IsCounted (me : ℕ) (seen : List Log) (had end : List ℕ) (own : List OwnMark) (c : ℕ)
    : Type 0 where
  pub risen : get_or had c 0 ≤ get_or end c 0
  pub counted : own_entries me seen had end c ≡ steps_at c seen own

-- nothing stands between a time and itself
pub none_between : (a : ℕ) (h : Log) → between a a h ≡ []
none_between a h =
    let e : a - a ≡ 0 = omega arith in
    drop_take h a a (omega arith) ∙ ap (λ n. take n (drop a h)) e

-- a look adds nothing of the writer's own
look_counted : (me : ℕ) (seen : List Log) (had : List ℕ) (d : ℕ) (m : CutMark)
    (own : List OwnMark) (end : List ℕ) (c : ℕ) → IsLook me seen had d m
    → IsCounted me seen (had_after had (a_look m)) end own c → IsCounted me seen had end own c
look_counted me seen had d m own end c n k =
    let h = get_or seen c [] in
    let a = get_or had c 0 in
    let b = get_or end c 0 in
    elim (eqb_tells m.cell c) [
      | inl w ↦
          let at : d ≡ c = sym n.cell_is ∙ w.1 in
          let lt : m.cell < length had =
          subst (λ x. x < length had) (sym n.cell_is) n.known in
          let now : get_or (set had m.cell m.upto) c 0 ≡ m.upto =
          ap (λ x. get_or (set had m.cell m.upto) x 0) (sym w.1)
          ∙ get_or-set_same had m.cell m.upto 0 lt in
          let since : a ≤ m.upto = subst (λ x. get_or had x 0 ≤ m.upto) at n.since in
          let upto : m.upto ≤ b = subst (λ x. x ≤ b) now k.risen in
          let others : by_writer me (between a m.upto h) ≡ [] =
          by_writer_none me (between a m.upto h)
          (subst (λ x. AllByRecursion (λ e. author_of e ≢ me)
          (between (get_or had x 0) m.upto (get_or seen x []))) at n.others) in
          record {
            risen = omega (arith, since, upto);
            counted = ap (by_writer me) (between_join a m.upto b h since upto)
                ∙ (by_writer-append me (between a m.upto h) (between m.upto b h)
                ∙ (ap (λ x. x ++ by_writer me (between m.upto b h)) others
                ∙ (ap (λ x. by_writer me (between x b h)) (sym now) ∙ k.counted)));
          }
      | inr w ↦
          let now : get_or (set had m.cell m.upto) c 0 ≡ a =
          get_or-set_other had m.cell c m.upto 0 (λ e. w.1 (sym e)) in
          record {
            risen = subst (λ x. x ≤ b) now k.risen;
            counted = ap (λ x. by_writer me (between x b h)) (sym now) ∙ k.counted;
          }
    ]

-- a step adds what its own mark says
step_counted : (me : ℕ) (seen : List Log) (had : List ℕ) (d : ℕ) (s : List Payload) (o : OwnMark)
    (own : List OwnMark) (end : List ℕ) (c : ℕ) → IsOwn me seen had d s o
    → IsCounted me seen (had_after had (a_step o)) end own c
    → IsCounted me seen had end (o ∷ own) c
step_counted me seen had d s o own end c n k =
    let h = get_or seen c [] in
    let a = get_or had c 0 in
    let b = get_or end c 0 in
    let u = o.from + o.count in
    elim (eqb_tells o.cell c) [
      | inl w ↦
          let at : d ≡ c = sym n.cell_is ∙ w.1 in
          let lt : o.cell < length had =
          subst (λ x. x < length had) (sym n.cell_is) n.known in
          let from : o.from ≡ a = n.from ∙ ap (λ x. get_or had x 0) at in
          let now : get_or (set had o.cell u) c 0 ≡ u =
          ap (λ x. get_or (set had o.cell u) x 0) (sym w.1) ∙ get_or-set_same had o.cell u 0 lt in
          let since : a ≤ u = omega (arith, from) in
          let upto : u ≤ b = subst (λ x. x ≤ b) now k.risen in
          let whole : between a u h ≡ at_own seen o =
          ap (λ x. drop x (take u h)) (sym from)
          ∙ (drop-take o.from o.count h
          ∙ ap (λ x. take o.count (drop o.from (get_or seen x []))) (sym w.1)) in
          let mine : by_writer me (between a u h) ≡ at_own seen o =
          ap (by_writer me) (whole ∙ n.appended) ∙ (by_writer_signed me s ∙ sym n.appended) in
          let here : step_at c seen o ≡ at_own seen o =
          ap (λ t. if t then at_own seen o else []) w.0 in
          record {
            risen = omega (arith, since, upto);
            counted = ap (by_writer me) (between_join a u b h since upto)
                ∙ (by_writer-append me (between a u h) (between u b h)
                ∙ (ap (λ x. x ++ by_writer me (between u b h)) (mine ∙ sym here)
                ∙ ap (λ x. step_at c seen o ++ x)
                (ap (λ x. by_writer me (between x b h)) (sym now) ∙ k.counted)));
          }
      | inr w ↦
          let now : get_or (set had o.cell u) c 0 ≡ a =
          get_or-set_other had o.cell c u 0 (λ e. w.1 (sym e)) in
          let here : step_at c seen o ≡ [] = ap (λ t. if t then at_own seen o else []) w.0 in
          record {
            risen = subst (λ x. x ≤ b) now k.risen;
            counted = ap (λ x. by_writer me (between x b h)) (sym now)
                ∙ (k.counted ∙ ap (λ x. x ++ steps_at c seen own) (sym here));
          }
    ]

-- accesses that follow a course: the writer's entries are just the own steps, at each cell
pub follows_counted : {A : Type 0} (me : ℕ) (seen : List Log) (had : List ℕ) (p : Course A)
    (accesses : List Access) (q : Course A) (end : List ℕ) (c : ℕ)
    → Follows me seen had p accesses q end
    → IsCounted me seen had end (own_of accesses) c
follows_counted me seen had p [] q end c f =
    let h = get_or seen c [] in
    let e : get_or end c 0 ≡ get_or had c 0 = ap (λ x. get_or x c 0) f.1 in
    record {
      risen = omega (arith, e);
      counted = ap (λ x. by_writer me (between (get_or had c 0) x h)) e
          ∙ ap (by_writer me) (none_between (get_or had c 0) h);
    }
follows_counted me seen had (ends a) (access ∷ accesses) q end c f = absurd f.0
follows_counted me seen had (looks d see) (a_step o ∷ accesses) q end c f = absurd f.0
follows_counted me seen had (makes d s p) (a_look m ∷ accesses) q end c f = absurd f.0
follows_counted me seen had (looks d see) (a_look m ∷ accesses) q end c f =
    let access = a_look m in
    look_counted me seen had d m (own_of accesses) end c f.0
    (follows_counted me seen (had_after had access)
    (rest_after seen (looks d see) access) accesses q end c
    f.1)
follows_counted me seen had (makes d s p) (a_step o ∷ accesses) q end c f =
    step_counted me seen had d s o (own_of accesses) end c f.0
    (follows_counted me seen (had_after had (a_step o)) p accesses q end c f.1)
