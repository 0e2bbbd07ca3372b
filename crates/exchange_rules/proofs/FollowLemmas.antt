-- Following a course: it stays as logs grow, and it goes on from where it stands.
use Rattle.std.proofs.Common.{◌≡◌, ◌≢◌, ℕ, ◌+◌, ◌≤◌, List, [], ◌∷◌, ◌++◌, length, get_or, drop, refl, sym, ap, ◌∙◌, subst}
use Rattle.std.specs.List.{AllByRecursion}
use Rattle.shard_versions.specs.declared.cut.CutMark.{CutMark}
use Rattle.shard_versions.specs.declared.cut.OwnMark.{OwnMark}
use Rattle.exchange_rules.specs.Cells.{Log, Payload, author_of}
use Rattle.exchange_rules.specs.Courses.{Course, ends, looks, makes, and_then}
use Rattle.exchange_rules.specs.Accesses.{Access, a_look, a_step, IsLook, IsOwn, had_after}
use Rattle.exchange_rules.specs.Following.{IsNext, rest_after, Follows, Grows}
use Rattle.exchange_rules.proofs.GrowthLemmas.{grows_at, take_still, length_still, mark_still, own_still}

-- a look is one over longer logs
look_still : (me : ℕ) (s t : List Log) (had : List ℕ) (c : ℕ) (m : CutMark) → Grows s t
    → IsLook me s had c m → IsLook me t had c m
look_still me s t had c m g l =
    let e = grows_at s t g c in
    let same = take_still (get_or s c []) (get_or t c []) m.upto e l.within in
    record {
      cell_is = l.cell_is;
      known = l.known;
      since = l.since;
      within = length_still (get_or s c []) (get_or t c []) m.upto e l.within;
      others = subst (λ (h : Log). AllByRecursion (λ n. author_of n ≢ me) (drop (get_or had c 0) h))
          (sym same) l.others;
    }

-- the cell that an own mark names is the step's
pub own_within : (me : ℕ) (s : List Log) (had : List ℕ) (c : ℕ) (step : List Payload) (o : OwnMark)
    → IsOwn me s had c step o → o.from + o.count ≤ length (get_or s o.cell [])
own_within me s had c step o l =
    subst (λ x. o.from + o.count ≤ length (get_or s x [])) (sym l.cell_is) l.within

-- so is a step
step_still : (me : ℕ) (s t : List Log) (had : List ℕ) (c : ℕ) (step : List Payload) (o : OwnMark)
    → Grows s t → IsOwn me s had c step o → IsOwn me t had c step o
step_still me s t had c step o g l = record {
  cell_is = l.cell_is;
  known = l.known;
  from = l.from;
  count = l.count;
  within = length_still (get_or s c []) (get_or t c []) (o.from + o.count) (grows_at s t g c)
      l.within;
  appended = own_still s t g o (own_within me s had c step o l) ∙ l.appended;
}

-- what the course does next stays
next_still : {A : Type 0} (me : ℕ) (s t : List Log) (had : List ℕ) (p : Course A) (access : Access)
    → Grows s t → IsNext me s had p access → IsNext me t had p access
next_still me s t had (ends a) access g n = absurd n
next_still me s t had (looks c f) (a_look m) g n = look_still me s t had c m g n
next_still me s t had (looks c f) (a_step o) g n = absurd n
next_still me s t had (makes c step p) (a_look m) g n = absurd n
next_still me s t had (makes c step p) (a_step o) g n = step_still me s t had c step o g n

-- and so does what is left of it
rest_still : {A : Type 0} (me : ℕ) (s t : List Log) (had : List ℕ) (p : Course A) (access : Access)
    → Grows s t → IsNext me s had p access → rest_after t p access ≡ rest_after s p access
rest_still me s t had (ends a) access g n = absurd n
rest_still me s t had (looks c f) (a_look m) g n =
    ap f (mark_still s t g m
    (subst (λ x. m.upto ≤ length (get_or s x [])) (sym n.cell_is) n.within))
rest_still me s t had (looks c f) (a_step o) g n = absurd n
rest_still me s t had (makes c step p) (a_look m) g n = absurd n
rest_still me s t had (makes c step p) (a_step o) g n = refl

-- accesses that follow a course over some logs follow it over longer ones
pub follows_still : {A : Type 0} (me : ℕ) (s t : List Log) (had : List ℕ) (p : Course A)
    (accesses : List Access) (q : Course A) (end : List ℕ) → Grows s t
    → Follows me s had p accesses q end → Follows me t had p accesses q end
follows_still me s t had p [] q end g f = f
follows_still me s t had p (access ∷ accesses) q end g f =
    let after = had_after had access in
    let on = subst (λ x. Follows me s after x accesses q end)
    (sym (rest_still me s t had p access g f.0)) f.1 in (
      next_still me s t had p access g f.0,
      follows_still me s t after (rest_after t p access) accesses q end g on,
    )

-- accesses that follow the rest of a course go on from those that came to it
pub follows_join : {A : Type 0} (me : ℕ) (s : List Log) (had : List ℕ) (p : Course A)
    (accesses : List Access) (q : Course A) (mid : List ℕ) (later : List Access) (r : Course A)
    (end : List ℕ) → Follows me s had p accesses q mid → Follows me s mid q later r end
    → Follows me s had p (accesses ++ later) r end
follows_join me s had p [] q mid later r end a b =
    subst (λ h. Follows me s h p later r end) a.1
    (subst (λ x. Follows me s mid x later r end) a.0 b)
follows_join me s had p (access ∷ accesses) q mid later r end a b =
    let on = follows_join me s (had_after had access)
    (rest_after s p access) accesses q mid later r end in
    (a.0, on a.1 b)

-- what a course does next, a longer one does next
next_then : {A B : Type 0} (me : ℕ) (s : List Log) (had : List ℕ) (p : Course A)
    (k : A → Course B) (access : Access) → IsNext me s had p access
    → IsNext me s had (and_then p k) access
next_then me s had (ends a) k access n = absurd n
next_then me s had (looks c f) k (a_look m) n = n
next_then me s had (looks c f) k (a_step o) n = absurd n
next_then me s had (makes c step p) k (a_look m) n = absurd n
next_then me s had (makes c step p) k (a_step o) n = n

-- and what is left is what is left of it
rest_then : {A B : Type 0} (me : ℕ) (s : List Log) (had : List ℕ) (p : Course A)
    (k : A → Course B) (access : Access) → IsNext me s had p access
    → rest_after s (and_then p k) access ≡ and_then (rest_after s p access) k
rest_then me s had (ends a) k access n = absurd n
rest_then me s had (looks c f) k (a_look m) n = refl
rest_then me s had (looks c f) k (a_step o) n = absurd n
rest_then me s had (makes c step p) k (a_look m) n = absurd n
rest_then me s had (makes c step p) k (a_step o) n = refl

-- accesses that follow a course follow it before any other
pub follows_then : {A B : Type 0} (me : ℕ) (s : List Log) (had : List ℕ) (p : Course A)
    (k : A → Course B) (accesses : List Access) (q : Course A) (end : List ℕ)
    → Follows me s had p accesses q end
    → Follows me s had (and_then p k) accesses (and_then q k) end
follows_then me s had p k [] q end f = (ap (λ x. and_then x k) f.0, f.1)
follows_then me s had p k (access ∷ accesses) q end f =
    let after = had_after had access in
    let rest = rest_after s p access in
    let on = follows_then me s after rest k accesses q end f.1 in (
      next_then me s had p k access f.0,
      subst (λ x. Follows me s after x accesses (and_then q k) end)
          (sym (rest_then me s had p k access f.0)) on,
    )
