-- At which cells a cut looks, and what is seen there of stored checkpoints.
use Rattle.std.proofs.Common.{◌≡◌, ◌≢◌, ◌⊎◌, ℕ, zero, suc, ◌+◌, ◌<◌, ◌≤◌, ◌==◌, true, false, cond, List, [], ◌∷◌, length, get_or, slice_index, refl, sym, ap, ◌∙◌, subst, arith, inl, inr}
use Rattle.std.specs.Prelude.{Contains, Some, Result, Ok, Err, OnOk}
use Rattle.std.proofs.lemmas.Bool.{cases_eq, eq-eqb}
use Rattle.std.proofs.lemmas.Bool.Decides.{eqb_tells}
use Rattle.tuple_values.specs.Document.{ByteList}
use Rattle.tuple_values.specs.declared.names.NameShards.{NameShards}
use Rattle.shard_versions.specs.declared.cut.CutMark.{CutMark}
use Rattle.shard_versions.specs.declared.cut.CutPart.{CutPart}
use Rattle.topic_book.specs.Cells.{cell_of, place_of, Place}
use Rattle.topic_book.specs.Fitness.{shards_of}
use Rattle.exchange_rules.specs.Accesses.{Access, a_look, a_step, at_mark, had_after, looks_at, marks_of}
use Rattle.exchange_rules.specs.Calls.{Completed, HasAppended}
use Rattle.exchange_rules.specs.Cells.{Log}
use Rattle.exchange_rules.specs.Courses.{Course, ends, looks, makes, and_then}
use Rattle.exchange_rules.specs.Following.{counts, rest_after, Follows, Writer}
use Rattle.exchange_rules.specs.Rows.{cut_course, cut_shards}
use Rattle.exchange_rules.specs.declared.fault.SiteFault.{SiteFault}
use Rattle.exchange_rules.proofs.CellLemmas.{cell_of-within}
use Rattle.exchange_rules.proofs.ReachLemmas.{count_by-append}
use Rattle.site_laws.specs.Looks.{last_seen, AreStoresSeen, IsLater, Sight}
use Rattle.site_laws.specs.SiteCells.{AreSeenOf}
use Rattle.site_laws.proofs.DutyLemmas.{place-named}
use Rattle.site_laws.proofs.StoreLemmas.{stores-seen}

-- no way down the course looks at the cell
abbrev pub LooksNever : {A : Type 0} → ℕ → Course A → Type 0
LooksNever cell (ends a) = Unit {0}
LooksNever cell (looks c see) = (c ≢ cell) × ((log : Log) → LooksNever cell (see log))
LooksNever cell (makes c step rest) = LooksNever cell rest

-- each way down the course looks at the cell
abbrev pub LooksSurely : {A : Type 0} → ℕ → Course A → Type 0
LooksSurely cell (ends a) = ⊥
LooksSurely cell (looks c see) = (c ≡ cell) ⊎ ((log : Log) → LooksSurely cell (see log))
LooksSurely cell (makes c step rest) = LooksSurely cell rest

-- one mark more is a look at the cell, or none
counted-one : (cell : ℕ) (m : CutMark) (marks : List CutMark)
    → looks_at cell (m ∷ marks) ≡ cond (m.cell == cell) 1 0 + looks_at cell marks
counted-one cell m marks =
    let a = count_by-append (λ (n : CutMark). n.cell == cell) (m ∷ []) marks in omega (arith, a)

counted-other : (cell : ℕ) (m : CutMark) (marks : List CutMark) → m.cell ≢ cell
    → looks_at cell (m ∷ marks) ≡ looks_at cell marks
counted-other cell m marks apart =
    let no : (m.cell == cell) ≡ false =
    elim (eqb_tells m.cell cell) [ inl w ↦ absurd (apart w.1) | inr w ↦ w.0 ] in
    let a = counted-one cell m marks in
    let e : cond {A = ℕ} (m.cell == cell) 1 0 ≡ 0 = ap (λ b. cond {A = ℕ} b 1 0) no in omega (arith, a, e)

counted-here : (cell : ℕ) (m : CutMark) (marks : List CutMark) → m.cell ≡ cell
    → looks_at cell (m ∷ marks) ≡ looks_at cell marks + 1
counted-here cell m marks same =
    let yes : (m.cell == cell) ≡ true = eq-eqb m.cell cell same in
    let a = counted-one cell m marks in
    let e : cond {A = ℕ} (m.cell == cell) 1 0 ≡ 1 = ap (λ b. cond {A = ℕ} b 1 0) yes in omega (arith, a, e)

-- a mark more is at least as many looks
counted-more : (cell : ℕ) (m : CutMark) (marks : List CutMark)
    → looks_at cell marks ≤ looks_at cell (m ∷ marks)
counted-more cell m marks = elim (cases_eq m.cell cell) [
  | inl same ↦ let e = counted-here cell m marks same in omega (arith, e)
  | inr apart ↦ let e = counted-other cell m marks apart in omega (arith, e)
]

-- who follows a course that never looks there doesn't
pub never-looked : {A : Type 0} (cell me : ℕ) (seen : List Log) (had : List ℕ) (p : Course A)
    (accesses : List Access) (q : Course A) (end : List ℕ)
    → Follows me seen had p accesses q end → LooksNever cell p
    → looks_at cell (marks_of accesses) ≡ 0
never-looked cell me seen had p [] q end f n = refl
never-looked cell me seen had (ends a) (access ∷ accesses) q end f n = absurd f.0
never-looked cell me seen had (looks c see) (a_step o ∷ accesses) q end f n = absurd f.0
never-looked cell me seen had (makes c s p) (a_look m ∷ accesses) q end f n = absurd f.0
never-looked cell me seen had (looks c see) (a_look m ∷ accesses) q end f n =
    counted-other cell m (marks_of accesses) (λ e. n.0 (sym f.0.cell_is ∙ e))
    ∙ never-looked cell me seen (had_after had (a_look m))
    (rest_after seen (looks c see) (a_look m)) accesses q end f.1 (n.1 (at_mark seen m))
never-looked cell me seen had (makes c s p) (a_step o ∷ accesses) q end f n =
    never-looked cell me seen (had_after had (a_step o)) p accesses q end f.1 n

-- an end is no look
no-end : {A : Type 0} (cell : ℕ) (p : Course A) (a : A) → LooksSurely cell p → ends a ≡ p → ⊥
no-end cell p a s e = subst (LooksSurely cell) (sym e) s

-- who follows to its end one that surely looks there does
pub surely-looked : {A : Type 0} (cell me : ℕ) (seen : List Log) (had : List ℕ) (p : Course A)
    (accesses : List Access) (a : A) (end : List ℕ)
    → Follows me seen had p accesses (ends a) end → LooksSurely cell p
    → 0 < looks_at cell (marks_of accesses)
surely-looked cell me seen had p [] a end f s = absurd (no-end cell p a s f.0)
surely-looked cell me seen had (ends b) (access ∷ accesses) a end f s = absurd f.0
surely-looked cell me seen had (looks c see) (a_step o ∷ accesses) a end f s = absurd f.0
surely-looked cell me seen had (makes c s p) (a_look m ∷ accesses) a end f n = absurd f.0
surely-looked cell me seen had (looks c see) (a_look m ∷ accesses) a end f s = elim s [
  | inl here ↦
      let e = counted-here cell m (marks_of accesses) (f.0.cell_is ∙ here) in omega (arith, e)
  | inr later ↦
      let more = surely-looked cell me seen (had_after had (a_look m))
      (rest_after seen (looks c see) (a_look m)) accesses a end f.1 (later (at_mark seen m)) in
      let e = counted-more cell m (marks_of accesses) in omega (arith, e, more)
]
surely-looked cell me seen had (makes c s p) (a_step o ∷ accesses) a end f n =
    surely-looked cell me seen (had_after had (a_step o)) p accesses a end f.1 n

-- one course and then another
never-then : {A B : Type 0} (cell : ℕ) (p : Course A) (next : A → Course B) → LooksNever cell p
    → ((a : A) → LooksNever cell (next a)) → LooksNever cell (and_then p next)
never-then cell (ends a) next n f = f a
never-then cell (looks c see) next n f = (n.0, λ log. never-then cell (see log) next (n.1 log) f)
never-then cell (makes c s p) next n f = never-then cell p next n f

surely-first : {A B : Type 0} (cell : ℕ) (p : Course A) (next : A → Course B)
    → LooksSurely cell p → LooksSurely cell (and_then p next)
surely-first cell (ends a) next s = absurd s
surely-first cell (looks c see) next s = elim s [
  | inl here ↦ inl here
  | inr later ↦ inr (λ log. surely-first cell (see log) next (later log))
]
surely-first cell (makes c s p) next n = surely-first cell p next n

surely-then : {A B : Type 0} (cell : ℕ) (p : Course A) (next : A → Course B)
    → ((a : A) → LooksSurely cell (next a)) → LooksSurely cell (and_then p next)
surely-then cell (ends a) next f = f a
surely-then cell (looks c see) next f = inr (λ log. surely-then cell (see log) next f)
surely-then cell (makes c s p) next f = surely-then cell p next f

-- a cut of a collection's shards
shards-never : (names : List NameShards) (c : ByteList) (cell shard left : ℕ)
    (cut : List CutPart)
    → ((s : ℕ) → shard ≤ s → s < shard + left → cell_of names c s ≢ cell)
    → LooksNever cell (cut_shards names c shard left cut)
shards-never names c cell shard zero cut f = tt
shards-never names c cell shard (suc left) cut f = (
  f shard (omega arith) (omega arith),
  λ log. shards-never names c cell (shard + 1) left _
      (λ s low high. f s (omega (arith, low)) (omega (arith, high))),
)

shards-surely : (names : List NameShards) (c : ByteList) (at shard left : ℕ)
    (cut : List CutPart) → shard ≤ at → at < shard + left
    → LooksSurely (cell_of names c at) (cut_shards names c shard left cut)
shards-surely names c at shard zero cut low high = absurd (omega (arith, low, high))
shards-surely names c at shard (suc left) cut low high = elim (cases_eq shard at) [
  | inl same ↦ inl (ap (cell_of names c) same)
  | inr apart ↦
      inr (λ log. shards-surely names c at (shard + 1) left _ (omega (arith, low, apart))
      (omega (arith, high)))
]

-- shards of two collections stand apart
cells-apart : (names : List NameShards) (c d : ByteList) (s t : ℕ) → s < shards_of names c
    → t < shards_of names d → c ≢ d → cell_of names c s ≢ cell_of names d t
cells-apart names c d s t ls lt apart same =
    apart (named (record { collection = c; shard = s; shards = shards_of names c })
    (record { collection = d; shard = t; shards = shards_of names d })
    (sym (place-named names c s ls)
    ∙ (ap (place_of names) same ∙ place-named names d t lt)))
  where
    named : (p q : Place) → Some p ≡ Some q → p.collection ≡ q.collection
    named p q e = ap (λ (r : Place). r.collection) (let one : p ≡ q = cc in one)

-- a collection is in a list of them
abbrev pub IsIn : ByteList → List ByteList → Type 0
IsIn c [] = ⊥
IsIn c (d ∷ ds) = (c ≡ d) ⊎ IsIn c ds

-- a cut never looks at a shard of another collection
cut-never : (names : List NameShards) (collections : List ByteList) (cut : List CutPart)
    (src : ByteList) (shard : ℕ) → shard < shards_of names src
    → (IsIn src collections → ⊥)
    → LooksNever (cell_of names src shard) (cut_course names cut collections)
cut-never names [] cut src shard lt out = tt
cut-never names (c ∷ collections) cut src shard lt out =
    never-then (cell_of names src shard) (cut_shards names c 0 (shards_of names c) cut) _
    (shards-never names c (cell_of names src shard) 0 (shards_of names c) cut
    (λ s low high. cells-apart names c src s shard (omega (arith, high)) lt
    (λ e. out (inl (sym e)))))
    (λ more. cut-never names collections more src shard lt (λ i. out (inr i)))

-- and surely at each of one that is in its list
cut-surely : (names : List NameShards) (collections : List ByteList) (cut : List CutPart)
    (dest : ByteList) (shard : ℕ) → shard < shards_of names dest → IsIn dest collections
    → LooksSurely (cell_of names dest shard) (cut_course names cut collections)
cut-surely names [] cut dest shard lt is = absurd is
cut-surely names (c ∷ collections) cut dest shard lt is = elim is [
  | inl same ↦
      subst (λ d. shard < shards_of names d → LooksSurely (cell_of names d shard)
      (cut_course names cut (c ∷ collections))) (sym same)
      (λ l. surely-first (cell_of names c shard) (cut_shards names c 0 (shards_of names c) cut) _
      (shards-surely names c shard 0 (shards_of names c) cut (omega arith) (omega (arith, l)))) lt
  | inr later ↦
      surely-then (cell_of names dest shard) (cut_shards names c 0 (shards_of names c) cut) _
      (λ more. cut-surely names collections more dest shard lt later)
]

-- the collection is at some place of the list
pub contains-in : (c : ByteList) (ds : List ByteList) → Contains ds c → IsIn c ds
contains-in c ds h = go ds h.0 h.1 h.2
  where
    go : (ds : List ByteList) (k : ℕ) → k < length ds → get_or ds k c ≡ c → IsIn c ds
    go [] k lt e = absurd (omega (arith, lt))
    go (d ∷ ds) zero lt e = inl (sym e)
    go (d ∷ ds) (suc k) lt e = inr (go ds k (omega (arith, lt)) e)

-- and one that is in it is at some place
pub in-contains : (c : ByteList) (ds : List ByteList) → IsIn c ds → Contains ds c
in-contains c [] is = absurd is
in-contains c (d ∷ ds) is = elim is [
  | inl same ↦ (0, omega arith, sym same)
  | inr later ↦
      let h = in-contains c ds later in
      let lt = h.1 in (h.0 + 1, omega (arith, lt), ap (λ k. get_or (d ∷ ds) k c) (next h.0) ∙ h.2)
]
  where
    next : (n : ℕ) → n + 1 ≡ suc n
    next n = omega arith

-- after a cut of collections with the destination and without the source, what was stored is seen
pub stored-seen : (names : List NameShards) (collections : List ByteList) (w v : Writer)
    (old new : Sight) (cut : List CutPart)
    → HasAppended w v (cut_course names [] collections) (ends cut) 0
    → old.looks ≡ w.looks → new.looks ≡ v.looks → IsLater names old new
    → ((cell : ℕ) → 0 < slice_index new.looks cell → AreSeenOf (last_seen new cell) new.seen)
    → (src dest : ByteList) → Contains collections dest → (Contains collections src → ⊥)
    → 0 < shards_of names dest → AreStoresSeen names new src dest
stored-seen names collections w v old new cut done before after later since src dest has hasnt s =
    λ key b shard cell looked from is to.
    let r = done.reached in
    let from_src : shard < shards_of names src =
    subst (λ c. shard < shards_of names c) is from.below in
    let here : cell_of names src shard ≡ cell =
    ap (λ c. cell_of names c shard) (sym is) ∙ from.here in
    let none = subst (λ c. looks_at c (marks_of r.accesses) ≡ 0) here
    (never-looked (cell_of names src shard) w.me v.seen (counts w.seen)
    (cut_course names [] collections) r.accesses (ends cut) (counts v.seen) r.followed
    (cut-never names collections [] src shard from_src
    (λ i. hasnt (in-contains src collections i)))) in
    let still : slice_index new.looks cell ≡ slice_index old.looks cell =
    let a = r.looked cell in
    let x = ap (λ l. get_or l cell 0) before in
    let y = ap (λ l. get_or l cell 0) after in omega (arith, a, x, y, none) in
    stores-seen names old new later key b shard cell dest (since cell looked) still
    (omega (arith, still, looked)) from to s (λ there lt. cell_of-within names dest there lt)
    (λ there lt.
    let d = cell_of names dest there in
    let rose = surely-looked d w.me v.seen (counts w.seen) (cut_course names [] collections)
    r.accesses cut (counts v.seen) r.followed
    (cut-surely names collections [] dest there lt (contains-in dest collections has)) in
    let a = r.looked d in
    let x = ap (λ l. get_or l d 0) before in
    let y = ap (λ l. get_or l d 0) after in omega (arith, a, x, y, rose))

-- the same of an answer
pub stored-ok : (names : List NameShards) (collections : List ByteList) (w v : Writer)
    (old new : Sight) (r : Result (List CutPart) SiteFault)
    → Completed w v (cut_course names [] collections) r
    → old.looks ≡ w.looks → new.looks ≡ v.looks → IsLater names old new
    → ((cell : ℕ) → 0 < slice_index new.looks cell → AreSeenOf (last_seen new cell) new.seen)
    → OnOk r ((src dest : ByteList) → Contains collections dest → ¬ Contains collections src
    → 0 < shards_of names dest → AreStoresSeen names new src dest)
stored-ok names collections w v old new (Ok cut) done before after later since =
    λ src dest has hasnt some. stored-seen names collections w v old new cut done before after later
    since src dest has hasnt some
stored-ok names collections w v old new (Err f) done before after later since = tt
