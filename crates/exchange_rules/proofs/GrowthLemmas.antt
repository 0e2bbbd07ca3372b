-- Logs that grow: what was seen of them stays.
use Rattle.std.proofs.Common.{◌≡◌, ℕ, zero, suc, ◌+◌, ◌≤◌, List, [], ◌∷◌, ◌++◌, length, get_or, set, take, drop, refl, sym, ap, ◌∙◌, arith, append_assoc, append-nil, length-append, length-drop}
use Rattle.std.proofs.lemmas.List.{take-append-le, drop-append-le}
use Rattle.shard_versions.specs.declared.cut.CutMark.{CutMark}
use Rattle.shard_versions.specs.declared.cut.OwnMark.{OwnMark}
use Rattle.exchange_rules.specs.Cells.{Log}
use Rattle.exchange_rules.specs.Accesses.{at_mark, at_own}
use Rattle.exchange_rules.specs.Following.{Grows, counts}

-- the second log goes on from the first
abbrev pub Continues : Log → Log → Type 0
Continues old new = (more : Log) × (new ≡ old ++ more)

-- logs that stay as they are
pub grows_same : (s : List Log) → Grows s s
grows_same [] = tt
grows_same (log ∷ logs) = (([], sym (append-nil log)), grows_same logs)

-- logs that grow twice
pub grows_join : (s t u : List Log) → Grows s t → Grows t u → Grows s u
grows_join [] [] [] a b = tt
grows_join [] [] (k ∷ u) a b = absurd b
grows_join [] (h ∷ t) u a b = absurd a
grows_join (h ∷ s) [] u a b = absurd a
grows_join (h ∷ s) (k ∷ t) [] a b = absurd b
grows_join (h ∷ s) (k ∷ t) (l ∷ u) a b =
    let more : Log = a.0.0 ++ b.0.0 in
    let same : l ≡ h ++ more =
    b.0.1 ∙ (ap (λ x. x ++ b.0.0) a.0.1 ∙ append_assoc h a.0.0 b.0.0) in
    ((more, same), grows_join s t u a.1 b.1)

-- one of the logs
pub grows_at : (s t : List Log) → Grows s t → (c : ℕ) → Continues (get_or s c []) (get_or t c [])
grows_at [] [] g c = ([], refl)
grows_at [] (k ∷ ks) g c = absurd g
grows_at (h ∷ hs) [] g c = absurd g
grows_at (h ∷ hs) (k ∷ ks) g zero = g.0
grows_at (h ∷ hs) (k ∷ ks) g (suc c) = grows_at hs ks g.1 c

-- the number of cells stays
pub grows_length : (s t : List Log) → Grows s t → length t ≡ length s
grows_length [] [] g = refl
grows_length [] (k ∷ ks) g = absurd g
grows_length (h ∷ hs) [] g = absurd g
grows_length (h ∷ hs) (k ∷ ks) g = ap suc (grows_length hs ks g.1)

-- one cell grows
pub grows_set : (seen : List Log) (c : ℕ) (more : Log)
    → Grows seen (set seen c (get_or seen c [] ++ more))
grows_set [] c more = tt
grows_set (h ∷ hs) zero more = ((more, refl), grows_same hs)
grows_set (h ∷ hs) (suc c) more = (([], sym (append-nil h)), grows_set hs c more)

-- the first entries of a log stay
pub take_still : (h k : Log) (u : ℕ) → Continues h k → u ≤ length h → take u k ≡ take u h
take_still h k u e le = ap (take u) e.1 ∙ take-append-le u h e.0 le

-- so does each part of it
pub part_still : (h k : Log) (a n : ℕ) → Continues h k → a + n ≤ length h
    → take n (drop a k) ≡ take n (drop a h)
part_still h k a n e le =
    let a_le : a ≤ length h = omega arith in
    let n_le : n ≤ length (drop a h) = rw (length-drop a h) (omega arith) in
    ap (λ x. take n (drop a x)) e.1
    ∙ (ap (take n) (drop-append-le a h e.0 a_le) ∙ take-append-le n (drop a h) e.0 n_le)

-- a place in a log is one in a longer log
pub length_still : (h k : Log) (u : ℕ) → Continues h k → u ≤ length h → u ≤ length k
length_still h k u e le = let l = simp length-append at (ap length e.1) in omega (arith, l)

-- what a mark shows stays
pub mark_still : (s t : List Log) → Grows s t → (m : CutMark)
    → m.upto ≤ length (get_or s m.cell []) → at_mark t m ≡ at_mark s m
mark_still s t g m le =
    take_still (get_or s m.cell []) (get_or t m.cell []) m.upto (grows_at s t g m.cell) le

-- and what an own mark says was appended
pub own_still : (s t : List Log) → Grows s t → (o : OwnMark)
    → o.from + o.count ≤ length (get_or s o.cell []) → at_own t o ≡ at_own s o
own_still s t g o le =
    part_still (get_or s o.cell []) (get_or t o.cell []) o.from o.count (grows_at s t g o.cell) le

-- how many entries a cell has
pub count_at : (seen : List Log) (c : ℕ) → get_or (counts seen) c 0 ≡ length (get_or seen c [])
count_at [] c = refl
count_at (h ∷ hs) zero = refl
count_at (h ∷ hs) (suc c) = count_at hs c
