-- The settled part of a history, with one more entry.
use Rattle.std.proofs.Common.{◌≡◌, suc, ◌≤◌, ◌||◌, ◌&&◌, Bool, true, false, not, cond, [], ◌∷◌, ◌++◌, length, take, refl, ap, ◌∙◌, arith}
use Rattle.std.proofs.lemmas.Bool.Decides.{nat_tests}
use Rattle.std.specs.Prelude.{nat_lt}
use Rattle.shard_versions.specs.declared.entry.Entry.{Entry}
use Rattle.shard_versions.specs.Histories.{History, is_mark, has_mark, settled, is_pending}

-- there is a Mark with one more entry where there was one, or it is one
pub has_mark-push : (h : History) (e : Entry) → has_mark (h ++ e ∷ []) ≡ (has_mark h || is_mark e.kind)
has_mark-push [] e = go (is_mark e.kind)
  where
    go : (b : Bool) → (b || false) ≡ (false || b)
    go true = refl
    go false = refl
has_mark-push (x ∷ h) e = go (is_mark x.kind) (has_mark h) (is_mark e.kind) (has_mark (h ++ e ∷ [])) (has_mark-push h e)
  where
    go : (a b m n : Bool) → n ≡ (b || m) → (a || n) ≡ ((a || b) || m)
    go true b m n p = refl
    go false b m n p = p

-- one more entry settles all where it is a Mark, and nothing else
pub settled-push : (h : History) (e : Entry) → settled (h ++ e ∷ []) ≡ cond (is_mark e.kind) (h ++ e ∷ []) (settled h)
unfolding settled
settled-push [] e = go (is_mark e.kind)
  where
    go : (b : Bool) → cond (b || false) (e ∷ []) [] ≡ cond b (e ∷ []) []
    go true = refl
    go false = refl
settled-push (x ∷ h) e = go (is_mark x.kind) (has_mark h) (is_mark e.kind) (has_mark (h ++ e ∷ [])) (has_mark-push h e) (settled-push h e)
  where
    go : (a b m n : Bool) → n ≡ (b || m) → settled (h ++ e ∷ []) ≡ cond m (h ++ e ∷ []) (settled h)
        → cond (a || n) (x ∷ settled (h ++ e ∷ [])) [] ≡ cond m (x ∷ h ++ e ∷ []) (cond (a || b) (x ∷ settled h) [])
    go true b true n p r = ap (λ xs. x ∷ xs) r
    go true b false n p r = ap (λ xs. x ∷ xs) r
    go false true true n p r = rw p (ap (λ xs. x ∷ xs) r)
    go false true false n p r = rw p (ap (λ xs. x ∷ xs) r)
    go false false true n p r = rw p (ap (λ xs. x ∷ xs) r)
    go false false false n p r = rw p refl

-- the settled part is the first so many entries
pub settled-take : (h : History) → take (length (settled h)) h ≡ settled h
unfolding settled
settled-take [] = refl
settled-take (x ∷ h) = go (has_mark (x ∷ h)) (settled-take h)
  where
    go : (b : Bool) → take (length (settled h)) h ≡ settled h
        → take (length (cond b (x ∷ settled h) [])) (x ∷ h) ≡ cond b (x ∷ settled h) []
    go true e = ap (λ xs. x ∷ xs) e
    go false e = refl

-- it is no longer than the history
pub settled-short : (h : History) → length (settled h) ≤ length h
unfolding settled
settled-short [] = omega arith
settled-short (x ∷ h) = go (has_mark (x ∷ h)) (settled-short h)
  where
    go : (b : Bool) → length (settled h) ≤ length h → length (cond b (x ∷ settled h) []) ≤ suc (length h)
    go true e = omega arith
    go false e = omega arith

-- how long it is with one more entry
pub settled-length-push : (h : History) (e : Entry)
    → length (settled (h ++ e ∷ [])) ≡ cond (is_mark e.kind) (length (h ++ e ∷ [])) (length (settled h))
settled-length-push h e = ap length (settled-push h e) ∙ go (is_mark e.kind)
  where
    go : (b : Bool) → length (cond b (h ++ e ∷ []) (settled h)) ≡ cond b (length (h ++ e ∷ [])) (length (settled h))
    go true = refl
    go false = refl

-- a write is pending where the settled part is the shorter one
pub pending-short : (h : History) → nat_lt (length (settled h)) (length h) ≡ is_pending h
unfolding settled is_pending
pending-short [] = grind (arith, nat_tests)
pending-short (x ∷ h) = go (is_mark x.kind) (has_mark h) (pending-short h)
  where
    go : (a b : Bool) → nat_lt (length (settled h)) (length h) ≡ is_pending h
        → nat_lt (length (cond (a || b) (x ∷ settled h) [])) (suc (length h)) ≡ (not a && not b || is_pending h)
    go true b e = grind (arith, nat_tests)
    go false true e = grind (arith, nat_tests)
    go false false e = grind (arith, nat_tests)

-- what a test for pending writes needs
pub ruleset pending_tests = (pending-short)
