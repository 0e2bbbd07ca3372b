-- Numbers and topics that are raised.
use Rattle.std.proofs.Common.{◌≡◌, ℕ, zero, suc, ◌+◌, ◌-◌, ◌<◌, ◌≤◌, max, min, ◌||◌, Bool, true, false, cond, List, [], ◌∷◌, ◌++◌, length, get_or, set, drop, take, Option, Some, None, slice_index, refl, sym, ap, ◌∙◌, arith, add-one, ltb, drop-cons}
use Rattle.std.specs.Prelude.{nat_lt}
use Rattle.std.proofs.lemmas.List.{drop_all}
use Rattle.topic_book.specs.declared.topic.TopicKey.{TopicKey}
use Rattle.topic_book.specs.declared.topics.Topic.{Topic}
use Rattle.topic_book.specs.Books.{Book, same_key, checkpoint, values_from, is_above, raises}
use Rattle.topic_book.specs.Raises.{raised, raised_upto, topic_of, place_of, raised_topic, raised_in, exceeds}

-- one more number is raised
pub raised_upto-more : (i : ℕ) (ns us : List ℕ) (n u : ℕ) → i < length ns → i < length us
    → n ≡ get_or (raised_upto i ns us) i n → u ≡ get_or us i u
    → set (raised_upto i ns us) i (max n u) ≡ raised_upto (i + 1) ns us
raised_upto-more i ns us n u lt lu e f = go i ns us lt lu e f ∙ ap (λ k. raised_upto k ns us) (sym (add-one i))
  where
    go : (i : ℕ) (ns us : List ℕ) → i < length ns → i < length us
        → n ≡ get_or (raised_upto i ns us) i n → u ≡ get_or us i u
        → set (raised_upto i ns us) i (max n u) ≡ raised_upto (suc i) ns us
    go i [] us lt lu e f = absurd (omega arith)
    go i (x ∷ ns) [] lt lu e f = absurd (omega arith)
    go zero (x ∷ ns) (y ∷ us) lt lu e f = rw (e, f) refl
    go (suc i) (x ∷ ns) (y ∷ us) lt lu e f = ap (λ r. max x y ∷ r) (go i ns us (omega arith) (omega arith) e f)

-- the same of a list that is raised so far
pub raise-goes : (i : ℕ) (ns us xs : List ℕ) (n m : ℕ) → i < length ns → i < length us → xs ≡ raised_upto i ns us
    → n ≡ get_or xs i n → m ≡ max n (get_or us i 0) → set xs i m ≡ raised_upto (i + 1) ns us
raise-goes i ns us xs n m lt lu x e f =
    let u : ℕ = get_or us i 0 in
    ap (λ k. set xs i k) f
    ∙ (ap (λ ys. set ys i (max n u)) x
    ∙ raised_upto-more i ns us n u lt lu (e ∙ ap (λ ys. get_or ys i n) x) (any us i u lu))
  where
    any : (us : List ℕ) (i u : ℕ) → i < length us → get_or us i 0 ≡ get_or us i u
    any [] i u lt = absurd (omega arith)
    any (y ∷ us) zero u lt = refl
    any (y ∷ us) (suc i) u lt = any us i u (omega arith)

-- at the end of the shorter list all are raised
pub raised_upto-end : (i : ℕ) (ns us : List ℕ) → min (length ns) (length us) ≤ i → raised_upto i ns us ≡ raised ns us
raised_upto-end zero [] us le = refl
raised_upto-end (suc i) [] us le = refl
raised_upto-end zero (x ∷ ns) [] le = refl
raised_upto-end (suc i) (x ∷ ns) [] le = refl
raised_upto-end zero (x ∷ ns) (y ∷ us) le = absurd (omega arith)
raised_upto-end (suc i) (x ∷ ns) (y ∷ us) le = ap (λ r. max x y ∷ r) (raised_upto-end i ns us (omega arith))

-- there are as many as before
pub raised_upto-length : (i : ℕ) (ns us : List ℕ) → length (raised_upto i ns us) ≡ length ns
raised_upto-length zero ns us = refl
raised_upto-length (suc i) [] us = refl
raised_upto-length (suc i) (x ∷ ns) [] = refl
raised_upto-length (suc i) (x ∷ ns) (y ∷ us) = ap suc (raised_upto-length i ns us)

-- the topic at the place of its key is raised
pub raised_in-at : (key : TopicKey) (us : List ℕ) (ts : List Topic) (at : ℕ) (t : Topic) → at ≡ place_of key ts
    → at < length ts → t ≡ get_or ts at t → set ts at (raised_topic t us) ≡ raised_in key us ts
raised_in-at key us [] at t e lt is = absurd (omega arith)
raised_in-at key us (x ∷ ts) at t e lt is = go (same_key key x.key) at e lt is (λ k. raised_in-at key us ts k t)
  where
    go : (b : Bool) (at : ℕ) → at ≡ cond b 0 (suc (place_of key ts)) → at < suc (length ts) → t ≡ get_or (x ∷ ts) at t
        → ((k : ℕ) → k ≡ place_of key ts → k < length ts → t ≡ get_or ts k t → set ts k (raised_topic t us) ≡ raised_in key us ts)
        → set (x ∷ ts) at (raised_topic t us) ≡ cond b (raised_topic x us ∷ ts) (x ∷ raised_in key us ts)
    go true zero e lt is f = ap (λ y. raised_topic y us ∷ ts) is
    go true (suc k) e lt is f = absurd (omega arith)
    go false zero e lt is f = absurd (omega arith)
    go false (suc k) e lt is f = ap (λ r. x ∷ r) (f k (omega arith) (omega arith) is)

-- the same where the topic's numbers are given
pub raise-there : (key : TopicKey) (us up : List ℕ) (ts : List Topic) (at : ℕ) (t : Topic) → at ≡ place_of key ts
    → at < length ts → t ≡ get_or ts at t → up ≡ raised t.upto us
    → set ts at (record { key = t.key; binding = t.binding; upto = up }) ≡ raised_in key us ts
raise-there key us up ts at t e lt is r = rw r (raised_in-at key us ts at t e lt is)

-- where there is none, none is raised
pub raised_in-none : (key : TopicKey) (us : List ℕ) (ts : List Topic) → length ts ≤ place_of key ts → ts ≡ raised_in key us ts
raised_in-none key us [] le = refl
raised_in-none key us (x ∷ ts) le = go (same_key key x.key) le (raised_in-none key us ts)
  where
    go : (b : Bool) → suc (length ts) ≤ cond b 0 (suc (place_of key ts))
        → (length ts ≤ place_of key ts → ts ≡ raised_in key us ts)
        → x ∷ ts ≡ cond b (raised_topic x us ∷ ts) (x ∷ raised_in key us ts)
    go true le f = absurd (omega arith)
    go false le f = ap (λ r. x ∷ r) (f (omega arith))

-- from a place on, a number exceeds or one behind it does
pub exceeds-drop : (i : ℕ) (ns us : List ℕ) → i < length ns → i < length us
    → exceeds (drop i ns) (drop i us) ≡ (nat_lt (get_or ns i 0) (get_or us i 0) || exceeds (drop (i + 1) ns) (drop (i + 1) us))
exceeds-drop i ns us lt lu =
    ap (λ xs. exceeds xs (drop i us)) (drop-cons ns i 0 lt)
    ∙ (ap (exceeds (get_or ns i 0 ∷ drop (suc i) ns)) (drop-cons us i 0 lu)
    ∙ ap (λ k. nat_lt (get_or ns i 0) (get_or us i 0) || exceeds (drop k ns) (drop k us)) (sym (add-one i)))

-- at the end of the shorter list none exceeds
pub exceeds-end : (i : ℕ) (ns us : List ℕ) → min (length ns) (length us) ≤ i → exceeds (drop i ns) (drop i us) ≡ false
exceeds-end zero [] us le = refl
exceeds-end (suc i) [] us le = refl
exceeds-end zero (x ∷ ns) [] le = refl
exceeds-end (suc i) (x ∷ ns) [] le = none (drop i ns)
  where
    none : (xs : List ℕ) → exceeds xs [] ≡ false
    none [] = refl
    none (x ∷ xs) = refl
exceeds-end zero (x ∷ ns) (y ∷ us) le = absurd (omega arith)
exceeds-end (suc i) (x ∷ ns) (y ∷ us) le = exceeds-end i ns us (omega arith)

-- what a loop that compares needs
pub ruleset exceed_steps = (exceeds-drop, exceeds-end)

-- what a loop that raises needs
pub ruleset raise_steps = (raised_upto-more, raised_upto-end, raised_upto-length)
