-- The run over the characters of a text, one turn at a time.
use Rattle.std.proofs.Common.{◌≡◌, ℕ, ◌+◌, ◌<◌, ◌≤◌, List, length, get_or, drop, Bool, true, false, cond}
use Rattle.std.proofs.Common.{Some, None, ◌∷◌, ap, sym, ◌∙◌, subst}
use Rattle.std.proofs.lemmas.List.{at_drop_more, at_drop_all}
use Rattle.std.proofs.lemmas.Str.{encodes-chars, length-le-encodes}
use Rattle.std.specs.Char.{len_utf8}
use Rattle.std.specs.Str.{chars, IsUtf8}
use Rattle.expr_reader.specs.Machine.{Machine, is_over, Moves}
use Rattle.expr_reader.specs.Steps.{step}
use Rattle.expr_reader.specs.Reading.{ended, over, follow, run}
use Rattle.expr_reader.specs.Fault.{fault_of}
use Rattle.expr_reader.specs.declared.fault.ExprFault.TheVariants.{Syntax}

-- the run from a place goes on with the character there
pub run_turn : (cs : List ℕ) (at : ℕ) (m : Machine) (n c : ℕ)
    → (n < length cs) × (c ≡ get_or cs n c)
    → run at m (drop n cs) ≡ follow at m c (step m c)
    (λ x. run (at + len_utf8 c) x (drop (n + 1) cs))
run_turn cs at m n c h =
    at_drop_more (run at m) cs n c h.0 ∙ ap (λ x. run at m (x ∷ drop (n + 1) cs)) (sym h.1)

-- what comes behind a character that is taken
run_next : (cs : List ℕ) (at : ℕ) (m m' : Machine) (n c : ℕ) (live : Bool)
    → (n < length cs) × (c ≡ get_or cs n c)
    → Moves m (step m c) live m' → live ≡ true
    → run at m (drop n cs) ≡ cond (is_over m') over (run (at + len_utf8 c) m' (drop (n + 1) cs))
run_next cs at m m' n c live h moves is =
    let taken : step m c ≡ Some m' = subst (λ b. Moves m (step m c) b m') is moves in
    run_turn cs at m n c h
    ∙ ap (λ s. follow at m c s (λ x. run (at + len_utf8 c) x (drop (n + 1) cs))) taken

-- a character that is taken
pub run_live : (cs : List ℕ) (at : ℕ) (m m' : Machine) (n c : ℕ) (live : Bool)
    → (n < length cs) × (c ≡ get_or cs n c)
    → Moves m (step m c) live m' → live ≡ true → is_over m' ≡ false
    → run at m (drop n cs) ≡ run (at + len_utf8 c) m' (drop (n + 1) cs)
run_live cs at m m' n c live h moves is small =
    run_next cs at m m' n c live h moves is
    ∙ ap (λ b. cond b over (run (at + len_utf8 c) m' (drop (n + 1) cs))) small

-- one that passes a limit
pub run_over : (cs : List ℕ) (at : ℕ) (m m' : Machine) (n c : ℕ) (live : Bool)
    → (n < length cs) × (c ≡ get_or cs n c)
    → Moves m (step m c) live m' → live ≡ true → is_over m' ≡ true
    → run at m (drop n cs) ≡ over
run_over cs at m m' n c live h moves is large =
    run_next cs at m m' n c live h moves is
    ∙ ap (λ b. cond b over (run (at + len_utf8 c) m' (drop (n + 1) cs))) large

-- a character that is refused, and its fault
pub run_stuck : (cs : List ℕ) (at : ℕ) (m m' : Machine) (n c : ℕ) (live : Bool)
    → (n < length cs) × (c ≡ get_or cs n c)
    → Moves m (step m c) live m' → live ≡ false
    → fault_of (run at m (drop n cs)) ≡ Some (Syntax at)
run_stuck cs at m m' n c live h moves is =
    let dead : (step m c ≡ None) × (m' ≡ m) = subst (λ b. Moves m (step m c) b m') is moves in
    ap fault_of (run_turn cs at m n c h
    ∙ ap (λ s. follow at m c s (λ x. run (at + len_utf8 c) x (drop (n + 1) cs))) dead.0)

-- no character is left
pub run_end : (cs : List ℕ) (at : ℕ) (m : Machine) (n : ℕ) → length cs ≤ n
    → run at m (drop n cs) ≡ ended m
run_end cs at m n h = at_drop_all (run at m) cs n h

-- a text has no more characters than bytes
pub chars_small : (bs : List ℕ) → IsUtf8 bs → length (chars bs) ≤ length bs
chars_small bs u = rw (encodes-chars bs u) at (length-le-encodes (chars bs))
