-- What a reading says is what the grammar says.
use Rattle.std.proofs.Common.{◌≡◌, ◌⊎◌, inl, inr, ⊎_elim, ℕ, ◌+◌, ◌<◌, ◌≤◌, List, [], ◌∷◌, ◌++◌}
use Rattle.std.proofs.Common.{Bool, true, false, cond, Some, Result, Ok, Err, ◌&&◌}
use Rattle.std.proofs.Common.{IfOk, IfErr, length, take, drop, IsUtf8}
use Rattle.std.proofs.Common.{encode_utf8_all, refl, ap, sym, ◌∙◌, subst, append_assoc, append-nil}
use Rattle.std.proofs.Common.{take-append-drop, take_all}
use Rattle.std.proofs.Common.{length-take, arith}
use Rattle.std.specs.Prelude.{nat_lt, ◌==◌}
use Rattle.std.specs.Str.{chars}
use Rattle.std.specs.Str.Lossy.{utf8_valid_len}
use Rattle.std.proofs.lemmas.Bool.{false≢true}
use Rattle.std.proofs.lemmas.Bool.Decides.{nat_tests}
use Rattle.std.proofs.lemmas.Str.{chars-encodes}
use Rattle.std.proofs.lemmas.Str.{utf8_valid_len-IsUtf8, utf8_valid_len_le, encodes-append}
use Rattle.std.proofs.lemmas.List.{drop_all}
use lib.Utf8.{scalars}
use Rattle.expr_reader.specs.Tree.{CallTree, KeepsLimits, levels, calls}
use Rattle.expr_reader.specs.Machine.{Machine, start, is_over, is_close}
use Rattle.expr_reader.specs.declared.machine.Place.{Place}
use Rattle.expr_reader.specs.declared.machine.Place.TheVariants.{Start, Name, AfterName, Open}
use Rattle.expr_reader.specs.declared.machine.Place.TheVariants.{Before, Bare, Quote, Escape}
use Rattle.expr_reader.specs.declared.machine.Place.TheVariants.{AfterQuote, AfterCall, CallGap}
use Rattle.expr_reader.specs.declared.machine.Place.TheVariants.{As, AfterAs, BeforeTo, To}
use Rattle.expr_reader.specs.declared.machine.Place.TheVariants.{AfterTo, Close}
use Rattle.expr_reader.specs.Reading.{Outcome, ended, stuck, over, run}
use Rattle.expr_reader.specs.Reading.{begun_len, read_call, read_end, read_outcome, read_front}
use Rattle.expr_reader.specs.Reading.{read_of}
use Rattle.expr_reader.specs.Grammar.{IsExpression, IsPlace, IsOver, IsTooLarge, byte_limit}
use Rattle.expr_reader.specs.Fault.{IfPlaced, TellsLarge, Answers, fault_of}
use Rattle.expr_reader.specs.Views.{call_tree}
use Rattle.expr_reader.specs.declared.call.Call.{Call}
use Rattle.expr_reader.specs.declared.fault.ExprFault.{ExprFault}
use Rattle.expr_reader.specs.declared.fault.ExprFault.TheVariants.{TooLarge, Syntax, OutOfMemory}
use Rattle.expr_reader.proofs.TakeLemmas.{go}
use Rattle.expr_reader.proofs.CompleteLemmas.{closed}
use Rattle.expr_reader.proofs.BegunLemmas.{NoChar}
use Rattle.expr_reader.proofs.TextLemmas.{scalars_front, no_char_behind}
use Rattle.expr_reader.proofs.PlaceLemmas.{expression_read, read_expression, says_one, FitsOn}
use Rattle.expr_reader.proofs.PlaceLemmas.{not_over}
use Rattle.expr_reader.proofs.RefusalLemmas.{run_go, go_run, stuck_at, over_at}
use Rattle.expr_reader.proofs.EndLemmas.{end_place}
use Rattle.expr_reader.proofs.LimitLemmas.{place_one, refused_in, over_place, parts}

-- ---- what a reading has to say

-- the call is what the bytes say within the limits; the fault has the place, and some expression
-- within the limits begins so; or the bytes are too large
abbrev pub Told : List ℕ → Result CallTree ExprFault → Type 0
Told bytes (Ok tree) = IsExpression bytes tree × KeepsLimits tree
Told bytes (Err TooLarge) = IsTooLarge bytes
Told bytes (Err (Syntax at)) = IsPlace bytes at × FitsOn (take at bytes)
Told bytes (Err OutOfMemory) = ⊥

-- the test for the closing place
close_of : (q : Place) → is_close q ≡ true → q ≡ Close
close_of Start h = absurd (false≢true h)
close_of Name h = absurd (false≢true h)
close_of AfterName h = absurd (false≢true h)
close_of Open h = absurd (false≢true h)
close_of Before h = absurd (false≢true h)
close_of Bare h = absurd (false≢true h)
close_of Quote h = absurd (false≢true h)
close_of Escape h = absurd (false≢true h)
close_of AfterQuote h = absurd (false≢true h)
close_of AfterCall h = absurd (false≢true h)
close_of CallGap h = absurd (false≢true h)
close_of As h = absurd (false≢true h)
close_of AfterAs h = absurd (false≢true h)
close_of BeforeTo h = absurd (false≢true h)
close_of To h = absurd (false≢true h)
close_of AfterTo h = absurd (false≢true h)
close_of Close h = refl

-- all characters were taken
end_told : (cs : List ℕ) (m : Machine) (tail : List ℕ) → scalars cs ≡ true
    → go start cs ≡ Some m → is_over m ≡ false → NoChar tail
    → Told (encode_utf8_all cs ++ tail) (read_end m (length (encode_utf8_all cs)) tail)
end_told cs m [] s h small none = by (is_close m.place) refl
  where
    by : (b : Bool) → is_close m.place ≡ b
        → Told (encode_utf8_all cs ++ []) (cond b (read_call m.inner (length (encode_utf8_all cs)))
        (Err (Syntax (length (encode_utf8_all cs) + begun_len m []))))
    by true e =
        let x = read_expression cs m s h (close_of m.place e) in
        let k = not_over m small in
        let deep : m.deepest ≡ levels x.tree = ap (λ (n : Machine). n.deepest) x.is in
        let many : m.begun ≡ calls x.tree = ap (λ (n : Machine). n.begun) x.is in
        subst (λ o. Told (encode_utf8_all cs ++ [])
        (read_call o (length (encode_utf8_all cs)))) (sym (ap (λ (n : Machine). n.inner) x.is)) (
          subst (λ t. IsExpression t x.tree) (sym (append-nil (encode_utf8_all cs))) x.expression,
          (omega (arith, k.0, deep), omega (arith, k.1, many)),
        )
    by false e = let p = end_place cs m [] s h none in (p.place, p.fits small)
end_told cs m (x ∷ tail) s h small none =
    let more : (length (x ∷ tail) == 0) ≡ false = grind (arith, nat_tests) in
    let p = end_place cs m (x ∷ tail) s h none in
    subst (λ b. Told (encode_utf8_all cs ++ x ∷ tail)
    (cond (b && is_close m.place) (read_call m.inner (length (encode_utf8_all cs)))
    (Err (Syntax (length (encode_utf8_all cs) + begun_len m (x ∷ tail)))))) (sym more)
    (p.place, p.fits small)

-- each end of a run over a text says what the bytes say
outcome_told : (cs : List ℕ) (o : Outcome) (tail : List ℕ) → scalars cs ≡ true → NoChar tail
    → run 0 start cs ≡ o
    → Told (encode_utf8_all cs ++ tail) (read_outcome o (length (encode_utf8_all cs)) tail)
outcome_told cs (ended m) tail s none e =
    let g = run_go cs 0 start m refl e in
    end_told cs m tail s g.0 g.1 none
outcome_told cs (stuck k m c) tail s none e =
    let at = stuck_at cs 0 k start m c refl e in
    let place : length (encode_utf8_all at.front) ≡ k = omega (arith, at.place) in
    let p = refused_in cs at.front c at.rest tail m at.is s at.taken at.refused in
    subst (λ n. Told (encode_utf8_all cs ++ tail) (Err (Syntax n))) place
    (p.place, p.fits at.small)
outcome_told cs over tail s none e =
    let o = over_at cs 0 start e in
    let all : scalars (o.front ++ o.rest) ≡ true = subst (λ t. scalars t ≡ true) o.is s in
    let bytes_are : encode_utf8_all cs ++ tail ≡ encode_utf8_all o.front ++
    (encode_utf8_all o.rest ++ tail) =
    ap (λ t. encode_utf8_all t ++ tail) o.is
    ∙ ap (λ t. t ++ tail) (encodes-append o.front o.rest)
    ∙ append_assoc (encode_utf8_all o.front) (encode_utf8_all o.rest) tail in
    subst IsTooLarge (sym bytes_are)
    (inr (over_place o.front (encode_utf8_all o.rest ++ tail) o.end
    (scalars_front o.front o.rest all) o.taken o.large))

-- a reading says what the bytes say, or why they say nothing
pub read_told : (bytes : List ℕ) → Told bytes (read_of bytes)
read_told bytes = by (nat_lt byte_limit (length bytes)) refl
  where
    by : (b : Bool) → nat_lt byte_limit (length bytes) ≡ b
        → Told bytes (cond b (Err TooLarge) (read_front (utf8_valid_len bytes) bytes))
    by true e = let large : byte_limit < length bytes = grind (arith, nat_tests) in inl large
    by false e =
        let n = utf8_valid_len bytes in
        let cs = chars (take n bytes) in
        let p = parts bytes in
        let long : length (encode_utf8_all cs) ≡ n =
        omega (arith, ap length p.front, length-take n bytes, utf8_valid_len_le bytes) in
        let told = outcome_told cs (run 0 start cs) (drop n bytes) p.are (no_char_behind bytes)
        refl in
        subst (λ t. Told t (read_outcome (run 0 start cs) n (drop n bytes))) p.whole
        (subst (λ k. Told (encode_utf8_all cs ++ drop n bytes)
        (read_outcome (run 0 start cs) k (drop n bytes))) long told)

-- ---- an expression is read, or is too large

-- the outcome of its characters
of_outcome : (tree : CallTree) (n : ℕ) (tail : List ℕ) (o : Outcome) → tail ≡ []
    → (o ≡ ended (closed tree)) ⊎ (o ≡ over)
    → (read_outcome o n tail ≡ Ok tree) ⊎ (read_outcome o n tail ≡ Err TooLarge)
of_outcome tree n tail o none e = ⊎_elim
    (λ (end : o ≡ ended (closed tree)).
    inl (ap (λ x. read_outcome x n tail) end ∙ ap (read_end (closed tree) n) none))
    (λ (large : o ≡ over). inr (ap (λ x. read_outcome x n tail) large)) e

-- an expression is read, or is too large
pub read_complete : (bytes : List ℕ) (tree : CallTree) → length bytes ≤ byte_limit
    → IsExpression bytes tree → (read_of bytes ≡ Ok tree) ⊎ (read_of bytes ≡ Err TooLarge)
read_complete bytes tree small x =
    let r = expression_read bytes tree x in
    let n = utf8_valid_len bytes in
    let text : IsUtf8 bytes = (r.characters, (r.are, sym r.printed)) in
    let all : n ≡ length bytes = utf8_valid_len-IsUtf8 bytes text in
    let not_large : nat_lt byte_limit (length bytes) ≡ false = grind (arith, nat_tests) in
    let front : take n bytes ≡ bytes = take_all n bytes (omega (arith, all)) in
    let tail : drop n bytes ≡ [] = drop_all n bytes (omega (arith, all)) in
    let characters : chars (take n bytes) ≡ r.characters =
    ap chars (front ∙ r.printed) ∙ chars-encodes r.characters r.are in
    let ran : (run 0 start (chars (take n bytes)) ≡ ended (closed tree)) ⊎
    (run 0 start (chars (take n bytes)) ≡ over) =
    subst (λ t. (run 0 start t ≡ ended (closed tree)) ⊎ (run 0 start t ≡ over)) (sym characters)
    (go_run r.characters 0 start (closed tree) r.taken) in
    subst (λ b. (cond b (Err TooLarge) (read_front n bytes) ≡ Ok tree) ⊎
    (cond b (Err TooLarge) (read_front n bytes) ≡ Err TooLarge)) (sym not_large)
    (of_outcome tree n (drop n bytes) (run 0 start (chars (take n bytes))) tail ran)

-- ---- what the code reads

-- what the code reads is what stands there
pub read_is : (bytes text tail : List ℕ) (m : Machine) → length bytes ≤ byte_limit
    → text ≡ take (utf8_valid_len bytes) bytes → tail ≡ drop (length text) bytes
    → run 0 start (chars text) ≡ ended m → read_end m (length text) tail ≡ read_of bytes
read_is bytes text tail m small front behind ran =
    let n = utf8_valid_len bytes in
    let not_large : nat_lt byte_limit (length bytes) ≡ false = grind (arith, nat_tests) in
    let long : length text ≡ n =
    omega (arith, ap length front, length-take n bytes, utf8_valid_len_le bytes) in
    sym (ap (λ b. cond b (Err TooLarge) (read_front n bytes)) not_large
    ∙ ap (λ t. read_outcome (run 0 start (chars t)) n (drop n bytes)) (sym front)
    ∙ ap (λ o. read_outcome o n (drop n bytes)) ran
    ∙ ap (λ k. read_end m k (drop k bytes)) (sym long)
    ∙ ap (read_end m (length text)) (sym behind))

-- a fault of the run is the one that stands there
pub fault_is : (bytes text : List ℕ) (e : ExprFault) → length bytes ≤ byte_limit
    → text ≡ take (utf8_valid_len bytes) bytes
    → fault_of (run 0 start (chars text)) ≡ Some e → read_of bytes ≡ Err e
fault_is bytes text e small front h =
    let n = utf8_valid_len bytes in
    let not_large : nat_lt byte_limit (length bytes) ≡ false = grind (arith, nat_tests) in
    ap (λ b. cond b (Err TooLarge) (read_front n bytes)) not_large
    ∙ ap (λ t. read_outcome (run 0 start (chars t)) n (drop n bytes)) (sym front)
    ∙ by (run 0 start (chars text)) h
  where
    by : (o : Outcome) → fault_of o ≡ Some e
        → read_outcome o (utf8_valid_len bytes) (drop (utf8_valid_len bytes) bytes) ≡ Err e
    by (ended m) k = cc
    by (stuck at m c) k = let is : Syntax at ≡ e = cc in ap Err is
    by over k = let is : TooLarge ≡ e = cc in ap Err is

-- ---- an answer

-- too many bytes are too large
pub large_read : (bytes : List ℕ) → byte_limit < length bytes → read_of bytes ≡ Err TooLarge
large_read bytes h =
    let large : nat_lt byte_limit (length bytes) ≡ true = grind (arith, nat_tests) in
    ap (λ b. cond b (Err TooLarge) (read_front (utf8_valid_len bytes) bytes)) large

-- an answer that agrees with the reading is an expression
pub answers_ok : (bytes : List ℕ) (r : Result Call ExprFault) → Answers (read_of bytes) r
    → IfOk r (λ c. IsExpression bytes (call_tree c))
answers_ok bytes (Ok c) h = let told = subst (Told bytes) h (read_told bytes) in told.0
answers_ok bytes (Err e) h = tt

-- within the limits
pub answers_limits : (bytes : List ℕ) (r : Result Call ExprFault) → Answers (read_of bytes) r
    → IfOk r (λ c. KeepsLimits (call_tree c))
answers_limits bytes (Ok c) h = let told = subst (Told bytes) h (read_told bytes) in told.1
answers_limits bytes (Err e) h = tt

-- and the only one
pub answers_only : (bytes : List ℕ) (r : Result Call ExprFault) → Answers (read_of bytes) r
    → IfOk r (λ c. (other : CallTree) → IsExpression bytes other → other ≡ call_tree c)
answers_only bytes (Ok c) h = λ other x.
    says_one bytes other (call_tree c) x (answers_ok bytes (Ok c) h)
answers_only bytes (Err e) h = tt

-- bytes that are an expression within the limits, or begin one, are not too large
module _ (bytes : List ℕ) (small : length bytes ≤ byte_limit) where
  -- those that are one
  pub whole_fits : (tree : CallTree) → IsExpression bytes tree → KeepsLimits tree
      → ¬ (IsTooLarge bytes)
  whole_fits tree x keeps large = ⊎_elim
      (λ (long : byte_limit < length bytes). absurd (omega arith))
      (λ (o : (at : ℕ) × IsPlace bytes at × IsOver (take at bytes)).
      o.2 (drop o.0 bytes) tree
      (subst (λ t. IsExpression t tree) (sym (take-append-drop o.0 bytes)) x) keeps)
      large

  -- those whose longest front begins one
  pub place_fits : (at : ℕ) → IsPlace bytes at → FitsOn (take at bytes) → ¬ (IsTooLarge bytes)
  place_fits at p (more, tree, x, keeps) large = ⊎_elim
      (λ (long : byte_limit < length bytes). absurd (omega arith))
      (λ (o : (at : ℕ) × IsPlace bytes at × IsOver (take at bytes)).
      o.2 more tree (subst (λ n. IsExpression (take n bytes ++ more) tree)
      (place_one bytes at o.0 p o.1) x) keeps)
      large

  -- so an answer tells what is too large
  pub answers_large : (r : Result Call ExprFault) → Answers (read_of bytes) r → TellsLarge bytes r
  answers_large (Ok c) h =
      let told = subst (Told bytes) h (read_told bytes) in
      whole_fits (call_tree c) told.0 told.1
  answers_large (Err TooLarge) h = subst (Told bytes) h (read_told bytes)
  answers_large (Err (Syntax at)) h =
      let told = subst (Told bytes) h (read_told bytes) in
      place_fits at told.0 told.1
  answers_large (Err OutOfMemory) h = tt

  -- and bytes with a place say nothing
  pub answers_refused : (r : Result Call ExprFault) → Answers (read_of bytes) r
      → IfErr r (λ e. IfPlaced e (λ at. (other : CallTree) → ¬ (IsExpression bytes other)))
  answers_refused (Ok c) h = tt
  answers_refused (Err TooLarge) h = tt
  answers_refused (Err (Syntax at)) h = λ other x. ⊎_elim
      (λ (read : read_of bytes ≡ Ok other). cc)
      (λ (large : read_of bytes ≡ Err TooLarge). cc)
      (read_complete bytes other small x)
  answers_refused (Err OutOfMemory) h = tt

-- the place is theirs
pub answers_place : (bytes : List ℕ) (r : Result Call ExprFault) → Answers (read_of bytes) r
    → IfErr r (λ e. IfPlaced e (IsPlace bytes))
answers_place bytes (Ok c) h = tt
answers_place bytes (Err TooLarge) h = tt
answers_place bytes (Err (Syntax at)) h =
    let told = subst (Told bytes) h (read_told bytes) in
    told.0
answers_place bytes (Err OutOfMemory) h = tt
