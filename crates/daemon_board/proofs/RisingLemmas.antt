-- The daemons' numbers rise after each of the board's functions, and no daemon is out but by a
-- claim.
use Rattle.std.proofs.Common.{◌≡◌, ℕ, ◌+◌, ◌<◌, ◌≤◌, Bool, true, false, List, [], ◌∷◌, ◌++◌, Option, Some, None, refl, sym, subst, arith}
use Rattle.std.specs.Prelude.{Result, Ok, Err, if◌then◌else◌}
use Rattle.std.specs.Option.{is_some}
use Rattle.tuple_values.specs.Document.{ByteList, Doc}
use Rattle.tuple_values.specs.declared.memory.Memory.{Memory}
use Rattle.expr_types.specs.declared.expr.Expr.{Expr}
use Rattle.daemon_board.specs.Boards.{empty_board}
use Rattle.daemon_board.specs.Calls.{Changes, Kills, Lists, MakesOf, Starts, WhereTold}
use Rattle.daemon_board.specs.Daemons.{Entry, Shown, change_first, claimed, finished, fresh, has_id, is_running, put_on, resumed, stopped, with_daemons, without_first}
use Rattle.daemon_board.specs.Rising.{IsKept, IsResting, IsRising, Rest, RiseWithin}
use Rattle.daemon_board.specs.declared.daemon.Daemon.{Daemon}
use Rattle.daemon_board.specs.declared.daemon.State.TheVariants.{Running}
use Rattle.daemon_board.specs.declared.fault.BoardFault.{BoardFault}
use Rattle.daemon_board.specs.declared.fault.BoardFault.TheVariants.{DaemonTaken, UnknownDaemon, BoardFull, OutOfMemory}

-- a board on which no daemon was ever put
pub empty-rises : IsRising empty_board.shown
empty-rises = omega arith

pub empty-rests : IsResting empty_board.shown
empty-rests = tt

-- numbers that rise from one also rise from a lesser one
pub rise-lower : (less low most : ℕ) (es : List Entry) → less ≤ low → RiseWithin low most es
    → RiseWithin less most es
rise-lower less low most [] le h = omega (arith, le, h)
rise-lower less low most (e ∷ es) le h = (omega (arith, le, h.0), h.1)

-- numbers rise to the greatest, so that is no less than the least
pub rise-le : (low most : ℕ) (es : List Entry) → RiseWithin low most es → low ≤ most
rise-le low most [] h = h
rise-le low most (e ∷ es) h =
    let rest = rise-le e.daemon.number most es h.1 in omega (arith, h.0, rest)

-- two lists of daemons, one after the other
pub rise-join : (low middle most : ℕ) (front back : List Entry) → RiseWithin low middle front
    → RiseWithin middle most back → RiseWithin low most (front ++ back)
rise-join low middle most [] back a b = rise-lower low middle most back a b
rise-join low middle most (e ∷ front) back a b =
    (a.0, rise-join e.daemon.number middle most front back a.1 b)

-- one more daemon, with the next number
rise-more : (low most : ℕ) (es : List Entry) (e : Entry) → e.daemon.number ≡ most + 1
    → RiseWithin low most es → RiseWithin low (most + 1) (es ++ e ∷ [])
rise-more low most es e is h =
    rise-join low most (most + 1) es (e ∷ []) h (omega (arith, is), omega (arith, is))

pub put_on-rises : (b : Shown) (id : ByteList) (e : Expr) (interval : ℕ) (terminate : Bool)
    (now : ℕ)
    → IsRising b → IsRising (put_on b id (fresh b e interval terminate now))
put_on-rises b id e interval terminate now h =
    rise-more 0 b.put b.daemons (record { id = id; daemon = fresh b e interval terminate now }) refl
    h

rest-more : (es : List Entry) (e : Entry) → is_some e.daemon.checked ≡ true → Rest es
    → Rest (es ++ e ∷ [])
rest-more [] e is h = (is, tt)
rest-more (x ∷ es) e is h = (h.0, rest-more es e is h.1)

pub put_on-rests : (b : Shown) (id : ByteList) (e : Expr) (interval : ℕ) (terminate : Bool)
    (now : ℕ)
    → IsResting b → IsResting (put_on b id (fresh b e interval terminate now))
put_on-rests b id e interval terminate now h =
    rest-more b.daemons (record { id = id; daemon = fresh b e interval terminate now }) refl h

-- a change that keeps a daemon's number
pub change_first-rises : (test : Entry → Bool) (change : Daemon → Daemon)
    → ((d : Daemon) → (change d).number ≡ d.number) → (low most : ℕ) (es : List Entry)
    → RiseWithin low most es → RiseWithin low most (change_first test change es)
change_first-rises test change same low most [] h = h
change_first-rises test change same low most (e ∷ es) h =
    by (test e) (change_first-rises test change same e.daemon.number most es h.1)
  where
    by : (b : Bool) → RiseWithin e.daemon.number most (change_first test change es)
        → RiseWithin low most (if b then record e { daemon = change e.daemon } ∷ es
        else e ∷ change_first test change es)
    by true rest =
        subst (λ n. (low < n) × RiseWithin n most es) (sym (same e.daemon)) (h.0, h.1)
    by false rest = (h.0, rest)

-- a change that leaves a daemon its expression
pub change_first-rests : (test : Entry → Bool) (change : Daemon → Daemon)
    → ((d : Daemon) → is_some d.checked ≡ true → is_some (change d).checked ≡ true)
    → (es : List Entry) → Rest es → Rest (change_first test change es)
change_first-rests test change leaves [] h = h
change_first-rests test change leaves (e ∷ es) h =
    by (test e) (change_first-rests test change leaves es h.1)
  where
    by : (b : Bool) → Rest (change_first test change es)
        → Rest (if b then record e { daemon = change e.daemon } ∷ es
        else e ∷ change_first test change es)
    by true rest = (leaves e.daemon h.0, h.1)
    by false rest = (h.0, rest)

-- a daemon that is made to run again is the same one, with its expression
resumed-same : (now : ℕ) (d : Daemon) → (resumed now d).number ≡ d.number
resumed-same now d = by (is_running d.state)
  where
    by : (b : Bool)
        → (if b then d else record d { state = Running; next = now }).number ≡ d.number
    by true = refl
    by false = refl

resumed-whole : (now : ℕ) (d : Daemon) → is_some d.checked ≡ true
    → is_some (resumed now d).checked ≡ true
resumed-whole now d h = by (is_running d.state)
  where
    by : (b : Bool)
        → is_some (if b then d else record d { state = Running; next = now }).checked ≡ true
    by true = h
    by false = h

pub stopped-rises : (test : Entry → Bool) (b : Shown) → IsRising b
    → IsRising (with_daemons b (change_first test stopped b.daemons))
stopped-rises test b h = change_first-rises test stopped (λ d. refl) 0 b.put b.daemons h

pub stopped-rests : (test : Entry → Bool) (b : Shown) → IsResting b
    → IsResting (with_daemons b (change_first test stopped b.daemons))
stopped-rests test b h = change_first-rests test stopped (λ d is. is) b.daemons h

pub resumed-rises : (test : Entry → Bool) (now : ℕ) (b : Shown) → IsRising b
    → IsRising (with_daemons b (change_first test (resumed now) b.daemons))
resumed-rises test now b h =
    change_first-rises test (resumed now) (resumed-same now) 0 b.put b.daemons h

pub resumed-rests : (test : Entry → Bool) (now : ℕ) (b : Shown) → IsResting b
    → IsResting (with_daemons b (change_first test (resumed now) b.daemons))
resumed-rests test now b h =
    change_first-rests test (resumed now) (resumed-whole now) b.daemons h

-- a claim takes an expression out, and the end of its run gives it back
pub claimed-rises : (test : Entry → Bool) (b : Shown) → IsRising b
    → IsRising (with_daemons b (change_first test claimed b.daemons))
claimed-rises test b h = change_first-rises test claimed (λ d. refl) 0 b.put b.daemons h

pub finished-rises : (test : Entry → Bool) (e : Expr) (tuples : ℕ) (fault : Option ByteList)
    (now : ℕ) (b : Shown) → IsRising b
    → IsRising (with_daemons b (change_first test (finished e tuples fault now) b.daemons))
finished-rises test e tuples fault now b h =
    change_first-rises test (finished e tuples fault now) (λ d. refl) 0 b.put b.daemons h

-- a daemon less
without_first-rise : (test : Entry → Bool) (low most : ℕ) (es : List Entry)
    → RiseWithin low most es → RiseWithin low most (without_first test es)
without_first-rise test low most [] h = h
without_first-rise test low most (e ∷ es) h =
    by (test e) (without_first-rise test e.daemon.number most es h.1)
  where
    by : (b : Bool) → RiseWithin e.daemon.number most (without_first test es)
        → RiseWithin low most (if b then es else e ∷ without_first test es)
    by true rest = rise-lower low e.daemon.number most es (omega (arith, h.0)) h.1
    by false rest = (h.0, rest)

pub without_first-rises : (test : Entry → Bool) (b : Shown) → IsRising b
    → IsRising (with_daemons b (without_first test b.daemons))
without_first-rises test b h = without_first-rise test 0 b.put b.daemons h

without_first-rest : (test : Entry → Bool) (es : List Entry) → Rest es
    → Rest (without_first test es)
without_first-rest test [] h = h
without_first-rest test (e ∷ es) h = by (test e) (without_first-rest test es h.1)
  where
    by : (b : Bool) → Rest (without_first test es)
        → Rest (if b then es else e ∷ without_first test es)
    by true rest = h.1
    by false rest = (h.0, rest)

pub without_first-rests : (test : Entry → Bool) (b : Shown) → IsResting b
    → IsResting (with_daemons b (without_first test b.daemons))
without_first-rests test b h = without_first-rest test b.daemons h

-- each call of a board that claims nothing keeps it
pub empty-kept : IsKept empty_board.shown
empty-kept = record { rising = empty-rises; resting = empty-rests }

pub put_on-kept : (b : Shown) (id : ByteList) (e : Expr) (interval : ℕ) (terminate : Bool) (now : ℕ)
    → IsKept b → IsKept (put_on b id (fresh b e interval terminate now))
put_on-kept b id e interval terminate now h = record {
  rising = put_on-rises b id e interval terminate now h.rising;
  resting = put_on-rests b id e interval terminate now h.resting;
}

pub stopped-kept : (id : ByteList) (b : Shown) → IsKept b
    → IsKept (with_daemons b (change_first (has_id id) stopped b.daemons))
stopped-kept id b h = record {
  rising = stopped-rises (has_id id) b h.rising;
  resting = stopped-rests (has_id id) b h.resting;
}

pub resumed-kept : (id : ByteList) (now : ℕ) (b : Shown) → IsKept b
    → IsKept (with_daemons b (change_first (has_id id) (resumed now) b.daemons))
resumed-kept id now b h = record {
  rising = resumed-rises (has_id id) now b h.rising;
  resting = resumed-rests (has_id id) now b h.resting;
}

pub removed-kept : (id : ByteList) (b : Shown) → IsKept b
    → IsKept (with_daemons b (without_first (has_id id) b.daemons))
removed-kept id b h = record {
  rising = without_first-rises (has_id id) b h.rising;
  resting = without_first-rests (has_id id) b h.resting;
}

-- so each call keeps what a board tells, whatever its answer is
told-kept : (Says : Shown → Shown → Type 0) (old new : Shown) → WhereTold (Some old) (Some new) Says
    → ((b : Shown) → Says old b → IsKept b) → IsKept new
told-kept Says old new h keeps =
    subst (λ (o : Option Shown). elim o as (λ _. Type 0) [ None ↦ Unit {0} | Some b ↦ IsKept b ])
    (sym h.1) (keeps h.0 h.2)

pub starts-kept : (id : ByteList) (e : Expr) (interval : ℕ) (terminate : Bool) (now : ℕ)
    (answer : Result (Unit {0}) BoardFault) (old new : Shown)
    → WhereTold (Some old) (Some new)
    (λ old new. Starts id (fresh old e interval terminate now) answer old new)
    → IsKept old → IsKept new
starts-kept id e interval terminate now answer old new h kept =
    told-kept (λ old new. Starts id (fresh old e interval terminate now) answer old new) old new h
    (by answer)
  where
    by : (answer : Result (Unit {0}) BoardFault) (b : Shown)
        → Starts id (fresh old e interval terminate now) answer old b → IsKept b
    by (Ok u) b is = subst IsKept (sym is.2) (put_on-kept old id e interval terminate now kept)
    by (Err (DaemonTaken taken)) b is = subst IsKept (sym is.2) kept
    by (Err UnknownDaemon) b is = absurd is
    by (Err BoardFull) b is = subst IsKept (sym is.2) kept
    by (Err OutOfMemory) b is = subst IsKept (sym is) kept

makes-kept : (id : ByteList) (entries : List Entry) (answer : Result (Unit {0}) BoardFault)
    (old new : Shown) → WhereTold (Some old) (Some new) (MakesOf id entries answer)
    → IsKept (with_daemons old entries) → IsKept old → IsKept new
makes-kept id entries answer old new h made kept =
    told-kept (MakesOf id entries answer) old new h (by answer)
  where
    by : (answer : Result (Unit {0}) BoardFault) (b : Shown) → MakesOf id entries answer old b
        → IsKept b
    by (Ok u) b is = subst IsKept (sym is.1) made
    by (Err fault) b is = subst IsKept (sym is.2) kept

pub stops-kept : (id : ByteList) (answer : Result (Unit {0}) BoardFault) (old new : Shown)
    → WhereTold (Some old) (Some new) (Changes id stopped answer) → IsKept old → IsKept new
stops-kept id answer old new h kept =
    makes-kept id (change_first (has_id id) stopped old.daemons) answer old new h
    (stopped-kept id old kept) kept

pub resumes-kept : (id : ByteList) (now : ℕ) (answer : Result (Unit {0}) BoardFault)
    (old new : Shown) → WhereTold (Some old) (Some new) (Changes id (resumed now) answer)
    → IsKept old → IsKept new
resumes-kept id now answer old new h kept =
    makes-kept id (change_first (has_id id) (resumed now) old.daemons) answer old new h
    (resumed-kept id now old kept) kept

pub kills-kept : (id : ByteList) (answer : Result (Unit {0}) BoardFault) (old new : Shown)
    → WhereTold (Some old) (Some new) (Kills id answer) → IsKept old → IsKept new
kills-kept id answer old new h kept =
    makes-kept id (without_first (has_id id) old.daemons) answer old new h
    (removed-kept id old kept) kept

pub lists-kept : (answer : Result (List Doc) Memory) (old new : Shown)
    → WhereTold (Some old) (Some new) (Lists answer) → IsKept old → IsKept new
lists-kept answer old new h kept = told-kept (Lists answer) old new h (by answer)
  where
    by : (answer : Result (List Doc) Memory) (b : Shown) → Lists answer old b → IsKept b
    by (Ok docs) b is = subst IsKept (sym is.1) kept
    by (Err fault) b is = subst IsKept (sym is) kept
