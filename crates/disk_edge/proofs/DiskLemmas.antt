-- A write and a cut that were made, and calls that changed nothing, as steps of what a stop may leave.
use Rattle.std.specs.Prelude.{ℕ, ◌+◌, ◌≡◌, ◌≤◌, max, List, ◌++◌, length, take, drop}
use Rattle.std.proofs.Common.{refl, sym, ◌∙◌, ap, inl, inr, arith, length-append, append_assoc, length-drop}
use Rattle.std.proofs.lemmas.List.{take_at, drop_at, take_all, length-take-le}
use Rattle.disk_edge.specs.Disk.{Short, Torn, written}

pub torn-self : (from : ℕ) (piece c : List ℕ) → Torn from piece c c
torn-self from piece c = record {
  before = refl;
  after = refl;
  no_shorter = omega arith;
  no_longer = omega arith;
  one = λ single low. inl refl;
}

pub short-self : (size : ℕ) (c : List ℕ) → Short size c c
short-self size c = record { no_shorter = omega arith; front = take_all (length c) c (omega arith) }

pub length-written : (from : ℕ) (piece c : List ℕ) → from ≤ length c → length (written c from piece) ≡ max (length c) (from + length piece)
length-written from piece c le =
    omega (arith, length-append (take from c) (piece ++ drop (from + length piece) c), length-append piece (drop (from + length piece) c), length-drop (from + length piece) c, length-take-le from c le)

pub torn-written : (from : ℕ) (piece c : List ℕ) → from ≤ length c → Torn from piece c (written c from piece)
torn-written from piece c le = record {
  before = take_at (take from c) (piece ++ drop (from + length piece) c) from (length-take-le from c le);
  after = ap (λ (l : List ℕ). drop (from + length piece) l) (sym (append_assoc (take from c) piece (drop (from + length piece) c)))
      ∙ drop_at (take from c ++ piece) (drop (from + length piece) c) (from + length piece) (omega (arith, length-append (take from c) piece, length-take-le from c le));
  no_shorter = omega (arith, length-written from piece c le);
  no_longer = omega (arith, length-written from piece c le);
  one = λ single low. inr refl;
}

pub short-written : (size : ℕ) (c : List ℕ) → size ≤ length c → Short size c (take size c)
short-written size c le = record {
  no_shorter = omega (arith, length-take-le size c le);
  front = ap (λ (n : ℕ). take n c) (length-take-le size c le);
}
