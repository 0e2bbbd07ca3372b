-- What came from a source and what is written to a sink, one thing after another.
use Rattle.std.proofs.Common.{◌≡◌, ℕ, ◌≤◌, List, [], ◌++◌, take, drop, Option, Some, None, refl, sym, ap, subst, ◌∙◌, arith, append_assoc, append-nil, inl, inr}
use Rattle.std.proofs.lemmas.List.{take-append-drop}
use Rattle.io_edge.specs.Edge.{Appends, AppendsPrefix, GivesFront, HasEnded, Rose}
use Rattle.stream_handler.specs.Sessions.{Came, Counts, IsEmptied, Wire}

-- nothing came
pub came_none : (left : Option (List ℕ)) → Came left left []
came_none None = refl
came_none (Some all) = (all, refl, refl)

-- one piece and then another
pub came_join : (a b c : Option (List ℕ)) (x y : List ℕ) → Came a b x → Came b c y → Came a c (x ++ y)
came_join None b c x y p q =
    let q' : Came None c y = subst (λ m. Came m c y) p q in q'
came_join (Some all) b c x y p q =
    let q' : Came (Some p.0) c y = subst (λ m. Came m c y) p.2 q in
    (q'.0, p.1 ∙ ap (λ r. x ++ r) q'.1 ∙ sym (append_assoc x y q'.0), q'.2)

-- nothing more came
pub came_still : (a b c : Option (List ℕ)) (x : List ℕ) → Came a b x → c ≡ b → Came a c x
came_still a b c x p e = subst (λ m. Came a m x) (sym e) p

-- the first bytes of a room
pub came_got : (old new : Option (List ℕ)) (room : List ℕ) (n : ℕ) → GivesFront old new room n
    → Came old new (take n room)
came_got None new room n gives = gives
came_got (Some all) new room n gives =
    (drop n all, sym (ap (λ p. p ++ drop n all) gives.1 ∙ take-append-drop n all), gives.2)

-- where a source says that it has ended, nothing is left
pub emptied : (left : Option (List ℕ)) → HasEnded left → IsEmptied left
emptied None ended = tt
emptied (Some all) ended = ended

-- nothing is written
pub appends_none : (old : Option (List ℕ)) → Appends old old []
appends_none None = refl
appends_none (Some all) = ap Some (sym (append-nil all))

pub appends_still : (old mid new : Option (List ℕ)) (x : List ℕ) → Appends old mid x → new ≡ mid
    → Appends old new x
appends_still old mid new x a e = subst (λ m. Appends old m x) (sym e) a

-- one piece and then another
pub appends_join : (a b c : Option (List ℕ)) (x y : List ℕ) → Appends a b x → Appends b c y
    → Appends a c (x ++ y)
appends_join None b c x y p q =
    let q' : Appends None c y = subst (λ m. Appends m c y) p q in q'
appends_join (Some all) b c x y p q =
    let q' : Appends (Some (all ++ x)) c y = subst (λ m. Appends m c y) p q in
    q' ∙ ap Some (append_assoc all x y)

-- one piece and then a part of another
pub appends_part : (a b c : Option (List ℕ)) (x y : List ℕ) → Appends a b x → AppendsPrefix b c y
    → AppendsPrefix a c (x ++ y)
appends_part a b c x y p q =
    (x ++ q.0, q.1, ap (λ r. x ++ r) q.2 ∙ sym (append_assoc x q.0 q.1), appends_join a b c x q.0 p q.3)

-- a piece is a part of a longer one
pub appends_begin : (a b : Option (List ℕ)) (x y z : List ℕ) → z ≡ x ++ y → Appends a b x
    → AppendsPrefix a b z
appends_begin a b x y z e p = (x, y, e, p)

-- a part of something is a part of what goes on behind it
pub part_longer : (a b : Option (List ℕ)) (x y z : List ℕ) → z ≡ x ++ y → AppendsPrefix a b x
    → AppendsPrefix a b z
part_longer a b x y z e p =
    (p.0, p.1 ++ y, e ∙ ap (λ r. r ++ y) p.2 ∙ append_assoc p.0 p.1 y, p.3)

-- the counts of failures stay
pub counts_same : (w : Wire) → Counts w w
counts_same w = record { reads = omega arith; writes = omega arith }

pub counts_join : (a b c : Wire) → Counts a b → Counts b c → Counts a c
counts_join a b c p q = record {
  reads = omega (arith, p.reads, q.reads);
  writes = omega (arith, p.writes, q.writes);
}

-- a count that rose has risen since long before
pub rose_since : (a b c : ℕ) → a ≤ b → Rose b c → Rose a c
rose_since a b c le (inl less) = inl (omega (arith, le, less))
rose_since a b c le (inr full) = inr full
