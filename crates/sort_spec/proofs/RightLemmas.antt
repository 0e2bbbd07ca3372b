-- When a reading is right for what texts are allowed, made from the readings of their parts.
use Rattle.std.proofs.Common.{◌≡◌, ℕ, ◌+◌, ◌<◌, [], ◌∷◌, ◌++◌, length, take}
use Rattle.std.proofs.Common.{refl, sym, ◌∙◌, ap, subst, arith, append_assoc}
use Rattle.std.proofs.Common.{add-one, add_assoc, zero-add, length-append}
use Rattle.std.proofs.Math.Seq.{take-append-add}
use Rattle.tuple_values.specs.Document.{ByteList}
use Rattle.sort_spec.specs.Grammar.{GoesOn, IsPlace}
use Rattle.sort_spec.specs.Reading.{Reading, said, stuck, behind, mapped}

-- the reading of these bytes is what the texts allow: one value and no other, or the place
abbrev pub IsRight : {V : Type 0} → (ByteList → V → Type 0) → ByteList → Reading V → Type 0
IsRight {V} Says bytes (said value) =
    Says bytes value × ((other : V) → Says bytes other → other ≡ value)
IsRight {V} Says bytes (stuck at) = ((value : V) → ¬ (Says bytes value)) × IsPlace Says bytes at

-- bytes that begin as others do, where those are some, and are none where those are none
abbrev pub Alike : ByteList → ByteList → Type 0
Alike [] [] = Unit {0}
Alike [] (c ∷ other) = ⊥
Alike (b ∷ bytes) [] = ⊥
Alike (b ∷ bytes) (c ∷ other) = b ≡ c

-- bytes begin as themselves
pub alike_itself : (bytes : ByteList) → Alike bytes bytes
alike_itself [] = tt
alike_itself (b ∷ bytes) = refl

-- a front that isn't empty begins as the bytes do, whatever follows it
alike_front : (bytes : ByteList) (at : ℕ) (more : ByteList) → at < length bytes
    → Alike bytes (take (at + 1) bytes ++ more)
alike_front [] at more lt = absurd (omega arith)
alike_front (b ∷ bytes) at more lt = rw add-one refl

-- a reading behind nothing
pub behind_nothing : {V : Type 0} (reading : Reading V) → behind 0 reading ≡ reading
behind_nothing (said value) = refl
behind_nothing (stuck at) = ap stuck (zero-add at)

module _ {V : Type 0} (Says Later : ByteList → V → Type 0) (front bytes : ByteList)
    (to : (rest : ByteList) (value : V) → Alike bytes rest → Says (front ++ rest) value
    → Later rest value)
    (from : (rest : ByteList) (value : V) → Later rest value → Says (front ++ rest) value) where
  -- where the texts behind a front are others, their reading behind it is right
  pub behind_right : (reading : Reading V) → IsRight Later bytes reading
      → IsRight Says (front ++ bytes) (behind (length front) reading)
  behind_right (said value) right = (
    from bytes value right.0,
    λ other says. right.1 other (to bytes other (alike_itself bytes) says),
  )
  behind_right (stuck at) right = (
    λ value says. right.0 value (to bytes value (alike_itself bytes) says),
    record {
      within = omega (arith, right.1.within, length-append front bytes);
      front = goes_on right.1.front;
      longest = λ lt goes. right.1.longest (shorter lt) (stays (shorter lt) goes);
    },
  ) where
    goes_on : GoesOn Later (take at bytes)
        → GoesOn Says (take (length front + at) (front ++ bytes))
    goes_on (more, value, later) =
        let Says' : ByteList → Type 0 = λ text. Says text value in (
          more,
          value,
          subst Says'
              (sym (append_assoc front (take at bytes) more)
              ∙ ap (λ text. text ++ more) (sym (take-append-add front bytes at)))
              (from (take at bytes ++ more) value later),
        )

    shorter : length front + at < length (front ++ bytes) → at < length bytes
    shorter lt = omega (arith, length-append front bytes)

    stays : at < length bytes → GoesOn Says (take (length front + at + 1) (front ++ bytes))
        → GoesOn Later (take (at + 1) bytes)
    stays lt (more, value, says) =
        let Says' : ByteList → Type 0 = λ text. Says text value in (
          more,
          value,
          to (take (at + 1) bytes ++ more) value (alike_front bytes at more lt)
              (subst Says'
              (ap (λ n. take n (front ++ bytes) ++ more) (add_assoc (length front) at 1)
              ∙ ap (λ text. text ++ more) (take-append-add front bytes (at + 1))
              ∙ append_assoc front (take (at + 1) bytes) more) says),
        )

-- where the texts that begin so are others, their reading is right
pub alike_right : {V : Type 0} (Says Other : ByteList → V → Type 0) (bytes : ByteList)
    → ((text : ByteList) (value : V) → Alike bytes text → Says text value → Other text value)
    → ((text : ByteList) (value : V) → Other text value → Says text value)
    → (reading : Reading V) → IsRight Other bytes reading → IsRight Says bytes reading
alike_right Says Other bytes to from reading right =
    let Right : Reading _ → Type 0 = λ r. IsRight Says bytes r in
    subst Right (behind_nothing reading)
    (behind_right Says Other [] bytes to from reading right)

-- where the texts say what is made of what others say, so is their reading
module _ {V W : Type 0} (Says : ByteList → W → Type 0) (Other : ByteList → V → Type 0) (f : V → W)
    (to : (text : ByteList) (value : W) → Says text value
    → (other : V) × Other text other × (value ≡ f other))
    (from : (text : ByteList) (other : V) → Other text other → Says text (f other)) where
  -- what goes on for the one goes on for the other
  moved : (text : ByteList) → GoesOn Says text → GoesOn Other text
  moved text (more, value, says) =
      let (other, it, is) = to (text ++ more) value says in (more, other, it)

  -- what is made of the reading is right
  pub mapped_right : (bytes : ByteList) (reading : Reading V) → IsRight Other bytes reading
      → IsRight Says bytes (mapped f reading)
  mapped_right bytes (said value) right = (
    from bytes value right.0,
    λ w says. let (other, it, is) = to bytes w says in is ∙ ap f (right.1 other it),
  )
  mapped_right bytes (stuck at) right = (
    λ w says. let (other, it, is) = to bytes w says in right.0 other it,
    record {
      within = right.1.within;
      front = let (more, other, it) = right.1.front in (more, f other, from _ other it);
      longest = λ lt goes. right.1.longest lt (moved (take (at + 1) bytes) goes);
    },
  )

-- where no text begins as the bytes do, they stick at once
pub stuck_right : {V : Type 0} (Says : ByteList → V → Type 0) (bytes : ByteList)
    → GoesOn Says []
    → ((text : ByteList) (value : V) → Alike bytes text → ¬ (Says text value))
    → IsRight Says bytes (stuck 0)
stuck_right Says bytes begins none = (
  λ value says. none bytes value (alike_itself bytes) says,
  record {
    within = omega arith;
    front = begins;
    longest = λ lt goes.
        let (more, value, says) = goes in
        none (take 1 bytes ++ more) value (alike_front bytes 0 more lt) says;
  },
)
