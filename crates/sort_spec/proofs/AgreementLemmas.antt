-- A reading that is right at all bytes agrees with the grammar.
use Rattle.std.proofs.Common.{◌≡◌, ⊎_elim, ℕ, ◌+◌, ◌-◌, ◌<◌, ◌≤◌, ◌++◌, ◌↔◌, length, take, drop}
use Rattle.std.proofs.Common.{ap, sym, ◌∙◌, subst, arith, append_assoc}
use Rattle.std.proofs.lemmas.Bool.{cases_lt}
use Rattle.std.proofs.Math.Seq.{take-add}
use Rattle.tuple_values.specs.Document.{ByteList}
use Rattle.sort_spec.specs.Grammar.{GoesOn, IsPlace}
use Rattle.sort_spec.specs.Reading.{Reading, said, stuck}
use Rattle.sort_spec.specs.Agreement.{IsFault, Agree}
use Rattle.sort_spec.proofs.RightLemmas.{IsRight}

module _ {V : Type 0} (Says : ByteList → V → Type 0) where
  -- a front of what goes on goes on
  shorter : (front rest : ByteList) → GoesOn Says (front ++ rest) → GoesOn Says front
  shorter front rest (more, value, says) =
      let P : ByteList → Type 0 = λ text. Says text value in
      (rest ++ more, value, subst P (append_assoc front rest more) says)

  -- no front goes on that is longer than the longest
  longest_of : (bytes : ByteList) (at k : ℕ) → IsPlace Says bytes at → k ≤ length bytes
      → GoesOn Says (take k bytes) → k ≤ at
  longest_of bytes at k p le goes = ⊎_elim
      (λ (less : at < k).
      let is : k ≡ (at + 1) + (k - (at + 1)) = omega arith in
      let split : take k bytes
      ≡ take (at + 1) bytes ++ take (k - (at + 1)) (drop (at + 1) bytes) =
      ap (λ n. take n bytes) is ∙ take-add (at + 1) (k - (at + 1)) bytes in
      absurd (p.longest (omega (arith, le))
      (shorter (take (at + 1) bytes) (take (k - (at + 1)) (drop (at + 1) bytes))
      (subst (GoesOn Says) split goes))))
      (λ (within : k ≤ at). within)
      (cases_lt at k)

  -- so there is one place
  place_one : (bytes : ByteList) (a b : ℕ) → IsPlace Says bytes a → IsPlace Says bytes b → a ≡ b
  place_one bytes a b p q =
      let up = longest_of bytes a b p q.within q.front in
      let down = longest_of bytes b a q p.within p.front in
      omega (arith, up, down)

  -- the reading is a value exactly where the bytes say it
  said_by : (bytes : ByteList) (reading : Reading V) → IsRight Says bytes reading → (value : V)
      → (reading ≡ said value) ↔ Says bytes value
  said_by bytes (said other) right value = (
    λ is. let same : other ≡ value = cc in
        let P : V → Type 0 = λ v. Says bytes v in subst P same right.0,
    λ says. ap said (sym (right.1 value says)),
  )
  said_by bytes (stuck at) right value = (λ is. absurd (cc), λ says. absurd (right.0 value says))

  -- and a place exactly where it is that of their fault
  stuck_by : (bytes : ByteList) (reading : Reading V) → IsRight Says bytes reading → (at : ℕ)
      → (reading ≡ stuck at) ↔ IsFault Says bytes at
  stuck_by bytes (said value) right at = (
    λ is. absurd (cc),
    λ fault. absurd (fault.unreadable (value, right.0)),
  )
  stuck_by bytes (stuck other) right at = (
    λ is. let same : other ≡ at = cc in
        let P : ℕ → Type 0 = λ n. IsPlace Says bytes n in
        record { unreadable = λ (value, says). right.0 value says; place = subst P same right.1 },
    λ fault. ap stuck (place_one bytes other at right.1 fault.place),
  )

  -- what is right everywhere agrees
  pub agrees : (reading : ByteList → Reading V)
      → ((bytes : ByteList) → IsRight Says bytes (reading bytes)) → Agree Says reading
  agrees reading right = record {
    values = λ bytes value. said_by bytes (reading bytes) (right bytes) value;
    faults = λ bytes at. stuck_by bytes (reading bytes) (right bytes) at;
  }
