-- What the readers answer is what the texts say.
use Rattle.std.proofs.Common.{◌≡◌, refl, ◌∙◌, subst, Result, Ok, Err, IfOk, IfErr}
use Rattle.tuple_values.specs.Document.{ByteList}
use Rattle.sort_spec.specs.Fault.{IfPlaced, Answers}
use Rattle.sort_spec.specs.Grammar.{IsReadable, IsPlace, IsList}
use Rattle.sort_spec.specs.Texts.{IsTerm, IsSort, IsPair, IsOn, IsName, IsNames, once}
use Rattle.sort_spec.specs.Reading.{Reading, said, stuck, listed, term_of, pair_of, name_of}
use Rattle.sort_spec.specs.Reading.{sort_of, on_of, names_of}
use Rattle.sort_spec.specs.declared.fault.SortFault.{SortFault}
use Rattle.sort_spec.specs.declared.fault.SortFault.TheVariants.{BadSort, OutOfMemory}
use Rattle.sort_spec.proofs.RightLemmas.{IsRight, mapped_right}
use Rattle.sort_spec.proofs.TermTextLemmas.{term_right}
use Rattle.sort_spec.proofs.PairTextLemmas.{pair_right, name_right}
use Rattle.sort_spec.proofs.ListRightLemmas.{list_right}
use Rattle.sort_spec.proofs.CommaLemmas.{term_no_comma, pair_no_comma, name_no_comma}

-- the readings of whole texts are right
pub sort_right : (bytes : ByteList) → IsRight IsSort bytes (sort_of bytes)
sort_right bytes = list_right IsTerm term_no_comma term_of term_right bytes

-- that of pairs is
pub on_right : (bytes : ByteList) → IsRight IsOn bytes (on_of bytes)
on_right bytes = list_right IsPair pair_no_comma pair_of pair_right bytes

-- and so is that of names
pub names_right : (bytes : ByteList) → IsRight IsNames bytes (names_of bytes)
names_right bytes =
    mapped_right IsNames (IsList IsName) once (λ text names n. (n.written, n.list, n.says))
    (λ text written list. record { written = written; list = list; says = refl }) bytes
    (listed name_of bytes) (list_right IsName name_no_comma name_of name_right bytes)

module _ {V : Type 0} (Says : ByteList → V → Type 0) (bytes : ByteList) where
  -- what is read is what the bytes say
  pub answers_ok : (reading : Reading V) → IsRight Says bytes reading
      → (result : Result V SortFault) → Answers reading result
      → IfOk result (λ value. Says bytes value)
  answers_ok reading right (Err fault) is = tt
  answers_ok (said value) right (Ok other) is =
      let same : value ≡ other = cc in
      let P : V → Type 0 = λ v. Says bytes v in subst P same right.0
  answers_ok (stuck at) right (Ok other) is = absurd (cc)

  -- and they say nothing else
  pub answers_only : (reading : Reading V) → IsRight Says bytes reading
      → (result : Result V SortFault) → Answers reading result
      → IfOk result (λ value. (other : V) → Says bytes other → other ≡ value)
  answers_only reading right (Err fault) is = tt
  answers_only (said value) right (Ok other) is =
      let same : value ≡ other = cc in λ v says. right.1 v says ∙ same
  answers_only (stuck at) right (Ok other) is = absurd (cc)

  -- a refusal comes only where they say nothing
  pub answers_bad : (reading : Reading V) → IsRight Says bytes reading
      → (result : Result V SortFault) → Answers reading result
      → IfErr result (λ fault. IfPlaced fault (λ _. ¬ (IsReadable Says bytes)))
  answers_bad reading right (Ok value) is = tt
  answers_bad reading right (Err OutOfMemory) is = tt
  answers_bad (said value) right (Err (BadSort at)) is = absurd (cc)
  answers_bad (stuck other) right (Err (BadSort at)) is = λ (value, says). right.0 value says

  -- and is at the place
  pub answers_place : (reading : Reading V) → IsRight Says bytes reading
      → (result : Result V SortFault) → Answers reading result
      → IfErr result (λ fault. IfPlaced fault (IsPlace Says bytes))
  answers_place reading right (Ok value) is = tt
  answers_place reading right (Err OutOfMemory) is = tt
  answers_place (said value) right (Err (BadSort at)) is = absurd (cc)
  answers_place (stuck other) right (Err (BadSort at)) is =
      let same : other ≡ at = cc in
      let P : _ → Type 0 = λ n. IsPlace Says bytes n in subst P same right.1
