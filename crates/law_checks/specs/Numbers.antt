-- The greatest numbers that were told under two texts and a number (own).
use Rattle.std.specs.Prelude.{ℕ, ◌==◌, ◌&&◌, Bool, Option, bytes_eq}
use Rattle.std.specs.Ordering.{ordering_then, nat_cmp}
use Rattle.std.specs.Cmp.Lexicographic.{slice_cmp}
use Rattle.std.specs.BTreeMap.{get_by}
use Rattle.tuple_values.specs.Document.{ByteList}
use Rattle.law_checks.specs.declared.greatest.Greatest.{Greatest}

-- the greatest number that was told under two texts and a number, where one was
abbrev pub number_at : Greatest → (first second : ByteList) → (third : ℕ) → Option ℕ
number_at g first second third =
    get_by
    (λ k. ordering_then
    (ordering_then (slice_cmp nat_cmp first k.0.now) (slice_cmp nat_cmp second k.1.now))
    (nat_cmp third k.2))
    g.numbers

-- whether these are the same texts and numbers
abbrev pub same_place : (first second : ByteList) → (third : ℕ) → (a b : ByteList) → (n : ℕ) → Bool
same_place first second third a b n = (bytes_eq first a && bytes_eq second b) && (third == n)
