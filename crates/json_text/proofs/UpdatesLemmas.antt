use Rattle.std.proofs.Common.{◌≡◌, ◌+◌, List, [], ◌∷◌, ◌++◌, ℕ, Bool, true, false, cond, Some, None}
use Rattle.std.proofs.Common.{length, arith}
use Rattle.std.proofs.Common.{Result, Ok, Err, refl, ap, append_assoc}
use Rattle.std.specs.Str.{IsUtf8, is_utf8}
use Rattle.std.proofs.lemmas.Str.{IsUtf8-from_is_utf8, is_utf8-from_IsUtf8}
use Rattle.serde_json.specs.Data.{Data}
use Rattle.serde_json.specs.Read.{read}
use Rattle.tuple_values.specs.declared.write.Write.{Write}
use Rattle.json_text.specs.declared.fault.JsonFault.{JsonFault}
use Rattle.json_text.specs.Writes.{and_then, Outcome, Reading, behind, each_from}
use Rattle.json_text.specs.Updates.{json_in}

-- what serde_json reads of a text is the value that the bytes are
pub json_in-text : (bytes : List ℕ) (value : Data)
    → IsUtf8 bytes → read bytes ≡ Some value → json_in bytes ≡ Some value
json_in-text bytes value text is = rw (is_utf8-from_IsUtf8 bytes text) is

-- the same by whether the bytes are a text
json_in-none_by : (bytes : List ℕ) (b : Bool) → is_utf8 bytes ≡ b
    → (IsUtf8 bytes → read bytes ≡ None) → cond b (read bytes) None ≡ None
json_in-none_by bytes true is none = none (IsUtf8-from_is_utf8 bytes is)
json_in-none_by bytes false is none = refl

-- bytes that are no text, or of which serde_json reads no value, are no value
pub json_in-none : (bytes : List ℕ)
    → (IsUtf8 bytes → read bytes ≡ None) → json_in bytes ≡ None
json_in-none bytes none = json_in-none_by bytes (is_utf8 bytes) refl none

-- ---- the writes of a list, item by item

-- one answer, and then those of the others
abbrev one_more : Result Write JsonFault → Outcome → Outcome
one_more one more = and_then (λ first. and_then (λ rest. Ok (first ∷ rest)) more) one

-- behind the writes of the first, those of the others
behind-one_more : (one : Result Write JsonFault) (more : Outcome)
    (writes all : List Write) → behind writes (one_more one (Ok [])) ≡ Ok all
    → behind all more ≡ behind writes (one_more one more)
behind-one_more (Ok first) (Ok rest) writes all is =
    let same : all ≡ writes ++ first ∷ [] = cc in
    rw same (ap Ok (append_assoc writes (first ∷ []) rest))
behind-one_more (Ok first) (Err fault) writes all is = refl
behind-one_more (Err fault) more writes all is = absurd cc

-- after the first item's write, the writes of the others
pub behind-each_from : (write : Reading) (at : ℕ) (value : Data)
    (values : List Data) (writes all : List Write)
    → behind writes (each_from write at (value ∷ [])) ≡ Ok all
    → behind all (each_from write (at + 1) values)
    ≡ behind writes (each_from write at (value ∷ values))
behind-each_from write at value values writes all is =
    behind-one_more (write at value) (each_from write (at + 1) values) writes all is

-- a fault of the first is that of all
one_more-fault : (one : Result Write JsonFault) (more : Outcome)
    (writes : List Write) (fault : JsonFault) → behind writes (one_more one (Ok [])) ≡ Err fault
    → behind writes (one_more one more) ≡ Err fault
one_more-fault (Ok first) more writes fault is = absurd cc
one_more-fault (Err other) more writes fault is = is

-- the first item's fault is that of the list
pub behind-first_fault : (write : Reading) (at : ℕ) (value : Data)
    (values : List Data) (writes : List Write) (fault : JsonFault)
    → behind writes (each_from write at (value ∷ [])) ≡ Err fault
    → behind writes (each_from write at (value ∷ values)) ≡ Err fault
behind-first_fault write at value values writes fault is =
    one_more-fault (write at value) (each_from write (at + 1) values) writes fault is

-- a fault of the others is told where the first has none
later_fault : (one : Result Write JsonFault) (before all : Outcome) (writes : List Write)
    (fault : JsonFault) → one_more one before ≡ Ok writes
    → ((rest : List Write) → before ≡ Ok rest → all ≡ Err fault) → one_more one all ≡ Err fault
later_fault (Ok first) (Ok rest) all writes fault is later = rw (later rest refl)
later_fault (Ok first) (Err other) all writes fault is later = absurd cc
later_fault (Err other) before all writes fault is later = absurd cc

-- in a list the fault of the first item that has one is told
pub first_fault : (write : Reading) (at place : ℕ) (before after : List Data) (value : Data)
    (writes : List Write) (fault : JsonFault)
    → each_from write at before ≡ Ok writes → place ≡ at + length before
    → write place value ≡ Err fault → each_from write at (before ++ value ∷ after) ≡ Err fault
first_fault write at place [] after value writes fault is there refused =
    let here : place ≡ at = omega arith in
    rw (rw here at refused)
first_fault write at place (first ∷ before) after value writes fault is there refused =
    later_fault (write at first) (each_from write (at + 1) before) _ writes fault is
    (λ rest well. first_fault write (at + 1) place before after value rest fault well
    (omega arith) refused)
