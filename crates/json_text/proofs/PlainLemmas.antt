-- A text without bytes that have to be escaped is a JSON string as it stands.
use Rattle.std.proofs.Common.{◌≡◌, ℕ, List, [], ◌∷◌, ◌++◌, Bool, true, false, ◌&&◌, refl, ap, arith}
use Rattle.std.proofs.lemmas.Bool.Decides.{nat_tests}
use Rattle.std.specs.List.{list_all}
use Rattle.json.specs.Print.{escape_byte, escape}
use Rattle.json_text.specs.Plain.{is_plain_byte, plain_text}
use Rattle.json_text.specs.Replies.{string_text}

-- a plain byte is not escaped
plain_byte : (byte : ℕ) → is_plain_byte byte ≡ true → escape_byte byte ≡ byte ∷ []
unfolding escape_byte
plain_byte byte plain = grind (arith, nat_tests)

-- nor are plain bytes
plain_bytes : (bytes : List ℕ) → list_all is_plain_byte bytes ≡ true → escape bytes ≡ bytes
plain_bytes [] plain = refl
plain_bytes (byte ∷ bytes) plain = go (plain_bytes bytes) (is_plain_byte byte) refl plain
  where
    go : (list_all is_plain_byte bytes ≡ true → escape bytes ≡ bytes)
        → (b : Bool) → is_plain_byte byte ≡ b → (b && list_all is_plain_byte bytes) ≡ true
        → escape (byte ∷ bytes) ≡ byte ∷ bytes
    go later true here rest = rw (plain_byte byte here) (ap (λ more. byte ∷ more) (later rest))
    go later false here rest = absurd (cc)

-- a plain text stands between quotation marks
pub string_text-plain : (bytes : List ℕ) → list_all is_plain_byte bytes ≡ true
    → string_text bytes ≡ plain_text bytes
string_text-plain bytes plain = ap (λ inner. 34 ∷ (inner ++ 34 ∷ [])) (plain_bytes bytes plain)
