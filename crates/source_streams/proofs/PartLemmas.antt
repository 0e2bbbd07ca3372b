-- The one part of all tuples, and the part that a hash tells without a key.
use Rattle.std.proofs.Common.{◌≡◌, ℕ, ◌+◌, ◌%◌, ◌==◌, ◌<◌, List, [], ◌∷◌, ◌++◌, length, get_or}
use Rattle.std.proofs.Common.{drop, true, refl, sym, ◌∙◌, ap, arith}
use Rattle.std.proofs.lemmas.List.{at_drop_more}
use Rattle.tuple_values.specs.Document.{ByteList, Doc, value_at}
use Rattle.tuple_values.specs.Keys.{key_part, key_text, hash_of, hash_from, hash_step}
use Rattle.source_streams.specs.Parts.{is_of_part, part_of}
use Rattle.source_streams.proofs.KeptLemmas.{filter_true}

-- each number is of the one part
rest_of_one : (n : ℕ) → ((n % 1) == 0) ≡ true
rest_of_one n = let e : n % 1 ≡ 0 = omega arith in rw e refl

-- and so is each tuple
pub is_of_whole : (keys : List ByteList) (doc : Doc) → is_of_part 0 1 keys doc ≡ true
is_of_whole keys doc = rest_of_one (hash_of (key_text doc keys))

-- the whole part holds all tuples
pub part_of-whole : (keys : List ByteList) (docs : List Doc) → part_of 0 1 keys docs ≡ docs
part_of-whole keys docs = filter_true (is_of_part 0 1 keys) (is_of_whole keys) docs

-- the hash of bytes is gone on with over those behind them
pub hash_from-append : (hash : ℕ) (front rest : ByteList)
    → hash_from hash (front ++ rest) ≡ hash_from (hash_from hash front) rest
hash_from-append hash [] rest = refl
hash_from-append hash (byte ∷ front) rest = hash_from-append (hash_step hash byte) front rest

-- the hash of a key whose parts are read one by one
pub key_more : (doc : Doc) (names : List ByteList) (k : ℕ) (name : ByteList) (hash more : ℕ)
    → k < length names → name ≡ get_or names k name
    → more ≡ hash_from hash (key_part (value_at name doc))
    → hash_from hash (key_text doc (drop k names))
    ≡ hash_from more (key_text doc (drop (k + 1) names))
key_more doc names k name hash more lt is gone_on =
    at_drop_more (λ rest. hash_from hash (key_text doc rest)) names k name lt
    ∙ ap (λ n. hash_from hash (key_text doc (n ∷ drop (k + 1) names))) (sym is)
    ∙ hash_from-append hash (key_part (value_at name doc)) (key_text doc (drop (k + 1) names))
    ∙ ap (λ h. hash_from h (key_text doc (drop (k + 1) names))) (sym gone_on)
