-- Rests with a document in front of one of them.
use Rattle.std.specs.Prelude.{ℕ, ◌<◌, ◌≢◌, ◌≡◌, [], ◌∷◌, length}
use Rattle.std.proofs.Common.{get_or-set_same, get_or-set_other, length-set}
use Rattle.tuple_values.specs.Document.{Doc}
use Rattle.kernel_laws.specs.Rests.{Rests, rest_at, put_front}

-- that rest begins with it
pub rest_at-put_front : (i : ℕ) (doc : Doc) (rests : Rests) → i < length rests
    → rest_at i (put_front i doc rests) ≡ doc ∷ rest_at i rests
rest_at-put_front i doc rests h = get_or-set_same rests i (doc ∷ rest_at i rests) [] h

-- every other stays
pub rest_at-put_front_other : (i j : ℕ) (doc : Doc) (rests : Rests) → j ≢ i
    → rest_at j (put_front i doc rests) ≡ rest_at j rests
rest_at-put_front_other i j doc rests h =
    get_or-set_other rests i j (doc ∷ rest_at i rests) [] h

-- there are as many
pub length-put_front : (i : ℕ) (doc : Doc) (rests : Rests)
    → length (put_front i doc rests) ≡ length rests
length-put_front i doc rests = length-set rests i (doc ∷ rest_at i rests)

-- what a function that is fed needs
pub ruleset rest_steps = (rest_at-put_front, length-put_front)
