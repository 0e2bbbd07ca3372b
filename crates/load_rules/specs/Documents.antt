-- The documents of a load, by their number and how often they were written before (own).
use Rattle.std.specs.Prelude.{ℕ, zero, suc, ◌+◌, ◌*◌, ◌%◌, ◌/◌, ◌-◌, ◌^◌, ◌==◌, pos, Bool, List, [], ◌∷◌, ◌++◌, codes, filter, map}
use Rattle.std.specs.Fmt.{decimal}
use Rattle.tuple_values.specs.Document.{Doc, long, text}

-- the number of a document, mixed: a multiplication by an odd number below 2^32
abbrev pub mixed : ℕ → ℕ
mixed i = i * 2654435761 % 2 ^ 32

-- the amount of a document, from 0 to 999
abbrev pub amount_of : ℕ → ℕ
amount_of i = mixed i % 1000

-- the group of a document, from 0 to 9
abbrev pub group_of : ℕ → ℕ
group_of i = mixed i / 1000 % 10

-- the document with this number, in this revision
unfoldable pub load_document : ℕ → ℕ → Doc
load_document i revision =
    (codes "a_i", long (pos (amount_of i)))
    ∷ (codes "g_s", text (103 ∷ (48 + group_of i) ∷ []))
    ∷ (codes "id", text (decimal i))
    ∷ (codes "rev_i", long (pos revision)) ∷ []

-- the numbers below this one, in order
unfoldable pub below : ℕ → List ℕ
below zero = []
below (suc n) = below n ++ n ∷ []

-- the documents of this number are written by this one of four indexers
abbrev pub is_of : ℕ → ℕ → Bool
is_of indexer i = i % 4 == indexer

-- and twice
abbrev pub is_even : ℕ → Bool
is_even i = i % 2 == 0

-- the last revision of a document
abbrev pub revision_of : ℕ → ℕ
revision_of i = 1 - i % 2

-- the numbers that an indexer writes, of so many documents
unfoldable pub numbers_of : ℕ → ℕ → List ℕ
numbers_of n indexer = filter (is_of indexer) (below n)

-- those that it writes again
unfoldable pub again_of : ℕ → ℕ → List ℕ
again_of n indexer = filter is_even (numbers_of n indexer)

-- the documents that an indexer writes, in order: each of its own, and then those with even
-- numbers again, in their next revision
unfoldable pub indexed_documents : ℕ → ℕ → List Doc
indexed_documents n indexer =
    map (λ i. load_document i 0) (numbers_of n indexer)
    ++ map (λ i. load_document i 1) (again_of n indexer)
