-- The bytes of a file of steps (own).
use Rattle.std.specs.Prelude.{ℕ, ◌+◌, List, [], ◌∷◌, ◌++◌, length}
use Rattle.std.specs.Int.{w64, to_be_bytes}

-- the eight bytes with which a file begins, `SSLOG001`
abbrev pub magic : List ℕ
magic = 83 ∷ 83 ∷ 76 ∷ 79 ∷ 71 ∷ 48 ∷ 48 ∷ 49 ∷ []

-- a body behind its length, in eight bytes with the greatest first
abbrev pub sized : List ℕ → List ℕ
sized body = to_be_bytes w64 (length body) ++ body

-- the byte that says that a step stands, and its body behind its length
abbrev pub frame : List ℕ → List ℕ
frame body = 1 ∷ sized body

-- one frame after another
abbrev pub frames : List (List ℕ) → List ℕ
frames [] = []
frames (body ∷ bodies) = frame body ++ frames bodies

-- the frames of these bodies, the byte that ends them, and what follows it
abbrev pub closed : List (List ℕ) → List ℕ → List ℕ
closed bodies rest = magic ++ (frames bodies ++ (0 ∷ rest))

-- a file whose last byte ends its steps
abbrev pub at_rest : List (List ℕ) → List ℕ
at_rest bodies = closed bodies []

-- the place of the byte that ends these steps, counted from 0
abbrev pub end_of : List (List ℕ) → ℕ
end_of bodies = 8 + length (frames bodies)

-- behind the byte that ends the steps lie a further body, behind its length, and a byte to end it
abbrev pub staged : List (List ℕ) → List ℕ → List ℕ
staged bodies body = closed bodies (sized body ++ (0 ∷ []))
