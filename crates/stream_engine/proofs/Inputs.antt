-- An input that was read, and its kernel that was fed.
use Rattle.std.specs.Prelude.{ℕ, zero, suc, ◌≡◌, ◌<◌, ◌+◌, max, List, [], ◌∷◌, refl, length}
use Rattle.std.specs.Prelude.{slice_index_or, slice_set, Bool, true, false, Option, Some, None}
use Rattle.std.specs.Prelude.{IfSome, IfNone}
use Rattle.std.proofs.Common.{sym, ◌∙◌, ap, arith, subst, length-set}
use Rattle.tuple_values.specs.Document.{Doc}
use Rattle.kernel_laws.specs.Rests.{Rests, rest_at, put_front}
use Rattle.source_streams.specs.Reads.{IsNext}
use Rattle.stream_engine.specs.Flows.{Flow, rests_of, to_come, unended}
use Rattle.stream_engine.specs.Views.{deepest}

-- a stream that is read stays as deep, and so does the deepest of several
pub deepest_set : (flows : List Flow) (i : ℕ) (f d : Flow) → f.1 ≡ (slice_index_or flows i d).1
    → deepest (slice_set flows i f) ≡ deepest flows
deepest_set [] i f d e = refl
deepest_set (g ∷ gs) zero f d e = ap (λ n. max (n + 1) (deepest gs)) e
deepest_set (g ∷ gs) (suc i) f d e = ap (λ n. max (g.1 + 1) n) (deepest_set gs i f d e)

-- with the tuple that was read in front, the rests are as they were
read_back : (flows : List Flow) (i : ℕ) (f d : Flow) (t : Doc) → i < length flows
    → (slice_index_or flows i d).0 ≡ t ∷ f.0
    → put_front i t (rests_of (slice_set flows i f)) ≡ rests_of flows
read_back [] i f d t h e = absurd (omega arith)
read_back (g ∷ gs) zero f d t h e = ap (λ r. r ∷ rests_of gs) (sym e)
read_back (g ∷ gs) (suc i) f d t h e = ap (λ r. g.0 ∷ r) (read_back gs i f d t (omega arith) e)

-- at an input's end they stay
ended_back : (flows : List Flow) (i : ℕ) (f d : Flow) → (slice_index_or flows i d).0 ≡ []
    → f.0 ≡ [] → rests_of (slice_set flows i f) ≡ rests_of flows
ended_back [] i f d e n = refl
ended_back (g ∷ gs) zero f d e n = ap (λ r. r ∷ rests_of gs) (n ∙ sym e)
ended_back (g ∷ gs) (suc i) f d e n = ap (λ r. g.0 ∷ r) (ended_back gs i f d e n)

-- and nothing is to come of it
ended_rest : (flows : List Flow) (i : ℕ) (f : Flow) → f.0 ≡ []
    → rest_at i (rests_of (slice_set flows i f)) ≡ []
ended_rest [] i f n = refl
ended_rest (g ∷ gs) zero f n = n
ended_rest (g ∷ gs) (suc i) f n = ended_rest gs i f n

-- a tuple fewer is to come
fewer_to_come : (flows : List Flow) (i : ℕ) (f d : Flow) (t : Doc) → i < length flows
    → (slice_index_or flows i d).0 ≡ t ∷ f.0 → to_come (slice_set flows i f) < to_come flows
fewer_to_come [] i f d t h e = absurd (omega arith)
fewer_to_come (g ∷ gs) zero f d t h e =
    let l : length g.0 ≡ suc (length f.0) = ap (λ (l : List Doc). length l) e in omega arith
fewer_to_come (g ∷ gs) (suc i) f d t h e =
    let m = fewer_to_come gs i f d t (omega arith) e in omega arith

-- at an input's end as many
ended_to_come : (flows : List Flow) (i : ℕ) (f d : Flow) → (slice_index_or flows i d).0 ≡ []
    → f.0 ≡ [] → to_come (slice_set flows i f) ≡ to_come flows
ended_to_come [] i f d e n = refl
ended_to_come (g ∷ gs) zero f d e n =
    ap (λ (r : List Doc). length r + to_come gs) (n ∙ sym e)
ended_to_come (g ∷ gs) (suc i) f d e n =
    ap (λ r. length g.0 + r) (ended_to_come gs i f d e n)

less_than_suc : (n : ℕ) → n < suc n
less_than_suc n = omega arith

-- an input more has ended
fewer_open : (es : List Bool) (i : ℕ) → slice_index_or es i true ≡ false
    → unended (slice_set es i true) < unended es
fewer_open [] i e = absurd (cc)
fewer_open (true ∷ es) zero e = absurd (cc)
fewer_open (false ∷ es) zero e = less_than_suc (unended es)
fewer_open (true ∷ es) (suc i) e = fewer_open es i e
fewer_open (false ∷ es) (suc i) e = let m = fewer_open es i e in omega arith

-- what a kernel is after it was fed what was read
pub record Kept (ready' : Rests → Type 0) (out out' : Rests → List Doc) (old new : Rests)
    : Type 0 where
  pub stays : ready' new
  pub same : out' new ≡ out old

-- it is ready for what is left of its inputs, and its output stays
pub fed_kept : (ready ready' : Rests → Type 0) (out out' : Rests → List Doc) (flows : List Flow)
    (i : ℕ) (f d : Flow) (tuple : Option Doc) → i < length flows
    → IsNext (slice_index_or flows i d).0 tuple f.0
    → IfSome tuple (λ t. (rests : Rests) → ready (put_front i t rests)
    → out' rests ≡ out (put_front i t rests))
    → IfSome tuple (λ t. (rests : Rests) → ready (put_front i t rests) → ready' rests)
    → IfNone tuple ((rests : Rests) → rest_at i rests ≡ [] → ready rests → out' rests ≡ out rests)
    → IfNone tuple ((rests : Rests) → rest_at i rests ≡ [] → ready rests → ready' rests)
    → ready (rests_of flows)
    → Kept ready' out out' (rests_of flows) (rests_of (slice_set flows i f))
fed_kept ready ready' out out' flows i f d (Some t) h n o r oe re k =
    let back = read_back flows i f d t h n in
    let was = subst ready (sym back) k in
    record {
      stays = r (rests_of (slice_set flows i f)) was;
      same = o (rests_of (slice_set flows i f)) was ∙ ap out back;
    }
fed_kept ready ready' out out' flows i f d None h n o r oe re k =
    let back = ended_back flows i f d n.0 n.1 in
    let was = subst ready (sym back) k in
    let none = ended_rest flows i f n.1 in
    record {
      stays = re (rests_of (slice_set flows i f)) none was;
      same = oe (rests_of (slice_set flows i f)) none was ∙ ap out back;
    }

-- a tuple was read or an input has ended
pub fed_falls : (flows : List Flow) (i : ℕ) (f d : Flow) (tuple : Option Doc) (es fs : List Bool)
    → i < length flows → IsNext (slice_index_or flows i d).0 tuple f.0
    → slice_index_or es i true ≡ false → IfSome tuple (λ t. fs ≡ es)
    → IfNone tuple (fs ≡ slice_set es i true)
    → to_come (slice_set flows i f) + unended fs < to_come flows + unended es
fed_falls flows i f d (Some t) es fs h n e a b =
    let same : unended fs ≡ unended es = ap (λ (l : List Bool). unended l) a in
    let less = fewer_to_come flows i f d t h n in
    omega (arith, same, less)
fed_falls flows i f d None es fs h n e a b =
    let same : unended fs ≡ unended (slice_set es i true) = ap (λ (l : List Bool). unended l) b in
    let less = fewer_open es i e in
    let back : to_come (slice_set flows i f) ≡ to_come flows =
    ended_to_come flows i f d n.0 n.1 in
    omega (arith, same, less, back)

-- a kernel that was fed has as many inputs
pub fed_width : (tuple : Option Doc) (i : ℕ) (es fs : List Bool) → IfSome tuple (λ t. fs ≡ es)
    → IfNone tuple (fs ≡ slice_set es i true) → length fs ≡ length es
fed_width (Some t) i es fs a b = ap (λ (l : List Bool). length l) a
fed_width None i es fs a b = ap (λ (l : List Bool). length l) b ∙ length-set es i true

-- an input that hasn't ended is one of the inputs
pub flag_within : (es : List Bool) (i : ℕ) → slice_index_or es i true ≡ false → i < length es
flag_within [] i e = absurd (cc)
flag_within (e ∷ es) zero f = omega arith
flag_within (e ∷ es) (suc i) f = let h = flag_within es i f in omega arith
