-- What is read as letters was laid out as letters.
use Rattle.std.proofs.Common.{◌≡◌, ℕ, List, [], ◌∷◌, ◌++◌, Bool, true, false, Option, Some, None}
use Rattle.std.proofs.Common.{refl, ap, sym, subst}
use Rattle.std.specs.Prelude.{◌==◌, if◌then◌else◌}
use Rattle.std.proofs.lemmas.Bool.{eqb-true, cond_both, both_ways}
use Rattle.tuple_values.specs.Document.{ByteList}
use Rattle.query_syntax.specs.Letters.{Letter, plain, escaped, AreLetters, letters_print}
use Rattle.query_syntax.specs.Machine.{Machine, is_letter, takes, push, letter_step, begin}
use Rattle.query_syntax.specs.Steps.{end_step}
use Rattle.query_syntax.specs.Reading.{run, asks}
use Rattle.query_syntax.specs.Tree.{ClauseTree}
use Rattle.query_syntax.specs.declared.place.Kind.{Kind}
use Rattle.query_syntax.specs.declared.place.Place.TheVariants.{Letters, Escape}
use Rattle.query_syntax.proofs.ClassLemmas.{taken_letter}
use Rattle.query_syntax.proofs.LetterLemmas.{at, fresh, after_letters, after-nothing, after-plain}
use Rattle.query_syntax.proofs.LetterLemmas.{after-escaped, begin-taken}

-- the bytes lead from here to an end with these clauses
abbrev pub Asks : Option Machine → ByteList → List ClauseTree → Type 0
Asks o bytes clauses = asks (run o bytes) ≡ Some clauses

-- nothing is read from nowhere
pub nowhere : {G : Type 0} (bytes : ByteList) (clauses : List ClauseTree)
    → Asks None bytes clauses → G
nowhere bytes clauses h = absurd cc

-- what follows from both answers to a test follows
pub either : {G : Type 0} (test : Bool) (x y : Option Machine) (bytes : ByteList)
    (clauses : List ClauseTree)
    → (test ≡ true → Asks x bytes clauses → G) → (test ≡ false → Asks y bytes clauses → G)
    → Asks (if test then x else y) bytes clauses → G
either true x y bytes clauses f g h = f refl h
either false x y bytes clauses f g h = g refl h

-- the same where no refuses
pub only_true : {G : Type 0} (test : Bool) (x : Option Machine) (bytes : ByteList)
    (clauses : List ClauseTree) → (test ≡ true → Asks x bytes clauses → G)
    → Asks (if test then x else None) bytes clauses → G
only_true test x bytes clauses f h =
    either test x None bytes clauses f (λ is none. nowhere bytes clauses none) h

-- and where yes refuses
pub only_false : {G : Type 0} (test : Bool) (y : Option Machine) (bytes : ByteList)
    (clauses : List ClauseTree) → (test ≡ false → Asks y bytes clauses → G)
    → Asks (if test then None else y) bytes clauses → G
only_false test y bytes clauses f h =
    either test None y bytes clauses (λ is none. nowhere bytes clauses none) f h

-- no letter of this kind begins the bytes
abbrev pub Stops : Kind → ByteList → Type 0
Stops kind [] = Unit {0}
Stops kind (b ∷ bytes) = takes kind b ≡ false

-- letters, and what is left
pub record Span (kind : Kind) (m : Machine) (bytes : ByteList) (clauses : List ClauseTree)
    : Type 0 where
  pub letters : List Letter
  pub rest : ByteList
  pub are : AreLetters (is_letter kind) letters
  pub is : bytes ≡ letters_print letters ++ rest
  pub reads : Asks (Some (after_letters kind m letters)) rest clauses
  pub stops : Stops kind rest

-- no letters
span_none : (kind : Kind) (m : Machine) (bytes : ByteList) (clauses : List ClauseTree)
    → Stops kind bytes → Asks (Some (at (Letters kind) m)) bytes clauses → Span kind m bytes clauses
span_none kind m bytes clauses stops h = record {
  letters = [];
  rest = bytes;
  are = tt;
  is = refl;
  reads = subst (λ n. Asks (Some n) bytes clauses) (after-nothing kind m) h;
  stops = stops;
}

-- a letter by itself before letters
unfoldable pub span_plain : (kind : Kind) (m : Machine) (b : ℕ) (bytes : ByteList)
    (clauses : List ClauseTree) → is_letter kind b ≡ true → Span kind (record m { text = m.text ++ b ∷ [] }) bytes clauses
    → Span kind m (b ∷ bytes) clauses
span_plain kind m b bytes clauses letter s = record {
  letters = plain b ∷ s.letters;
  rest = s.rest;
  are = (letter, s.are);
  is = ap (λ t. b ∷ t) s.is;
  reads = subst (λ n. Asks (Some n) s.rest clauses) (after-plain kind m b s.letters) s.reads;
  stops = s.stops;
}

-- a letter behind a backslash before letters
unfoldable pub span_escaped : (kind : Kind) (m : Machine) (b : ℕ) (bytes : ByteList)
    (clauses : List ClauseTree) → (b == 117) ≡ false
    → Span kind (record m { text = m.text ++ b ∷ []; escapes = true }) bytes clauses
    → Span kind m (92 ∷ b ∷ bytes) clauses
span_escaped kind m b bytes clauses letter s = record {
  letters = escaped b ∷ s.letters;
  rest = s.rest;
  are = (letter, s.are);
  is = ap (λ t. 92 ∷ b ∷ t) s.is;
  reads = subst (λ n. Asks (Some n) s.rest clauses) (after-escaped kind m b s.letters) s.reads;
  stops = s.stops;
}

-- letters are read from these bytes, also behind a backslash
record Spans (bytes : ByteList) : Type 0 where
  inside : (kind : Kind) (m : Machine) (clauses : List ClauseTree)
      → Asks (Some (at (Letters kind) m)) bytes clauses → Span kind m bytes clauses
  behind : (kind : Kind) (m : Machine) (clauses : List ClauseTree)
      → Asks (Some (at (Escape kind) m)) bytes clauses → Span kind m (92 ∷ bytes) clauses

-- a byte that is taken, and what is read behind it
span_taken : (kind : Kind) (m : Machine) (b : ℕ) (bytes : ByteList) (clauses : List ClauseTree)
    → Spans bytes → takes kind b ≡ true
    → Asks (Some (letter_step kind (at (Letters kind) m) b (b ∷ []))) bytes clauses
    → Span kind m (b ∷ bytes) clauses
span_taken kind m b bytes clauses later taken h =
    cond_both (b == 92) (at (Escape kind) m) (push kind m (b ∷ []))
    (λ (n : Machine). Asks (Some n) bytes clauses → Span kind m (b ∷ bytes) clauses)
    (λ slash g. subst (λ (x : ℕ). Span kind m (x ∷ bytes) clauses) (sym (eqb-true b 92 slash))
    (later.behind kind m clauses g))
    (λ other g. span_plain kind m b bytes clauses (taken_letter kind b taken other)
    (later.inside kind (record m { text = m.text ++ b ∷ [] }) clauses g))
    h

-- they are
spans : (bytes : ByteList) → Spans bytes
spans [] = record {
  inside = λ kind m clauses h. span_none kind m [] clauses tt h;
  behind = λ kind m clauses h. absurd cc;
}
spans (b ∷ bytes) =
    let later = spans bytes in
    record {
      inside = λ kind m clauses h.
          either (takes kind b) (Some (letter_step kind (at (Letters kind) m) b (b ∷ [])))
          (end_step kind (at (Letters kind) m) b (b ∷ [])) bytes clauses
          (λ taken g. span_taken kind m b bytes clauses later taken g)
          (λ stops g. span_none kind m (b ∷ bytes) clauses stops h) h;
      behind = λ kind m clauses h.
          only_false (b == 117) (Some (push kind (record m { escapes = true }) (b ∷ []))) bytes
          clauses
          (λ letter g. span_escaped kind m b bytes clauses letter
          (later.inside kind (record m { text = m.text ++ b ∷ []; escapes = true }) clauses g)) h;
    }

-- letters are read where some were
pub span : (kind : Kind) (m : Machine) (bytes : ByteList) (clauses : List ClauseTree)
    → Asks (Some (at (Letters kind) m)) bytes clauses → Span kind m bytes clauses
span kind m bytes clauses h = (spans bytes).inside kind m clauses h

-- letters that begin with a byte
pub record Begun (kind : Kind) (m : Machine) (b : ℕ) (bytes : ByteList) (clauses : List ClauseTree)
    : Type 0 where
  pub taken : takes kind b ≡ true
  pub letters : Span kind (fresh m) (b ∷ bytes) clauses

-- letters are read where they may begin
pub span_begun : (kind : Kind) (m : Machine) (b : ℕ) (bytes : ByteList) (clauses : List ClauseTree)
    → Asks (begin kind m b (b ∷ [])) bytes clauses → Begun kind m b bytes clauses
span_begun kind m b bytes clauses h =
    only_true (takes kind b) (Some (letter_step kind (fresh m) b (b ∷ []))) bytes clauses
    (λ taken g. record {
      taken = taken;
      letters =
          span kind (fresh m) (b ∷ bytes) clauses
          (subst (λ o. Asks o bytes clauses) (begin-taken kind m b (b ∷ []) taken) h);
    }) h

-- behind letters comes no letter
pub span_ends : {G : Type 0} (kind : Kind) (m : Machine) (b : ℕ) (bytes : ByteList)
    (clauses : List ClauseTree) → takes kind b ≡ false
    → (Asks (end_step kind (at (Letters kind) m) b (b ∷ [])) bytes clauses → G)
    → Asks (Some (at (Letters kind) m)) (b ∷ bytes) clauses → G
span_ends kind m b bytes clauses stops f h =
    either (takes kind b) (Some (letter_step kind (at (Letters kind) m) b (b ∷ [])))
    (end_step kind (at (Letters kind) m) b (b ∷ [])) bytes clauses
    (λ taken g. absurd (both_ways (takes kind b) stops taken)) (λ is g. f g) h

-- the first letter begins with this byte
abbrev pub First : ℕ → List Letter → Type 0
First b [] = ⊥
First b (plain d ∷ letters) = d ≡ b
First b (escaped d ∷ letters) = Unit {0}

-- where a byte is taken, some letter is read, and begins with it
pub first_is : (kind : Kind) (b : ℕ) (bytes : ByteList) (letters : List Letter) (rest : ByteList)
    → takes kind b ≡ true → b ∷ bytes ≡ letters_print letters ++ rest → Stops kind rest
    → First b letters
first_is kind b bytes [] [] taken is stops = cc
first_is kind b bytes [] (d ∷ rest) taken is stops =
    let same : b ≡ d = cc in
    both_ways (takes kind d) stops (subst (λ (x : ℕ). takes kind x ≡ true) same taken)
first_is kind b bytes (plain d ∷ letters) rest taken is stops = cc
first_is kind b bytes (escaped d ∷ letters) rest taken is stops = tt

-- then there are some
pub first_some : (b : ℕ) (letters : List Letter) → First b letters → ¬ (letters ≡ [])
first_some b [] first none = first
first_some b (letter ∷ letters) first none = cc
