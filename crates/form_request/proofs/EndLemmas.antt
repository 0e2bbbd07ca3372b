-- What follows a whole head changes neither its end nor its beginning.
use Rattle.std.proofs.Common.{◌≡◌, ℕ, zero, suc, ◌+◌, ◌≤◌, Bool, true, false, cond, nat_eq, List, [], ◌∷◌, ◌++◌, length, Option, Some, None, refl, sym, ap, ◌∙◌, arith}
use Rattle.std.specs.Prelude.{◌&&◌}
use Rattle.form_request.specs.Ends.{head_length, lines_len, blank_len, shift, empty_len, behind_line}

-- a shifted place is a place
shifted : (k : ℕ) (o : Option ℕ) (place : ℕ) → shift k o ≡ Some place
    → (n : ℕ) × (o ≡ Some n) × (place ≡ k + n)
shifted k None place is = absurd (cc)
shifted k (Some n) place is = (n, refl, cc)

-- the lines of a head end at the place, whatever follows
record LinesEnd (bytes : List ℕ) (place : ℕ) : Type 0 where
  end : (more : List ℕ) → lines_len (bytes ++ more) ≡ Some place
  fits : place ≤ length bytes

-- an empty line at the front stays one
empty_len-append : (bytes more : List ℕ) (count : ℕ) → empty_len bytes ≡ suc count
    → empty_len (bytes ++ more) ≡ suc count
empty_len-append [] more count is = absurd (omega arith)
empty_len-append (b ∷ []) more count is = by_feed (nat_eq b 10) (nat_eq b 13) is
  where
    by_feed : (s t : Bool) → cond s 1 (cond t 0 0) ≡ suc count
        → cond s 1 (cond t (empty_len (13 ∷ more)) 0) ≡ suc count
    by_feed true t e = e
    by_feed false true e = absurd (omega arith)
    by_feed false false e = absurd (omega arith)
empty_len-append (b ∷ c ∷ bytes) more count is = is

-- an empty line takes no more bytes than there are
empty_len-le : (bytes : List ℕ) → empty_len bytes ≤ length bytes
empty_len-le [] = omega arith
empty_len-le (b ∷ []) = by_feed (nat_eq b 10) (nat_eq b 13)
  where
    by_feed : (s t : Bool) → cond s 1 (cond t 0 0) ≤ 1
    by_feed true t = omega arith
    by_feed false true = omega arith
    by_feed false false = omega arith
empty_len-le (b ∷ c ∷ bytes) = by_feed (nat_eq b 10) (nat_eq b 13) (nat_eq c 10)
  where
    by_feed : (s t u : Bool) → cond s 1 (cond t (cond u 2 0) 0) ≤ suc (suc (length bytes))
    by_feed true t u = omega arith
    by_feed false true true = omega arith
    by_feed false true false = omega arith
    by_feed false false u = omega arith

-- where lines end behind this, no empty line comes to stand at the front
empty_len-none : (bytes more : List ℕ) (place : ℕ) → lines_len bytes ≡ Some place → empty_len bytes ≡ 0
    → empty_len (bytes ++ more) ≡ 0
empty_len-none [] more place ends none = absurd (cc)
empty_len-none (b ∷ []) more place ends none = by_feed (nat_eq b 10) ends
  where
    by_feed : (s : Bool) → cond s None None ≡ Some place → empty_len (b ∷ more) ≡ 0
    by_feed true e = absurd (cc)
    by_feed false e = absurd (cc)
empty_len-none (b ∷ c ∷ bytes) more place ends none = none

lines_end : (bytes : List ℕ) (place : ℕ) → lines_len bytes ≡ Some place → LinesEnd bytes place
lines_end [] place ends = absurd (cc)
lines_end (b ∷ bytes) place ends =
    by_feed (nat_eq b 10) refl (λ n is. lines_end bytes n is) ends
  where
    later : (LinesEnd-tail : (n : ℕ) → lines_len bytes ≡ Some n → LinesEnd bytes n)
        → (s : Bool) → nat_eq b 10 ≡ s
        → ((more : List ℕ) → cond s (behind_line (empty_len (bytes ++ more)) (lines_len (bytes ++ more)))
        (shift 1 (lines_len (bytes ++ more))) ≡ shift 1 (lines_len (bytes ++ more)))
        → shift 1 (lines_len bytes) ≡ Some place → LinesEnd (b ∷ bytes) place
    later tail s feed same e =
        let n = shifted 1 (lines_len bytes) place e in
        let rest = tail n.0 n.1 in
        record {
          end = λ more. ap (λ t. cond t (behind_line (empty_len (bytes ++ more)) (lines_len (bytes ++ more)))
              (shift 1 (lines_len (bytes ++ more)))) feed
              ∙ same more ∙ ap (shift 1) (rest.end more) ∙ ap Some (sym n.2);
          fits = omega (arith, rest.fits, n.2);
        }

    by_empty : (LinesEnd-tail : (n : ℕ) → lines_len bytes ≡ Some n → LinesEnd bytes n)
        → (count : ℕ) → empty_len bytes ≡ count → nat_eq b 10 ≡ true
        → behind_line count (lines_len bytes) ≡ Some place → LinesEnd (b ∷ bytes) place
    by_empty tail zero none feed e =
        let n = shifted 1 (lines_len bytes) place e in
        later tail true feed
        (λ more. ap (λ k. behind_line k (lines_len (bytes ++ more))) (empty_len-none bytes more n.0 n.1 none)) e
    by_empty tail (suc count) is feed e = record {
      end = λ more. ap (λ t. cond t (behind_line (empty_len (bytes ++ more)) (lines_len (bytes ++ more)))
          (shift 1 (lines_len (bytes ++ more)))) feed
          ∙ ap (λ k. behind_line k (lines_len (bytes ++ more))) (empty_len-append bytes more count is) ∙ e;
      fits = let two : place ≡ 2 + count = cc in omega (arith, empty_len-le bytes, is, two);
    }

    by_feed : (s : Bool) → nat_eq b 10 ≡ s
        → ((n : ℕ) → lines_len bytes ≡ Some n → LinesEnd bytes n)
        → cond s (behind_line (empty_len bytes) (lines_len bytes)) (shift 1 (lines_len bytes)) ≡ Some place
        → LinesEnd (b ∷ bytes) place
    by_feed true feed tail e = by_empty tail (empty_len bytes) refl feed e
    by_feed false feed tail e = later tail false feed (λ more. refl) e

-- a head ends at the place, and begins behind the same empty lines, whatever follows
pub record HeadEnd (bytes : List ℕ) (place : ℕ) : Type 0 where
  pub end : (more : List ℕ) → head_length (bytes ++ more) ≡ Some place
  pub fits : place ≤ length bytes
  pub blank : (more : List ℕ) → blank_len (bytes ++ more) ≡ blank_len bytes
  pub below : blank_len bytes ≤ place

pub head_end : (bytes : List ℕ) (place : ℕ) → head_length bytes ≡ Some place → HeadEnd bytes place
head_end [] place ends = absurd (cc)
head_end (b ∷ []) place ends = absurd (cc)
head_end (b ∷ c ∷ bytes) place ends =
    by_feed (nat_eq b 10) (nat_eq b 13 && nat_eq c 10) refl refl
    (λ n is. head_end (c ∷ bytes) n is) (λ n is. head_end bytes n is) ends
  where
    by_feed : (s t : Bool) → nat_eq b 10 ≡ s → (nat_eq b 13 && nat_eq c 10) ≡ t
        → ((n : ℕ) → head_length (c ∷ bytes) ≡ Some n → HeadEnd (c ∷ bytes) n)
        → ((n : ℕ) → head_length bytes ≡ Some n → HeadEnd bytes n)
        → cond s (shift 1 (head_length (c ∷ bytes))) (cond t (shift 2 (head_length bytes)) (lines_len (b ∷ c ∷ bytes)))
        ≡ Some place
        → HeadEnd (b ∷ c ∷ bytes) place
    by_feed true t feed return tail tail2 e =
        let n = shifted 1 (head_length (c ∷ bytes)) place e in
        let rest = tail n.0 n.1 in
        record {
          end = λ more. rw feed (ap (shift 1) (rest.end more) ∙ ap Some (sym n.2));
          fits = omega (arith, rest.fits, n.2);
          blank = λ more. rw feed (ap (λ k. 1 + k) (rest.blank more));
          below = rw feed (omega (arith, rest.below, n.2));
        }
    by_feed false true feed return tail tail2 e =
        let n = shifted 2 (head_length bytes) place e in
        let rest = tail2 n.0 n.1 in
        record {
          end = λ more. rw (feed, return) (ap (shift 2) (rest.end more) ∙ ap Some (sym n.2));
          fits = omega (arith, rest.fits, n.2);
          blank = λ more. rw (feed, return) (ap (λ k. 2 + k) (rest.blank more));
          below = rw (feed, return) (omega (arith, rest.below, n.2));
        }
    by_feed false false feed return tail tail2 e =
        let lines = lines_end (b ∷ c ∷ bytes) place e in
        record {
          end = λ more. by_tests (shift 1 (head_length (c ∷ (bytes ++ more))))
              (shift 2 (head_length (bytes ++ more))) (lines_len (b ∷ c ∷ (bytes ++ more)))
              feed return ∙ lines.end more;
          fits = lines.fits;
          blank = λ more. rw (feed, return) refl;
          below = rw (feed, return) (omega arith);
        }
      where
        by_tests : (x y z : Option ℕ) → nat_eq b 10 ≡ false → (nat_eq b 13 && nat_eq c 10) ≡ false
            → cond (nat_eq b 10) x (cond (nat_eq b 13 && nat_eq c 10) y z) ≡ z
        by_tests x y z first second = rw (first, second) refl
