-- What the device calls of a log make of its file (own).
use Rattle.std.proofs.Common.{◌≡◌, inl, inr, ℕ, ◌+◌, ◌-◌, ◌≤◌, List, [], ◌∷◌, ◌++◌, length, take, drop, refl, sym, ◌∙◌, ap, arith, append_assoc, length-append, take-append-drop}
use Rattle.std.proofs.lemmas.List.{append-nil, drop_all, drop_at, take_all, take_at}
use Rattle.std.proofs.Math.Seq.{take-append-add}
use Rattle.disk_edge.specs.Disk.{Short, Torn, written}
use Rattle.commit_log.specs.Frames.{at_rest, closed, end_of, frame, frames, magic, sized, staged}
use Rattle.commit_log.specs.Disks.{IsClosed, IsGated}
use Rattle.commit_log.proofs.FrameLemmas.{frames-push}

-- the file up to the byte that ends its steps
abbrev pub front : List (List ℕ) → List ℕ
front bodies = magic ++ frames bodies

pub length-front : (bodies : List (List ℕ)) → length (front bodies) ≡ end_of bodies
length-front bodies = length-append magic (frames bodies)

pub closed-front : (bodies : List (List ℕ)) (rest : List ℕ) → closed bodies rest ≡ front bodies ++ (0 ∷ rest)
closed-front bodies rest = sym (append_assoc magic (frames bodies) (0 ∷ rest))

pub length-closed : (bodies : List (List ℕ)) (rest : List ℕ)
    → length (closed bodies rest) ≡ end_of bodies + 1 + length rest
length-closed bodies rest =
    omega (
      arith,
      ap length (closed-front bodies rest),
      length-append (front bodies)
          (0 ∷ rest),
      length-front bodies,
    )

pub closed-rest : (bodies : List (List ℕ)) (rest : List ℕ) → at_rest bodies ++ rest ≡ closed bodies rest
closed-rest bodies rest =
    ap (λ (l : List ℕ). l ++ rest) (closed-front bodies []) ∙ append_assoc (front bodies) (0 ∷ []) rest
    ∙ sym (closed-front bodies rest)

take-rest : (bodies : List (List ℕ)) → take (end_of bodies + 1) (at_rest bodies) ≡ at_rest bodies
take-rest bodies = take_all (end_of bodies + 1) (at_rest bodies) (omega (arith, length-closed bodies []))

-- whatever a write behind the byte leaves, the steps stand
pub torn-behind : (bodies : List (List ℕ)) (piece c : List ℕ)
    → Torn (end_of bodies + 1) piece (at_rest bodies) c → IsClosed bodies c
torn-behind bodies piece c torn =
    let rest = drop (end_of bodies + 1) c in
    let start : take (end_of bodies + 1) c ≡ at_rest bodies = torn.before ∙ take-rest bodies in (
      rest,
      sym (take-append-drop (end_of bodies + 1) c) ∙ ap (λ (l : List ℕ). l ++ rest) start
          ∙ closed-rest bodies rest,
    )

pub written-behind : (bodies : List (List ℕ)) (piece : List ℕ)
    → written (at_rest bodies) (end_of bodies + 1) piece ≡ closed bodies piece
written-behind bodies piece =
    let none : drop (end_of bodies + 1 + length piece) (at_rest bodies) ≡ [] = drop_all
    (end_of bodies + 1 + length piece) (at_rest bodies) (omega (arith, length-closed bodies [])) in
    ap (λ (l : List ℕ). l ++ (piece ++ drop (end_of bodies + 1 + length piece) (at_rest bodies)))
    (take-rest bodies)
    ∙ ap (λ (l : List ℕ). at_rest bodies ++ (piece ++ l)) none
    ∙ ap (λ (l : List ℕ). at_rest bodies ++ l) (append-nil piece)
    ∙ closed-rest bodies piece

pub take-front : (bodies : List (List ℕ)) (rest : List ℕ)
    → take (end_of bodies) (closed bodies rest) ≡ front bodies
take-front bodies rest = ap (λ (l : List ℕ). take (end_of bodies) l) (closed-front bodies rest)
    ∙ take_at (front bodies) (0 ∷ rest) (end_of bodies) (length-front bodies)

pub drop-front : (bodies : List (List ℕ)) (rest : List ℕ)
    → drop (end_of bodies) (closed bodies rest) ≡ 0 ∷ rest
drop-front bodies rest = ap (λ (l : List ℕ). drop (end_of bodies) l) (closed-front bodies rest)
    ∙ drop_at (front bodies) (0 ∷ rest) (end_of bodies) (length-front bodies)

pub drop-rest : (bodies : List (List ℕ)) (rest : List ℕ)
    → drop (end_of bodies + 1) (closed bodies rest) ≡ rest
drop-rest bodies rest = ap (λ (l : List ℕ). drop (end_of bodies + 1) l) (sym (closed-rest bodies rest))
    ∙ drop_at (at_rest bodies) rest (end_of bodies + 1) (omega (arith, length-closed bodies []))

-- the further step that stands, as a file
pub open-front : (bodies : List (List ℕ)) (body : List ℕ)
    → at_rest (bodies ++ body ∷ []) ≡ front bodies ++ (1 ∷ (sized body ++ (0 ∷ [])))
open-front bodies body =
    closed-front (bodies ++ body ∷ []) []
    ∙ ap (λ (l : List ℕ). (magic ++ l) ++ (0 ∷ [])) (frames-push bodies body)
    ∙ ap (λ (l : List ℕ). l ++ (0 ∷ [])) (sym (append_assoc magic (frames bodies) (frame body)))
    ∙ append_assoc (front bodies) (frame body) (0 ∷ [])

pub drop-open : (bodies : List (List ℕ)) (body : List ℕ)
    → drop (end_of bodies) (at_rest (bodies ++ body ∷ [])) ≡ 1 ∷ (sized body ++ (0 ∷ []))
drop-open bodies body = ap (λ (l : List ℕ). drop (end_of bodies) l) (open-front bodies body)
    ∙ drop_at (front bodies) (1 ∷ (sized body ++ (0 ∷ []))) (end_of bodies) (length-front bodies)

pub length-open : (bodies : List (List ℕ)) (body : List ℕ)
    → end_of bodies + 1 ≤ length (at_rest (bodies ++ body ∷ []))
length-open bodies body = omega (
  arith,
  ap length (open-front bodies body),
  length-append (front bodies)
      (1 ∷ (sized body ++ (0 ∷ []))),
  length-front bodies,
)

pub written-gate : (bodies : List (List ℕ)) (body : List ℕ)
    → written (staged bodies body) (end_of bodies) (1 ∷ []) ≡ at_rest (bodies ++ body ∷ [])
written-gate bodies body =
    ap (λ (l : List ℕ). l ++ ((1 ∷ []) ++ drop (end_of bodies + 1) (staged bodies body)))
    (take-front bodies (sized body ++ (0 ∷ [])))
    ∙ ap (λ (l : List ℕ). front bodies ++ (1 ∷ l)) (drop-rest bodies (sized body ++ (0 ∷ [])))
    ∙ sym (open-front bodies body)

-- one byte is the old or the new one, so the further step stands or it doesn't
pub torn-gate : (bodies : List (List ℕ)) (body c : List ℕ)
    → Torn (end_of bodies) (1 ∷ []) (staged bodies body) c → IsGated bodies body c
torn-gate bodies body c torn = elim (torn.one refl
    (omega (arith, length-closed bodies (sized body ++ (0 ∷ []))))) [
      | inl old ↦ inl (sized body ++ (0 ∷ []), old)
      | inr new ↦ inr (new ∙ written-gate bodies body)
    ]

pub cut-closed : (bodies : List (List ℕ)) (rest : List ℕ)
    → take (end_of bodies + 1) (closed bodies rest) ≡ at_rest bodies
cut-closed bodies rest =
    ap (λ (l : List ℕ). take (end_of bodies + 1) l) (sym (closed-rest bodies rest))
    ∙ take_at (at_rest bodies) rest (end_of bodies + 1) (omega (arith, length-closed bodies []))

-- whatever a cut behind the byte leaves, the steps stand
pub short-closed : (bodies : List (List ℕ)) (rest c : List ℕ)
    → Short (end_of bodies + 1) (closed bodies rest) c → IsClosed bodies c
short-closed bodies rest c short =
    let long : length (at_rest bodies) ≤ length c = omega
    (arith, short.no_shorter, length-closed bodies rest, length-closed bodies []) in
    let more = length c - length (at_rest bodies) in
    let parts : length c ≡ length (at_rest bodies) + more = omega (arith, long) in (
      take more rest,
      sym short.front
          ∙ ap (λ (n : ℕ). take n (closed bodies rest)) parts
          ∙ ap (λ (l : List ℕ). take (length (at_rest bodies) + more) l) (sym (closed-rest bodies rest))
          ∙ take-append-add (at_rest bodies) rest more
          ∙ closed-rest bodies (take more rest),
    )
