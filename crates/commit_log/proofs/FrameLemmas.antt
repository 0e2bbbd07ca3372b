-- A frame is read in one way (own).
use Rattle.std.proofs.Common.{◌≡◌, ℕ, ◌+◌, ◌^◌, ◌<◌, List, [], ◌∷◌, ◌++◌, length, take, drop, refl, sym, ◌∙◌, ap, arith, append_assoc, length-append}
use Rattle.std.specs.Int.{w64, from_be_bytes, to_be_bytes}
use Rattle.std.proofs.lemmas.List.{append-nil, drop_at, take_at}
use Rattle.std.proofs.lemmas.Nat.{from_be_bytes-to_be_bytes_8}
use Rattle.commit_log.specs.Frames.{end_of, frame, frames, magic, sized}

abbrev pub head-of : (d : ℕ) → List ℕ → ℕ
head-of d [] = d
head-of d (x ∷ xs) = x

abbrev pub tail-of : List ℕ → List ℕ
tail-of [] = []
tail-of (x ∷ xs) = xs

-- two bodies behind their lengths at one front are one
pub sized-one : (a b x y : List ℕ) → length a < 2 ^ 64 → length b < 2 ^ 64 → sized a ++ x ≡ sized b ++ y → (a ≡ b) × (x ≡ y)
sized-one a b x y la lb same =
    let split-a : sized a ++ x ≡ to_be_bytes w64 (length a) ++ (a ++ x) = append_assoc (to_be_bytes w64 (length a)) a x in
    let split-b : sized b ++ y ≡ to_be_bytes w64 (length b) ++ (b ++ y) = append_assoc (to_be_bytes w64 (length b)) b y in
    let all : to_be_bytes w64 (length a) ++ (a ++ x) ≡ to_be_bytes w64 (length b) ++ (b ++ y) = sym split-a ∙ same ∙ split-b in
    let heads : to_be_bytes w64 (length a) ≡ to_be_bytes w64 (length b) =
    sym (take_at (to_be_bytes w64 (length a)) (a ++ x) 8 refl) ∙ ap (λ (l : List ℕ). take 8 l) all ∙ take_at (to_be_bytes w64 (length b)) (b ++ y) 8 refl in
    let tails : a ++ x ≡ b ++ y =
    sym (drop_at (to_be_bytes w64 (length a)) (a ++ x) 8 refl) ∙ ap (λ (l : List ℕ). drop 8 l) all ∙ drop_at (to_be_bytes w64 (length b)) (b ++ y) 8 refl in
    let long : length a ≡ length b =
    sym (from_be_bytes-to_be_bytes_8 (length a) la) ∙ ap (from_be_bytes w64) heads ∙ from_be_bytes-to_be_bytes_8 (length b) lb in (
      sym (take_at a x (length a) refl) ∙ ap (λ (l : List ℕ). take (length a) l) tails ∙ take_at b y (length a) (sym long),
      sym (drop_at a x (length a) refl) ∙ ap (λ (l : List ℕ). drop (length a) l) tails ∙ drop_at b y (length a) (sym long),
    )

-- two frames at one front, each with more behind it
pub frame-one : (a b us bs x y : List ℕ) → length a < 2 ^ 64 → length b < 2 ^ 64 → (frame a ++ us) ++ x ≡ (frame b ++ bs) ++ y → (a ≡ b) × (us ++ x ≡ bs ++ y)
frame-one a b us bs x y la lb same =
    let rest : sized a ++ (us ++ x) ≡ sized b ++ (bs ++ y) =
    sym (append_assoc (sized a) us x) ∙ ap tail-of same ∙ append_assoc (sized b) bs y in
    sized-one a b (us ++ x) (bs ++ y) la lb rest

pub frame-body : (a b x y : List ℕ) → length a < 2 ^ 64 → length b < 2 ^ 64 → frame a ++ x ≡ frame b ++ y → a ≡ b
frame-body a b x y la lb same = (sized-one a b x y la lb (ap tail-of same)).0

pub past-magic : (x y : List ℕ) → magic ++ x ≡ magic ++ y → x ≡ y
past-magic x y same = ap (λ (l : List ℕ). drop 8 l) same

pub frames-push : (bodies : List (List ℕ)) (body : List ℕ) → frames (bodies ++ body ∷ []) ≡ frames bodies ++ frame body
frames-push [] body = append-nil (frame body)
frames-push (b ∷ bodies) body =
    ap (λ (l : List ℕ). frame b ++ l) (frames-push bodies body) ∙ sym (append_assoc (frame b) (frames bodies) (frame body))

pub length-sized : (body : List ℕ) → length (sized body) ≡ 8 + length body
length-sized body = length-append (to_be_bytes w64 (length body)) body

pub end-push : (bodies : List (List ℕ)) (body : List ℕ) → end_of (bodies ++ body ∷ []) ≡ end_of bodies + (9 + length body)
end-push bodies body =
    omega (arith, ap length (frames-push bodies body), length-append (frames bodies) (frame body), length-sized body)
