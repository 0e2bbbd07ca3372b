-- Connections that are served one after another.
use Rattle.std.proofs.Common.{ℕ, ◌≡◌, ◌≤◌, ◌+◌, List, [], ◌∷◌, ◌++◌, length, refl, sym, ap, ◌∙◌, subst}
use Rattle.std.proofs.Common.{arith, inl, inr, append_assoc, append-nil, length-append}
use Rattle.std.specs.Prelude.{nat_lt, IfSome, Option, Some, None}
use Rattle.std.proofs.lemmas.Bool.{cases_lt, le-ltb, lt-ltb}
use Rattle.io_edge.specs.Edge.{Rose}
use Rattle.server_edge.specs.Doors.{GaveFirst, Row, TakesBack}
use Rattle.pass_calls.specs.Serving.{AreServed, EndsAll, EndsNext, GaveOne, IsEven, IsServed}
use Rattle.pass_calls.specs.Serving.{IsServedRow}
use Rattle.pass_calls.specs.Serving.{HasFailed, Rises, ServesOne, Serving}
use Rattle.server_edge.specs.declared.door.Back.{Back}
use Rattle.pass_calls.specs.declared.doors.DoorEnd.{DoorEnd}
use Rattle.pass_calls.specs.declared.doors.DoorEnd.TheVariants.{Closed, NoListen, Failed}

-- those served behind others
served-on : {W I O N : Type 0} (did : Serving W I O N) (w : W) (given : List (I × O))
    (backs : List (Back I O N)) (mid : W) (more : List (I × O)) (later : List (Back I O N)) (v : W)
    → AreServed did w given backs mid → AreServed did mid more later v
    → AreServed did w (given ++ more) (backs ++ later) v
served-on did w [] [] mid more later v first next =
    subst (λ u. AreServed did u more later v) first next
served-on did w [] (b ∷ backs) mid more later v first next = absurd first
served-on did w (c ∷ given) [] mid more later v first next = absurd first
served-on did w (c ∷ given) (b ∷ backs) mid more later v first next =
    (first.0, first.1, served-on did first.0 given backs mid more later v first.2 next)

-- none was
pub served-none : {W I O N : Type 0} (did : Serving W I O N) (w : W) (old new : Option (Row I O N))
    → new ≡ old → IsServed did w w old new
served-none did w None new same = same
served-none did w (Some r) new same = (
  r,
  same,
  λ even. record {
    given = [];
    backs = [];
    left = refl;
    counted = omega arith;
    came = sym
        (append-nil r.came);
    served = refl;
  },
)

-- one was that came back
pub came-back : {W I O N : Type 0} (did : Serving W I O N) (w v : W) (c : I × O)
    (old new : Option (Row I O N)) (input : I) (output : O) (note : N)
    → TakesBack old new input output note
    → did w v c (record { input = input; output = output; note = note })
    → ServesOne did w v c old new
came-back did w v c None new input output note took did-it = took
came-back did w v c (Some r) new input output note took did-it =
    (record { input = input; output = output; note = note }, took.0, did-it, took.1, took.2)

-- one was that was given
pub served-one : {W I O N : Type 0} (did : Serving W I O N) (w v : W) (input : I) (output : O)
    (old mid new : Option (Row I O N))
    → GaveFirst old mid input output → ServesOne did w v (input, output) mid new
    → IsServed did w v old new
served-one did w v input output None mid new gave one =
    subst (λ m. ServesOne did w v (input, output) m new) gave one
served-one did w v input output (Some r) mid new gave one =
    let s = subst (λ m. ServesOne did w v (input, output) m new) gave.2 one in (
      record { given = r.given + 1; left = gave.0; came = s.1 },
      s.3,
      λ even. record {
        given = (input, output) ∷ [];
        backs = s.0 ∷ [];
        left = gave.1;
        counted = refl;
        came = s.4 (omega (arith, even));
        served = (v, s.2, refl);
      },
    )

-- a door that gave one, which came back, gave one more
pub gave-one : {W I O N : Type 0} (did : Serving W I O N) (w v : W) (input : I) (output : O)
    (old mid new : Option (Row I O N))
    → GaveFirst old mid input output → ServesOne did w v (input, output) mid new → GaveOne old new
gave-one did w v input output None mid new gave one = tt
gave-one did w v input output (Some r) mid new gave one =
    let s = subst (λ m. ServesOne did w v (input, output) m new) gave.2 one in
    subst (λ n. IfSome n (λ x. x.given ≡ r.given + 1)) (sym s.3) refl

-- as many came back as were given
served-many : {W I O N : Type 0} (did : Serving W I O N) (w : W) (given : List (I × O))
    (backs : List (Back I O N)) (v : W) → AreServed did w given backs v → length backs ≡ length
    given
served-many did w [] [] v h = refl
served-many did w [] (b ∷ backs) v h = absurd h
served-many did w (c ∷ given) [] v h = absurd h
served-many did w (c ∷ given) (b ∷ backs) v h =
    omega (arith, served-many did h.0 given backs v h.2)

-- so no more are back than were given
even-on : {W I O N : Type 0} (did : Serving W I O N) (w v : W) (a b : Row I O N)
    → IsServedRow did w v a b → IsEven a → IsEven b
even-on did w v a b h even =
    omega (
      arith,
      even,
      h.counted,
      ap length h.came,
      length-append a.came h.backs,
      served-many did w h.given h.backs v h.served,
    )

-- more were behind those
served-behind : {W I O N : Type 0} (did : Serving W I O N) (w m v : W) (a b c : Row I O N)
    → IsServedRow did w m a b → IsServedRow did m v b c → IsServedRow did w v a c
served-behind did w m v a b c f s = record {
  given = f.given ++ s.given;
  backs = f.backs ++ s.backs;
  left = f.left ∙ (ap (λ xs. f.given ++ xs) s.left ∙ sym (append_assoc f.given s.given c.left));
  counted = omega (arith, f.counted, s.counted, length-append f.given s.given);
  came = s.came ∙ (ap (λ xs. xs ++ s.backs) f.came ∙ append_assoc a.came f.backs s.backs);
  served = served-on did w f.given f.backs m s.given s.backs v f.served s.served;
}

pub served-more : {W I O N : Type 0} (did : Serving W I O N) (w m v : W)
    (old mid new : Option (Row I O N))
    → IsServed did w m old mid → IsServed did m v mid new → IsServed did w v old new
served-more did w m v None mid new first next = subst (λ x. IsServed did m v x new) first next
served-more did w m v (Some r) mid new first next =
    let s = subst (λ x. IsServed did m v x new) first.1 next in (
      s.0,
      s.1,
      λ even.
          let f = first.2 even in
          served-behind did w m v r first.0 s.0 f (s.2 (even-on did w m r first.0 f even)),
    )

-- counts that rise on
pub rises-on : (a b c x y z : ℕ) → Rises a b x y → Rises b c y z → Rises a c x z
rises-on a b c x y z f s = record {
  on = omega (arith, f.on, s.on);
  stays = omega (arith, f.stays, s.stays);
  rose = elim s.rose [
    | inr full ↦ inr full
    | inl more ↦ elim f.rose [
      | inr full ↦ inr (omega (arith, full, s.stays))
      | inl some ↦ inl (omega (arith, some, more))
    ]
  ];
  still = λ e.
      let first : b ≡ a = omega (arith, e, f.on, s.on) in
      let next : c ≡ b = omega (arith, e, f.on, s.on) in s.still next ∙ f.still first;
}

-- a count that stays
pub rises-still : (n old new : ℕ) → new ≡ old → Rises n n old new
rises-still n old new same = record {
  on = omega arith;
  stays = omega (arith, same);
  rose = inl (omega (arith, same));
  still = λ e. same;
}

-- one failure more
pub rises-once : (n old new : ℕ) → old ≤ new → Rose old new → Rises n (n + 1) old new
rises-once n old new stays rose = record {
  on = omega arith;
  stays = stays;
  rose = elim rose [
    | inr full ↦ inr full
    | inl more ↦ inl (omega (arith, more))
  ];
  still = λ e. absurd (omega (arith, e));
}

-- whether a door failed, by how many failures were counted
pub failed-of : (failures old new : ℕ) → Rises 0 failures old new
    → HasFailed (nat_lt 0 failures) old new
failed-of failures old new rises = elim (cases_lt 0 failures) [
  | inl some ↦ subst (λ b. HasFailed b old new) (sym (lt-ltb 0 failures some)) (elim rises.rose [
    | inr full ↦ inr full
    | inl more ↦ inl (omega (arith, more, some))
  ])
  | inr none ↦ subst (λ b. HasFailed b old new) (sym (le-ltb 0 failures none))
      (rises.still (omega (arith, none)))
]

-- why the next one isn't served is why no more are
pub ends-all : {I O N : Type 0} (row : Option (Row I O N)) (failures old new : ℕ)
    → Rises 0 failures old new → (end : DoorEnd) → EndsNext row failures (Some end)
    → EndsAll row old new end
ends-all row failures old new rises Closed ends = ends
ends-all row failures old new rises NoListen ends = ends
ends-all row failures old new rises Failed ends = elim rises.rose [
  | inr full ↦ inr full
  | inl more ↦ inl (omega (arith, more, ends))
]
