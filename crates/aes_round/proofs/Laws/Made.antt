-- Arrays that a closure made, place by place. Assumes nothing.
use mathlib.Core.Path.{◌≡◌, refl, sym, ap, ◌∙◌, subst}
use mathlib.Core.List.{List}
use mathlib.Core.Logic.{⊎_elim}
use Prim.Native.Nat.{ℕ, zero, suc, ◌+◌, ◌<◌, ◌≤◌}
use native.Mathlib.Nat.{eq-or-lt_of_le}
use native.Mathlib.Omega.{arith}
use lib.ListN.{get_or}
use Rattle.std.specs.Fn.{Called, Mut}
use Rattle.std.specs.Array.{IsFromFnResult, IsFromFnResultFrom, IsMapOf, MapsFrom}
use Rattle.aes_round.specs.Bytes.{tab}
use Rattle.aes_round.proofs.Laws.Bytes.{is_tab}

-- by `array::from_fn`, with a closure that gives h i at each place i and stays as it is
module _ {F B : Type 0} (g : Mut F (ℕ × Unit {0}) B) (n : ℕ) (h : ℕ → B) (f : F)
    (call : (i : ℕ) (y : B) (f' : F) → i < n → Called g f (i, tt) y f' → (y ≡ h i) × (f' ≡ f)) where
  made_from : (ys : List B) (d : B) (m i : ℕ) (p : F) → p ≡ f → i + m ≡ n → IsFromFnResultFrom g p ys i m → (k : ℕ) → i ≤ k → k < n → get_or ys k d ≡ h k
  made_from ys d zero i p e s r k l u = absurd (omega arith)
  made_from ys d (suc m) i p e s r k l u =
      let q = call i r.1 r.0 (omega arith) (subst (λ (x : F). Called g x (i, tt) r.1 r.0) e r.3) in
      ⊎_elim (λ same. ap (λ (j : ℕ). get_or ys j d) (sym same) ∙ r.2.1 d ∙ q.0 ∙ ap h same)
      (λ further. made_from ys d m (i + 1) r.0 q.1 (omega arith) r.4 k (omega arith) u)
      (eq-or-lt_of_le l)

  pub made_at : (ys : List B) (d : B) → IsFromFnResult g f ys n → (k : ℕ) → k < n → get_or ys k d ≡ h k
  made_at ys d r k = made_from ys d n 0 f refl (omega arith) r.each k (omega arith)

pub made : {F : Type 0} (g : Mut F (ℕ × Unit {0}) ℕ) (n : ℕ) (h : ℕ → ℕ) (f : F)
    → ((i y : ℕ) (f' : F) → i < n → Called g f (i, tt) y f' → (y ≡ h i) × (f' ≡ f)) → (ys : List ℕ) → IsFromFnResult g f ys n → ys ≡ tab n h
made g n h f call ys r = is_tab n ys h r.long (made_at g n h f call ys 0 r)

-- by an array's `map`, with a closure that gives h x of each x and stays as it is
module _ {F : Type 0} (g : Mut F (ℕ × Unit {0}) ℕ) (n : ℕ) (h : ℕ → ℕ) (f : F)
    (call : (x y : ℕ) (f' : F) → Called g f (x, tt) y f' → (y ≡ h x) × (f' ≡ f)) where
  mapped_from : (xs ys : List ℕ) (m i : ℕ) (p : F) → p ≡ f → i + m ≡ n → MapsFrom g p xs ys i m → (k : ℕ) → i ≤ k → k < n → get_or ys k 0 ≡ h (get_or xs k 0)
  mapped_from xs ys zero i p e s r k l u = absurd (omega arith)
  mapped_from xs ys (suc m) i p e s r k l u =
      let q = call r.1 r.2 r.0 (subst (λ (x : F). Called g x (r.1, tt) r.2 r.0) e r.5) in
      ⊎_elim (λ same. ap (λ (j : ℕ). get_or ys j 0) (sym same) ∙ r.4.1 0 ∙ q.0 ∙ ap h (sym (r.3.1 0) ∙ ap (λ (j : ℕ). get_or xs j 0) same))
      (λ further. mapped_from xs ys m (i + 1) r.0 q.1 (omega arith) r.6 k (omega arith) u)
      (eq-or-lt_of_le l)

  pub mapped : (xs ys : List ℕ) → IsMapOf g f xs ys n → ys ≡ tab n (λ k. h (get_or xs k 0))
  mapped xs ys r = is_tab n ys _ r.long (λ k l. mapped_from xs ys n 0 f refl (omega arith) r.each k (omega arith) l)
