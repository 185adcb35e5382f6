-- What `array::from_fn` makes of a closure that gives a function's values. Assumes nothing.
use Rattle.std.proofs.Common.{◌≡◌, ℕ, zero, suc, ◌+◌, ◌<◌, List, get_or, sym, refl, ap, ◌∙◌, subst, add-zero, zero-add, arith}
use denote.Param.Members.{Called, Mut}
use Rattle.std.specs.Array.{IsFromFnResult, IsFromFnResultFrom}
use Rattle.aes_round.specs.Bytes.{tab}
use Rattle.aes_round.proofs.Promises.{is_tab}

module _ {F : Type 0} (g : Mut F (ℕ × Unit {0}) ℕ) (h : ℕ → ℕ) (f : F) (gives : (i b : ℕ) (q : F) → Called g f (i, tt) b q → (q ≡ f) × (b ≡ h i)) where
  each_from : (ys : List ℕ) (n i : ℕ) (p : F) → p ≡ f → IsFromFnResultFrom g p ys i n → (k : ℕ) → k < n → get_or ys (i + k) 0 ≡ h (i + k)
  each_from ys (suc n) i p e (q, y, at, call, rest) zero lt =
      let r = gives i y q (subst (λ (s : F). Called g s (i, tt) y q) e call) in
      ap (λ (j : ℕ). get_or ys j 0) (add-zero i) ∙ at.1 0 ∙ r.1 ∙ ap h (sym (add-zero i))
  each_from ys (suc n) i p e (q, y, at, call, rest) (suc k) lt =
      let r = gives i y q (subst (λ (s : F). Called g s (i, tt) y q) e call) in
      subst (λ (j : ℕ). get_or ys j 0 ≡ h j) (on i k) (each_from ys n (i + 1) q r.0 rest k (omega arith))
    where
      on : (i k : ℕ) → i + 1 + k ≡ i + suc k
      on i k = omega arith
  each_from ys zero i p e u k lt = absurd (omega arith)

  pub made_by : (ys : List ℕ) (n : ℕ) → IsFromFnResult g f ys n → ys ≡ tab n h
  made_by ys n R = is_tab n ys h R.long (λ k lt. subst (λ (j : ℕ). get_or ys j 0 ≡ h j) (zero-add k) (each_from ys n 0 f refl R.each k lt))
