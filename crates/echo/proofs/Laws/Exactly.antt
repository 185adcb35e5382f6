-- Which records are sessions, in plain words. Assumes nothing.
use Rattle.std.proofs.Common.{◌≡◌, ℕ, suc, ◌+◌, ◌-◌, ◌%◌, ◌^◌, ◌≤◌, true, ◌↔◌, List, [], ◌∷◌, get_or, drop, refl, arith, get_or-drop, eq-eqb, le-leb}
use Rattle.echo.specs.declared.session.Session.{Session}
use Rattle.echo.specs.Bits.{bits_of}
use Rattle.echo.specs.Session.{all_zero, bit_limit, chaining_of, is_session, msize_of}
use Rattle.echo.proofs.Laws.Admitted.{admitted_means, means_admitted}
use Rattle.echo.proofs.Laws.Sessions.{session_fits}
use Rattle.echo.proofs.Laws.Zeros.{zero_from}

all_zero_lem : (l : List ℕ) → ((k : ℕ) → get_or l k 0 ≡ 0) → all_zero l ≡ true
unfolding all_zero
all_zero_lem [] f = refl
all_zero_lem (x ∷ l) f = rw (eq-eqb x 0 (f 0)) (all_zero_lem l (λ k. f (suc k)))

-- zero from a place on; past the end `get_or` is 0
all_from : (w : List ℕ) (u : ℕ) → ((k : ℕ) → u ≤ k → get_or w k 0 ≡ 0) → all_zero (drop u w) ≡ true
all_from w u f = all_zero_lem (drop u w) (λ k. rw (get_or-drop u w k 0) (f (u + k) (omega arith)))

module _ (s : Session) where
  abbrev Plain : Type 0
  Plain =
      (128 ≤ s.bits)
      × (s.bits ≤ 512)
      × (s.bits % 8 ≡ 0)
      × (s.taken ≤ 2 ^ 64 - 161)
      × ((k : ℕ) → s.taken % msize_of s ≤ k → get_or (bits_of s.waiting) k 0 ≡ 0)
      × ((k : ℕ) → chaining_of s ≤ k → get_or s.chaining k 0 ≡ 0)

  there : is_session s ≡ true → Plain
  there e =
      let F = session_fits s e in
      let A = admitted_means s.bits F.admits in (
        A.0,
        A.1,
        A.2,
        F.taken_fits,
        λ k. zero_from (bits_of s.waiting) (s.taken % msize_of s) k F.waiting_zero,
        λ k. zero_from s.chaining (chaining_of s) k F.chaining_zero,
      )

  back : Plain → is_session s ≡ true
  unfolding is_session
  back p =
      rw (
        means_admitted s.bits (p.0, p.1, p.2),
        le-leb s.taken bit_limit p.3,
        all_from (bits_of s.waiting) (s.taken % msize_of s) p.4,
        all_from s.chaining (chaining_of s) p.5,
      )

  pub sessions_exactly : (is_session s ≡ true) ↔ Plain
  sessions_exactly = (there, back)
