-- Which lengths are admitted, in plain words. Assumes nothing.
use Rattle.std.proofs.Common.{◌≡◌, ℕ, ◌%◌, ◌≤◌, true, leb, ◌↔◌, eq-eqb, eqb-true, le-leb, leb-true}
use Rattle.echo.specs.Session.{admitted}
use Rattle.echo.proofs.Laws.Zeros.{both}

pub admitted_means : (h : ℕ) → admitted h ≡ true → (128 ≤ h) × (h ≤ 512) × (h % 8 ≡ 0)
unfolding admitted
admitted_means h e =
    let p = both (leb 128 h) _ e in
    let q = both (leb h 512) _ p.1 in (leb-true 128 h p.0, leb-true h 512 q.0, eqb-true (h % 8) 0 q.1)

pub means_admitted : (h : ℕ) → (128 ≤ h) × (h ≤ 512) × (h % 8 ≡ 0) → admitted h ≡ true
unfolding admitted
means_admitted h p = rw (le-leb 128 h p.0, le-leb h 512 p.1, eq-eqb (h % 8) 0 p.2)

pub admitted_exactly : (h : ℕ) → (admitted h ≡ true) ↔ ((128 ≤ h) × (h ≤ 512) × (h % 8 ≡ 0))
admitted_exactly h = (admitted_means h, means_admitted h)
