-- The sizes of both modes. Assumes nothing.
use Rattle.std.proofs.Common.{◌≡◌, ℕ, ◌+◌, ◌-◌, ◌*◌, ◌/◌, ◌<◌, ◌≤◌, Bool, true, false, ◌&&◌, ◌||◌, eqb, leb, sym, refl, ap, ◌∙◌, true≢false, arith, eq-eqb, ne_eqb, eqb-true, le-leb, leb-true}
use mathlib.Core.Bool.{or-false}
use borrow.Author.Tests.{lt-leb}
use Rattle.echo.specs.declared.mode.Mode.{Mode}
use Rattle.echo.specs.declared.mode.Mode.TheVariants.{DoublePipe, SinglePipe}
use Rattle.echo.specs.Families.{block_size, chaining_size, either, round_count, sizes_fit}

-- what every user of the sizes needs to know of them: of the chaining variable, the block and the number of rounds
pub record Sizes (c b r : ℕ) : Type 0 where
  pub some : 0 < c
  pub most : c ≤ 128
  pub block_least : 128 ≤ b
  pub block_most : b ≤ 224
  pub square : c + b ≡ 256
  pub parts : 256 ≡ c * (256 / c)
  pub rounds_most : r ≤ 10

pub sizes : (mode : Mode) (h : ℕ) → Sizes (chaining_size mode h) (block_size mode h) (round_count mode (chaining_size mode h))
unfolding chaining_size block_size
sizes DoublePipe h = by (leb h 256)
  where
    by : (t : Bool) → Sizes (either t 64 128) (256 - either t 64 128) (either (eqb (either t 64 128) 64) 8 10)
    by true = omega arith
    by false = omega arith
sizes SinglePipe h = by (leb h 256)
  where
    by : (t : Bool) → Sizes (either t 32 64) (256 - either t 32 64) (either (eqb (either t 32 64) 32) 8 10)
    by true = omega arith
    by false = omega arith

pub block_pos : (mode : Mode) (h : ℕ) → 0 < block_size mode h
block_pos mode h = let S = sizes mode h in omega arith

-- the chaining variable holds the digest
pub digest_in_chaining : (mode : Mode) (h : ℕ) → h ≤ 512 → h / 8 ≤ chaining_size mode h
unfolding chaining_size
digest_in_chaining DoublePipe h l = by (leb h 256)
  where
    by : (t : Bool) → h / 8 ≤ either t 64 128
    by true = omega arith
    by false = omega arith
digest_in_chaining SinglePipe h l = by (leb h 256) refl
  where
    by : (t : Bool) → leb h 256 ≡ t → h / 8 ≤ either t 32 64
    by true e = omega (arith, leb-true h 256 e)
    by false e = omega arith

-- ---- sizes that a caller gives

pub sizes_fit_lem : (mode : Mode) (c b : ℕ) → sizes_fit mode c b ≡ true → Sizes c b (round_count mode c)
sizes_fit_lem mode c b e =
    one (eqb c (chaining_size mode 256)) (eqb b (block_size mode 256)) (eqb c (chaining_size mode 512)) (eqb b (block_size mode 512)) refl refl refl refl e
  where
    these : (h : ℕ) → c ≡ chaining_size mode h → b ≡ block_size mode h → Sizes c b (round_count mode c)
    these h p q = rw (p, q) (sizes mode h)

    two : (p q : Bool) → eqb c (chaining_size mode 512) ≡ p → eqb b (block_size mode 512) ≡ q → (p && q) ≡ true → Sizes c b (round_count mode c)
    two true true p q e = these 512 (eqb-true c _ p) (eqb-true b _ q)
    two true false p q e = absurd (true≢false (sym e))
    two false q' p q e = absurd (true≢false (sym e))

    one : (p q r s : Bool) → eqb c (chaining_size mode 256) ≡ p → eqb b (block_size mode 256) ≡ q → eqb c (chaining_size mode 512) ≡ r
        → eqb b (block_size mode 512) ≡ s → (p && q || r && s) ≡ true → Sizes c b (round_count mode c)
    one true true r s p q u v e = these 256 (eqb-true c _ p) (eqb-true b _ q)
    one true false r s p q u v e = two r s u v e
    one false q' r s p q u v e = two r s u v e

-- ---- the sizes that the code computed, x and y, against those that it was given

module _ (mode : Mode) (c b x y : ℕ) where
  -- the two chaining sizes of a mode differ
  other_size_lem : eqb (chaining_size mode 256) (chaining_size mode 512) ≡ false
  unfolding chaining_size
  other_size_lem = by mode
    where
      by : (mode : Mode) → eqb (chaining_size mode 256) (chaining_size mode 512) ≡ false
      by DoublePipe = refl
      by SinglePipe = refl

  pub fits_shorter : x ≡ chaining_size mode 256 → c ≡ x → y ≡ block_size mode 256 → eqb b y ≡ sizes_fit mode c b
  fits_shorter p e q = sym (rw (e, p, eq-eqb (chaining_size mode 256) (chaining_size mode 256) refl, other_size_lem, or-false, q))

module _ (mode : Mode) (c x : ℕ) (p : x ≡ chaining_size mode 256) where
  pub rounds_8 : c ≡ x → 8 ≡ round_count mode c
  rounds_8 e = sym (rw (eq-eqb c (chaining_size mode 256) (e ∙ p)))

  pub rounds_10 : (c ≡ x → ⊥) → 10 ≡ round_count mode c
  rounds_10 n = sym (rw (ne_eqb c (chaining_size mode 256) (λ e. n (e ∙ sym p))))

-- ---- what the code computes of a mode and a digest length

module _ (mode : Mode) (h : ℕ) where
  module _ (is : mode ≡ DoublePipe) where
    pub chaining_double_short : h ≤ 256 → 64 ≡ chaining_size mode h
    unfolding chaining_size
    chaining_double_short l = rw (is, le-leb h 256 l)

    pub chaining_double_long : 256 < h → 128 ≡ chaining_size mode h
    unfolding chaining_size
    chaining_double_long l = rw (is, lt-leb h 256 l)

  module _ (is : mode ≡ SinglePipe) where
    pub chaining_single_short : h ≤ 256 → 32 ≡ chaining_size mode h
    unfolding chaining_size
    chaining_single_short l = rw (is, le-leb h 256 l)

    pub chaining_single_long : 256 < h → 64 ≡ chaining_size mode h
    unfolding chaining_size
    chaining_single_long l = rw (is, lt-leb h 256 l)

module _ (mode : Mode) (h c : ℕ) (p : c ≡ chaining_size mode h) where
  pub chaining_in_square : c ≤ 256
  chaining_in_square = let S = sizes mode h in omega arith

  pub rest_is_block : 256 - c ≡ block_size mode h
  unfolding block_size
  rest_is_block = ap (λ (x : ℕ). 256 - x) p

-- ---- the blocks of double-pipe in numbers

pub double_block : (h : ℕ) → (128 ≤ block_size DoublePipe h) × (block_size DoublePipe h ≤ 192)
unfolding chaining_size block_size
double_block h = by (leb h 256)
  where
    by : (t : Bool) → (128 ≤ 256 - either t 64 128) × (256 - either t 64 128 ≤ 192)
    by true = (omega arith, omega arith)
    by false = (omega arith, omega arith)

pub block_short : (h : ℕ) → h ≤ 256 → 192 ≡ block_size DoublePipe h
block_short h l = rest_is_block DoublePipe h 64 (chaining_double_short DoublePipe h refl l)

pub block_long : (h : ℕ) → 256 < h → 128 ≡ block_size DoublePipe h
block_long h l = rest_is_block DoublePipe h 128 (chaining_double_long DoublePipe h refl l)
