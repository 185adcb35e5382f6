-- The initial chaining variable, in the front of its room. Assumes nothing.
use Rattle.std.proofs.Common.{◌≡◌, ℕ, ◌-◌, ◌/◌, ◌%◌, ◌^◌, ◌≤◌, List, ◌++◌, length, get_or, take, drop, replicate, sym, ap, ◌∙◌, ap₂, mod-lt, arith, lit<, length-take-le}
use Rattle.std.proofs.lemmas.List.{drop-replicate}
use Rattle.std.specs.Int.{bytes_low_first}
use Rattle.aes_round.specs.Bytes.{tab}
use Rattle.aes_round.proofs.Promises.{tab_ext}
use Rattle.echo.specs.declared.mode.Mode.{Mode}
use Rattle.echo.specs.Digest.{initial}
use Rattle.echo.specs.Families.{chaining_size}
use Rattle.echo.proofs.Laws.Families.{sizes}
use Rattle.echo.proofs.Laws.Numbers.{le_bytes_are, little_byte}

module _ (mode : Mode) (h c : ℕ) (size : c ≡ chaining_size mode h) where
  -- the bytes in use fit the room
  pub in_room : c ≤ 128
  in_room = let S = sizes mode h in omega arith

  pub initial_repeated : (word : List ℕ) → word ≡ bytes_low_first 0 16 h → tab c (λ k. get_or word (k % 16) 0) ≡ initial (chaining_size mode h) h
  unfolding initial
  initial_repeated word e =
      tab_ext c _ _ (λ k lt. ap (λ (w : List ℕ). get_or w (k % 16) 0) (e ∙ le_bytes_are 16 h) ∙ little_byte 16 h (k % 16) (mod-lt k (lit< tt)))
      ∙ ap (λ (n : ℕ). tab n (λ k. h / 256 ^ (k % 16) % 256)) size

  pub in_part : c ≡ length (take c (replicate {A = ℕ} 128 0))
  in_part = sym (length-take-le c (replicate {A = ℕ} 128 0) in_room)

  pub initial_made : (word v : List ℕ) → word ≡ bytes_low_first 0 16 h → v ≡ tab (length (take c (replicate {A = ℕ} 128 0))) (λ k. get_or word (k % 16) 0)
      → v ++ drop c (replicate 128 0) ≡ initial (chaining_size mode h) h ++ replicate (128 - chaining_size mode h) 0
  initial_made word v e p =
      ap₂ (λ (a b : List ℕ). a ++ b)
      (p ∙ ap (λ (n : ℕ). tab n (λ k. get_or word (k % 16) 0)) (sym in_part) ∙ initial_repeated word e)
      (drop-replicate c 128 0 ∙ ap (λ (n : ℕ). replicate (128 - n) 0) size)
