-- The marked examples of counters and padding, the sizes of both modes, and counting past a half, by computation. Assumes nothing.
use Rattle.std.proofs.Common.{◌≡◌, ℕ, zero, suc, ◌-◌, ◌*◌, ◌^◌, ◌<◌, List, [], ◌∷◌, ◌++◌, get_or, replicate, sym, refl, ap, ap₂, ◌∙◌, arith, lit<}
use Rattle.aes_round.specs.Bytes.{tab}
use Rattle.aes_round.specs.Marked.{Hold, ◌gives◌}
use Rattle.aes_round.proofs.Promises.{is_tab}
use Rattle.echo.specs.declared.mode.Mode.TheVariants.{DoublePipe, SinglePipe}
use Rattle.echo.specs.Bits.{bits_of, packed}
use Rattle.echo.specs.Digest.{block_count, counter_at}
use Rattle.echo.specs.Families.{block_size, chaining_size, mode_number, round_count}
use Rattle.echo.specs.Numbers.{little_endian}
use Rattle.echo.specs.Padding.{pad, padding}
use Rattle.echo.specs.Square.{wide_key, wide_keys_from}
use Rattle.echo.proofs.Laws.Numbers.{little_are}
use Rattle.echo.proofs.Laws.Padded.{pad_bytes}

-- two numbers in order
two_are : (f : ℕ → ℕ) (n a b : ℕ) → n ≡ 2 → f 0 ≡ a → f 1 ≡ b → tab n f ≡ a ∷ b ∷ []
two_are f n a b e p q = sym (rw e (is_tab 2 (a ∷ b ∷ []) f refl each))
  where
    each : (i : ℕ) → i < 2 → get_or (a ∷ b ∷ []) i 0 ≡ f i
    each zero h = sym p
    each (suc zero) h = sym q
    each (suc (suc i)) h = absurd (omega arith)

-- MSIZE of a digest of 256 bits, in double-pipe
abbrev msize : ℕ
msize = 8 * block_size DoublePipe 256

-- the counters of all blocks, for messages of 174 and 192 bytes
pub counters_174 : tab (block_count msize (8 * 174)) (counter_at msize (8 * 174)) ≡ 1392 ∷ 0 ∷ []
unfolding block_size chaining_size block_count counter_at
counters_174 = two_are (counter_at 1536 1392) 2 1392 0 refl refl refl

pub counters_192 : tab (block_count msize (8 * 192)) (counter_at msize (8 * 192)) ≡ 1536 ∷ 0 ∷ []
unfolding block_size chaining_size block_count counter_at
counters_192 = two_are (counter_at 1536 1536) 2 1536 0 refl refl refl

size : little_endian 2 256 ≡ 0x00 ∷ 0x01 ∷ []
size = little_are 2 256 (0x00 ∷ 0x01 ∷ []) refl tt

pub empty_padded : packed (pad msize 256 (bits_of [])) ≡ 0x80 ∷ (replicate 173 0 ++ (0x00 ∷ 0x01 ∷ replicate 16 0))
unfolding block_size chaining_size
empty_padded =
    pad_bytes 192 (lit< tt) 256 []
    ∙ ap (λ (e : List ℕ). 0x80 ∷ (replicate 173 0 ++ e)) (ap₂ (λ (h l : List ℕ). h ++ l) size (little_are 16 0 (replicate 16 0) refl tt))

pub abc_padded : packed (pad msize 256 (bits_of (0x61 ∷ 0x62 ∷ 0x63 ∷ [])))
    ≡ 0x61 ∷ 0x62 ∷ 0x63 ∷ 0x80 ∷ (replicate 170 0 ++ (0x00 ∷ 0x01 ∷ 0x18 ∷ replicate 15 0))
unfolding block_size chaining_size
abc_padded =
    pad_bytes 192 (lit< tt) 256 (0x61 ∷ 0x62 ∷ 0x63 ∷ [])
    ∙ ap (λ (e : List ℕ). 0x61 ∷ 0x62 ∷ 0x63 ∷ 0x80 ∷ (replicate 170 0 ++ e))
    (ap₂ (λ (h l : List ℕ). h ++ l) size (little_are 16 24 (0x18 ∷ replicate 15 0) refl tt))

-- 1391 bits fill one block with their padding, and 1392 need a second; so on each side of the edge in the other sizes
pub last_of_one_block : Hold
    (((block_count msize 1391 ∷ block_count msize 1392 ∷ []) gives (1 ∷ 2 ∷ []))
    ∷ ((block_count (8 * block_size DoublePipe 512) 879 ∷ block_count (8 * block_size DoublePipe 512) 880 ∷ []) gives (1 ∷ 2 ∷ []))
    ∷ ((block_count (8 * block_size SinglePipe 256) 1647 ∷ block_count (8 * block_size SinglePipe 256) 1648 ∷ []) gives (1 ∷ 2 ∷ []))
    ∷ ((block_count (8 * block_size SinglePipe 512) 1391 ∷ block_count (8 * block_size SinglePipe 512) 1392 ∷ []) gives (1 ∷ 2 ∷ []))
    ∷ ((padding msize 256 1391) gives (1 ∷ (bits_of (little_endian 2 256) ++ bits_of (little_endian 16 1391))))
    ∷ [])
unfolding block_size chaining_size block_count padding
last_of_one_block = (refl, (refl, (refl, (refl, (refl, tt)))))

-- the sizes of each mode, up to 256 bits and above: chaining variable, block and rounds; and the longest message of one block with its successor
pub sizes_of_both_modes : Hold
    (((mode_number DoublePipe ∷ mode_number SinglePipe ∷ []) gives (0 ∷ 1 ∷ []))
    ∷ ((chaining_size DoublePipe 256 ∷ block_size DoublePipe 256 ∷ round_count DoublePipe (chaining_size DoublePipe 256) ∷ []) gives (64 ∷ 192 ∷ 8 ∷ []))
    ∷ ((chaining_size DoublePipe 257 ∷ block_size DoublePipe 257 ∷ round_count DoublePipe (chaining_size DoublePipe 257) ∷ []) gives (128 ∷ 128 ∷ 10 ∷ []))
    ∷ ((chaining_size SinglePipe 256 ∷ block_size SinglePipe 256 ∷ round_count SinglePipe (chaining_size SinglePipe 256) ∷ []) gives (32 ∷ 224 ∷ 8 ∷ []))
    ∷ ((chaining_size SinglePipe 257 ∷ block_size SinglePipe 257 ∷ round_count SinglePipe (chaining_size SinglePipe 257) ∷ []) gives (64 ∷ 192 ∷ 10 ∷ []))
    ∷ ((block_count (8 * block_size SinglePipe 256) (8 * 205) ∷ block_count (8 * block_size SinglePipe 256) (8 * 206) ∷ []) gives (1 ∷ 2 ∷ []))
    ∷ ((block_count (8 * block_size SinglePipe 512) (8 * 173) ∷ block_count (8 * block_size SinglePipe 512) (8 * 174) ∷ []) gives (1 ∷ 2 ∷ []))
    ∷ [])
unfolding block_size chaining_size block_count
sizes_of_both_modes = (refl, (refl, (refl, (refl, (refl, (refl, (refl, tt)))))))

-- the counters of 128 bits on both sides of 2^64 and of 2^128
pub past_a_half : Hold
    ((wide_keys_from (2 ^ 64 - 1) 0 gives (replicate 8 255 ++ replicate 8 0))
    ∷ (wide_keys_from (2 ^ 64 - 1) 1 gives (replicate 8 0 ++ (1 ∷ replicate 7 0)))
    ∷ (wide_keys_from (2 ^ 128 - 1) 0 gives replicate 16 255)
    ∷ (wide_keys_from (2 ^ 128 - 1) 1 gives replicate 16 0)
    ∷ [])
unfolding wide_key
past_a_half = (little_are 16 _ _ refl tt, (little_are 16 _ _ refl tt, (little_are 16 _ _ refl tt, (little_are 16 _ _ refl tt, tt))))
