-- Six wrong programs of must-fail/ change a definition and not the code, since the code could be made so only by a change of its shape. For each, a
-- point at which the definition and the changed one, which is written out, differ. Assumes nothing.
use Rattle.std.proofs.Common.{◌≡◌, ℕ, ◌+◌, ◌-◌, ◌*◌, ◌/◌, ◌%◌, ◌^◌, min, max, Bool, ◌&&◌, leb, List, [], ◌∷◌, ◌++◌, length, get_or, take, drop, replicate, sym, refl, ap, ◌∙◌, ap₂, true≢false, arith, lit<}
use Rattle.aes_round.specs.Bytes.{tab, xor, xor_bytes}
use Rattle.aes_round.proofs.Promises.{get_or-tab, get_or-xor, xor_self, xor_twice, xor_zero_l, xor_zero_r}
use Rattle.echo.specs.declared.mode.Mode.TheVariants.{DoublePipe}
use Rattle.echo.specs.declared.session.Session.{Session}
use Rattle.echo.specs.Bits.{bits_of, byte_bits}
use Rattle.echo.specs.Compression.{big_final, fold, xor_sum}
use Rattle.echo.specs.Families.{block_size, chaining_size}
use Rattle.echo.specs.Numbers.{little_endian}
use Rattle.echo.specs.Padding.{padding}
use Rattle.echo.specs.Refusals.{unless}
use Rattle.echo.specs.Session.{admitted, all_zero, bit_limit, blank, is_session, made, read_leaves, read_refusal, session_digest}
use Rattle.echo.specs.Square.{wide_key, wide_keys_from}
use Rattle.echo.proofs.Laws.Numbers.{little_are}

-- word 0 of round 1, where the counter began at 2^64
pub upper_half_in_round_one_alone_differs : wide_keys_from (2 ^ 64) 16 ≡ wide_key ((2 ^ 64 + 16) % 2 ^ (128 - min 64 (16 / 16 * 64))) → ⊥
unfolding wide_key
upper_half_in_round_one_alone_differs e =
    let both = little_are 16 (2 ^ 64 + 16) (16 ∷ (replicate 7 0 ++ (1 ∷ replicate 7 0))) refl tt in
    let lower = little_are 16 16 (16 ∷ replicate 15 0) refl tt in
    let z : ◌≡◌ {A = ℕ} 1 0 = ap (λ (l : List ℕ). get_or l 8 0) (sym both ∙ e ∙ lower) in
    omega arith

-- a message of one bit: the last bit of its length's first byte
pub length_in_whole_bytes_differs : padding 1536 256 1
    ≡ 1 ∷ (replicate (1536 - (1 + 144) % 1536 - 1) 0 ++ (bits_of (little_endian 2 256) ++ bits_of (little_endian 16 (8 * ((1 + 7) / 8))))) → ⊥
unfolding padding bits_of byte_bits
length_in_whole_bytes_differs e =
    let size = little_are 2 256 (0 ∷ 1 ∷ []) refl tt in
    let one = little_are 16 1 (1 ∷ replicate 15 0) refl tt in
    let eight = little_are 16 8 (8 ∷ replicate 15 0) refl tt in
    let bit : List ℕ → List ℕ → ℕ = λ h l. get_or (1 ∷ (replicate 1390 0 ++ (bits_of h ++ bits_of l))) 1414 0 in
    let z : ◌≡◌ {A = ℕ} 1 0 = sym (ap₂ bit size one) ∙ ap (λ (l : List ℕ). get_or l 1414 0) e ∙ ap₂ bit size eight in
    omega arith

-- a chaining variable of the one byte 1, and no block
pub no_feedforward_differs : big_final 1 (1 ∷ []) [] (0 ∷ []) ≡ fold 1 (0 ∷ []) → ⊥
unfolding big_final fold
no_feedforward_differs e =
    let x = get_or (fold 1 (0 ∷ [])) 0 0 in
    let none : get_or (fold 1 []) 0 0 ≡ 0 = get_or-tab 1 _ 0 (lit< tt) in
    let fed : get_or (big_final 1 (1 ∷ []) [] (0 ∷ [])) 0 0 ≡ xor 1 x =
    get_or-xor 1 (xor_bytes 1 (1 ∷ []) (fold 1 [])) (fold 1 (0 ∷ [])) 0 (lit< tt)
    ∙ ap (λ (y : ℕ). xor y x) (get_or-xor 1 (1 ∷ []) (fold 1 []) 0 (lit< tt) ∙ ap (xor 1) none ∙ xor_zero_r 1) in
    let same : xor 1 x ≡ x = sym fed ∙ ap (λ (l : List ℕ). get_or l 0 0) e in
    let z : ◌≡◌ {A = ℕ} 1 0 = sym (xor_twice 1 x) ∙ ap (λ (y : ℕ). xor y x) same ∙ xor_self x in
    omega arith

-- a room of the one byte 7, and no session
pub written_at_a_refusal_differs :
    read_leaves blank (7 ∷ []) ≡ unless (read_refusal blank 1) (session_digest blank ++ drop (0 / 8) (7 ∷ [])) (replicate 1 0) → ⊥
unfolding read_leaves read_refusal is_session admitted blank
written_at_a_refusal_differs e =
    let z : ◌≡◌ {A = ℕ} 7 0 = ap (λ (l : List ℕ). get_or l 0 0) e in
    omega arith

-- a square's first four words, the third of which begins with the byte 1
pub x2_and_x3_left_out_differs :
    let s = replicate {A = ℕ} 32 0 ++ (1 ∷ replicate 31 0) in
    fold 32 s ≡ tab 32 (λ k. xor_sum (length s / max 32 64) (λ j. get_or s (max 32 64 * j + k) 0)) → ⊥
unfolding fold
x2_and_x3_left_out_differs e =
    let with : xor (xor 0 0) 1 ≡ 1 = ap (λ (x : ℕ). xor x 1) (xor_zero_l 0) ∙ xor_zero_l 1 in
    let same : xor (xor 0 0) 1 ≡ xor 0 0 = sym (get_or-tab 32 _ 0 (lit< tt)) ∙ ap (λ (l : List ℕ). get_or l 0 0) e ∙ get_or-tab 32 _ 0 (lit< tt) in
    let z : ◌≡◌ {A = ℕ} 1 0 = sym with ∙ same ∙ xor_zero_l 0 in
    omega arith

abbrev past192 : Session
past192 = made DoublePipe 256 (replicate 16 0) (replicate 128 0) 0 (replicate 192 0 ++ (1 ∷ replicate 31 0))

abbrev unlooked : Session → Bool
unlooked s =
    admitted s.bits
    && (leb s.taken bit_limit
    && (all_zero (drop (s.taken % (8 * block_size s.mode s.bits)) (bits_of (take 192 s.waiting)))
    && all_zero (drop (chaining_size s.mode s.bits) s.chaining)))

-- an opened session in double-pipe but for one byte past 192
pub set_byte_past_192_differs : is_session past192 ≡ unlooked past192 → ⊥
unfolding is_session admitted all_zero block_size chaining_size bits_of byte_bits
set_byte_past_192_differs e = true≢false (sym e)
