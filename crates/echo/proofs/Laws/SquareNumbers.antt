-- The square as 64 numbers of 32 bits, four for each word. Assumes nothing.
use Rattle.std.proofs.Common.{◌≡◌, ℕ, zero, suc, ◌+◌, ◌-◌, ◌*◌, ◌/◌, ◌%◌, ◌<◌, ◌≤◌, List, [], ◌∷◌, length, get_or, set, sym, refl, ap, ◌∙◌, subst, ap₂, add-zero, add_assoc, mul-zero, arith, lit<}
use borrow.Rule.Slice.PartMut.{put_mid}
use Rattle.std.specs.Int.{bytes_low_first}
use Rattle.aes_round.specs.Bytes.{tab}
use Rattle.aes_round.specs.Numbers.{byte_of, bytes_of, number, numbers}
use Rattle.aes_round.proofs.Promises.{Filled, are_bytes_of, are_numbers, byte_is, byte_of_numbers, bytes_of_bytes, fill_all, four_numbers, get_or-numbers}
use Rattle.aes_round.proofs.Promises.{get_or-tab, length-tab, number_ext, number_of_lem, same_list, tab_ext}
use Rattle.echo.specs.Numbers.{little_endian}
use Rattle.echo.specs.Placed.{Placed}
use Rattle.echo.specs.Square.{word}
use Rattle.echo.proofs.Laws.Numbers.{le_bytes_are}
use Rattle.echo.proofs.Laws.Placed.{fill_part, part_placed}
use Rattle.echo.proofs.Laws.Words.{word_is}

-- ---- bytes as numbers

pub number_at : (s : List ℕ) (at r : ℕ) → r ≡ get_or s at 0 + get_or s (at + 1) 0 * 0x100 + get_or s (at + 2) 0 * 0x10000 + get_or s (at + 3) 0 * 0x1000000
    → r ≡ number (λ p. get_or s (at + p) 0)
number_at s at r e =
    (let turned : r ≡ get_or s at 0 + 0x100 * get_or s (at + 1) 0 + 0x10000 * get_or s (at + 2) 0 + 0x1000000 * get_or s (at + 3) 0 = omega arith in turned)
    ∙ ap (λ (i : ℕ). get_or s i 0 + 0x100 * get_or s (at + 1) 0 + 0x10000 * get_or s (at + 2) 0 + 0x1000000 * get_or s (at + 3) 0) (sym (add-zero at))
    ∙ number_of_lem (λ p. get_or s (at + p) 0)

pub word_numbers : (w : List ℕ) (a b c d : ℕ) → a ≡ number (λ p. get_or w (0 + p) 0) → b ≡ number (λ p. get_or w (4 + p) 0)
    → c ≡ number (λ p. get_or w (8 + p) 0) → d ≡ number (λ p. get_or w (12 + p) 0) → a ∷ b ∷ c ∷ d ∷ [] ≡ numbers 4 w
word_numbers w a b c d ea eb ec ed = rw (ea, eb, ec, ed) (four_numbers w)

-- number after number: f k is the number k of the square s
abbrev pub number_of : List ℕ → ℕ → ℕ
number_of s k = number (λ p. get_or s (4 * k + p) 0)

pub numbers_made : (n : ℕ) (s : List ℕ) → tab n (number_of s) ≡ numbers n s
numbers_made n s = are_numbers n s (tab n (number_of s)) (length-tab n _) (get_or-tab n _)

pub square_numbers : (s l r : List ℕ) (k : ℕ) → Filled 64 (number_of s) l k r → 64 ≤ k → r ≡ numbers 64 s
square_numbers s l r k F h = fill_all 64 (number_of s) l k r F h ∙ numbers_made 64 s

-- ---- numbers as bytes

-- a number's four bytes, stored where they belong
stored_bytes : (x : ℕ) → bytes_low_first 0 4 x ≡ tab 4 (byte_of x)
unfolding little_endian
stored_bytes x = le_bytes_are 4 x ∙ tab_ext 4 _ _ (λ p h. sym (byte_is x p))

pub number_put : (s y : List ℕ) (at x : ℕ) → y ≡ bytes_low_first 0 4 x → at + 4 ≤ length s → Placed s at (tab 4 (byte_of x)) 4 (put_mid at (at + 4 - at) s y)
number_put s y at x e h =
    let bytes : y ≡ tab 4 (byte_of x) = e ∙ stored_bytes x in
    subst (λ (n : ℕ). Placed s at (tab 4 (byte_of x)) 4 (put_mid at n s y)) (let size : 4 ≡ at + 4 - at = omega arith in size)
    (subst (λ (w : List ℕ). Placed s at w 4 (put_mid at 4 s y)) bytes (part_placed s y at 4 h (ap length bytes ∙ length-tab 4 _)))

-- byte after byte: those of the numbers l
abbrev pub byte_at : List ℕ → ℕ → ℕ
byte_at l k = byte_of (get_or l (k / 4) 0) (k % 4)

pub next_number : (l s₀ s t : List ℕ) (k : ℕ) → Filled 256 (byte_at l) s₀ (4 * k) s → Placed s (4 * k) (tab 4 (byte_of (get_or l k 0))) 4 t → k < 64
    → Filled 256 (byte_at l) s₀ (4 * (k + 1)) t
next_number l s₀ s t k F P h =
    subst (λ (i : ℕ). Filled 256 (byte_at l) s₀ i t) (steps k)
    (fill_part 256 (byte_at l) s₀ (4 * k) s _ t 4 F P (omega arith)
    (λ p hp. get_or-tab 4 _ p hp ∙ ap₂ (λ (q r : ℕ). byte_of (get_or l q 0) r) (quotient k p hp) (remainder k p hp)))
  where
    steps : (k : ℕ) → 4 * k + 4 ≡ 4 * (k + 1)
    steps k = omega arith

    quotient : (k p : ℕ) → p < 4 → k ≡ (4 * k + p) / 4
    quotient k p h = omega arith

    remainder : (k p : ℕ) → p < 4 → p ≡ (4 * k + p) % 4
    remainder k p h = omega arith

pub all_numbers : (l s₀ s : List ℕ) (k : ℕ) → Filled 256 (byte_at l) s₀ (4 * k) s → 64 ≤ k → s ≡ bytes_of 64 l
all_numbers l s₀ s k F h = are_bytes_of 64 l s F.long (λ i lt. F.done i (omega arith))

-- ---- four numbers at a time

-- those that stand d places apart from `at` on, and the four of v stored there
abbrev pub four_by : ℕ → List ℕ → ℕ → List ℕ
four_by d s at = get_or s at 0 ∷ get_or s (at + d * 1) 0 ∷ get_or s (at + d * 2) 0 ∷ get_or s (at + d * 3) 0 ∷ []

abbrev pub put_by : ℕ → List ℕ → ℕ → List ℕ → List ℕ
put_by d r at v = set (set (set (set r at (get_or v 0 0)) (at + d * 1) (get_or v 1 0)) (at + d * 2) (get_or v 2 0)) (at + d * 3) (get_or v 3 0)

first_place : (d at : ℕ) → at + d * 0 ≡ at
first_place d at = ap (λ (m : ℕ). at + m) (mul-zero d) ∙ add-zero at

pub four_by_lem : (d : ℕ) (s : List ℕ) (at i : ℕ) → i < 4 → get_or (four_by d s at) i 0 ≡ get_or s (at + d * i) 0
four_by_lem d s at zero h = ap (λ (i : ℕ). get_or s i 0) (sym (first_place d at))
four_by_lem d s at (suc zero) h = refl
four_by_lem d s at (suc (suc zero)) h = refl
four_by_lem d s at (suc (suc (suc zero))) h = refl
four_by_lem d s at (suc (suc (suc (suc i)))) h = absurd (omega arith)

-- P n says that n stores are done: four more, if each is one more
pub four_stores : (P : ℕ → List ℕ → Type 0) (d at n : ℕ) (r v : List ℕ)
    → ((i : ℕ) → i < 4 → (q : List ℕ) → P (n + i) q → P (n + i + 1) (set q (at + d * i) (get_or v i 0))) → P n r → P (n + 4) (put_by d r at v)
four_stores P d at n r v each p =
    on 3 (lit< tt) _
    (on 2 (lit< tt) _
    (on 1 (lit< tt) _
    (subst (λ (k : ℕ). P (n + 1) (set r k (get_or v 0 0))) (first_place d at) (on 0 (lit< tt) r (subst (λ (m : ℕ). P m r) (sym (add-zero n)) p)))))
  where
    on : (i : ℕ) → i < 4 → (q : List ℕ) → P (n + i) q → P (n + (i + 1)) (set q (at + d * i) (get_or v i 0))
    on i h q p = subst (λ (m : ℕ). P m (set q (at + d * i) (get_or v i 0))) (add_assoc n i 1) (each i h q p)

-- ---- the numbers of a word within the square

-- a word of the square by its four numbers
pub word_of_four : (s : List ℕ) (i : ℕ) → i < 16 → bytes_of 4 (four_by 1 s (4 * i)) ≡ word (bytes_of 64 s) i
word_of_four s i h =
    same_list 16 _ _ (bytes_of_bytes 4 (four_by 1 s (4 * i))).long (ap length (word_is (bytes_of 64 s) i) ∙ length-tab 16 _)
    (λ k l.
    byte_of_numbers 4 (four_by 1 s (4 * i)) k l
    ∙ ap (λ (x : ℕ). byte_of x (k % 4)) (four_by_lem 1 s (4 * i) (k / 4) (omega arith))
    ∙ sym (ap (λ (w : List ℕ). get_or w k 0) (word_is (bytes_of 64 s) i) ∙ get_or-tab 16 _ k l ∙ byte_of_numbers 64 s (16 * i + k) (omega arith)
    ∙ ap₂ (λ (q r : ℕ). byte_of (get_or s q 0) r) (quotient i k) (remainder i k)))
  where
    quotient : (i k : ℕ) → (16 * i + k) / 4 ≡ 4 * i + 1 * (k / 4)
    quotient i k = omega arith

    remainder : (i k : ℕ) → (16 * i + k) % 4 ≡ k % 4
    remainder i k = omega arith

-- the numbers of the word e are four of the square's
pub numbers_of_word : (q : List ℕ) (e i : ℕ) → i < 4 → get_or (numbers 4 (word q e)) i 0 ≡ number_of q (4 * e + i)
numbers_of_word q e i h =
    get_or-numbers 4 (word q e) i h
    ∙ number_ext _ _
    (λ p l. ap (λ (w : List ℕ). get_or w (4 * i + p) 0) (word_is q e) ∙ get_or-tab 16 _ (4 * i + p) (omega arith) ∙ ap (λ (k : ℕ). get_or q k 0) (place e i p))
  where
    place : (e i p : ℕ) → 16 * e + (4 * i + p) ≡ 4 * (4 * e + i) + p
    place e i p = omega arith
