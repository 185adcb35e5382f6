-- What the crates above may cite of this one, besides its specs, its contracts and its theorems (Theorems.antt): each promise is in the words of specs/,
-- and its proof is a law of this crate. The invariant of the loops that fill a list, which all of them share, stands here whole. Assumes nothing.
use mathlib.Core.Path.{◌≡◌, refl, sym, ◌∙◌, subst}
use mathlib.Core.Bool.{Bool}
use mathlib.Core.List.{List, [], ◌∷◌}
use mathlib.Core.Logic.{◌⊎◌}
use Prim.Native.Nat.{ℕ, ◌+◌, ◌*◌, ◌/◌, ◌%◌, ◌^◌, ◌<◌, ◌≤◌}
use native.Mathlib.Nat.{not-suc-le-zero}
use native.Mathlib.Omega.{arith}
use borrow.Author.Count.{below_more}
use mir.Syntax.{w8}
use mir.Val.{Fits}
use lib.Bits.{bit_xor}
use lib.Dec.{T, eqb, ltb}
use lib.ListN.{length, get_or, set, length-set}
use lib.Seq.{get_or-set_same, get_or-set_other}
use Rattle.std.specs.Array.{IsMapOf}
use Rattle.std.specs.Fn.{Called, Mut}
use Rattle.aes_round.specs.declared.rows.RowTables.{RowTables}
use Rattle.aes_round.specs.Array.{array, column, entry}
use Rattle.aes_round.specs.ByTables.{mix_numbers, row_table, row_tables, table_round}
use Rattle.aes_round.specs.Bytes.{Bytes, tab, tab_from, xor, xor_bytes}
use Rattle.aes_round.specs.Mixing.{backward, forward, mix_column}
use Rattle.aes_round.specs.Numbers.{byte_of, bytes_of, number, numbers}
use Rattle.aes_round.specs.Rounds.{aes_round, aes_round_back, mix_columns, shift_rows, shift_rows_back}
use Rattle.aes_round.proofs.Laws.Array as arrays
use Rattle.aes_round.proofs.Laws.ByTables as by-tables
use Rattle.aes_round.proofs.Laws.Bytes as bytes
use Rattle.aes_round.proofs.Laws.Every as tests
use Rattle.aes_round.proofs.Laws.Made as arrays-made
use Rattle.aes_round.proofs.Laws.Mixing as mixing
use Rattle.aes_round.proofs.Laws.Numbers as words
use Rattle.aes_round.proofs.Laws.Rounds as rounds
use Rattle.aes_round.proofs.Laws.Xor as sums
-- ---- a fact of every number below a bound, by one test that antt computes

-- `every f n`: f passes at each number below n
pub use Rattle.aes_round.proofs.Laws.Every.{every}

pub below : (f : ℕ → Bool) (n : ℕ) → T (every f n) → (k : ℕ) → k < n → T (f k)
below = tests.below

-- two functions agree below n
pub agree : (f g : ℕ → ℕ) (n : ℕ) → T (every (λ k. eqb (f k) (g k)) n) → (k : ℕ) → k < n → f k ≡ g k
agree = tests.agree

pub lt_or_le : (k n : ℕ) → (k < n) ⊎ (n ≤ k)
lt_or_le = bytes.lt_or_le

-- ---- a list by its elements

pub tab_none : (f : ℕ → ℕ) → tab 0 f ≡ []
unfolding tab
tab_none f = refl

pub tab_whole : (n : ℕ) (f : ℕ → ℕ) → tab_from 0 n f ≡ tab n f
unfolding tab
tab_whole n f = refl

pub length-tab : (n : ℕ) (f : ℕ → ℕ) → length (tab n f) ≡ n
length-tab = bytes.length-tab

pub get_or-tab : (n : ℕ) (f : ℕ → ℕ) (k : ℕ) → k < n → get_or (tab n f) k 0 ≡ f k
get_or-tab = bytes.get_or-tab

-- two lists of n numbers are equal by their elements
pub same_list : (n : ℕ) (l m : List ℕ) → length l ≡ n → length m ≡ n → ((k : ℕ) → k < n → get_or l k 0 ≡ get_or m k 0) → l ≡ m
same_list = bytes.same_list

-- a list of n numbers is the tab of them
pub is_tab : (n : ℕ) (l : List ℕ) (f : ℕ → ℕ) → length l ≡ n → ((k : ℕ) → k < n → get_or l k 0 ≡ f k) → l ≡ tab n f
is_tab = bytes.is_tab

pub tab_ext : (n : ℕ) (f g : ℕ → ℕ) → ((k : ℕ) → k < n → f k ≡ g k) → tab n f ≡ tab n g
tab_ext = bytes.tab_ext

-- what an array's `map` makes, by a closure that gives h x of each x and stays as it is
pub mapped : {F : Type 0} (g : Mut F (ℕ × Unit {0}) ℕ) (n : ℕ) (h : ℕ → ℕ) (f : F)
    → ((x y : ℕ) (f' : F) → Called g f (x, tt) y f' → (y ≡ h x) × (f' ≡ f)) → (xs ys : List ℕ) → IsMapOf g f xs ys n → ys ≡ tab n (λ k. h (get_or xs k 0))
mapped = arrays-made.mapped

-- ---- lists of n bytes

-- it is enough to look at places before the end
pub bytes_below : (n : ℕ) (l : List ℕ) → length l ≡ n → ((k : ℕ) → k < n → get_or l k 0 < 256) → Bytes n l
bytes_below = bytes.bytes_below

pub tab_bytes : (n : ℕ) (f : ℕ → ℕ) → ((k : ℕ) → k < n → f k < 256) → Bytes n (tab n f)
tab_bytes = bytes.tab_bytes

-- a list that is written out, by one test
pub bytes_are : (n : ℕ) (l : List ℕ) → length l ≡ n → T (every (λ k. ltb (get_or l k 0) 256) n) → Bytes n l
bytes_are = bytes.bytes_are

-- an array of the code, of which each element fits a byte
pub bytes_fit : (n : ℕ) (l : List ℕ) → length l ≡ n → ((k : ℕ) → Fits w8 (get_or l k 0)) → Bytes n l
bytes_fit = bytes.bytes_fit

-- ---- a loop that fills a list from the front

-- r has n elements, those below i are f's, and the others are still those of l
pub record Filled (n : ℕ) (f : ℕ → ℕ) (l : List ℕ) (i : ℕ) (r : List ℕ) : Type 0 where
  pub long : length r ≡ n
  pub in_reach : i ≤ n
  pub done : (k : ℕ) → k < i → get_or r k 0 ≡ f k
  pub rest : (k : ℕ) → i ≤ k → get_or r k 0 ≡ get_or l k 0

module _ (n : ℕ) (f : ℕ → ℕ) (l : List ℕ) where
  -- before the first turn, after one more, and after the last
  pub fill_none : length l ≡ n → Filled n f l 0 l
  fill_none e = record { long = e; in_reach = omega arith; done = λ k h. absurd (not-suc-le-zero h); rest = λ k h. refl }

  pub fill_more : (i : ℕ) (r : List ℕ) (v : ℕ) → Filled n f l i r → i < n → v ≡ f i → Filled n f l (i + 1) (set r i v)
  fill_more i r v F h e = record {
    long = length-set r i v ∙ F.long;
    in_reach = omega arith;
    done = below_more (λ k. get_or (set r i v) k 0 ≡ f k) i
        (λ k lt. get_or-set_other r i k v 0 (λ q. omega arith) ∙ F.done k lt)
        (get_or-set_same r i v 0 (subst (λ (m : ℕ). i < m) (sym F.long) h) ∙ e);
    rest = λ k le. get_or-set_other r i k v 0 (λ q. omega arith) ∙ F.rest k (omega arith);
  }

  pub fill_all : (i : ℕ) (r : List ℕ) → Filled n f l i r → n ≤ i → r ≡ tab n f
  fill_all i r F h = is_tab n r f F.long (λ k lt. F.done k (omega arith))

-- ---- xor, of numbers and of lists of n bytes

-- what the code's `^` computes
pub code_xor : (a b : ℕ) → bit_xor a b ≡ xor a b
code_xor = sums.code_xor

pub xor_assoc : (a b c : ℕ) → xor (xor a b) c ≡ xor a (xor b c)
xor_assoc = sums.xor_assoc

pub xor_self : (a : ℕ) → xor a a ≡ 0
xor_self = sums.xor_self

pub xor_zero_l : (a : ℕ) → xor 0 a ≡ a
xor_zero_l = sums.xor_zero_l

pub xor_zero_r : (a : ℕ) → xor a 0 ≡ a
xor_zero_r = sums.xor_zero_r

-- what is added twice is gone
pub xor_twice : (a k : ℕ) → xor (xor a k) k ≡ a
xor_twice = sums.xor_twice

-- the middle two of four change places
pub xor_swap : (a b c d : ℕ) → xor (xor a b) (xor c d) ≡ xor (xor a c) (xor b d)
xor_swap = sums.xor_swap

pub xor_tab : (n : ℕ) (f g : ℕ → ℕ) → xor_bytes n (tab n f) (tab n g) ≡ tab n (λ k. xor (f k) (g k))
xor_tab = sums.xor_tab

module _ (n : ℕ) (a b : List ℕ) where
  pub xor_is_tab : tab n (λ k. xor (get_or a k 0) (get_or b k 0)) ≡ xor_bytes n a b
  xor_is_tab = sums.xor_is_tab n a b

  pub length-xor : length (xor_bytes n a b) ≡ n
  length-xor = sums.length-xor n a b

  pub get_or-xor : (k : ℕ) → k < n → get_or (xor_bytes n a b) k 0 ≡ xor (get_or a k 0) (get_or b k 0)
  get_or-xor = sums.get_or-xor n a b

-- ---- the 4 by 4 array of entries of w bytes, by its entries

module _ (w : ℕ) where
  pub entry_is : (s : List ℕ) (e b : ℕ) → entry w s e b ≡ get_or s (w * e + b) 0
  entry_is = arrays.entry_is w

  pub entry_array : (f : ℕ → ℕ → ℕ) (e b : ℕ) → e < 16 → b < w → entry w (array w f) e b ≡ f e b
  entry_array = arrays.entry_array w

  pub entry_byte : (s : List ℕ) → Bytes (16 * w) s → (e b : ℕ) → entry w s e b < 256
  entry_byte = arrays.entry_byte w

  -- an array is known by its entries
  pub is_array : (l : List ℕ) (f : ℕ → ℕ → ℕ) → length l ≡ 16 * w → ((e b : ℕ) → e < 16 → b < w → entry w l e b ≡ f e b) → l ≡ array w f
  is_array = arrays.is_array w

  -- bytes in a row, as an array
  pub tab_array : (f : ℕ → ℕ) (g : ℕ → ℕ → ℕ) → ((e b : ℕ) → e < 16 → b < w → f (w * e + b) ≡ g e b) → tab (16 * w) f ≡ array w g
  tab_array = arrays.tab_array w

  pub array_ext : (f g : ℕ → ℕ → ℕ) → ((e b : ℕ) → e < 16 → b < w → f e b ≡ g e b) → array w f ≡ array w g
  array_ext = arrays.array_ext w

  pub array_bytes : (f : ℕ → ℕ → ℕ) → ((e b : ℕ) → e < 16 → b < w → f e b < 256) → Bytes (16 * w) (array w f)
  array_bytes = arrays.array_bytes w

  pub length-column : (s : List ℕ) (c b : ℕ) → length (column w s c b) ≡ 4
  length-column = arrays.length-column w

  pub get_or-column : (s : List ℕ) (c b i : ℕ) → i < 4 → get_or (column w s c b) i 0 ≡ entry w s (4 * c + i) b
  get_or-column = arrays.get_or-column w

-- ---- row shift and column mix, of entries of w bytes

module _ (w : ℕ) where
  -- entry e comes from 5 e (mod 16), and on the way back from 13 e
  pub entry_shift : (s : List ℕ) (e b : ℕ) → e < 16 → b < w → entry w (shift_rows w s) e b ≡ entry w s (5 * e % 16) b
  entry_shift = rounds.entry_shift w

  pub entry_shift_back : (s : List ℕ) (e b : ℕ) → e < 16 → b < w → entry w (shift_rows_back w s) e b ≡ entry w s (13 * e % 16) b
  entry_shift_back = rounds.entry_shift_back w

  pub length_shift : (s : List ℕ) → length (shift_rows w s) ≡ 16 * w
  length_shift = rounds.length_shift w

  pub length_shift_back : (s : List ℕ) → length (shift_rows_back w s) ≡ 16 * w
  length_shift_back = rounds.length_shift_back w

  pub shift_bytes : (s : List ℕ) → Bytes (16 * w) s → Bytes (16 * w) (shift_rows w s)
  shift_bytes = rounds.shift_bytes w

  pub shift_back_bytes : (s : List ℕ) → Bytes (16 * w) s → Bytes (16 * w) (shift_rows_back w s)
  shift_back_bytes = rounds.shift_back_bytes w

  pub shift_undone : (s : List ℕ) → length s ≡ 16 * w → shift_rows_back w (shift_rows w s) ≡ s
  shift_undone = rounds.shift_undone w

  pub shift_back_undone : (s : List ℕ) → length s ≡ 16 * w → shift_rows w (shift_rows_back w s) ≡ s
  shift_back_undone = rounds.shift_back_undone w

  pub shift_xor : (s t : List ℕ) → shift_rows w (xor_bytes (16 * w) s t) ≡ xor_bytes (16 * w) (shift_rows w s) (shift_rows w t)
  shift_xor = rounds.shift_xor w

  pub entry_mix : (m s : List ℕ) (e b : ℕ) → e < 16 → b < w → entry w (mix_columns w m s) e b ≡ get_or (mix_column m (column w s (e / 4) b)) (e % 4) 0
  entry_mix = rounds.entry_mix w

  pub length_mix_columns : (m s : List ℕ) → length (mix_columns w m s) ≡ 16 * w
  length_mix_columns = rounds.length_mix_columns w

  pub mix_columns_bytes : (m s : List ℕ) → Bytes 16 m → Bytes (16 * w) s → Bytes (16 * w) (mix_columns w m s)
  mix_columns_bytes = rounds.mix_columns_bytes w

  pub mix_columns_undone : (s : List ℕ) → Bytes (16 * w) s → mix_columns w backward (mix_columns w forward s) ≡ s
  mix_columns_undone = rounds.mix_columns_undone w

  pub mix_columns_back_undone : (s : List ℕ) → Bytes (16 * w) s → mix_columns w forward (mix_columns w backward s) ≡ s
  mix_columns_back_undone = rounds.mix_columns_back_undone w

  pub mix_columns_xor : (m s t : List ℕ) → mix_columns w m (xor_bytes (16 * w) s t) ≡ xor_bytes (16 * w) (mix_columns w m s) (mix_columns w m t)
  mix_columns_xor = rounds.mix_columns_xor w

pub forward_bytes : Bytes 16 forward
forward_bytes = mixing.forward_bytes

pub backward_bytes : Bytes 16 backward
backward_bytes = mixing.backward_bytes

-- ---- the round; that each way undoes the other is in Theorems.antt

pub length_round : (s k : List ℕ) → length (aes_round s k) ≡ 16
length_round = rounds.length_round

pub length_round_back : (s k : List ℕ) → length (aes_round_back s k) ≡ 16
length_round_back = rounds.length_round_back

pub round_bytes : (s k : List ℕ) → Bytes 16 s → Bytes 16 k → Bytes 16 (aes_round s k)
round_bytes = rounds.round_bytes

pub round_back_bytes : (s k : List ℕ) → Bytes 16 s → Bytes 16 k → Bytes 16 (aes_round_back s k)
round_back_bytes = rounds.round_back_bytes

-- ---- four bytes as a number of 32 bits, the least significant first

pub byte_is : (x p : ℕ) → byte_of x p ≡ x / 256 ^ p % 256
byte_is = words.byte_is

-- the lowest one in the code's form
pub byte_0 : (x : ℕ) → x % 0x100 ≡ byte_of x 0
byte_0 = words.byte_0

pub number_of_lem : (f : ℕ → ℕ) → f 0 + 0x100 * f 1 + 0x10000 * f 2 + 0x1000000 * f 3 ≡ number f
number_of_lem = words.number_of_lem

pub number_ext : (f g : ℕ → ℕ) → ((p : ℕ) → p < 4 → f p ≡ g p) → number f ≡ number g
number_ext = words.number_ext

-- the number of a number's bytes has its lower 32 bits
pub number_low : (x : ℕ) → number (byte_of x) ≡ x % 2 ^ 32
number_low = words.number_low

-- lists of n numbers, and of their 4 n bytes
module _ (n : ℕ) where
  pub get_or-numbers : (s : List ℕ) (k : ℕ) → k < n → get_or (numbers n s) k 0 ≡ number (λ p. get_or s (4 * k + p) 0)
  get_or-numbers = words.get_or-numbers n

  pub are_numbers : (s l : List ℕ) → length l ≡ n → ((k : ℕ) → k < n → get_or l k 0 ≡ number (λ p. get_or s (4 * k + p) 0)) → l ≡ numbers n s
  are_numbers = words.are_numbers n

  pub byte_of_numbers : (l : List ℕ) (k : ℕ) → k < 4 * n → get_or (bytes_of n l) k 0 ≡ byte_of (get_or l (k / 4) 0) (k % 4)
  byte_of_numbers = words.byte_of_numbers n

  pub are_bytes_of : (l s : List ℕ) → length s ≡ 4 * n → ((k : ℕ) → k < 4 * n → get_or s k 0 ≡ byte_of (get_or l (k / 4) 0) (k % 4)) → s ≡ bytes_of n l
  are_bytes_of = words.are_bytes_of n

  pub bytes_of_bytes : (l : List ℕ) → Bytes (4 * n) (bytes_of n l)
  bytes_of_bytes = words.bytes_of_bytes n

  -- bytes as numbers and back, and numbers as bytes and back
  pub bytes_of_numbers : (s : List ℕ) → Bytes (4 * n) s → bytes_of n (numbers n s) ≡ s
  bytes_of_numbers = words.bytes_of_numbers n

  pub numbers_of_bytes : (l : List ℕ) → length l ≡ n → ((k : ℕ) → get_or l k 0 < 2 ^ 32) → numbers n (bytes_of n l) ≡ l
  numbers_of_bytes = words.numbers_of_bytes n

-- sixteen bytes, written out
pub four_numbers : (s : List ℕ)
    → number (λ p. get_or s (0 + p) 0) ∷ number (λ p. get_or s (4 + p) 0) ∷ number (λ p. get_or s (8 + p) 0) ∷ number (λ p. get_or s (12 + p) 0) ∷ []
    ≡ numbers 4 s
four_numbers = words.four_numbers

-- ---- the path by tables

-- each of the four tables, by its row
module _ (r : RowTables) (e : r ≡ row_tables) where
  pub row_0 : r.row_0 ≡ row_table 0
  row_0 = by-tables.row_0 r e

  pub row_1 : r.row_1 ≡ row_table 1
  row_1 = by-tables.row_1 r e

  pub row_2 : r.row_2 ≡ row_table 2
  row_2 = by-tables.row_2 r e

  pub row_3 : r.row_3 ≡ row_table 3
  row_3 = by-tables.row_3 r e

-- a round by the four tables, on the numbers of a word and of a key, gives the numbers of the round
pub table_round_lem : (s k : List ℕ) → Bytes 16 s → Bytes 16 k
    → table_round (row_table 0) (row_table 1) (row_table 2) (row_table 3) (numbers 4 s) (numbers 4 k) ≡ numbers 4 (aes_round s k)
table_round_lem = by-tables.table_round_lem

pub get_or_mix_numbers : (c : List ℕ) (i : ℕ) → i < 4
    → get_or (mix_numbers c) i 0 ≡ number (λ p. get_or (mix_column forward (tab 4 (λ k. byte_of (get_or c k 0) p))) i 0)
get_or_mix_numbers = words.get_or_mix_numbers
