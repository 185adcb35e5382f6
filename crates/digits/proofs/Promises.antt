-- What the crates above may cite of this one, besides its specs and its contracts: each promise is in the words of specs/. Assumes nothing.
use Rattle.std.proofs.Common.{◌≡◌, List, [], ◌∷◌, ◌++◌, ℕ, ◌+◌, ◌*◌, ◌-◌, ◌<◌, ◌≤◌, ◌&&◌, cond, leb, drop, length, replicate, None, Some, arith, eq-eqb, le-leb, refl}
use Rattle.std.proofs.lemmas.Bool.{lt-leb}
use Rattle.std.specs.Option.{option_and_then}
use Rattle.digits.specs.Hexadecimal.{byte_of, bytes_from, bytes_of, nibble_of}
use Rattle.digits.specs.Numbers.{decimal_of, number_from, number_of}
use Rattle.digits.specs.Salts.{salt_of}

-- ---- the value of a digit, and none of what is none

pub nibble_is : (x : ℕ)
    → nibble_of x
    ≡ cond (leb 48 x && leb x 57) (Some (x - 48))
    (cond (leb 65 x && leb x 70) (Some (x - 65 + 10)) (cond (leb 97 x && leb x 102) (Some (x - 97 + 10)) None))
unfolding nibble_of
nibble_is x = refl

module _ (x : ℕ) where
  pub before_digits : x < 48 → nibble_of x ≡ None
  unfolding nibble_of
  before_digits h = simp (lt-leb 48 x h, lt-leb 65 x (omega arith), lt-leb 97 x (omega arith))

  pub digit : 48 ≤ x → x ≤ 57 → nibble_of x ≡ Some (x - 48)
  unfolding nibble_of
  digit h g = simp (le-leb 48 x h, le-leb x 57 g)

  pub capital : 65 ≤ x → x ≤ 70 → nibble_of x ≡ Some (x - 65 + 10)
  unfolding nibble_of
  capital h g = simp (le-leb 48 x (omega arith), lt-leb x 57 (omega arith), le-leb 65 x h, le-leb x 70 g)

  pub before_small : 70 < x → x < 97 → nibble_of x ≡ None
  unfolding nibble_of
  before_small h g = simp (le-leb 48 x (omega arith), lt-leb x 57 (omega arith), le-leb 65 x (omega arith), lt-leb x 70 h, lt-leb 97 x g)

  pub small : 97 ≤ x → x ≤ 102 → nibble_of x ≡ Some (x - 97 + 10)
  unfolding nibble_of
  small h g =
      simp (
        le-leb 48 x (omega arith),
        lt-leb x 57 (omega arith),
        le-leb 65 x (omega arith),
        lt-leb x 70 (omega arith),
        le-leb 97 x h,
        le-leb x 102 g,
      )

-- ---- a number, digit by digit

pub number_begins : (word : List ℕ) → 1 ≤ length word → length word ≤ 16 → number_of word ≡ number_from 0 word
unfolding number_of
number_begins word h g = simp (le-leb 1 (length word) h, le-leb (length word) 16 g)

pub number_more : (n x d : ℕ) (rest : List ℕ) → nibble_of x ≡ Some d → d ≤ 9 → number_from n (x ∷ rest) ≡ number_from (10 * n + d) rest
unfolding number_from decimal_of
number_more n x d rest e h = rw e (simp (le-leb d 9 h))

pub number_none : (n : ℕ) → number_from n [] ≡ Some n
unfolding number_from
number_none n = refl

-- ---- bytes, by pairs of digits

pub bytes_begin : (n : ℕ) (text : List ℕ) → length text ≤ 2 * n
    → bytes_of n text ≡ option_and_then (λ bytes. Some (bytes ++ drop (length bytes) (replicate n 0))) (bytes_from [] text)
unfolding bytes_of
bytes_begin n text h = simp (le-leb (length text) (2 * n) h)

pub bytes_more : (bytes : List ℕ) (x y high low : ℕ) (rest : List ℕ) → nibble_of x ≡ Some high → nibble_of y ≡ Some low
    → bytes_from bytes (x ∷ y ∷ rest) ≡ bytes_from (bytes ++ ((16 * high + low) ∷ [])) rest
unfolding bytes_from byte_of
bytes_more bytes x y high low rest h g = rw (h, g)

pub byte_is : (x y : ℕ) → byte_of x y ≡ option_and_then (λ high. option_and_then (λ low. Some (16 * high + low)) (nibble_of y)) (nibble_of x)
unfolding byte_of
byte_is x y = refl

pub bytes_step : (bytes : List ℕ) (x y : ℕ) (rest : List ℕ)
    → bytes_from bytes (x ∷ y ∷ rest) ≡ option_and_then (λ byte. bytes_from (bytes ++ (byte ∷ [])) rest) (byte_of x y)
unfolding bytes_from
bytes_step bytes x y rest = refl

pub bytes_odd : (bytes : List ℕ) (x : ℕ) → bytes_from bytes (x ∷ []) ≡ None
unfolding bytes_from
bytes_odd bytes x = refl

pub bytes_are : (n : ℕ) (text : List ℕ)
    → bytes_of n text
    ≡ cond (leb (length text) (2 * n)) (option_and_then (λ bytes. Some (bytes ++ drop (length bytes) (replicate n 0))) (bytes_from [] text)) None
unfolding bytes_of
bytes_are n text = refl

pub bytes_none : (bytes : List ℕ) → bytes_from bytes [] ≡ Some bytes
unfolding bytes_from
bytes_none bytes = refl

-- ---- a salt

pub salt_begins : (word : List ℕ) → length word ≡ 32 → salt_of word ≡ bytes_from [] word
unfolding salt_of
salt_begins word h = simp (eq-eqb (length word) 32 h)
