-- Salts: sixteen pairs fill the sixteen bytes. Assumes nothing.
use Rattle.std.proofs.Common.{◌≡◌, ◌∙◌, ap, ℕ, List, [], ◌++◌, drop, replicate, length, Option, Some, None, refl, arith, append-nil, eq-eqb, le-leb, ne_eqb}
use Rattle.std.specs.Option.{option_and_then}
use Rattle.digits.specs.Hexadecimal.{bytes_from, bytes_of}
use Rattle.digits.specs.Salts.{salt_of}
use Rattle.digits.proofs.Laws.Hexadecimal.{length-bytes}

pub no_salt : (word : List ℕ) → (length word ≡ 32 → ⊥) → None ≡ salt_of word
unfolding salt_of
no_salt word h = simp (ne_eqb (length word) 32 h)

filled : (r : Option (List ℕ)) → ((bytes : List ℕ) → r ≡ Some bytes → length bytes ≡ 16)
    → option_and_then (λ bytes. Some (bytes ++ drop (length bytes) (replicate 16 0))) r ≡ r
filled None h = refl
filled (Some bytes) h = ap (λ (b : List ℕ). Some b) (rw (h bytes refl, append-nil))

pub salt_is : (word : List ℕ) → length word ≡ 32 → bytes_of 16 word ≡ salt_of word
unfolding salt_of bytes_of
salt_is word h =
    simp (eq-eqb (length word) 32 h, le-leb (length word) 32 (omega arith))
    (filled (bytes_from [] word) (λ bytes e. length-bytes [] word bytes e ∙ omega arith))
