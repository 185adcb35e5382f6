-- The substitution: its tables, its bytes, and that it and its way back undo each other. Assumes nothing.
use mathlib.Core.Path.{◌≡◌, refl, sym, ap, ◌∙◌}
use mathlib.Core.Bool.{Bool}
use mathlib.Core.List.{List}
use Prim.Native.Nat.{ℕ, zero, suc, ◌<◌, min}
use native.Mathlib.Omega.{arith}
use lib.Dec.{T, eqb, eqb→eq, lit<, ltb, ltb→lt}
use lib.ListN.{get_or}
use Rattle.aes_round.specs.Bytes.{xor}
use Rattle.aes_round.specs.Field.{mul}
use Rattle.aes_round.specs.Substitution.{Table, Undo, affine, affine_back, inverse, squares, sub_byte, sub_byte_back}
use Rattle.aes_round.proofs.Laws.Every.{agree, below, both, both_left, both_right, every}
use Rattle.aes_round.proofs.Laws.Field.{mul_assoc, mul_comm, mul_lt, mul_one_l, mul_zero_l}

-- ---- tables

pub table_at : (f : ℕ → ℕ) (t : List ℕ) → Table f t → (x : ℕ) → x < 256 → get_or t x 0 ≡ f x
unfolding Table
table_at f t rule = rule

-- ---- the inverse

pub inverse_zero : inverse 0 ≡ 0
unfolding mul xor
inverse_zero = refl

pub inverse_is : (x : ℕ) → 0 < x → x < 256 → mul x (inverse x) ≡ 1
unfolding mul xor
inverse_is x p h = agree (λ x. mul x (inverse x)) (λ x. min x 1) 256 tt x h ∙ omega arith

squares_lt : (n x : ℕ) → x < 256 → squares n x < 256
squares_lt zero x h = lit< tt
squares_lt (suc n) x h = mul_lt _ _ (mul_lt x x h h) (squares_lt n (mul x x) (mul_lt x x h h))

inverse_lt : (x : ℕ) → x < 256 → inverse x < 256
inverse_lt = squares_lt 7

-- no inverse but 0's is 0
inverse_pos : (x : ℕ) → 0 < x → x < 256 → 0 < inverse x
inverse_pos x p h = positive (inverse x) (λ z. no (sym (ap (mul x) z ∙ mul_comm x 0 h (lit< tt) ∙ mul_zero_l x) ∙ inverse_is x p h))
  where
    no : ◌≡◌ {A = ℕ} 0 1 → ⊥
    no e = omega arith

    positive : (n : ℕ) → (n ≡ 0 → ⊥) → 0 < n
    positive zero f = absurd (f refl)
    positive (suc n) f = omega arith

-- with y the inverse of x, and z that of y: x = x (y z) = (x y) z = z
inverse_twice : (x : ℕ) → x < 256 → inverse (inverse x) ≡ x
inverse_twice zero h = ap inverse inverse_zero ∙ inverse_zero
inverse_twice (suc n) h =
    let x = suc n in
    let y = inverse x in
    let hy : y < 256 = inverse_lt x h in
    let z = inverse y in
    let hz : z < 256 = inverse_lt y hy in
    sym (mul_one_l z hz)
    ∙ ap (λ (u : ℕ). mul u z) (sym (inverse_is x (omega arith) h))
    ∙ mul_assoc x y z h hy hz
    ∙ ap (mul x) (inverse_is y (inverse_pos x (omega arith) h) hy)
    ∙ mul_comm x 1 h (lit< tt)
    ∙ mul_one_l x h

-- e passes as the inverse of a: a byte whose product with a is 1, and 0 for 0
abbrev pub IsInverse : ℕ → ℕ → Bool
IsInverse a e = both (ltb e 256) (both (eqb (mul a e) (min a 1)) (eqb (min e 1) (min a 1)))

-- only the inverse passes: with y the inverse of a, e = 1 e = (y a) e = y (a e) = y 1 = y. One product in the test, where x^254 has thirteen.
inverse_only : (a e : ℕ) → a < 256 → T (IsInverse a e) → e ≡ inverse a
inverse_only a e h t =
    by a h (ltb→lt e 256 (both_left (ltb e 256) rest t)) (eqb→eq (mul a e) (min a 1) (both_left product none (both_right (ltb e 256) rest t)))
    (eqb→eq (min e 1) (min a 1) (both_right product none (both_right (ltb e 256) rest t)))
  where
    product : Bool
    product = eqb (mul a e) (min a 1)

    none : Bool
    none = eqb (min e 1) (min a 1)

    rest : Bool
    rest = both product none

    by : (a : ℕ) → a < 256 → e < 256 → mul a e ≡ min a 1 → min e 1 ≡ min a 1 → e ≡ inverse a
    by zero h he p q = omega (arith, q) ∙ sym inverse_zero
    by (suc n) h he p q =
        let a = suc n in
        let y = inverse a in
        let hy : y < 256 = inverse_lt a h in
        let one : min a 1 ≡ 1 = omega arith in
        sym (mul_one_l e he)
        ∙ ap (λ (u : ℕ). mul u e) (sym (inverse_is a (omega arith) h) ∙ mul_comm a y h hy)
        ∙ mul_assoc y a e hy h he
        ∙ ap (mul y) (p ∙ one)
        ∙ mul_comm y 1 hy (lit< tt)
        ∙ mul_one_l y hy

-- ---- the affine map

affine_undone : (x : ℕ) → x < 256 → affine_back (affine x) ≡ x
unfolding xor
affine_undone = agree (λ x. affine_back (affine x)) (λ x. x) 256 tt

affine_back_undone : (x : ℕ) → x < 256 → affine (affine_back x) ≡ x
unfolding xor
affine_back_undone = agree (λ x. affine (affine_back x)) (λ x. x) 256 tt

affine_lt : (x : ℕ) → x < 256 → affine x < 256
unfolding xor
affine_lt x h = ltb→lt _ _ (below (λ x. ltb (affine x) 256) 256 tt x h)

affine_back_lt : (x : ℕ) → x < 256 → affine_back x < 256
unfolding xor
affine_back_lt x h = ltb→lt _ _ (below (λ x. ltb (affine_back x) 256) 256 tt x h)

-- ---- the substitution

pub sub_lt : (x : ℕ) → x < 256 → sub_byte x < 256
unfolding sub_byte
sub_lt x h = affine_lt (inverse x) (inverse_lt x h)

pub sub_back_lt : (x : ℕ) → x < 256 → sub_byte_back x < 256
unfolding sub_byte_back
sub_back_lt x h = inverse_lt (affine_back x) (affine_back_lt x h)

pub sub_undone : (x : ℕ) → x < 256 → sub_byte_back (sub_byte x) ≡ x
unfolding sub_byte sub_byte_back
sub_undone x h = ap inverse (affine_undone (inverse x) (inverse_lt x h)) ∙ inverse_twice x h

pub sub_back_undone : (x : ℕ) → x < 256 → sub_byte (sub_byte_back x) ≡ x
unfolding sub_byte sub_byte_back
sub_back_undone x h = ap affine (inverse_twice (affine_back x) (affine_back_lt x h)) ∙ affine_back_undone x h

-- ---- the two tables: the first follows its rule where one test over its 256 entries passes

pub sub_table_is : (t : List ℕ) → T (every (λ x. ltb (get_or t x 0) 256) 256) → T (every (λ x. IsInverse x (affine_back (get_or t x 0))) 256) → Table sub_byte t
unfolding Table sub_byte
sub_table_is t bytes inverses x h =
    sym (affine_back_undone (get_or t x 0) (ltb→lt (get_or t x 0) 256 (below (λ x. ltb (get_or t x 0) 256) 256 bytes x h)))
    ∙ ap affine (inverse_only x (affine_back (get_or t x 0)) h (below (λ x. IsInverse x (affine_back (get_or t x 0))) 256 inverses x h))

-- two tables undo each other where one test over their 256 entries passes
abbrev pub Undone : List ℕ → List ℕ → ℕ → Bool
Undone t u x = eqb (get_or u (get_or t x 0) 0) x

pub undo_is : (t u : List ℕ) → T (every (λ x. both (Undone t u x) (Undone u t x)) 256) → Undo t u
undo_is t u test =
    let passes = below (λ x. both (Undone t u x) (Undone u t x)) 256 test in
    record {
      forth = λ x h. eqb→eq _ x (both_left (Undone t u x) (Undone u t x) (passes x h));
      back = λ x h. eqb→eq _ x
          (both_right (Undone t u x) (Undone u t x) (passes x h));
    }

-- and then the second follows the rule back where the first follows its rule
pub back_table_is : (t u : List ℕ) → Table sub_byte t → Undo t u → Table sub_byte_back u
unfolding Table
back_table_is t u rule undo x h =
    let y = sub_byte_back x in
    sym (ap (λ (z : ℕ). get_or u z 0) (rule y (sub_back_lt x h) ∙ sub_back_undone x h)) ∙ undo.forth y (sub_back_lt x h)
