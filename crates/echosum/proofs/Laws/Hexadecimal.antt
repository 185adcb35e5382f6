-- Digits at the front of a text. Assumes nothing.
use Rattle.std.proofs.Common.{◌≡◌, ℕ, suc, ◌+◌, ◌≤◌, cond, ltb, List, [], ◌∷◌, length, Option, None, Some, refl, arith}
use Rattle.std.proofs.lemmas.Bool.{ltb-false}
use Rattle.std.proofs.lemmas.List.Recursion.{is_position_or_len}
use Rattle.std.specs.Prelude.{is_none, is_some, position, unwrap_or}
use Rattle.digits.specs.Hexadecimal.{nibble_of}
use Rattle.echosum.specs.Hexadecimal.{digits_in}
use Rattle.echosum.proofs.Laws.Style.{by}

at_most_all : (text : List ℕ) → digits_in text ≤ length text
unfolding digits_in
at_most_all [] = omega arith
at_most_all (x ∷ xs) = by (is_some (nibble_of x)) (λ t. rw t (omega (arith, at_most_all xs))) (λ f. rw f (omega arith))

chosen : (d n : ℕ) → d ≤ n → unwrap_or (cond (ltb d n) (Some d) None) n ≡ d
chosen d n h = by (ltb d n) (λ t. rw t) (λ f. rw f (omega (arith, ltb-false d n f)))

either_way : (o : Option ℕ) (n : ℕ) → cond (is_some o) (suc n) 0 ≡ cond (is_none o) 0 (1 + n)
either_way None n = refl
either_way (Some x) n = omega arith

-- they end at the first byte that is none
pub digits_end : (text : List ℕ) → unwrap_or (position (λ x. is_none (nibble_of x)) text) (length text) ≡ digits_in text
unfolding digits_in
digits_end text =
    let e = is_position_or_len digits_in (λ x. is_none (nibble_of x)) refl (λ x xs. either_way (nibble_of x) (digits_in xs)) text in
    rw (← e) (chosen (digits_in text) (length text) (at_most_all text))
