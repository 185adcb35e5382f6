-- What a routine answers is known from the numbers and places that it says. Assumes nothing.
use mathlib.Core.Path.{◌≡◌, refl, sym, ap, ◌∙◌}
use Prim.Native.Nat.{ℕ}
use native.Mathlib.Omega.{arith}
use lib.Dec.{eqb}
use Rattle.std.specs.Prelude.{Err, None, Ok, Option, Result, Some}
use Rattle.steering.specs.Answers.{Counted, End, Fingerprinted, Found, Reading, Refused, Written, counted_of, fingerprinted_of, reading_of, refusal_number}
use Rattle.steering.specs.Answers.{written_of}
use Rattle.steering.specs.Numbers.{either}
use Rattle.steering.specs.declared.records.Record.{Record}
use Rattle.steering.specs.declared.refusals.Refusal.{Refusal}
use Rattle.steering.specs.declared.refusals.Refusal.TheVariants.{BadSalt, CutShort, LongTable, PastEnd, ShortRoom, UnknownKind}
use Rattle.steering.specs.declared.refusals.WriteRefusal.{WriteRefusal}
use Rattle.steering.specs.declared.refusals.WriteRefusal.TheVariants.{BodyLength, HighAddress, ShortRoom as NoRoom, UnknownKind as NoKind}

-- a map with a way back takes no two to one
one_to_one : {A B : Type 0} (f : A → B) (back : B → A) → ((x : A) → back (f x) ≡ x) → (x y : A) → f x ≡ f y → x ≡ y
one_to_one f back again x y e = sym (again x) ∙ ap back e ∙ again y

-- ---- refusals

-- no refusal has the number 0
pub refuses : (refusal : Refusal) → refusal_number refusal ≡ 0 → ⊥
refuses BadSalt z = omega (arith, z)
refuses ShortRoom z = omega (arith, z)
refuses PastEnd z = omega (arith, z)
refuses LongTable z = omega (arith, z)
refuses (UnknownKind place) z = omega (arith, z)
refuses (CutShort place) z = omega (arith, z)

refusal_from : ℕ → ℕ → Refusal
refusal_from number place =
    either (eqb number 2) BadSalt
    (either (eqb number 5) ShortRoom
    (either (eqb number 6) PastEnd (either (eqb number 8) LongTable (either (eqb number 9) (UnknownKind place) (CutShort place)))))

write_refusal_from : ℕ → WriteRefusal
write_refusal_from number = either (eqb number 5) NoRoom (either (eqb number 9) NoKind (either (eqb number 10) BodyLength HighAddress))

-- ---- answers, and back

reading_from : Reading → Result (Option (Record × ℕ)) Refusal
reading_from (Found r next) = Ok (Some (r, next))
reading_from End = Ok None
reading_from (Refused number place) = Err (refusal_from number place)

reading_again : (x : Result (Option (Record × ℕ)) Refusal) → reading_from (reading_of x) ≡ x
unfolding reading_from refusal_from
reading_again (Ok (Some found)) = refl
reading_again (Ok None) = refl
reading_again (Err BadSalt) = refl
reading_again (Err ShortRoom) = refl
reading_again (Err PastEnd) = refl
reading_again (Err LongTable) = refl
reading_again (Err (UnknownKind place)) = refl
reading_again (Err (CutShort place)) = refl

pub reading_one : (x y : Result (Option (Record × ℕ)) Refusal) → reading_of x ≡ reading_of y → x ≡ y
reading_one = one_to_one reading_of reading_from reading_again

counted_from : Counted → Result ℕ Refusal
counted_from c = either (eqb c.refusal 0) (Ok c.count) (Err (refusal_from c.refusal c.place))

counted_again : (x : Result ℕ Refusal) → counted_from (counted_of x) ≡ x
unfolding counted_from refusal_from
counted_again (Ok count) = refl
counted_again (Err BadSalt) = refl
counted_again (Err ShortRoom) = refl
counted_again (Err PastEnd) = refl
counted_again (Err LongTable) = refl
counted_again (Err (UnknownKind place)) = refl
counted_again (Err (CutShort place)) = refl

pub counted_one : (x y : Result ℕ Refusal) → counted_of x ≡ counted_of y → x ≡ y
counted_one = one_to_one counted_of counted_from counted_again

fingerprinted_from : Fingerprinted → Result (Unit {0}) Refusal
fingerprinted_from f = either (eqb f.refusal 0) (Ok tt) (Err (refusal_from f.refusal f.place))

fingerprinted_again : (x : Result (Unit {0}) Refusal) → fingerprinted_from (fingerprinted_of x) ≡ x
unfolding fingerprinted_from refusal_from
fingerprinted_again (Ok done) = refl
fingerprinted_again (Err BadSalt) = refl
fingerprinted_again (Err ShortRoom) = refl
fingerprinted_again (Err PastEnd) = refl
fingerprinted_again (Err LongTable) = refl
fingerprinted_again (Err (UnknownKind place)) = refl
fingerprinted_again (Err (CutShort place)) = refl

pub fingerprinted_one : (x y : Result (Unit {0}) Refusal) → fingerprinted_of x ≡ fingerprinted_of y → x ≡ y
fingerprinted_one = one_to_one fingerprinted_of fingerprinted_from fingerprinted_again

written_from : Written → Result ℕ WriteRefusal
written_from w = either (eqb w.refusal 0) (Ok w.next) (Err (write_refusal_from w.refusal))

written_again : (x : Result ℕ WriteRefusal) → written_from (written_of x) ≡ x
unfolding written_from write_refusal_from
written_again (Ok next) = refl
written_again (Err NoRoom) = refl
written_again (Err NoKind) = refl
written_again (Err BodyLength) = refl
written_again (Err HighAddress) = refl

pub written_one : (x y : Result ℕ WriteRefusal) → written_of x ≡ written_of y → x ≡ y
written_one = one_to_one written_of written_from written_again
