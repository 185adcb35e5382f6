-- The bytes of pairs of digits, a pair at a time. Assumes nothing.
use Rattle.std.proofs.Common.{◌≡◌, ◌∙◌, ap, refl, sym, arith, cond, eqb, leb, le-leb, eqb-true, Bool, true, false, Option, Some, None}
use Rattle.std.proofs.Common.{ℕ, zero, suc, ◌+◌, ◌*◌, ◌/◌, ◌%◌, ◌<◌, ◌≤◌, List, [], ◌∷◌, ◌++◌, drop, take, get_or, set, replicate, length}
use Rattle.std.proofs.Common.{add-one, drop-cons, length-append}
use Rattle.std.proofs.Math.Seq.{drop-drop, drop-length, drop-set-lt, length-take-le, take-suc-set}
use Rattle.std.proofs.Math.ListN.{take-append-drop}
use Rattle.std.proofs.lemmas.Bool.{eqb-false, lt-leb}
use Rattle.std.proofs.lemmas.Option.{none-some, option_and_then_some, same_Some}
use Rattle.std.specs.Option.{option_and_then}
use Rattle.std.specs.Simd.{first_chunks}
use Rattle.digits.specs.Hexadecimal.{byte_of, bytes_from, bytes_of}

no_value : {A B : Type 0} (o : Option A) (f : A → Option B) → ((x : A) → f x ≡ None) → option_and_then f o ≡ None
no_value None f h = refl
no_value (Some x) f h = h x

none_either : {A : Type 0} (b : Bool) → ◌≡◌ {A = Option A} (cond b None None) None
none_either true = refl
none_either false = refl

-- half a pair is none
pub half_a_pair : (bytes text : List ℕ) → length text % 2 ≡ 1 → bytes_from bytes text ≡ None
unfolding bytes_from
half_a_pair bytes [] h = absurd (omega arith)
half_a_pair bytes (x ∷ []) h = refl
half_a_pair bytes (x ∷ y ∷ rest) h = no_value (byte_of x y) _ (λ byte. half_a_pair (bytes ++ (byte ∷ [])) rest (omega arith))

-- pair i of m
chunk_at : (m i : ℕ) (text : List ℕ) → i < m → get_or (first_chunks 2 m text) i [] ≡ take 2 (drop (2 * i) text)
chunk_at zero i text h = absurd (omega arith)
chunk_at (suc m) zero text h = refl
chunk_at (suc m) (suc i) text h =
    let e : 2 + 2 * i ≡ 2 * suc i = omega arith in chunk_at m i (drop 2 text) (omega arith) ∙ rw (drop-drop, ← e)

module _ (text : List ℕ) (pairs : List (List ℕ)) (f : pairs ≡ first_chunks 2 (length text / 2) text) (w : length pairs ≡ length text / 2) (n : ℕ) where
  pub too_many_pairs : n < length pairs → None ≡ bytes_of n text
  unfolding bytes_of
  too_many_pairs h = simp (lt-leb (length text) (2 * n) (omega arith))

  -- what is left behind the pairs
  module _ (rest : List ℕ) (k : length rest ≡ length text % 2) (t : Bool) (q : t ≡ eqb (length rest) 0) where
    pub pairs_and_a_half : t ≡ false → None ≡ bytes_of n text
    unfolding bytes_of
    pairs_and_a_half z =
        let some : length rest ≡ 0 → ⊥ = eqb-false (length rest) 0 (sym q ∙ z) in
        rw (half_a_pair [] text (omega arith)) (sym (none_either (leb (length text) (2 * n))))

    -- pair i, behind the bytes of those before it, and zeros behind these
    module _ (z : t ≡ true) (i : ℕ) (bytes : List ℕ) (few : length pairs ≤ n) (l : length bytes ≡ n)
        (zeros : drop i bytes ≡ drop i (replicate n 0)) (so_far : bytes_from [] text ≡ bytes_from (take i bytes) (drop (2 * i) text)) where
      even : length text % 2 ≡ 0
      even = sym k ∙ eqb-true (length rest) 0 (sym q ∙ z)

      pub bytes_end : length pairs ≤ i → i ≤ length pairs → Some bytes ≡ bytes_of n text
      unfolding bytes_from bytes_of
      bytes_end e f =
          let end : 2 * i ≡ length text = omega (arith, even) in
          let k : length (take i bytes) ≡ i = length-take-le i bytes (omega arith) in
          let all : take i bytes ++ drop (length (take i bytes)) (replicate n 0) ≡ bytes = rw (k, ← zeros, take-append-drop i bytes) in
          rw (so_far, end, drop-length, all) (simp (le-leb (length text) (2 * n) (omega (arith, even))))

      module _ (h : i < length pairs) where
        pair_at : drop (2 * i) text ≡ get_or text (2 * i) 0 ∷ get_or text (2 * i + 1) 0 ∷ drop (2 * (i + 1)) text
        pair_at =
            let g : 2 * i < length text = omega (arith, even) in
            let g2 : 2 * i + 1 < length text = omega (arith, even) in
            let two : 2 * (i + 1) ≡ suc (2 * i + 1) = omega arith in
            rw (drop-cons text (2 * i) 0 g, ← add-one (2 * i), drop-cons text (2 * i + 1) 0 g2, two)

        pair_is : get_or pairs i [] ≡ get_or text (2 * i) 0 ∷ get_or text (2 * i + 1) 0 ∷ []
        pair_is = rw f (chunk_at (length text / 2) i text (omega arith) ∙ rw pair_at)

        pub pair_goes_on : (byte : ℕ) → Some byte ≡ byte_of (get_or (get_or pairs i []) 0 0) (get_or (get_or pairs i []) 1 0)
            → bytes_from [] text ≡ bytes_from (take (i + 1) (set bytes i byte)) (drop (2 * (i + 1)) text)
        unfolding bytes_from
        pair_goes_on byte e =
            let g : i < length bytes = omega arith in
            let k = rw pair_is at e in
            so_far ∙ rw (pair_at, ← k, add-one i, take-suc-set bytes i byte g)

        pub no_pair : None ≡ byte_of (get_or (get_or pairs i []) 0 0) (get_or (get_or pairs i []) 1 0) → None ≡ bytes_of n text
        unfolding bytes_from bytes_of
        no_pair e =
            let k = rw pair_is at e in
            let none : bytes_from [] text ≡ None = so_far ∙ rw (pair_at, ← k) in
            rw none (simp (le-leb (length text) (2 * n) (omega (arith, even))))

-- the zeros behind
pub zeros_go_on : (i v n : ℕ) (bytes : List ℕ) → drop i bytes ≡ drop i (replicate n 0) → drop (i + 1) (set bytes i v) ≡ drop (i + 1) (replicate n 0)
zeros_go_on i v n bytes z =
    let g : i < i + 1 = omega arith in
    drop-set-lt (i + 1) bytes i v g ∙ sym (drop-drop 1 i bytes) ∙ ap (drop 1) z ∙ drop-drop 1 i (replicate n 0)

-- a pair has one byte
pub length-bytes : (so_far text bytes : List ℕ) → bytes_from so_far text ≡ Some bytes → length bytes ≡ length so_far + length text / 2
unfolding bytes_from
length-bytes so_far [] bytes e = let k : so_far ≡ bytes = same_Some _ _ e in rw k (omega arith)
length-bytes so_far (x ∷ []) bytes e = absurd (none-some bytes e)
length-bytes so_far (x ∷ y ∷ rest) bytes e =
    option_and_then_some (λ byte. bytes_from (so_far ++ (byte ∷ [])) rest) (byte_of x y) bytes e
    (λ byte _ k. let h = length-bytes (so_far ++ (byte ∷ [])) rest bytes k in omega (arith, h, length-append so_far (byte ∷ [])))
