-- The line of a digest, put together from its parts. Assumes nothing.
use mathlib.Core.Path.{◌≡◌, ◌∙◌, refl}
use mathlib.Core.Bool.{Bool, true, false, cond}
use mathlib.Core.List.{List, [], ◌∷◌, ◌++◌, append_assoc, append-nil}
use Prim.Native.Nat.{ℕ, ◌*◌, ◌≤◌}
use native.Mathlib.Omega.{arith}
use lib.ListN.{length, length-append, take}
use Rattle.std.proofs.lemmas.List.{take_all}
use Rattle.lines.specs.Decimal.{decimal_of}
use Rattle.lines.specs.Hexadecimal.{digits_of}
use Rattle.lines.specs.Lines.{spread}
use Rattle.lines.specs.Names.{escape_of, mark_of}
use Rattle.lines.proofs.Promises.{few_digits, put_behind, spread_cons, spread_nil}
use Rattle.echo.specs.declared.mode.Mode.{Mode}
use Rattle.echo.specs.declared.mode.Mode.TheVariants.{DoublePipe, SinglePipe}
use Rattle.echosum.specs.declared.style.Style.{Style}
use Rattle.echosum.specs.Listed.{begins, closes, mode_text, opens}
use Rattle.echosum.specs.Style.{back_of, end_of, front_of, line_of, tag_of}

-- ---- the tag

pub tag_put : (size bits : ℕ) (m : Mode) (salt line one two text three four after : List ℕ) → one ≡ take size (line ++ begins)
    → two ≡ take size (one ++ decimal_of bits) → text ≡ mode_text m → three ≡ take size (two ++ text)
    → four ≡ take size (three ++ spread digits_of salt) → after ≡ take size (four ++ opens) → after ≡ take size (line ++ tag_of bits m salt)
unfolding tag_of
tag_put size bits m salt line one two text three four after a b t c d e = rw (e, d, c, t, b, a) (simp (put_behind, append_assoc))

-- ---- behind the name

pub back_put : (size : ℕ) (style : Style) (digest line one two text after : List ℕ) → style.is_tagged ≡ true → text ≡ end_of style.is_zero_ended
    → one ≡ take size (line ++ closes) → two ≡ take size (one ++ spread digits_of digest) → after ≡ take size (two ++ text)
    → after ≡ take size (line ++ back_of style digest)
unfolding back_of
back_put size style digest line one two text after t e a b c = rw (c, b, a, e, t) (simp (put_behind, append_assoc))

-- ---- lengths

pub by : {A : Type 0} (b : Bool) → (b ≡ true → A) → (b ≡ false → A) → A
by true f g = f refl
by false f g = g refl

pub length_digits : (bytes : List ℕ) → length (spread digits_of bytes) ≡ 2 * length bytes
length_digits [] = rw (spread_nil digits_of)
length_digits (x ∷ xs) = rw (spread_cons digits_of x xs) (omega (arith, length_digits xs))

pub length-mode : (m : Mode) → length (mode_text m) ≡ 8
length-mode SinglePipe = refl
length-mode DoublePipe = refl

module _ (style : Style) (digest : List ℕ) (d : length digest ≤ 64) (s : length style.salt ≡ 16) where
  front_fits : length (front_of style digest) ≤ 130
  unfolding front_of tag_of
  front_fits =
      by style.is_tagged
      (λ t.
      rw t
      (simp length-append
      (omega (arith, few_digits style.bits, length-mode style.mode, length_digits style.salt))))
      (λ f. rw f (simp length-append (omega (arith, length_digits digest))))

-- ---- the line

module _ (size : ℕ) (line after : List ℕ) (b : Bool) (x y : List ℕ) where
  first : b ≡ true → after ≡ take size (line ++ x) → after ≡ take size (line ++ cond b x y)
  first t p = rw t p

  second : b ≡ false → after ≡ take size (line ++ y) → after ≡ take size (line ++ cond b x y)
  second f p = rw f p

module _ (style : Style) (digest name none front text : List ℕ) (n : none ≡ []) (p : front ≡ take 130 (none ++ front_of style digest))
    (t : text ≡ front) where
  the_front : length digest ≤ 64 → length style.salt ≡ 16 → text ≡ front_of style digest
  the_front d s = t ∙ p ∙ rw n (take_all 130 (front_of style digest) (front_fits style digest d s))

  module _ (size : ℕ) (line one behind joined after : List ℕ) (j : joined ≡ behind) (k : behind ≡ one)
      (q : after ≡ take size (joined ++ back_of style digest)) where
    pub line_named : style.is_zero_ended ≡ false → one ≡ take size (line ++ mark_of name ++ text ++ spread escape_of name ++ [])
        → length digest ≤ 64 → length style.salt ≡ 16 → after ≡ take size (line ++ line_of style digest name)
    unfolding line_of
    line_named f o d s =
        second size line after style.is_zero_ended _ _ f (rw (q, j, k, o, the_front d s) (simp (put_behind, append_assoc, append-nil)))

    pub line_as_it_is : style.is_zero_ended ≡ true → (two : List ℕ) → two ≡ take size (line ++ text) → one ≡ take size (two ++ name)
        → length digest ≤ 64 → length style.salt ≡ 16 → after ≡ take size (line ++ line_of style digest name)
    unfolding line_of
    line_as_it_is z two o u d s =
        first size line after style.is_zero_ended _ _ z (rw (q, j, k, u, o, the_front d s) (simp (put_behind, append_assoc)))
