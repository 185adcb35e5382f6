-- What a line of a list says. Assumes nothing.
use Rattle.std.specs.Prelude.{ℕ, ◌+◌, ◌*◌, ◌-◌, ◌/◌, ◌%◌, Bool, true, false, cond, List, [], ◌∷◌, eqb, ltb, get_or, length, bytes_eq, Option, None, Some, option_and_then}
use Rattle.std.specs.Option.{option_or}
use Rattle.digits.specs.Hexadecimal.{bytes_of}
use Rattle.digits.specs.Numbers.{number_of}
use Rattle.digits.specs.Salts.{salt_of}
use Rattle.echo.specs.declared.mode.Mode.{Mode}
use Rattle.echo.specs.declared.mode.Mode.TheVariants.{DoublePipe, SinglePipe}
use Rattle.echosum.specs.declared.listed.Head.{Head}
use Rattle.echosum.specs.declared.listed.Listed.{Listed}
use Rattle.echosum.specs.declared.listed.Terms.{Terms}
use Rattle.echosum.specs.Bytes.{part}
use Rattle.echosum.specs.Hexadecimal.{digits_in}
use Rattle.echosum.specs.Names.{is_name}

-- what follows from a value, and none where there is none
infixl 10 ◌>>=◌
abbrev pub ◌>>=◌ : {A B : Type 0} → Option A → (A → Option B) → Option B
o >>= f = option_and_then f o

-- a number of bits that a digest can have: 128 to 512 by eights
unfoldable pub is_admitted : ℕ → Bool
is_admitted bits = cond (ltb bits 128) false (cond (ltb 512 bits) false (eqb (bits % 8) 0))

-- a backslash in front tells that the name is escaped
unfoldable pub mark_in : List ℕ → ℕ
mark_in line = cond (eqb (length line) 0) 0 (cond (eqb (get_or line 0 0) 92) 1 0)

-- ---- without a tag: digits, two bytes, and the name up to the end

-- whether bits are those that are wanted, where any are
abbrev pub are_wanted : Option ℕ → ℕ → Bool
are_wanted None bits = true
are_wanted (Some wanted) bits = eqb wanted bits

-- the bits of so many digits, if there is a digest of them and no others are wanted
unfoldable pub bits_for : ℕ → Option ℕ → Option ℕ
bits_for digits wanted =
    cond (ltb 128 digits) None (cond (is_admitted (4 * digits)) (cond (are_wanted wanted (4 * digits)) (Some (4 * digits)) None) None)

-- a space, and a space or a star
unfoldable pub gap_of : ℕ → ℕ → Bool
gap_of one two = cond (eqb one 32) (cond (eqb two 32) true (eqb two 42)) false

-- with `end` behind the digits, of `bits` bits
unfoldable pub plain_to : List ℕ → ℕ → Terms → ℕ → ℕ → Option Listed
plain_to line at terms end bits =
    cond (ltb (length line - end) 3) None
    (cond (gap_of (get_or line end 0) (get_or line (end + 1) 0))
    (cond (is_name (eqb at 1) (part (end + 2) (length line) line))
    (do
      digest ← bytes_of 64 (part at end line)
      Some (record {
        mode = terms.mode;
        bits = bits;
        salt = terms.salt;
        digest = digest;
        is_escaped = eqb at 1;
        from = end + 2;
        to = length line;
      }))
    None)
    None)

-- from a place on; mode, salt and the bits that are wanted are those of the terms
unfoldable pub plain_of : List ℕ → ℕ → Terms → Option Listed
plain_of line at terms = do
  bits ← bits_for (digits_in (part at (length line) line)) terms.bits
  plain_to line at terms (at + digits_in (part at (length line) line)) bits

-- ---- with a tag: fifty bytes, the name, four bytes, and the digits up to the end

-- `ECHO-`
abbrev pub begins : List ℕ
begins = 69 ∷ 67 ∷ 72 ∷ 79 ∷ 45 ∷ []

-- `-single-`
abbrev pub single : List ℕ
single = 45 ∷ 115 ∷ 105 ∷ 110 ∷ 103 ∷ 108 ∷ 101 ∷ 45 ∷ []

-- `-double-`
abbrev pub double : List ℕ
double = 45 ∷ 100 ∷ 111 ∷ 117 ∷ 98 ∷ 108 ∷ 101 ∷ 45 ∷ []

-- ` (`
abbrev pub opens : List ℕ
opens = 32 ∷ 40 ∷ []

-- `) = `
abbrev pub closes : List ℕ
closes = 41 ∷ 32 ∷ 61 ∷ 32 ∷ []

-- a mode, between dashes
abbrev pub mode_text : Mode → List ℕ
mode_text SinglePipe = single
mode_text DoublePipe = double

-- the mode that a text names
unfoldable pub mode_of : List ℕ → Option Mode
mode_of text = cond (bytes_eq text single) (Some SinglePipe) (cond (bytes_eq text double) (Some DoublePipe) None)

-- whether the fifty bytes in front of the name begin and end as they have to
unfoldable pub framed_of : List ℕ → Bool
framed_of text = cond (bytes_eq (part 0 5 text) begins) (bytes_eq (part 48 50 text) opens) false

-- those bytes: `ECHO-`, three digits of bits, the mode between dashes, 32 digits of salt, a space and a bracket
unfoldable pub head_of : List ℕ → Option Head
head_of text =
    cond (framed_of text)
    (do
      bits ← number_of (part 5 8 text)
      cond (is_admitted bits)
          (do
            mode ← mode_of (part 8 16 text)
            salt ← salt_of (part 16 48 text)
            Some (record { mode = mode; bits = bits; salt = salt }))
          None)
    None

-- with the name at `from` and the digits at `begin`
unfoldable pub tagged_to : List ℕ → ℕ → Head → ℕ → ℕ → Option Listed
tagged_to line at head from begin =
    cond (bytes_eq (part (begin - 4) begin line) closes)
    (cond (is_name (eqb at 1) (part from (begin - 4) line))
    (do
      digest ← bytes_of 64 (part begin (length line) line)
      Some (record {
        mode = head.mode;
        bits = head.bits;
        salt = head.salt;
        digest = digest;
        is_escaped = eqb at 1;
        from = from;
        to = begin - 4;
      }))
    None)
    None

-- behind a head: the digits are as many as its bits ask for
unfoldable pub tagged_by : List ℕ → ℕ → Head → Option Listed
tagged_by line at head =
    cond (ltb (length line - (at + 50)) (head.bits / 4 + 4)) None (tagged_to line at head (at + 50) (length line - head.bits / 4))

-- from a place on
unfoldable pub tagged_of : List ℕ → ℕ → Option Listed
tagged_of line at = cond (ltb (length line - at) 50) None (head_of (part at (at + 50) line) >>= tagged_by line at)

-- ---- with or without

-- tagged where that is good, and else without a tag
unfoldable pub listed_of : List ℕ → Terms → Option Listed
listed_of line terms = option_or (tagged_of line (mark_in line)) (plain_of line (mark_in line) terms)
