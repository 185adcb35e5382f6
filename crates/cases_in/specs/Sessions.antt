-- Digest sessions in a case, and in a line. Assumes nothing.
use Rattle.std.specs.Prelude.{ℕ, ◌*◌, ◌-◌, ◌/◌, ◌^◌, Bool, false, true, cond, List, ◌∷◌, ◌++◌, drop, ltb, min, slice_index, take}
use Rattle.std.specs.Int.{from_le_bytes, w64}
use Rattle.cases_in.specs.Modes.{mode_of, number_of}
use Rattle.echo.specs.declared.session.Session.{Session}
use Rattle.lines.specs.Decimal.{decimal_of}
use Rattle.lines.specs.Hexadecimal.{digits_of}
use Rattle.lines.specs.Lines.{spread}

-- n bytes from a place on
abbrev pub part : List ℕ → ℕ → ℕ → List ℕ
part bytes at n = take n (drop at bytes)

abbrev pub count_in : List ℕ → ℕ
count_in bytes = from_le_bytes w64 (part bytes 8 8)

-- the message bits so far are the count, or eight for each byte that it counts, as far as a number goes
abbrev pub session_in : Bool → List ℕ → Session
session_in in_bits bytes = record {
  mode = mode_of (slice_index bytes 384);
  bits = from_le_bytes w64 (part bytes 0 8);
  salt = part bytes 16 16;
  chaining = part bytes 32 128;
  taken = cond in_bits (count_in bytes) (min (count_in bytes * 8) (2 ^ 64 - 1));
  waiting = part bytes 160 224;
}

-- the count to be printed of a session that is handed back
abbrev pub counted : Bool → ℕ → ℕ → ℕ
counted in_bits given taken = cond in_bits taken (cond (ltb (given * 8) (2 ^ 64)) (taken / 8) given)

-- a session in a line without its mode, and of the waiting block so many bytes
abbrev pub parts_text : ℕ → ℕ → Session → List ℕ
parts_text shown count session = (32 ∷ decimal_of session.bits)
    ++ (32 ∷ decimal_of count)
    ++ (32 ∷ spread digits_of session.salt)
    ++ (32 ∷ spread digits_of session.chaining)
    ++ (32 ∷ spread digits_of (take shown session.waiting))

-- all of it, or without the mode and the waiting block's end
abbrev pub session_text : Bool → ℕ → Session → List ℕ
session_text true count session = (32 ∷ decimal_of (number_of session.mode)) ++ parts_text 224 count session
session_text false count session = parts_text 192 count session
