-- The theorems of this program that the pages quote, each closed: what it assumes stands in its statement. Assumes nothing.
use mathlib.Core.Path.{◌≡◌}
use mathlib.Core.Bool.{false, true}
use mathlib.Core.Logic.{◌⊎◌}
use mathlib.Core.List.{List, [], ◌∷◌, ◌++◌}
use Prim.Native.Nat.{ℕ, ◌*◌, ◌/◌}
use lib.ListN.{length}
use Rattle.std.specs.Prelude.{None, Some}
use Rattle.echo.specs.declared.mode.Mode.{Mode}
use Rattle.echosum.specs.declared.listed.Terms.{Terms}
use Rattle.echosum.specs.Bytes.{holds_of}
use Rattle.echosum.specs.Listed.{is_admitted, listed_of}
use Rattle.echosum.specs.ReadBack.{AreBytes, ReadBack}
use Rattle.echosum.specs.Style.{line_of, plain_line, tagged_line}
use Rattle.echosum.proofs.ReadBack as read_back
use Rattle.echosum.proofs.ReadPlain as read_plain

-- a line with a tag is read back, whatever the words of the command line say; a name is not empty and has no zero byte
pub tagged_read_back : (bits : ℕ) (mode : Mode) (salt digest name : List ℕ) (terms : Terms)
    → is_admitted bits ≡ true
    → length salt ≡ 16
    → AreBytes salt
    → length digest ≡ bits / 8
    → AreBytes digest
    → (length name ≡ 0 → ⊥)
    → holds_of 0 name ≡ false
    → let line = tagged_line bits mode salt digest name in
    ReadBack bits mode salt digest name line (listed_of line terms)
tagged_read_back bits mode salt digest name terms a l b d db h z =
    read_back.tagged_read_back bits a mode salt l b digest d db name h z terms

-- one without a tag too, with the mode and the salt of the command line, and its bits where these are named there
pub plain_read_back : (digest name : List ℕ) (terms : Terms)
    → AreBytes digest
    → is_admitted (4 * (2 * length digest)) ≡ true
    → (terms.bits ≡ None) ⊎ (terms.bits ≡ Some (4 * (2 * length digest)))
    → (length name ≡ 0 → ⊥)
    → holds_of 0 name ≡ false
    → let line = plain_line digest name in
    ReadBack (4 * (2 * length digest)) terms.mode terms.salt digest name line (listed_of line terms)
plain_read_back digest name terms db a w h z = read_plain.plain_read_back digest db terms a w name h z

-- these are the lines that are written, with a line end
pub tagged_is_written : (bits : ℕ) (mode : Mode) (salt digest name : List ℕ)
    → line_of (record { is_tagged = true; is_zero_ended = false; mode = mode; bits = bits; salt = salt }) digest name
    ≡ tagged_line bits mode salt digest name ++ (10 ∷ [])
tagged_is_written = read_back.tagged_is_written

pub plain_is_written : (bits : ℕ) (mode : Mode) (salt digest name : List ℕ)
    → line_of (record { is_tagged = false; is_zero_ended = false; mode = mode; bits = bits; salt = salt }) digest name
    ≡ plain_line digest name ++ (10 ∷ [])
plain_is_written = read_plain.plain_is_written
