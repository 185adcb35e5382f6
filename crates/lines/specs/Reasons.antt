-- The reason behind an error number of Linux. Assumes nothing.
use Prim.Native.Char.{code}
use Rattle.std.specs.Prelude.{ℕ, cond, List, [], ◌∷◌, ◌++◌, eqb, ℤ, negsuc, pos}
use Prim.Native.String.{String}
use Prim.Native.String.{[] as []ˢ, ◌∷◌ as ◌∷ˢ◌}
use Rattle.lines.specs.Decimal.{decimal_of}

-- a text as bytes
unfoldable pub bytes_of : String → List ℕ
bytes_of []ˢ = []
bytes_of (c ∷ˢ s) = code c ∷ bytes_of s

-- an error number as C has it; none is below 0
unfoldable pub number_of : ℤ → ℕ
number_of (pos n) = n
number_of (negsuc n) = 0

unfoldable pub reason_of : ℕ → List ℕ
reason_of e =
    cond (eqb e 2) (bytes_of "No such file or directory")
    (cond (eqb e 5) (bytes_of "Input/output error")
    (cond (eqb e 9) (bytes_of "Bad file descriptor")
    (cond (eqb e 13) (bytes_of "Permission denied")
    (cond (eqb e 20) (bytes_of "Not a directory")
    (cond (eqb e 21) (bytes_of "Is a directory")
    (cond (eqb e 28) (bytes_of "No space left on device")
    (cond (eqb e 36) (bytes_of "File name too long")
    (bytes_of "error " ++ decimal_of e))))))))
