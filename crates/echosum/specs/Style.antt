-- The line of a digest. Assumes nothing.
use Rattle.std.specs.Prelude.{ℕ, Bool, cond, List, [], ◌∷◌, ◌++◌}
use Rattle.lines.specs.Decimal.{decimal_of}
use Rattle.lines.specs.Hexadecimal.{digits_of}
use Rattle.lines.specs.Lines.{spread}
use Rattle.lines.specs.Names.{escape_of, mark_of}
use Rattle.echo.specs.declared.mode.Mode.{Mode}
use Rattle.echosum.specs.declared.style.Style.{Style}
use Rattle.echosum.specs.Listed.{begins, closes, mode_text, opens}

-- what a tag names: `ECHO-`, the bits, the mode between dashes, the salt, a space and a bracket
unfoldable pub tag_of : ℕ → Mode → List ℕ → List ℕ
tag_of bits mode salt = begins ++ (decimal_of bits ++ (mode_text mode ++ (spread digits_of salt ++ opens)))

-- a line with a tag, without its line end; a backslash stands in front where the name is escaped
unfoldable pub tagged_line : ℕ → Mode → List ℕ → List ℕ → List ℕ → List ℕ
tagged_line bits mode salt digest name =
    mark_of name ++ (tag_of bits mode salt ++ (spread escape_of name ++ (closes ++ spread digits_of digest)))

-- a line without a tag and without its line end
unfoldable pub plain_line : List ℕ → List ℕ → List ℕ
plain_line digest name = mark_of name ++ (spread digits_of digest ++ (32 ∷ 32 ∷ spread escape_of name))

-- ---- as it is written

-- in front of the name: the tag, or the digest and two spaces
unfoldable pub front_of : Style → List ℕ → List ℕ
front_of style digest = cond style.is_tagged (tag_of style.bits style.mode style.salt) (spread digits_of digest ++ (32 ∷ 32 ∷ []))

-- a line end, or a zero byte
unfoldable pub end_of : Bool → List ℕ
end_of zero = cond zero (0 ∷ []) (10 ∷ [])

-- behind the name: the digest where there is a tag, and the end
unfoldable pub back_of : Style → List ℕ → List ℕ
back_of style digest = cond style.is_tagged (closes ++ (spread digits_of digest ++ end_of style.is_zero_ended)) (end_of style.is_zero_ended)

-- the line of a digest; a name is escaped where a line end would end the line
unfoldable pub line_of : Style → List ℕ → List ℕ → List ℕ
line_of style digest name =
    cond style.is_zero_ended
    (front_of style digest ++ name ++ back_of style digest)
    (mark_of name ++ front_of style digest ++ spread escape_of name ++ back_of style digest)
