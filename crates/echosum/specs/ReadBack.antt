-- What it is for a line to be read back as what it was made of. Assumes nothing.
use Rattle.std.specs.Prelude.{◌≡◌, cond, List, [], ◌∷◌, ◌++◌, ℕ, ◌<◌, drop, length, replicate, Option, Some}
use Rattle.echo.specs.declared.mode.Mode.{Mode}
use Rattle.echosum.specs.declared.listed.Listed.{Listed}
use Rattle.echosum.specs.Bytes.{part}
use Rattle.echosum.specs.Names.{unescaped}

-- each is a byte
pub data AreBytes : List ℕ → Type 0 where
  none : AreBytes []
  one : {x : ℕ} {xs : List ℕ} → x < 256 → AreBytes xs → AreBytes (x ∷ xs)

-- what was read of a line, r, is what the line was made of
pub record ReadBack (bits : ℕ) (mode : Mode) (salt digest name line : List ℕ) (r : Option Listed) : Type 0 where
  pub said : Listed
  pub is_good : r ≡ Some said
  pub bits_are : said.bits ≡ bits
  pub mode_is : said.mode ≡ mode
  pub salt_is : said.salt ≡ salt
  pub digest_is : said.digest ≡ digest ++ drop (length digest) (replicate 64 0)
  pub name_is : cond said.is_escaped (unescaped (part said.from said.to line)) (part said.from said.to line) ≡ name
