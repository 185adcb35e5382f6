-- The digest of a session of whole bytes to which a piece of whole bytes was added continues the paper's iteration. Assumes nothing.
use Rattle.std.proofs.Common.{◌≡◌, ℕ, ◌+◌, ◌-◌, ◌*◌, ◌/◌, ◌%◌, ◌≤◌, Bool, true, not, ◌&&◌, eqb, List, ◌++◌, length, take, sym, ap, ◌∙◌, eq-eqb}
use Rattle.echo.specs.declared.session.Session.{Session}
use Rattle.echo.specs.Bits.{bits_of, packed}
use Rattle.echo.specs.Digest.{block, block_count, counter_at, iterate}
use Rattle.echo.specs.Padding.{padding}
use Rattle.echo.specs.Session.{add_bytes, bit_limit, block_of, chaining_of, is_session, msize_of, rounds_of, session_digest}
use Rattle.echo.proofs.Laws.Bits.{whole_sized, whole_taken}
use Rattle.echo.proofs.Laws.Continued.{continued_digest}
use Rattle.echo.proofs.Laws.Opened.{add_whole}
use Rattle.echo.proofs.Laws.Sessions.{Addable}

module _ (s : Session) (piece : List ℕ) (is : is_session s ≡ true) (whole : s.taken % 8 ≡ 0) (fits : s.taken + 8 * length piece ≤ bit_limit) where
  able : Addable s piece (8 * length piece)
  able = record {
    is = is;
    fits = fits;
    sized = whole_sized piece;
    ends = ap (λ (t : Bool). not t && not (eqb (8 * length piece) 0)) (eq-eqb (s.taken % 8) 0 whole);
  }

  abbrev L : ℕ
  L = s.taken + 8 * length piece

  -- over the waiting bits, those of the piece and the padding
  abbrev over : List ℕ → List ℕ
  over bits =
      take (s.bits / 8)
      (iterate (chaining_of s) (rounds_of s) s.salt (take (chaining_of s) s.chaining)
      (block (block_of s) (packed (take (s.taken % msize_of s) (bits_of s.waiting) ++ (bits ++ padding (msize_of s) s.bits L))))
      (λ i. counter_at (msize_of s) L (s.taken / msize_of s + i)) (block_count (msize_of s) L - s.taken / msize_of s))

  pub continued_bytes : length s.chaining ≡ 128 → length s.waiting ≡ 224 → session_digest (add_bytes s piece) ≡ over (bits_of piece)
  continued_bytes lc lw =
      ap session_digest (sym (add_whole s piece)) ∙ continued_digest s is lc lw piece (8 * length piece) able ∙ ap over (whole_taken piece)
