-- What is put into a line one behind the other stands there as one text. Assumes nothing.
use Rattle.std.proofs.Common.{◌≡◌, ◌∙◌, ℕ, List, ◌++◌, take, append_assoc}
use Rattle.lines.proofs.Promises.{put_behind}

module _ (size : ℕ) where
  pub two_puts : (line x y mid after : List ℕ) → mid ≡ take size (line ++ x) → after ≡ take size (mid ++ y)
      → after ≡ take size (line ++ (x ++ y))
  two_puts line x y mid after m a = a ∙ rw (m, put_behind) (rw append_assoc)

  pub five_puts : (line a b c d e p q r s after : List ℕ) → p ≡ take size (line ++ a) → q ≡ take size (p ++ b) → r ≡ take size (q ++ c)
      → s ≡ take size (r ++ d) → after ≡ take size (s ++ e) → after ≡ take size (line ++ (a ++ b ++ c ++ d ++ e))
  five_puts line a b c d e p q r s after i j k l m =
      let two : q ≡ take size (line ++ (a ++ b)) = two_puts line a b p q i j in
      let three : r ≡ take size (line ++ (a ++ b ++ c)) = two_puts line (a ++ b) c q r two k in
      let four : s ≡ take size (line ++ (a ++ b ++ c ++ d)) = two_puts line (a ++ b ++ c) d r s three l in
      two_puts line (a ++ b ++ c ++ d) e s after four m
