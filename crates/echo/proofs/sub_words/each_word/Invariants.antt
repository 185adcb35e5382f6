-- `each_word` meets its contract, a word a turn. Assumes nothing.
use Rattle.std.proofs.Common.{◌≡◌, ℕ, List}
use Rattle.echo.proofs.Laws.Words.{Through}
use Rattle.echo.proofs.sub_words.each_word.Given as goal

abbrev pub invariant-loop-j : goal.invariant-loop-j
invariant-loop-j g l =
    (f : List ℕ → ℕ → List ℕ) → ((w : List ℕ) (n : ℕ) (t : List ℕ) → goal.F-post g l.step w n t → t ≡ f w n) → Through f l.first l.initial.s l.j l.s
