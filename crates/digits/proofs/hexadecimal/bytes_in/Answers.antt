-- `bytes_in` meets its contract: the bytes so far go on over the pairs to come, and zeros stand behind them. Assumes nothing.
use Rattle.std.proofs.Common.{rules, ◌∙◌}
use Rattle.digits.proofs.Laws.Hexadecimal.{bytes_end, no_pair, pair_goes_on, pairs_and_a_half, too_many_pairs, zeros_go_on}
use Rattle.digits.proofs.hexadecimal.bytes_in.Goals as goal
use Rattle.digits.proofs.hexadecimal.bytes_in.Goals.{then-pairs-via-then-pairs, then-pairs-via-else-pairs+then-not-is_empty}

pub returns-then-pairs : goal.returns-then-pairs
returns-then-pairs g c =
    elim c.then-pairs.branch [
      | then-pairs-via-then-pairs w ↦ search too_many_pairs
      | then-pairs-via-else-pairs+then-not-is_empty w ↦ search pairs_and_a_half
    ]

pub returns-in_err-bytes : goal.returns-in_err-bytes
returns-in_err-bytes g c = let none = c.in_err-bytes.ensures in c.from_residual.ensures ∙ search no_pair

pub loop-i-preserved : goal.loop-i-preserved
loop-i-preserved g c = let byte = c.in_ok-bytes.ensures in (search rules, search zeros_go_on, search pair_goes_on)

pub returns : goal.returns
returns g c = search bytes_end
