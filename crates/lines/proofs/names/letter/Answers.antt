-- `letter` meets its contract: its tests are the definition's. Assumes nothing.
use Rattle.lines.proofs.Laws.Names.{backslash, carriage_return, line_end, no_letter}
use Rattle.lines.proofs.names.letter.Goals as goal

pub returns-then-byte-eq10 : goal.returns-then-byte-eq10
returns-then-byte-eq10 c = search line_end

pub returns-then-byte-eq13 : goal.returns-then-byte-eq13
returns-then-byte-eq13 c = search carriage_return

pub returns-then-byte-eq92 : goal.returns-then-byte-eq92
returns-then-byte-eq92 c = search backslash

pub returns : goal.returns
returns c = search no_letter
