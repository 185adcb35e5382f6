-- `put_unescaped` meets its contract: the front of the text is put with its escapes undone, and what one more byte leaves behind it. Assumes nothing.
use Rattle.std.proofs.Common.{◌≡◌, ◌++◌, false, take}
use Rattle.echosum.specs.Names.{unescaped}
use Rattle.echosum.proofs.Laws.Names.{opened_after}
use Rattle.echosum.proofs.names.put_unescaped.Given as goal

abbrev pub invariant-loop-byte : goal.invariant-loop-byte
invariant-loop-byte g l =
    (l.is_open ≡ opened_after false (take l.byte-index l.text)) × (l.line ≡ take g.row.N (l.initial.line ++ unescaped (take l.byte-index l.text)))
