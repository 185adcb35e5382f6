-- `are_escapes` meets its contract: the escapes that were passed can be undone. Assumes nothing.
use Rattle.std.proofs.Common.{◌≡◌, drop}
use Rattle.echosum.specs.Names.{are_escapes, are_escapes_from}
use Rattle.echosum.proofs.names.are_escapes.Given as goal

abbrev pub invariant-loop-byte : goal.invariant-loop-byte
invariant-loop-byte l = are_escapes l.text ≡ are_escapes_from l.is_open (drop l.byte-index l.text)
