-- `plain_in` meets its contract: the digits end within the line. Assumes nothing.
use Rattle.std.proofs.Common.{rules}
use Rattle.echosum.proofs.Laws.Listed.{digits_within}
use Rattle.echosum.proofs.listed.plain_in.Goals as goal

pub plain_to-requires : goal.plain_to-requires
plain_to-requires c = (search rules, search digits_within)
