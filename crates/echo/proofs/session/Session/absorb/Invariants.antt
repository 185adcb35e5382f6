-- `absorb` meets its contract, a whole byte a turn and the part byte at the end. Assumes nothing.
use Rattle.std.proofs.Common.{◌≡◌, ◌/◌}
use Rattle.echo.specs.Families.{block_size}
use Rattle.echo.specs.Session.{made}
use Rattle.echo.proofs.Laws.Waiting.{Absorbed}
use Rattle.echo.proofs.session.Session.absorb.Given as goal

abbrev pub invariant-loop-x : goal.invariant-loop-x
invariant-loop-x l =
    (l.whole ≡ l.count / 8) × (l.block ≡ block_size l.self.mode l.self.bits) × (l.self.taken ≡ l.initial.self.taken)
    × Absorbed l.initial.self l.piece l.whole l.x-index (made l.self.mode l.self.bits l.self.salt l.self.chaining l.taken l.self.waiting) l.at
