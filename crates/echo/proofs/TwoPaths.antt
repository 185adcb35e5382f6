-- The path by tables and the path byte by byte agree on every square, count, starting counter and salt that either admits: the one leaves what the
-- other leaves. `Post` is the contract of each as it stands in src/, of the same arguments a, a result and the parameters at exit, the square first.
-- Assumes nothing.
use Rattle.std.proofs.Common.{◌≡◌, sym, ◌∙◌}
use Rattle.echo.proofs.run_by_tables.run_by_tables.Reads as run_by_tables
use Rattle.echo.proofs.run_by_bytes.run_by_bytes.Reads as run_by_bytes

pub the_two_paths_agree : (κs : _) (a : _) (r r' : _) (s s' : _) → run_by_tables.Post κs a r s → run_by_bytes.Post κs a r' s' → s.0.now ≡ s'.0.now
the_two_paths_agree κs a r r' s s' tables bytes = tables ∙ sym bytes
