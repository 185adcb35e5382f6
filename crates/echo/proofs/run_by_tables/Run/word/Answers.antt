-- `Run::word` meets its contract: with the tables of the rows, both rounds are those of FIPS 197. Assumes nothing.
use Rattle.std.proofs.Common.{◌≡◌, rules}
use Rattle.aes_round.specs.ByTables.{row_tables}
use Rattle.aes_round.proofs.Promises.{row_0, row_1, row_2, row_3}
use Rattle.echo.proofs.Laws.ByTables.{two_by_tables}
use Rattle.echo.proofs.run_by_tables.Run.word.Goals as goal

pub returns : goal.returns
returns c =
    let e : c.args.self.tables.now ≡ row_tables = search rules in
    two_by_tables _ _ _ _ _ _ _ _ _ _ _ (row_0 _ e) (row_1 _ e) (row_2 _ e) (row_3 _ e) c.round_by_tables-once.ensures c.round_by_tables.ensures
    (search rules) (search rules) (search rules) (search rules) (search rules) (search rules) c.count_on-at.ensures
