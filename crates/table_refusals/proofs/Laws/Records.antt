-- A record that was read ends behind its kind byte. Assumes nothing.
use Rattle.std.proofs.Common.{◌≡◌, List, ℕ, ◌≤◌, arith}
use Rattle.steering.specs.Answers.{Found}
use Rattle.steering.specs.Reading.{read_at}
use Rattle.steering.specs.declared.records.Record.{Record}
use Rattle.steering.proofs.Promises.{found_within}

module _ (table : List ℕ) (place : ℕ) (record-read : Record) (next : ℕ) (read : Found record-read next ≡ read_at table place) where
  pub not_first : 1 ≤ next
  not_first = omega (arith, (found_within table place record-read next read).0)
