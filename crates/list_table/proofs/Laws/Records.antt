-- A record that was read lies in the table, and the next place behind it. Assumes nothing.
use Rattle.std.proofs.Common.{◌≡◌, List, ℕ, ◌-◌, ◌≤◌, ◌<◌, arith, length}
use Rattle.steering.specs.Answers.{Found}
use Rattle.steering.specs.Reading.{read_at}
use Rattle.steering.specs.declared.records.Record.{Record}
use Rattle.steering.proofs.Promises.{found_within}

module _ (table : List ℕ) (place : ℕ) (record-read : Record) (next : ℕ) (read : Found record-read next ≡ read_at table place) where
  within : (place < next) × (next ≤ length table)
  within = found_within table place record-read next read

  pub goes_on : place < next
  goes_on = within.0

  pub in_table : next ≤ length table
  in_table = within.1

  pub less_left : length table - next < length table - place
  less_left = omega (arith, within.0, within.1)
