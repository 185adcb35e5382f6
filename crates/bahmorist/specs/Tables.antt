-- What a reading at a place comes to, as numbers, for C. Assumes nothing.
use Rattle.std.specs.Prelude.{ℕ}
use Rattle.steering.specs.Answers.{End, Found, Reading, Refused}
use Rattle.steering.specs.Records.{kind_of}

-- the record's kind byte; 0 at the end and with a refusal
abbrev pub kind_read : Reading → ℕ
kind_read (Found r next) = kind_of r
kind_read End = 0
kind_read (Refused number place) = 0

-- the place behind the record; at the end the place that was asked for; the place that a refusal returns
abbrev pub next_read : ℕ → Reading → ℕ
next_read asked (Found r next) = next
next_read asked End = asked
next_read asked (Refused number place) = place
