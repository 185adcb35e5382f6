-- Steps of a parse, and the count of its records. Assumes nothing.
use mathlib.Core.Path.{◌≡◌, refl, sym, ap, ◌∙◌}
use mathlib.Core.List.{List}
use Prim.Native.Nat.{ℕ, suc, ◌+◌, ◌-◌, ◌≤◌}
use native.Mathlib.Nat.{add-zero}
use native.Mathlib.Omega.{arith}
use lib.ListN.{length}
use Rattle.steering.specs.Answers.{Counted, End, Found, Reading, Refused}
use Rattle.steering.specs.Parsing.{Parsed, accepted, count_of, go_on, in_front, parse, parse_from, refused}
use Rattle.steering.specs.Reading.{read_at}
use Rattle.steering.specs.declared.records.Record.{Record}
use Rattle.steering.proofs.Laws.Reading.{found}

-- the count where so many records stand before
abbrev count_on : ℕ → Parsed → Counted
count_on k (accepted rs) = record { refusal = 0; place = 0; count = k + length rs }
count_on k (refused number place) = record { refusal = number; place = place; count = 0 }

count_more : (k : ℕ) (r : Record) (q : Parsed) → count_on k (in_front r q) ≡ count_on (k + 1) q
count_more k r (accepted rs) = let e : k + suc (length rs) ≡ k + 1 + length rs = omega arith in ap (λ (n : ℕ). record { refusal = 0; place = 0; count = n }) e
count_more k r (refused number place) = refl

pub parse_step : (t : List ℕ) (at n : ℕ) (x : Reading) → x ≡ read_at t at → parse_from (suc n) t at ≡ go_on x (parse_from n t)
unfolding parse_from
parse_step t at n x e = ap (λ (y : Reading). go_on y (parse_from n t)) (sym e)

-- k records stand before a place, and the count of the table is theirs and that of the rest
pub record Counting (t : List ℕ) (at k : ℕ) : Type 0 where
  pub within : at ≤ length t
  pub few : k ≤ at
  pub leads : count_of (parse t) ≡ count_on k (parse_from (suc (length t) - k) t at)

-- a turn, by what was read at the place
module _ (t : List ℕ) (at k : ℕ) (C : Counting t at k) where
  step : (x : Reading) → x ≡ read_at t at → count_of (parse t) ≡ count_on k (go_on x (parse_from (length t - k) t))
  step x e =
      let left : suc (length t) - k ≡ suc (length t - k) = omega arith in
      C.leads ∙ ap (λ (n : ℕ). count_on k (parse_from n t at)) left ∙ ap (count_on k) (parse_step t at (length t - k) x e)

  pub count_next : (r : Record) (next : ℕ) → Found r next ≡ read_at t at → Counting t next (k + 1)
  count_next r next e =
      let H = found t at r next e in
      let g : length t - k ≡ suc (length t) - (k + 1) = omega arith in
      record {
        within = omega arith;
        few = omega arith;
        leads =
            step (Found r next) e
            ∙ count_more k r (parse_from (length t - k) t next)
            ∙ ap (λ (n : ℕ). count_on (k + 1) (parse_from n t next)) g;
      }

  pub count_end : End ≡ read_at t at → record { refusal = 0; place = 0; count = k } ≡ count_of (parse t)
  count_end e = sym (step End e ∙ ap (λ (n : ℕ). record { refusal = 0; place = 0; count = n }) (add-zero k))

  pub count_stop : (number place : ℕ) → Refused number place ≡ read_at t at → record { refusal = number; place = place; count = 0 } ≡ count_of (parse t)
  count_stop number place e = sym (step (Refused number place) e)
