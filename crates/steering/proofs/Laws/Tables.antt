-- A record that was found is the bytes that stand at its place. Assumes nothing.
use mathlib.Core.Path.{◌≡◌, sym, ap, ap₂, ◌∙◌}
use mathlib.Core.List.{List, ◌∷◌, ◌++◌}
use Prim.Native.Nat.{ℕ, ◌+◌, ◌-◌, ◌<◌}
use native.Mathlib.Numerals.{add-one}
use native.Mathlib.Omega.{arith}
use lib.ListN.{drop, get_or, length, length-drop, take, take-append-drop}
use lib.Seq.{drop-cons, drop-drop, length-take-le}
use Rattle.steering.specs.Answers.{Found}
use Rattle.steering.specs.Numbers.{AreBytes}
use Rattle.steering.specs.Reading.{read_at}
use Rattle.steering.specs.Records.{body_length, body_of, kind_of}
use Rattle.steering.specs.declared.records.Record.{Record}
use Rattle.steering.proofs.Laws.Numbers.{bytes_drop, bytes_take}
use Rattle.steering.proofs.Laws.Reading.{found}
use Rattle.steering.proofs.Laws.Records.{Has, read_back}

module _ (t : List ℕ) (b : AreBytes t) where
  -- the record that was found has the kind byte and the body that stand there
  pub there : (place next : ℕ) (r : Record) → Found r next ≡ read_at t place → Has r (get_or t place 0) (take (next - (place + 1)) (drop (place + 1) t))
  there place next r e =
      let H = found t place r next e in
      let kind = get_or t place 0 in
      let n : next - (place + 1) ≡ body_length kind = omega (arith, H.next_is) in
      let body = take (body_length kind) (drop (place + 1) t) in
      let long : length body ≡ body_length kind =
      length-take-le (body_length kind) (drop (place + 1) t) (omega (arith, length-drop (place + 1) t, H.in_table)) in
      let R = read_back kind body long (bytes_take (body_length kind) (drop (place + 1) t) (bytes_drop (place + 1) t b)) H.known in
      rw (n, H.record_is) R

  -- the bytes from its place on are its own, and then those from the next place on
  pub begins : (place next : ℕ) (r : Record) → Found r next ≡ read_at t place → drop place t ≡ kind_of r ∷ body_of r ++ drop next t
  begins place next r e =
      let H = found t place r next e in
      let T = there place next r e in
      let d = drop (place + 1) t in
      let n : place + 1 + (next - (place + 1)) ≡ next = omega (arith, H.next_is) in
      let h : place < length t = omega (arith, H.in_table) in
      drop-cons t place 0 h
      ∙ ap₂ (λ (k : ℕ) (l : List ℕ). k ∷ l) (sym T.kind_is)
      (ap (λ (j : ℕ). drop j t) (sym (add-one place))
      ∙ sym (take-append-drop (next - (place + 1)) d)
      ∙ ap₂ (λ (x y : List ℕ). x ++ y) (sym T.body_is) (drop-drop (next - (place + 1)) (place + 1) t ∙ ap (λ (j : ℕ). drop j t) n))
