-- A text, line by line, and the room that its records are put into. Assumes nothing.
use mathlib.Core.Path.{◌≡◌, ◌∙◌, ap, refl, sym}
use mathlib.Core.Bool.{Bool, true, false, cond, not, ◌&&◌}
use mathlib.Core.List.{List, [], ◌∷◌, ◌++◌}
use Prim.Native.Nat.{ℕ, suc, ◌+◌, ◌-◌, ◌<◌, ◌≤◌}
use native.Mathlib.Numerals.{add-one}
use native.Mathlib.Omega.{arith}
use borrow.Author.Tests.{eq-eqb, eqb-false, eqb-true, leb-false, leb-true, ne_eqb}
use lib.Dec.{eqb, leb}
use lib.ListN.{drop, get_or, length, length-append, length-drop, take}
use lib.Seq.{drop-cons, drop-length, get_or-drop, length-take-le, take_at, take-suc}
use Rattle.std.specs.Prelude.{Err, Ok}
use Rattle.std.specs.declared.result.Result.{Result}
use Rattle.steering.specs.Answers.{End, Found, Reading, Refused, Written, write_number}
use Rattle.steering.specs.Reading.{read_at}
use Rattle.steering.specs.Records.{Fits, body_of, kind_of}
use Rattle.steering.specs.Writing.{put_at, write_answer, write_leaves}
use Rattle.steering.specs.declared.records.Record.{Record as TableRecord}
use Rattle.steering.specs.declared.refusals.WriteRefusal.{WriteRefusal}
use Rattle.steering.specs.declared.refusals.WriteRefusal.TheVariants.{BodyLength, HighAddress, ShortRoom, UnknownKind}
use Rattle.steering.proofs.Promises.{short_write}
use Rattle.steering.proofs.Theorems.{a_record_is_what_stands_there, a_record_that_fits_is_written}
use Rattle.write_table.specs.declared.line.Line.{Line}
use Rattle.write_table.specs.declared.line.Line.TheVariants.{Count, Record, Unreadable}
use Rattle.write_table.specs.declared.text.BadLine.{BadLine}
use Rattle.write_table.specs.declared.text.Step.{Step}
use Rattle.write_table.specs.declared.text.Step.TheVariants.{More, Over}
use Rattle.write_table.specs.Hexadecimal.{is_hex, pairs_of}
use Rattle.write_table.specs.Line.{alone, count_line, digits_in, hex_behind, is_framed, line_of, only_record, record_behind, record_in, same_of}
use Rattle.write_table.specs.Step.{bad_at, step_leaves, step_of}
use Rattle.write_table.specs.Text.{Text, bad_line, bytes_made, go_on, is_nil, made_of, text_from, text_of}
use Rattle.write_table.proofs.Laws.Hexadecimal.{by as either_case, pairs_bytes}

-- ---- the record of a line fits its fields

-- of two lines that a test picks from, of which the second is no record
picked : (t : Bool) (a : Line) (r : TableRecord) → Record r ≡ cond t a Unreadable → (t ≡ true) × (Record r ≡ a)
picked true a r e = (refl, e)
picked false a r e = let z : ◌≡◌ {A = ℕ} 0 1 = cc in absurd (omega arith)

alone_fits : (bytes : List ℕ) (r : TableRecord) → ((k : ℕ) → get_or bytes k 0 < 256) → Record r ≡ alone bytes → Fits r
unfolding alone
alone_fits bytes r b e = by (read_at bytes 0) refl e
  where
    by : (x : Reading) → x ≡ read_at bytes 0 → Record r ≡ only_record (length bytes) x → Fits r
    by (Found q next) f g =
        let p = (picked (eqb next (length bytes)) (Record q) r g).1 in
        let same : r ≡ q = cc in
        rw same (a_record_is_what_stands_there bytes 0 next q b f).2
    by End f g = let z : ◌≡◌ {A = ℕ} 0 1 = cc in absurd (omega arith)
    by (Refused number place) f g = let z : ◌≡◌ {A = ℕ} 0 1 = cc in absurd (omega arith)

pub line_fits : (count : ℕ) (line : List ℕ) (x : Line) (r : TableRecord) → x ≡ line_of count line → x ≡ Record r → Fits r
unfolding line_of record_in record_behind
line_fits count line x r e f = by (same_of line (count_line count)) (sym f ∙ e)
  where
    by : (t : Bool) → Record r ≡ cond t Count (record_in line) → Fits r
    by true g = let z : ◌≡◌ {A = ℕ} 0 1 = cc in absurd (omega arith)
    by false g =
        let at = digits_in line in
        let behind = (picked (is_framed line at) (record_behind line at) r g).1 in
        let hex = picked (is_hex (hex_behind line at)) (alone (pairs_of (hex_behind line at))) r behind in
        alone_fits (pairs_of (hex_behind line at)) r (pairs_bytes (hex_behind line at) hex.0) hex.1

-- ---- one record

numbered : (refusal : WriteRefusal) → write_number refusal ≡ 0 → ⊥
numbered ShortRoom e = omega (arith, e)
numbered UnknownKind e = omega (arith, e)
numbered BodyLength e = omega (arith, e)
numbered HighAddress e = omega (arith, e)

module _ (r : TableRecord) (f : Fits r) (room : List ℕ) (l : length room ≡ 4096) (size : ℕ) where
  finds_room : leb (size + suc (length (body_of r))) 4096 ≡ true
      → (write_answer (length room) size r ≡ record { refusal = 0; next = size + suc (length (body_of r)) })
      × (write_leaves room size r ≡ put_at room size (kind_of r ∷ body_of r))
  finds_room t =
      let W = a_record_that_fits_is_written room size r f (omega (arith, l, leb-true (size + suc (length (body_of r))) 4096 t)) in
      let n : size + 1 + length (body_of r) ≡ size + suc (length (body_of r)) = omega arith in
      (W.0 ∙ ap (λ (k : ℕ). record { refusal = 0; next = k }) n, W.1)

  finds_none : leb (size + suc (length (body_of r))) 4096 ≡ false
      → (write_answer (length room) size r ≡ record { refusal = 5; next = 0 }) × (write_leaves room size r ≡ room)
  finds_none t = short_write room size r (omega (arith, l, leb-false (size + suc (length (body_of r))) 4096 t))

  -- what the library wrote
  module _ (next : ℕ) (e : ◌≡◌ {A = Written} (record { refusal = 0; next = next }) (write_answer (length room) size r)) where
    some_room : leb (size + suc (length (body_of r))) 4096 ≡ true
    some_room =
        either_case (leb (size + suc (length (body_of r))) 4096)
        (λ p. p)
        (λ p. absurd (omega (arith, ap (λ (w : Written). w.refusal) (e ∙ (finds_none p).0))))

    pub record_taken : (count : ℕ) → Ok (More next) ≡ step_of (Record r) count size false
    record_taken count = rw some_room (ap (λ (w : Written). Ok (More w.next)) (e ∙ (finds_room some_room).0))

    pub record_put : (after : List ℕ) → after ≡ write_leaves room size r → after ≡ step_leaves (Record r) size room
    record_put after q = q ∙ (finds_room some_room).1 ∙ rw some_room

  -- and what it refused
  module _ (refusal : WriteRefusal) (e : ◌≡◌ {A = Written} (record { refusal = write_number refusal; next = 0 }) (write_answer (length room) size r)) where
    no_room : leb (size + suc (length (body_of r))) 4096 ≡ false
    no_room =
        either_case (leb (size + suc (length (body_of r))) 4096)
        (λ p. absurd (numbered refusal (ap (λ (w : Written). w.refusal) (e ∙ (finds_room p).0))))
        (λ p. p)

    pub record_refused : (count : ℕ) → bad_at (count + 1) ≡ step_of (Record r) count size false
    record_refused count = rw no_room

    pub record_left : (after : List ℕ) → after ≡ write_leaves room size r → after ≡ step_leaves (Record r) size room
    record_left after q = q ∙ (finds_none no_room).1 ∙ rw no_room

-- ---- one line

module _ (x l q : Line) (is : x ≡ q) (e : x ≡ l) where
  pub step_is : (count size : ℕ) (last : Bool) (s : Result Step BadLine) → s ≡ step_of q count size last → s ≡ step_of l count size last
  step_is count size last s p = p ∙ ap (λ (y : Line). step_of y count size last) (sym is ∙ e)

  pub leaves_is : (size : ℕ) (room after : List ℕ) → after ≡ step_leaves q size room → after ≡ step_leaves l size room
  leaves_is size room after p = p ∙ ap (λ (y : Line). step_leaves y size room) (sym is ∙ e)

-- a record's step does not look at what follows
pub step_of_record : (x l : Line) (r : TableRecord) → x ≡ Record r → x ≡ l → (count size : ℕ) (last : Bool) (s : Result Step BadLine)
    → s ≡ step_of (Record r) count size false → s ≡ step_of l count size last
step_of_record x l r is e count size last s p = step_is x l (Record r) is e count size last s p

-- what a step says of the rest of the text, and of the room
module _ (room : List ℕ) (long : length room ≡ 4096) (size : ℕ) (within : size ≤ 4096) (count : ℕ) (last : Bool) (rest : List ℕ → Text) where
  so_many : length (take size room) ≡ size
  so_many = length-take-le size room (omega arith)

  module _ (r : TableRecord) where
    same_test : leb (length (take size room) + suc (length (body_of r))) 4096 ≡ leb (size + suc (length (body_of r))) 4096
    same_test = ap (λ (k : ℕ). leb (k + suc (length (body_of r))) 4096) so_many

    longer : leb (size + suc (length (body_of r))) 4096 ≡ true
        → take (size + suc (length (body_of r))) (put_at room size (kind_of r ∷ body_of r)) ≡ take size room ++ (kind_of r ∷ body_of r)
    longer t =
        take_at (take size room ++ (kind_of r ∷ body_of r)) (drop (size + suc (length (body_of r))) room) (size + suc (length (body_of r)))
        (omega (arith, so_many, length-append (take size room) (kind_of r ∷ body_of r)))

    as_long : leb (size + suc (length (body_of r))) 4096 ≡ true → length (put_at room size (kind_of r ∷ body_of r)) ≡ 4096
    as_long t =
        omega (
          arith,
          leb-true (size + suc (length (body_of r))) 4096 t,
          so_many,
          length-append (take size room ++ (kind_of r ∷ body_of r)) (drop (size + suc (length (body_of r))) room),
          length-append (take size room) (kind_of r ∷ body_of r),
          length-drop (size + suc (length (body_of r))) room,
        )

  -- where it is over
  over : (l : Line) (n : ℕ) → step_of l count size last ≡ Ok (Over n)
      → (Ok n ≡ made_of (go_on l count (take size room) last rest)) × (take n (step_leaves l size room) ≡ bytes_made (go_on l count (take size room) last rest))
  over (Record r) n y = absurd (by (leb (size + suc (length (body_of r))) 4096) y)
    where
      by : (t : Bool) → cond t (Ok (More (size + suc (length (body_of r))))) (bad_at (count + 1)) ≡ Ok (Over n) → ⊥
      by true e = let z : ◌≡◌ {A = ℕ} 0 1 = cc in omega arith
      by false e = let z : ◌≡◌ {A = ℕ} 0 1 = cc in omega arith
  over Count n y = by last refl y
    where
      by : (t : Bool) → last ≡ t → cond t (Ok (Over size)) (bad_at (count + 2)) ≡ Ok (Over n)
          → (Ok n ≡ made_of (go_on Count count (take size room) last rest))
          × (take n (step_leaves Count size room) ≡ bytes_made (go_on Count count (take size room) last rest))
      by true p e = let same : size ≡ n = cc in (rw p (ap Ok (sym (so_many ∙ same))), rw p (ap (λ (k : ℕ). take k room) (sym same)))
      by false p e = let z : ◌≡◌ {A = ℕ} 0 1 = cc in absurd (omega arith)
  over Unreadable n y = let z : ◌≡◌ {A = ℕ} 0 1 = cc in absurd (omega arith)

  -- where a line is bad
  bad : (l : Line) (b : BadLine) → step_of l count size last ≡ Err b → Err b ≡ made_of (go_on l count (take size room) last rest)
  bad (Record r) b y = by (leb (size + suc (length (body_of r))) 4096) refl y
    where
      by : (t : Bool) → leb (size + suc (length (body_of r))) 4096 ≡ t
          → cond t (Ok (More (size + suc (length (body_of r))))) (bad_at (count + 1)) ≡ Err b
          → Err b ≡ made_of (go_on (Record r) count (take size room) last rest)
      by true p e = let z : ◌≡◌ {A = ℕ} 0 1 = cc in absurd (omega arith)
      by false p e = let same : ◌≡◌ {A = BadLine} (record { number = count + 1 }) b = cc in rw (same_test r, p) (ap Err (sym same))
  bad Count b y = by last refl y
    where
      by : (t : Bool) → last ≡ t → cond t (Ok (Over size)) (bad_at (count + 2)) ≡ Err b
          → Err b ≡ made_of (go_on Count count (take size room) last rest)
      by true p e = let z : ◌≡◌ {A = ℕ} 0 1 = cc in absurd (omega arith)
      by false p e = let same : ◌≡◌ {A = BadLine} (record { number = count + 2 }) b = cc in rw p (ap Err (sym same))
  bad Unreadable b y = let same : ◌≡◌ {A = BadLine} (record { number = count + 1 }) b = cc in ap Err (sym same)

  -- where it goes on
  on : (l : Line) (n : ℕ) → step_of l count size last ≡ Ok (More n)
      → (go_on l count (take size room) last rest ≡ rest (take n (step_leaves l size room)))
      × (n ≤ 4096)
      × (length (step_leaves l size room) ≡ 4096)
  on (Record r) n y = by (leb (size + suc (length (body_of r))) 4096) refl y
    where
      by : (t : Bool) → leb (size + suc (length (body_of r))) 4096 ≡ t
          → cond t (Ok (More (size + suc (length (body_of r))))) (bad_at (count + 1)) ≡ Ok (More n)
          → (go_on (Record r) count (take size room) last rest ≡ rest (take n (step_leaves (Record r) size room)))
          × (n ≤ 4096)
          × (length (step_leaves (Record r) size room) ≡ 4096)
      by true p e =
          let same : size + suc (length (body_of r)) ≡ n = cc in (
            rw (same_test r, p) (ap rest (sym (longer r p) ∙ ap (λ (k : ℕ). take k (put_at room size (kind_of r ∷ body_of r))) same)),
            omega (arith, same, leb-true (size + suc (length (body_of r))) 4096 p),
            rw p (as_long r p),
          )
      by false p e = let z : ◌≡◌ {A = ℕ} 0 1 = cc in absurd (omega arith)
  on Count n y = absurd (by last y)
    where
      by : (t : Bool) → cond t (Ok (Over size)) (bad_at (count + 2)) ≡ Ok (More n) → ⊥
      by true e = let z : ◌≡◌ {A = ℕ} 0 1 = cc in omega arith
      by false e = let z : ◌≡◌ {A = ℕ} 0 1 = cc in omega arith
  on Unreadable n y = let z : ◌≡◌ {A = ℕ} 0 1 = cc in absurd (omega arith)

-- ---- the loop over the bytes of a text

either_way : (more t : Bool) → (t && not more) ≡ cond more false t
either_way true true = refl
either_way true false = refl
either_way false true = refl
either_way false false = refl

-- before byte i, behind a line that began at `from`, count records and their bytes
module _ (more : Bool) (text : List ℕ) (i from count : ℕ) (bytes : List ℕ)
    (so_far : text_of more text ≡ text_from more (take (i - from) (drop from text)) count bytes (drop i text)) where
  module _ (h : i < length text) where
    here : drop i text ≡ get_or text i 0 ∷ drop (i + 1) text
    here = drop-cons text i 0 h ∙ ap (λ (k : ℕ). get_or text i 0 ∷ drop k text) (sym (add-one i))

    -- a byte of the line
    pub one_byte : from ≤ i → (get_or text i 0 ≡ 10 → ⊥)
        → text_of more text ≡ text_from more (take (i + 1 - from) (drop from text)) count bytes (drop (i + 1) text)
    unfolding text_from
    one_byte b d = so_far ∙ rw (here, ne_eqb (get_or text i 0) 10 d) (ap (λ (u : List ℕ). text_from more u count bytes (drop (i + 1) text)) (sym longer_line))
      where
        inside : i - from < length (drop from text)
        inside = omega (arith, h, b, length-drop from text)

        byte : get_or (drop from text) (i - from) 0 ≡ get_or text i 0
        byte = let k : from + (i - from) ≡ i = omega (arith, b) in get_or-drop from text (i - from) 0 ∙ ap (λ (j : ℕ). get_or text j 0) k

        longer_line : take (i + 1 - from) (drop from text) ≡ take (i - from) (drop from text) ++ (get_or text i 0 ∷ [])
        longer_line =
            let k : i + 1 - from ≡ suc (i - from) = omega (arith, b) in
            ap (λ (j : ℕ). take j (drop from text)) k
            ∙ take-suc (drop from text) (i - from) 0 inside
            ∙ ap (λ (x : ℕ). take (i - from) (drop from text) ++ (x ∷ [])) byte

    -- the line's end
    module _ (e : get_or text i 0 ≡ 10) (last : Bool) (q : last ≡ cond more false (eqb (i + 1) (length text))) where
      nothing_left : is_nil (drop (i + 1) text) ≡ eqb (i + 1) (length text)
      nothing_left = by (eqb (i + 1) (length text)) refl
        where
          by : (t : Bool) → eqb (i + 1) (length text) ≡ t → is_nil (drop (i + 1) text) ≡ eqb (i + 1) (length text)
          by true p =
              let end : i + 1 ≡ length text = eqb-true (i + 1) (length text) p in
              ap (λ (k : ℕ). is_nil (drop k text)) end ∙ ap is_nil (drop-length text) ∙ sym p
          by false p =
              let more_left : i + 1 < length text = omega (arith, h, eqb-false (i + 1) (length text) p) in
              ap is_nil (drop-cons text (i + 1) 0 more_left) ∙ sym p

      last_is : (is_nil (drop (i + 1) text) && not more) ≡ last
      last_is = ap (λ (t : Bool). t && not more) nothing_left ∙ either_way more (eqb (i + 1) (length text)) ∙ sym q

      abbrev then : List ℕ → Text
      then longer = text_from more [] (count + 1) longer (drop (i + 1) text)

      line_ends : text_of more text ≡ go_on (line_of count (take (i - from) (drop from text))) count bytes last then
      unfolding text_from
      line_ends =
          so_far
          ∙ rw (here, eq-eqb (get_or text i 0) 10 e)
          (ap (λ (b : Bool). go_on (line_of count (take (i - from) (drop from text))) count bytes b then) last_is)

  module _ (h : i ≤ length text) (g : length text ≤ i) where
    text_ends : text_of more text ≡ bad_line (count + 1)
    unfolding text_from
    text_ends = let end : i ≡ length text = omega arith in so_far ∙ rw (end, drop-length text)

    pub bad_made : Err (record { number = count + 1 }) ≡ made_of (text_of more text)
    bad_made = rw text_ends

-- the same where the bytes are those at the front of the room, and the code took a step
module _ (more : Bool) (text : List ℕ) (i from count size : ℕ) (room : List ℕ)
    (I : (from ≤ i)
    × (count ≤ from)
    × (size ≤ 4096)
    × (length room ≡ 4096)
    × (text_of more text ≡ text_from more (take (i - from) (drop from text)) count (take size room) (drop i text)))
    (h : i < length text) (e : get_or text i 0 ≡ 10) (last : Bool) (q : last ≡ cond more false (eqb (i + 1) (length text)))
    (s : Result Step BadLine) (p : s ≡ step_of (line_of count (take (i - from) (drop from text))) count size last) (after : List ℕ)
    (a : after ≡ step_leaves (line_of count (take (i - from) (drop from text))) size room) where
  within : size ≤ 4096
  within = I.2

  long : length room ≡ 4096
  long = I.3

  abbrev line : Line
  line = line_of count (take (i - from) (drop from text))

  abbrev rest : List ℕ → Text
  rest = then more text i from count (take size room) I.4 h e last q

  ends : text_of more text ≡ go_on line count (take size room) last rest
  ends = line_ends more text i from count (take size room) I.4 h e last q

  module _ (longer : ℕ) (y : s ≡ Ok (Over longer)) where
    is_over : (Ok longer ≡ made_of (go_on line count (take size room) last rest))
        × (take longer (step_leaves line size room) ≡ bytes_made (go_on line count (take size room) last rest))
    is_over = over room long size within count last rest line longer (sym p ∙ y)

    pub made_is : Ok longer ≡ made_of (text_of more text)
    made_is = rw ends is_over.0

    pub left_is : take longer after ≡ bytes_made (text_of more text)
    left_is = rw (ends, a) is_over.1

  pub bad_is : (b : BadLine) → s ≡ Err b → Err b ≡ made_of (text_of more text)
  bad_is b y = rw ends (bad room long size within count last rest line b (sym p ∙ y))

  module _ (longer : ℕ) (y : s ≡ Ok (More longer)) where
    goes : (go_on line count (take size room) last rest ≡ rest (take longer (step_leaves line size room)))
        × (longer ≤ 4096)
        × (length (step_leaves line size room) ≡ 4096)
    goes = on room long size within count last rest line longer (sym p ∙ y)

    pub next_line : text_of more text ≡ text_from more (take (i + 1 - (i + 1)) (drop (i + 1) text)) (count + 1) (take longer after) (drop (i + 1) text)
    next_line =
        let none : i + 1 - (i + 1) ≡ 0 = omega arith in
        ends ∙ goes.0 ∙ rw (none, a)

    pub next_size : longer ≤ 4096
    next_size = goes.1

    pub next_long : length after ≡ 4096
    next_long = rw a goes.2
