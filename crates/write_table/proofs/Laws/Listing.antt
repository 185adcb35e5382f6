-- The lister's lines are read as its records. Assumes nothing.
use mathlib.Core.Path.{◌≡◌, ◌∙◌, ap, ap₂, refl, subst, sym}
use mathlib.Core.Bool.{Bool, true, false, not, ◌&&◌}
use mathlib.Core.List.{List, [], ◌∷◌, ◌++◌, append_assoc, append-nil}
use Prim.Native.Nat.{ℕ, zero, suc, ◌+◌, ◌*◌, ◌-◌, ◌/◌, ◌%◌, ◌<◌, ◌≤◌}
use native.Mathlib.Omega.{arith}
use borrow.Author.Tests.{eq-eqb, le-leb, le-ltb, leb-true, lt-leb, ltb-false, ltb-true, ne_eqb}
use lib.Dec.{eqb, leb, ltb}
use lib.ListN.{drop, get_or, length, length-append, take}
use lib.Seq.{drop_at, get_or-append-add, get_or_at}
use Rattle.digits.proofs.Promises as digits
use Rattle.lines.specs.Decimal.{decimal_of}
use Rattle.lines.specs.Hexadecimal.{digit_of, digits_of}
use Rattle.lines.specs.Lines.{spread}
use Rattle.lines.proofs.Promises.{decimal_digits, few_digits, some_digit, spread_cons, spread_nil}
use Rattle.std.specs.Prelude.{Ok}
use Rattle.steering.specs.Numbers.{AreBytes}
use Rattle.steering.specs.Parsing.{AllFit, table_of}
use Rattle.steering.specs.Records.{Fits, body_of, kind_of}
use Rattle.steering.specs.declared.records.Record.{Record as TableRecord}
use Rattle.steering.proofs.Promises.{alone_is_read, least_body, record_bytes}
use Rattle.write_table.specs.declared.line.Line.{Line}
use Rattle.write_table.specs.declared.line.Line.TheVariants.{Count, Record, Unreadable}
use Rattle.write_table.specs.Hexadecimal.{is_hex, pairs_of, value_of}
use Rattle.write_table.specs.Line.{alone, count_line, digits_in, hex_behind, is_framed, line_of, record_behind, record_in, same_of}
use Rattle.write_table.specs.Listing.{lines_from, listing_of, record_line}
use Rattle.write_table.specs.Text.{Text, bad_line, go_on, is_nil, made_of, table, text_from, text_of}
use Rattle.write_table.proofs.Laws.Hexadecimal.{hex_more}
use Rattle.write_table.proofs.Laws.Line.{same_self}
use Rattle.write_table.proofs.Laws.Text.{line_fits}

-- ---- digits and their values

value_of_digit : (v : ℕ) → v < 16 → value_of (digit_of v) ≡ v
unfolding value_of
value_of_digit v h = by (ltb v 10) refl
  where
    by : (t : Bool) → ltb v 10 ≡ t → value_of (digit_of v) ≡ v
    by true p =
        let small = ltb-true v 10 p in
        rw (p, le-leb (48 + v) 57 (omega arith), digits.digit (48 + v) (omega arith) (omega arith)) (omega arith)
    by false p =
        let large = ltb-false v 10 p in
        rw (p, lt-leb (87 + v) 57 (omega arith), le-ltb (87 + v) 97 (omega arith), digits.small (87 + v) (omega arith) (omega arith)) (omega arith)

-- the digits of bytes are pairs of digits, and their bytes are these
pairs_of_bytes : (bytes : List ℕ) → AreBytes bytes → (is_hex (spread digits_of bytes) ≡ true) × (pairs_of (spread digits_of bytes) ≡ bytes)
unfolding is_hex pairs_of
pairs_of_bytes [] b = rw (spread_nil digits_of) (refl, refl)
pairs_of_bytes (x ∷ xs) b =
    let again = pairs_of_bytes xs (λ k. b (suc k)) in
    let byte : x < 256 = b zero in
    let high = value_of_digit (x / 16) (omega arith) in
    let low = value_of_digit (x % 16) (omega arith) in
    let whole : 16 * (x / 16) + x % 16 ≡ x = omega arith in
    rw (spread_cons digits_of x xs) (
      hex_more (digit_of (x / 16)) (digit_of (x % 16)) (spread digits_of xs) (omega (arith, high)) (omega (arith, low)) ∙ again.0,
      ap₂ (λ (y : ℕ) (ys : List ℕ). y ∷ ys) (ap₂ (λ (p q : ℕ). 16 * p + q) high low ∙ whole) again.1,
    )

-- ---- a record's line

abbrev pub AreDigits : List ℕ → Type 0
AreDigits l = (k : ℕ) → k < length l → (48 ≤ get_or l k 0) × (get_or l k 0 ≤ 57)

digits_front : (place rest : List ℕ) → AreDigits place
    → digits_in (place ++ (32 ∷ rest)) ≡ length place
unfolding digits_in
digits_front [] rest d = refl
digits_front (x ∷ xs) rest d =
    let first = d zero (omega arith) in
    rw (le-leb 48 x first.0, le-leb x 57 first.1) (ap suc (digits_front xs rest (λ k h. d (suc k) (omega arith))))

other_line : (place rest : List ℕ) (count : ℕ) → 1 ≤ length place → AreDigits place
    → same_of (place ++ rest) (count_line count) ≡ false
unfolding same_of
other_line [] rest count h d = absurd (omega arith)
other_line (x ∷ xs) rest count h d = let first = d zero (omega arith) in rw (ne_eqb x 114 (λ e. omega (arith, first.1, e)))

module _ (place : List ℕ) (d : AreDigits place) (some : 1 ≤ length place) (r : TableRecord) (f : Fits r) where
  high : ℕ
  high = digit_of (kind_of r / 16)

  low : ℕ
  low = digit_of (kind_of r % 16)

  body : List ℕ
  body = spread digits_of (body_of r)

  line : List ℕ
  line = place ++ (32 ∷ high ∷ low ∷ 32 ∷ body)

  line_is : record_line place r ≡ line
  unfolding line high low body
  line_is =
      ap (λ (l : List ℕ). place ++ (32 ∷ l ++ (32 ∷ spread digits_of (body_of r))))
      (spread_cons digits_of (kind_of r) [] ∙ ap (λ (l : List ℕ). digits_of (kind_of r) ++ l) (spread_nil digits_of))

  framed : is_framed line (length place) ≡ true
  unfolding is_framed line
  framed =
      let rest : List ℕ = 32 ∷ high ∷ low ∷ 32 ∷ body in
      rw (
        ne_eqb (length place) 0 (λ e. omega (arith, some, e)),
        le-ltb (length (place ++ rest) - length place) 4 (omega (arith, length-append place rest)),
        get_or_at place 32 (high ∷ low ∷ 32 ∷ body) 0 (length place) refl,
        get_or-append-add place rest 3 0,
      )

  hex : hex_behind line (length place) ≡ spread digits_of (kind_of r ∷ body_of r)
  unfolding line high low body
  hex =
      let one : length (place ++ (32 ∷ [])) ≡ length place + 1 = omega (arith, length-append place (32 ∷ [])) in
      let four : length (place ++ (32 ∷ high ∷ low ∷ 32 ∷ [])) ≡ length place + 4 = omega (arith, length-append place (32 ∷ high ∷ low ∷ 32 ∷ [])) in
      ap₂ (λ (a b : List ℕ). take 2 a ++ b)
      (ap (drop (length place + 1)) (sym (append_assoc place (32 ∷ []) (high ∷ low ∷ 32 ∷ body)))
      ∙ drop_at (place ++ (32 ∷ [])) (high ∷ low ∷ 32 ∷ body) (length place + 1) one)
      (ap (drop (length place + 4)) (sym (append_assoc place (32 ∷ high ∷ low ∷ 32 ∷ []) body))
      ∙ drop_at (place ++ (32 ∷ high ∷ low ∷ 32 ∷ [])) body (length place + 4) four)
      ∙ sym (spread_cons digits_of (kind_of r) (body_of r))

  itself : alone (kind_of r ∷ body_of r) ≡ Record r
  unfolding alone
  itself = rw (alone_is_read r f, eq-eqb (suc (length (body_of r))) (suc (length (body_of r))) refl)

  pub record_line_is_read : (count : ℕ) → line_of count (record_line place r) ≡ Record r
  unfolding line_of record_in record_behind line
  record_line_is_read count =
      let P = pairs_of_bytes (kind_of r ∷ body_of r) (record_bytes r) in
      rw (
        line_is,
        other_line place (32 ∷ high ∷ low ∷ 32 ∷ body) count some d,
        digits_front place (high ∷ low ∷ 32 ∷ body) d,
        framed,
        hex,
        P.0,
        P.1,
        itself,
      )

-- ---- whole texts

-- no byte of a line is a line's end
abbrev NoEnd : List ℕ → Type 0
NoEnd [] = Unit {0}
NoEnd (x ∷ xs) = (x ≡ 10 → ⊥) × NoEnd xs

no_end_join : (xs ys : List ℕ) → NoEnd xs → NoEnd ys → NoEnd (xs ++ ys)
no_end_join [] ys p q = q
no_end_join (x ∷ xs) ys p q = (p.0, no_end_join xs ys p.1 q)

digits_no_end : (l : List ℕ) → AreDigits l → NoEnd l
digits_no_end [] d = tt
digits_no_end (x ∷ xs) d =
    let first = d zero (omega arith) in
    (λ e. omega (arith, first.0, e), digits_no_end xs (λ k h. d (suc k) (omega arith)))

digit_no_end : (v : ℕ) → digit_of v ≡ 10 → ⊥
digit_no_end v e = by (ltb v 10) refl
  where
    by : (t : Bool) → ltb v 10 ≡ t → ⊥
    by true p = let z : 48 + v ≡ 10 = sym (rw p) ∙ e in omega arith
    by false p = let z : 87 + v ≡ 10 = sym (rw p) ∙ e in omega arith

hex_no_end : (bytes : List ℕ) → NoEnd (spread digits_of bytes)
hex_no_end [] = rw (spread_nil digits_of) tt
hex_no_end (x ∷ xs) = rw (spread_cons digits_of x xs) (digit_no_end (x / 16), (digit_no_end (x % 16), hex_no_end xs))

record_no_end : (place : List ℕ) → AreDigits place → (r : TableRecord) → NoEnd (record_line place r)
record_no_end place d r =
    no_end_join place _ (digits_no_end place d)
    (λ e. omega (arith, e), no_end_join (spread digits_of (kind_of r ∷ [])) _ (hex_no_end (kind_of r ∷ [])) (λ e. omega (arith, e), hex_no_end (body_of r)))

-- a line is taken whole
through : (more : Bool) (line before : List ℕ) (count : ℕ) (bytes rest : List ℕ) → NoEnd line
    → text_from more before count bytes (line ++ (10 ∷ rest))
    ≡ go_on (line_of count (before ++ line)) count bytes (is_nil rest && not more) (λ longer. text_from more [] (count + 1) longer rest)
unfolding text_from
through more [] before count bytes rest e = rw (append-nil before)
through more (x ∷ line) before count bytes rest e =
    rw (ne_eqb x 10 e.0)
    (through more line (before ++ (x ∷ [])) count bytes rest e.1
    ∙ ap (λ (l : List ℕ). go_on (line_of count l) count bytes (is_nil rest && not more) (λ longer. text_from more [] (count + 1) longer rest))
    (append_assoc before (x ∷ []) line))

word_no_end : NoEnd (114 ∷ 101 ∷ 99 ∷ 111 ∷ 114 ∷ 100 ∷ 115 ∷ 32 ∷ [])
word_no_end = (
  λ e. omega (arith, e),
  (
    λ e. omega (arith, e),
    (
      λ e. omega (arith, e),
      (
        λ e. omega (arith, e),
        (
          λ e. omega (arith, e),
          (
            λ e. omega (arith, e),
            (λ e. omega (arith, e), (λ e. omega (arith, e), tt)),
          ),
        ),
      ),
    ),
  ),
)

count_no_end : (count : ℕ) → NoEnd (count_line count)
count_no_end count =
    no_end_join (114 ∷ 101 ∷ 99 ∷ 111 ∷ 114 ∷ 100 ∷ 115 ∷ 32 ∷ []) (decimal_of count) word_no_end
    (digits_no_end (decimal_of count) (decimal_digits count))

count_is_read : (count : ℕ) → line_of count (count_line count) ≡ Count
unfolding line_of
count_is_read count = rw (same_self (count_line count))

-- the lines of some records, behind others whose bytes are given
listed : (rs : List TableRecord) (place count : ℕ) (bytes : List ℕ) → AllFit rs → length bytes + length (table_of rs) ≤ 4096
    → text_from false [] count bytes (lines_from place count rs) ≡ table (bytes ++ table_of rs)
unfolding lines_from
listed [] place count bytes f h =
    through false (count_line count) [] count bytes [] (count_no_end count)
    ∙ rw (count_is_read count, append-nil bytes)
listed (r ∷ rs) place count bytes f h =
    let rest = lines_from (place + suc (length (body_of r))) (count + 1) rs in
    let fits : length bytes + suc (length (body_of r)) ≤ 4096 = omega (arith, h, length-append (body_of r) (table_of rs)) in
    let longer = length-append bytes (kind_of r ∷ body_of r) in
    through false (record_line (decimal_of place) r) [] count bytes rest (record_no_end (decimal_of place) (decimal_digits place) r)
    ∙ rw (
      record_line_is_read (decimal_of place) (decimal_digits place) (some_digit place) r f.0 count,
      le-leb (length bytes + suc (length (body_of r))) 4096 fits,
    )
    (listed rs (place + suc (length (body_of r))) (count + 1) (bytes ++ (kind_of r ∷ body_of r)) f.1
    (omega (arith, h, longer, length-append (body_of r) (table_of rs)))
    ∙ ap table (append_assoc bytes (kind_of r ∷ body_of r) (table_of rs)))

-- how long a listing is: a record of n bytes has at most 2 n + 23 bytes on its line, and n is 3 at least
hex_long : (bytes : List ℕ) → length (spread digits_of bytes) ≡ 2 * length bytes
hex_long [] = rw (spread_nil digits_of)
hex_long (x ∷ xs) = rw (spread_cons digits_of x xs) (omega (arith, hex_long xs))

lines_long : (rs : List TableRecord) (place count : ℕ) → length (lines_from place count rs) ≤ 10 * length (table_of rs) + 29
unfolding lines_from
lines_long [] place count = omega (arith, few_digits count, length-append (decimal_of count) (10 ∷ []))
lines_long (r ∷ rs) place count =
    let kind = spread digits_of (kind_of r ∷ []) in
    let body = spread digits_of (body_of r) in
    let rest = lines_from (place + suc (length (body_of r))) (count + 1) rs in
    omega (
      arith,
      lines_long rs (place + suc (length (body_of r))) (count + 1),
      length-append (record_line (decimal_of place) r) (10 ∷ rest),
      length-append (decimal_of place) (32 ∷ kind ++ (32 ∷ body)),
      length-append kind (32 ∷ body),
      hex_long (kind_of r ∷ []),
      hex_long (body_of r),
      few_digits place,
      least_body r,
      length-append (body_of r) (table_of rs),
    )

pub listing_becomes_its_table : (rs : List TableRecord) → AllFit rs → length (table_of rs) ≤ 4096
    → (text_of false (listing_of rs) ≡ table (table_of rs)) × (length (listing_of rs) ≤ 65536)
listing_becomes_its_table rs f h = (listed rs 0 0 [] f (omega (arith, h)), omega (arith, lines_long rs 0 0))

-- ---- what a text is made is a table of records

-- records whose numbers fit, in at most 4096 bytes
abbrev pub IsTable : List ℕ → Type 0
IsTable bytes = (rs : List TableRecord) × (bytes ≡ table_of rs) × AllFit rs × (length bytes ≤ 4096)

abbrev IsMade : Text → Type 0
IsMade (table bytes) = IsTable bytes
IsMade (bad_line n) = Unit {0}

table_join : (rs : List TableRecord) (r : TableRecord) → table_of rs ++ (kind_of r ∷ body_of r) ≡ table_of (rs ++ (r ∷ []))
table_join [] r = ap (λ (l : List ℕ). kind_of r ∷ l) (sym (append-nil (body_of r)))
table_join (q ∷ rs) r =
    ap (λ (l : List ℕ). kind_of q ∷ l)
    (append_assoc (body_of q) (table_of rs) (kind_of r ∷ body_of r) ∙ ap (λ (l : List ℕ). body_of q ++ l) (table_join rs r))

fit_join : (rs : List TableRecord) (r : TableRecord) → AllFit rs → Fits r → AllFit (rs ++ (r ∷ []))
fit_join [] r a f = (f, tt)
fit_join (q ∷ rs) r a f = (a.0, fit_join rs r a.1 f)

goes_good : (count : ℕ) (line : List ℕ) (l : Line) → l ≡ line_of count line → (bytes : List ℕ) (last : Bool) (rest : List ℕ → Text) → IsTable bytes
    → ((longer : List ℕ) → IsTable longer → IsMade (rest longer)) → IsMade (go_on l count bytes last rest)
goes_good count line (Record r) e bytes last rest T again = by (leb (length bytes + suc (length (body_of r))) 4096) refl
  where
    by : (t : Bool) → leb (length bytes + suc (length (body_of r))) 4096 ≡ t → IsMade (go_on (Record r) count bytes last rest)
    by true p =
        rw p
        (again (bytes ++ (kind_of r ∷ body_of r)) (
          T.0 ++ (r ∷ []),
          ap (λ (u : List ℕ). u ++ (kind_of r ∷ body_of r)) T.1 ∙ table_join T.0 r,
          fit_join T.0 r T.2 (line_fits count line (Record r) r e refl),
          omega (arith, leb-true (length bytes + suc (length (body_of r))) 4096 p, length-append bytes (kind_of r ∷ body_of r)),
        ))
    by false p = rw p tt
goes_good count line Count e bytes last rest T again = by last refl
  where
    by : (t : Bool) → last ≡ t → IsMade (go_on Count count bytes last rest)
    by true p = rw p T
    by false p = rw p tt
goes_good count line Unreadable e bytes last rest T again = tt

from_good : (more : Bool) (text line : List ℕ) (count : ℕ) (bytes : List ℕ) → IsTable bytes → IsMade (text_from more line count bytes text)
unfolding text_from
from_good more [] line count bytes T = tt
from_good more (x ∷ rest) line count bytes T =
    by (eqb x 10) refl
    (goes_good count line (line_of count line) refl bytes (is_nil rest && not more) _ T (λ longer L. from_good more rest [] (count + 1) longer L))
    (from_good more rest (line ++ (x ∷ [])) count bytes T)
  where
    by : (t : Bool) → eqb x 10 ≡ t
        → IsMade (go_on (line_of count line) count bytes (is_nil rest && not more) (λ longer. text_from more [] (count + 1) longer rest))
        → IsMade (text_from more (line ++ (x ∷ [])) count bytes rest)
        → IsMade (text_from more line count bytes (x ∷ rest))
    by true p a b = rw p a
    by false p a b = rw p b

pub made_is_a_table : (more : Bool) (text bytes : List ℕ) → text_of more text ≡ table bytes → IsTable bytes
made_is_a_table more text bytes e = subst IsMade e (from_good more text [] 0 [] ([], refl, tt, omega arith))

-- a table has at most 4096 bytes
pub made_fits : (more : Bool) (text : List ℕ) (n : ℕ) → Ok n ≡ made_of (text_of more text) → n ≤ 4096
made_fits more text n = by (text_of more text) refl
  where
    by : (x : Text) → text_of more text ≡ x → Ok n ≡ made_of x → n ≤ 4096
    by (table bytes) q e = let same : n ≡ length bytes = cc in omega (arith, same, (made_is_a_table more text bytes q).3)
    by (bad_line m) q e = let z : ◌≡◌ {A = ℕ} 0 1 = cc in absurd (omega arith)
