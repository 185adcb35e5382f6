-- Every list of records whose numbers fit their fields is what its table of at most 4096 bytes is read as. Assumes nothing.
use mathlib.Core.Path.{◌≡◌, refl, sym, ap, ◌∙◌, subst, ap₂}
use mathlib.Core.List.{List, [], ◌∷◌, ◌++◌, append_assoc, append-nil}
use Prim.Native.Nat.{ℕ, zero, suc, ◌+◌, ◌-◌, ◌/◌, ◌%◌, ◌^◌, ◌<◌, ◌≤◌}
use native.Mathlib.Nat.{mod-eq_of_lt, mod-lt, pow-succ', suc-add, zero-add}
use native.Mathlib.Omega.{arith}
use lib.Arith.{mod-mul}
use lib.Dec.{lit<}
use lib.ListN.{drop, get_or, length, length-append, take}
use lib.Seq.{drop_at, drop-drop, get_or-drop, take_all, take_at}
use Rattle.steering.specs.Answers.{Found, Reading}
use Rattle.steering.specs.Numbers.{AreBytes, big_endian, bytes_of, number_at}
use Rattle.steering.specs.Parsing.{AllFit, Parsed, accepted, go_on, in_front, parse, parse_from, refused, table_of}
use Rattle.steering.specs.Reading.{read_at}
use Rattle.steering.specs.Records.{Fits, body_length, body_of, floor_kind, kind_of, record_of}
use Rattle.steering.specs.declared.records.Radio.{Radio}
use Rattle.steering.specs.declared.records.Radio.TheVariants.{High, Low}
use Rattle.steering.specs.declared.records.Record.{Record}
use Rattle.steering.specs.declared.records.Record.TheVariants.{Floor, Hold, Node, Note}
use Rattle.steering.proofs.Laws.Numbers.{length_bytes, power_pos}
use Rattle.steering.proofs.Laws.Reading.{at_end, whole}
use Rattle.steering.proofs.Laws.Records.{most_body}

-- ---- from a number to bytes and back

number_of_bytes : (n x : ℕ) → big_endian (bytes_of n x) ≡ x % 256 ^ n
unfolding bytes_of big_endian
number_of_bytes zero x = omega arith
number_of_bytes (suc n) x = rw (length_bytes n x, number_of_bytes n x, pow-succ' 256 n) (sym (mod-mul x (lit< tt) (power_pos n)))

-- a number that fits, read from the front of a list that begins with its bytes
number_back : (n x : ℕ) (rest : List ℕ) → x < 256 ^ n → number_at n 0 (bytes_of n x ++ rest) ≡ x
number_back n x rest h = ap big_endian (take_at (bytes_of n x) rest n (length_bytes n x)) ∙ number_of_bytes n x ∙ mod-eq_of_lt h

-- ---- one record

alone : (n x : ℕ) → x < 256 ^ n → number_at n 0 (bytes_of n x) ≡ x
alone n x h = ap big_endian (take_all n (bytes_of n x) (omega (arith, length_bytes n x))) ∙ number_of_bytes n x ∙ mod-eq_of_lt h

floor_again : (q : Radio) (x : ℕ) → x < 256 ^ 2 → record_of (floor_kind q) (bytes_of 2 x) ≡ Floor (record { radio = q; level = x })
unfolding record_of
floor_again Low x h = ap (λ (y : ℕ). Floor (record { radio = Low; level = y })) (alone 2 x h)
floor_again High x h = ap (λ (y : ℕ). Floor (record { radio = High; level = y })) (alone 2 x h)

-- the k-th of four numbers
module _ (a b c d : ℕ) where
  second : b < 256 ^ 8 → number_at 8 8 (bytes_of 8 a ++ (bytes_of 8 b ++ (bytes_of 8 c ++ bytes_of 8 d))) ≡ b
  second h = ap (λ (l : List ℕ). big_endian (take 8 l)) (drop_at (bytes_of 8 a) _ 8 (length_bytes 8 a)) ∙ number_back 8 b _ h

  behind_two : (l : List ℕ) → drop 16 (bytes_of 8 a ++ (bytes_of 8 b ++ l)) ≡ l
  behind_two l =
      sym (drop-drop 8 8 (bytes_of 8 a ++ (bytes_of 8 b ++ l)))
      ∙ ap (drop 8) (drop_at (bytes_of 8 a) _ 8 (length_bytes 8 a))
      ∙ drop_at (bytes_of 8 b) l 8 (length_bytes 8 b)

  third : c < 256 ^ 8 → number_at 8 16 (bytes_of 8 a ++ (bytes_of 8 b ++ (bytes_of 8 c ++ bytes_of 8 d))) ≡ c
  third h = ap (λ (l : List ℕ). big_endian (take 8 l)) (behind_two (bytes_of 8 c ++ bytes_of 8 d)) ∙ number_back 8 c _ h

  fourth : d < 256 ^ 8 → number_at 8 24 (bytes_of 8 a ++ (bytes_of 8 b ++ (bytes_of 8 c ++ bytes_of 8 d))) ≡ d
  fourth h =
      ap (λ (l : List ℕ). big_endian (take 8 l))
      (sym (drop-drop 8 16 (bytes_of 8 a ++ (bytes_of 8 b ++ (bytes_of 8 c ++ bytes_of 8 d))))
      ∙ ap (drop 8) (behind_two (bytes_of 8 c ++ bytes_of 8 d))
      ∙ drop_at (bytes_of 8 c) _ 8 (length_bytes 8 c))
      ∙ alone 8 d h

record_again : (r : Record) → Fits r → record_of (kind_of r) (body_of r) ≡ r
unfolding record_of
record_again (Node a) h = ap (λ (x : ℕ). Node (record { address = x })) (alone 6 a.address h)
record_again (Floor f) h = floor_again f.radio f.level h
record_again (Hold t) h = ap (λ (x : ℕ). Hold (record { time = x })) (alone 4 t.time h)
record_again (Note n) h =
    let a = n.first in
    let b = n.second in
    let c = n.third in
    let d = n.fourth in
    ap (record_of 5)
    (append_assoc (bytes_of 8 a ++ bytes_of 8 b) (bytes_of 8 c) (bytes_of 8 d) ∙ append_assoc (bytes_of 8 a) (bytes_of 8 b) (bytes_of 8 c ++ bytes_of 8 d))
    ∙ rw (number_back 8 a (bytes_of 8 b ++ (bytes_of 8 c ++ bytes_of 8 d)) h.0, second a b c d h.1, third a b c d h.2, fourth a b c d h.3) refl

floor_length : (q : Radio) (x : ℕ) → length (bytes_of 2 x) ≡ body_length (floor_kind q)
unfolding body_length
floor_length Low x = length_bytes 2 x
floor_length High x = length_bytes 2 x

pub body_length_lem : (r : Record) → length (body_of r) ≡ body_length (kind_of r)
unfolding body_length
body_length_lem (Node a) = length_bytes 6 a.address
body_length_lem (Floor f) = floor_length f.radio f.level
body_length_lem (Hold t) = length_bytes 4 t.time
body_length_lem (Note n) =
    let a = bytes_of 8 n.first in
    let b = bytes_of 8 n.second in
    let c = bytes_of 8 n.third in
    let d = bytes_of 8 n.fourth in
    omega (
      arith,
      length-append (a ++ b ++ c) d,
      length-append (a ++ b) c,
      length-append a b,
      length_bytes 8 n.first,
      length_bytes 8 n.second,
      length_bytes 8 n.third,
      length_bytes 8 n.fourth,
    )

pub short_body : (r : Record) → length (body_of r) ≤ 32
short_body r = omega (arith, body_length_lem r, most_body (kind_of r))

floor_pos : (q : Radio) → body_length (floor_kind q) ≡ 0 → ⊥
unfolding body_length
floor_pos Low z = omega arith
floor_pos High z = omega arith

pub known : (r : Record) → body_length (kind_of r) ≡ 0 → ⊥
unfolding body_length
known (Node a) z = omega arith
known (Floor f) z = floor_pos f.radio z
known (Hold t) z = omega arith
known (Note n) z = omega arith

floor_least : (q : Radio) → 2 ≤ body_length (floor_kind q)
unfolding body_length
floor_least Low = omega arith
floor_least High = omega arith

least_kind : (r : Record) → 2 ≤ body_length (kind_of r)
unfolding body_length
least_kind (Node a) = omega arith
least_kind (Floor f) = floor_least f.radio
least_kind (Hold t) = omega arith
least_kind (Note n) = omega arith

pub least_body : (r : Record) → 2 ≤ length (body_of r)
least_body r = omega (arith, body_length_lem r, least_kind r)

-- ---- every byte of a record is one

bytes_are : (n x : ℕ) → AreBytes (bytes_of n x)
unfolding bytes_of
bytes_are zero x k = omega arith
bytes_are (suc n) x zero = mod-lt (x / 256 ^ n) (lit< tt)
bytes_are (suc n) x (suc k) = bytes_are n x k

bytes_join : (a b : List ℕ) → AreBytes a → AreBytes b → AreBytes (a ++ b)
bytes_join [] b p q k = q k
bytes_join (x ∷ a) b p q zero = p zero
bytes_join (x ∷ a) b p q (suc k) = bytes_join a b (λ j. p (suc j)) q k

body_bytes : (r : Record) → AreBytes (body_of r)
body_bytes (Node a) = bytes_are 6 a.address
body_bytes (Floor f) = bytes_are 2 f.level
body_bytes (Hold t) = bytes_are 4 t.time
body_bytes (Note n) =
    let a = bytes_of 8 n.first in
    let b = bytes_of 8 n.second in
    let c = bytes_of 8 n.third in
    bytes_join (a ++ b ++ c) (bytes_of 8 n.fourth)
    (bytes_join (a ++ b) c (bytes_join a b (bytes_are 8 n.first) (bytes_are 8 n.second)) (bytes_are 8 n.third))
    (bytes_are 8 n.fourth)

floor_byte : (q : Radio) → floor_kind q < 256
floor_byte Low = omega arith
floor_byte High = omega arith

kind_byte : (r : Record) → kind_of r < 256
kind_byte (Node a) = omega arith
kind_byte (Floor f) = floor_byte f.radio
kind_byte (Hold t) = omega arith
kind_byte (Note n) = omega arith

pub record_bytes : (r : Record) → AreBytes (kind_of r ∷ body_of r)
record_bytes r zero = kind_byte r
record_bytes r (suc k) = body_bytes r k

-- ---- a record behind other bytes

module _ (p rest : List ℕ) (r : Record) where
  unfoldable pub t : List ℕ
  t = p ++ (kind_of r ∷ body_of r ++ rest)

  past_kind : drop (length p + 1) t ≡ body_of r ++ rest
  unfolding t
  past_kind =
      ap (drop (length p + 1)) (sym (append_assoc p (kind_of r ∷ []) (body_of r ++ rest)))
      ∙ drop_at (p ++ kind_of r ∷ []) (body_of r ++ rest) (length p + 1) (length-append p (kind_of r ∷ []))

  kind_there : get_or t (length p) 0 ≡ kind_of r
  unfolding t
  kind_there =
      ap (λ (k : ℕ). get_or t k 0) back ∙ sym (get_or-drop (length p) t 0 0)
      ∙ ap (λ (l : List ℕ). get_or l 0 0) (drop_at p (kind_of r ∷ body_of r ++ rest) (length p) refl)
    where
      back : length p ≡ length p + 0
      back = omega arith

  long : length t ≡ length p + 1 + (length (body_of r) + length rest)
  unfolding t
  long = omega (arith, length-append p (kind_of r ∷ body_of r ++ rest), length-append (body_of r) rest)

  pub found_there : Fits r → length t ≤ 4096 → read_at t (length p) ≡ Found r (length p + 1 + length (body_of r))
  found_there f h =
      let body : take (length (body_of r)) (drop (length p + 1) t) ≡ body_of r =
      ap (take (length (body_of r))) past_kind ∙ take_at (body_of r) rest (length (body_of r)) refl in
      sym (whole t (length p) (omega (arith, long)) h (λ e. omega (arith, long, e)) (length (body_of r)) (body_length_lem r ∙ ap body_length (sym kind_there))
      (λ e. known r (sym (body_length_lem r) ∙ e)) (length (body_of r)) r (sym (ap₂ record_of kind_there body ∙ record_again r f)) refl (omega (arith, long)))

-- its own bytes alone
pub alone_is_read : (r : Record) → Fits r → read_at (kind_of r ∷ body_of r) 0 ≡ Found r (suc (length (body_of r)))
unfolding t
alone_is_read r f =
    let nothing : body_of r ++ [] ≡ body_of r = append-nil (body_of r) in
    let next : 0 + 1 + length (body_of r) ≡ suc (length (body_of r)) = omega arith in
    ap (λ (l : List ℕ). read_at (kind_of r ∷ l) 0) (sym nothing)
    ∙ found_there [] [] r f (omega (arith, ap length nothing, short_body r))
    ∙ ap (Found r) next

-- ---- whole tables

-- records in front of what the rest is parsed to
abbrev pub all_in_front : List Record → Parsed → Parsed
all_in_front [] q = q
all_in_front (r ∷ rs) q = in_front r (all_in_front rs q)

-- the bytes of some records behind p are read as these, and then it goes on with what stands behind them
through : (n : ℕ) (p : List ℕ) (rs : List Record) (tail : List ℕ) → AllFit rs → length (p ++ (table_of rs ++ tail)) ≤ 4096
    → parse_from (length rs + n) (p ++ (table_of rs ++ tail)) (length p)
    ≡ all_in_front rs (parse_from n (p ++ (table_of rs ++ tail)) (length (p ++ table_of rs)))
unfolding parse_from t
through n p [] tail f h = rw (zero-add n, append-nil p) refl
through n p (r ∷ rs) tail f h =
    rw (suc-add (length rs) n, assoc)
    (ap (λ (x : Reading). go_on x (parse_from (length rs + n) whole)) (found_there p (table_of rs ++ tail) r f.0 fits)
    ∙ ap (in_front r) (next ∙ through n q rs tail f.1 (subst (λ (u : List ℕ). length u ≤ 4096) same fits) ∙ back))
  where
    assoc : body_of r ++ table_of rs ++ tail ≡ body_of r ++ (table_of rs ++ tail)
    assoc = append_assoc (body_of r) (table_of rs) tail

    whole : List ℕ
    whole = p ++ (kind_of r ∷ body_of r ++ (table_of rs ++ tail))

    fits : length whole ≤ 4096
    fits = subst (λ (u : List ℕ). length (p ++ kind_of r ∷ u) ≤ 4096) assoc h

    q : List ℕ
    q = p ++ (kind_of r ∷ body_of r)

    same : whole ≡ q ++ (table_of rs ++ tail)
    same = sym (append_assoc p (kind_of r ∷ body_of r) (table_of rs ++ tail))

    place : length p + 1 + length (body_of r) ≡ length q
    place = omega (arith, length-append p (kind_of r ∷ body_of r))

    next : parse_from (length rs + n) whole (length p + 1 + length (body_of r)) ≡ parse_from (length rs + n) (q ++ (table_of rs ++ tail)) (length q)
    next = rw (same, place) refl

    back : all_in_front rs (parse_from n (q ++ (table_of rs ++ tail)) (length (q ++ table_of rs)))
        ≡ all_in_front rs (parse_from n whole (length (p ++ kind_of r ∷ (body_of r ++ table_of rs))))
    back = rw (← same, append_assoc p (kind_of r ∷ body_of r) (table_of rs)) refl

-- a table has at least as many bytes as records
pub no_more : (rs : List Record) → length rs ≤ length (table_of rs)
no_more [] = omega arith
no_more (r ∷ rs) = omega (arith, no_more rs, length-append (body_of r) (table_of rs))

-- a table that begins with the bytes of some records: these, and then what the parse makes of the rest
pub parse_through : (rs : List Record) (tail : List ℕ) → AllFit rs → length (table_of rs ++ tail) ≤ 4096
    → (n : ℕ) × (parse (table_of rs ++ tail) ≡ all_in_front rs (parse_from (suc n) (table_of rs ++ tail) (length (table_of rs))))
parse_through rs tail f h = (
  length (table_of rs ++ tail) - length rs,
  ap (λ (k : ℕ). parse_from k (table_of rs ++ tail) 0) fuel ∙ through (suc (length (table_of rs ++ tail) - length rs)) [] rs tail f h,
)
  where
    fuel : suc (length (table_of rs ++ tail)) ≡ length rs + suc (length (table_of rs ++ tail) - length rs)
    fuel = omega (arith, no_more rs, length-append (table_of rs) tail)

all_accepted : (rs : List Record) → all_in_front rs (accepted []) ≡ accepted rs
all_accepted [] = refl
all_accepted (r ∷ rs) = ap (in_front r) (all_accepted rs)

pub all_refused : (rs : List Record) (number place : ℕ) → all_in_front rs (refused number place) ≡ refused number place
all_refused [] number place = refl
all_refused (r ∷ rs) number place = ap (in_front r) (all_refused rs number place)

pub complete : (rs : List Record) → AllFit rs → length (table_of rs) ≤ 4096 → parse (table_of rs) ≡ accepted rs
unfolding parse_from
complete rs f h = subst (λ (u : List ℕ). parse u ≡ accepted rs) (append-nil (table_of rs)) whole
  where
    u : List ℕ
    u = table_of rs ++ []

    long : length u ≡ length (table_of rs)
    long = ap length (append-nil (table_of rs))

    whole : parse u ≡ accepted rs
    whole =
        let T = parse_through rs [] f (omega (arith, long)) in
        T.1
        ∙ ap (λ (x : Reading). all_in_front rs (go_on x (parse_from T.0 u)))
        (sym (at_end u (length (table_of rs)) (omega (arith, long)) (omega (arith, long)) (sym long)))
        ∙ all_accepted rs
