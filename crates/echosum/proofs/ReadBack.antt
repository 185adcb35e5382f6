-- A tagged line is read back as what it was made of: bits, mode, salt, digest and name. Assumes nothing.
use mathlib.Core.Path.{◌≡◌, ◌∙◌, ap, refl, sym}
use mathlib.Core.Bool.{true, false, cond, true≢false}
use mathlib.Core.List.{List, [], ◌∷◌, ◌++◌, append_assoc, append-nil}
use Prim.Native.Nat.{ℕ, ◌+◌, ◌*◌, ◌-◌, ◌/◌, ◌%◌, ◌<◌, ◌≤◌}
use native.Mathlib.Omega.{arith}
use borrow.Author.Tests.{eqb-true, ltb-false, ltb-true}
use lib.Dec.{eqb, ltb}
use lib.ListN.{drop, length, length-append, replicate}
use Rattle.std.specs.Prelude.{Some, bytes_eq}
use lib.Seq.{append_snoc, drop_at, take_all, take_at}
use Rattle.lines.specs.Decimal.{decimal_of}
use Rattle.lines.specs.Hexadecimal.{digit_of, digits_of}
use Rattle.lines.specs.Lines.{spread}
use Rattle.lines.specs.Names.{escape_of, is_plain}
use Rattle.lines.proofs.Promises.{mark_none, mark_one, plain_stays, spread_cons, spread_nil, three_digits}
use Rattle.digits.specs.Hexadecimal.{bytes_from, bytes_of, nibble_of}
use Rattle.digits.specs.Numbers.{number_of}
use Rattle.digits.specs.Salts.{salt_of}
use Rattle.digits.proofs.Promises.{bytes_begin, bytes_more, bytes_none, digit, number_begins, number_more, number_none, salt_begins, small}
use Rattle.echo.specs.declared.mode.Mode.{Mode}
use Rattle.echo.specs.declared.mode.Mode.TheVariants.{DoublePipe, SinglePipe}
use Rattle.echosum.specs.declared.listed.Listed.{Listed}
use Rattle.echosum.specs.declared.listed.Terms.{Terms}
use Rattle.echosum.specs.Bytes.{holds_of, part}
use Rattle.echosum.specs.Listed.{begins, closes, framed_of, head_of, is_admitted, listed_of, mark_in, mode_of, mode_text, opens, tagged_of}
use Rattle.echosum.specs.Names.{is_name, unescaped}
use Rattle.echosum.specs.ReadBack.{AreBytes, ReadBack, one}
use Rattle.echosum.specs.Style.{back_of, end_of, front_of, line_of, tag_of, tagged_line}
use Rattle.echosum.proofs.Laws.Listed.{it_is_tagged, marked, tagged_good, unmarked}
use Rattle.echosum.proofs.Laws.Names.{escaped_is_name, plain_is_name, unescaped_escaped}
use Rattle.echosum.proofs.Laws.Style.{by, length-mode, length_digits}

-- ---- parts of a text

pub middle : (a b c : List ℕ) (i j : ℕ) → i ≡ length a → j ≡ length a + length b → part i j (a ++ (b ++ c)) ≡ b
middle a b c i j p q = rw (drop_at a (b ++ c) i (sym p)) (take_at b c (j - i) (omega arith))

pub last : (a b : List ℕ) (i j : ℕ) → i ≡ length a → j ≡ length a + length b → part i j (a ++ b) ≡ b
last a b i j p q = rw (drop_at a b i (sym p)) (take_all (j - i) b (omega arith))

-- ---- digits

nibble_digit : (v : ℕ) → v < 16 → nibble_of (digit_of v) ≡ Some v
nibble_digit v h =
    by (ltb v 10)
    (λ t.
    let l = ltb-true v 10 t in
    let e : 48 + v - 48 ≡ v = omega arith in
    rw t (digit (48 + v) (omega arith) (omega arith) ∙ ap (λ (n : ℕ). Some n) e))
    (λ t.
    let l = ltb-false v 10 t in
    let e : 87 + v - 97 + 10 ≡ v = omega arith in
    rw t (small (87 + v) (omega arith) (omega arith) ∙ ap (λ (n : ℕ). Some n) e))

pub high : (x : ℕ) → x < 256 → nibble_of (digit_of (x / 16)) ≡ Some (x / 16)
high x h = nibble_digit (x / 16) (omega arith)

pub low : (x : ℕ) → nibble_of (digit_of (x % 16)) ≡ Some (x % 16)
low x = nibble_digit (x % 16) (omega arith)

both : (x : ℕ) → 16 * (x / 16) + x % 16 ≡ x
both x = omega arith

bytes_back : (so_far bytes : List ℕ) → AreBytes bytes → bytes_from so_far (spread digits_of bytes) ≡ Some (so_far ++ bytes)
bytes_back so_far [] b = rw (spread_nil digits_of, append-nil) (bytes_none so_far)
bytes_back so_far (x ∷ xs) (one h b) =
    let e = bytes_back (so_far ++ (x ∷ [])) xs b in
    let more = bytes_more so_far (digit_of (x / 16)) (digit_of (x % 16)) (x / 16) (x % 16) (spread digits_of xs) (high x h) (low x) in
    rw (spread_cons digits_of x xs, more, both x) (rw (append_snoc so_far x xs) at e)

-- the digest of at most sixty-four bytes, with zeros behind it
pub digest_back : (digest : List ℕ) → AreBytes digest → length digest ≤ 64
    → bytes_of 64 (spread digits_of digest) ≡ Some (digest ++ drop (length digest) (replicate 64 0))
digest_back digest b h =
    bytes_begin 64 (spread digits_of digest) (omega (arith, length_digits digest)) ∙ rw (bytes_back [] digest b)

decimal_digit : (d : ℕ) → d ≤ 9 → nibble_of (48 + d) ≡ Some d
decimal_digit d h =
    let e : 48 + d - 48 ≡ d = omega arith in
    digit (48 + d) (omega arith) (omega arith) ∙ ap (λ (n : ℕ). Some n) e

-- ---- the bits

pub admitted_bounds : (bits : ℕ) → is_admitted bits ≡ true → (128 ≤ bits) × (bits ≤ 512) × (bits % 8 ≡ 0)
unfolding is_admitted
admitted_bounds bits a =
    by (ltb bits 128)
    (λ t. absurd (true≢false (sym (simp t at a))))
    (λ t.
    by (ltb 512 bits)
    (λ u. absurd (true≢false (sym (simp (t, u) at a))))
    (λ u. (ltb-false bits 128 t, ltb-false 512 bits u, eqb-true (bits % 8) 0 (simp (t, u) at a))))

module _ (bits : ℕ) (h : 100 ≤ bits) (g : bits < 1000) where
  length-bits : length (decimal_of bits) ≡ 3
  length-bits = rw (three_digits bits h g)

  bits_back : number_of (decimal_of bits) ≡ Some bits
  bits_back =
      let a = 48 + bits / 10 / 10 % 10 in
      let b = 48 + bits / 10 % 10 in
      let c = 48 + bits % 10 in
      let x = decimal_digit (bits / 10 / 10 % 10) (omega arith) in
      let y = decimal_digit (bits / 10 % 10) (omega arith) in
      let z = decimal_digit (bits % 10) (omega arith) in
      rw (three_digits bits h g)
      (number_begins (a ∷ b ∷ c ∷ []) (omega arith) (omega arith)
      ∙ number_more 0 a (bits / 10 / 10 % 10) (b ∷ c ∷ []) x (omega arith)
      ∙ number_more _ b (bits / 10 % 10) (c ∷ []) y (omega arith)
      ∙ number_more _ c (bits % 10) [] z (omega arith)
      ∙ number_none _
      ∙ ap (λ (n : ℕ). Some n) (omega arith))

-- ---- the mode

mode_back : (mode : Mode) → mode_of (mode_text mode) ≡ Some mode
unfolding mode_of
mode_back SinglePipe = refl
mode_back DoublePipe = refl

-- ---- the fifty bytes of a tag

module _ (bits : ℕ) (mode : Mode) (salt : List ℕ) (a : is_admitted bits ≡ true) (l : length salt ≡ 16) (b : AreBytes salt) where
  three : length (decimal_of bits) ≡ 3
  three = let w = admitted_bounds bits a in length-bits bits (omega arith) (omega arith)

  eight : length (mode_text mode) ≡ 8
  eight = length-mode mode

  thirty_two : length (spread digits_of salt) ≡ 32
  thirty_two = omega (arith, length_digits salt)

  text : List ℕ
  text = tag_of bits mode salt

  fifty : length text ≡ 50
  unfolding text tag_of
  fifty = simp length-append (omega (arith, three, eight, thirty_two))

  first_part : part 0 5 text ≡ begins
  unfolding text tag_of
  first_part = middle [] begins (decimal_of bits ++ (mode_text mode ++ (spread digits_of salt ++ opens))) 0 5 refl refl

  bits_part : part 5 8 text ≡ decimal_of bits
  unfolding text tag_of
  bits_part = middle begins (decimal_of bits) (mode_text mode ++ (spread digits_of salt ++ opens)) 5 8 refl (omega (arith, three))

  mode_part : part 8 16 text ≡ mode_text mode
  unfolding text tag_of
  mode_part =
      ap (part 8 16) (sym (append_assoc begins (decimal_of bits) (mode_text mode ++ (spread digits_of salt ++ opens))))
      ∙ middle (begins ++ decimal_of bits) (mode_text mode) (spread digits_of salt ++ opens) 8 16
      (simp length-append (omega (arith, three)))
      (simp length-append (omega (arith, three, eight)))

  in_front_lem : List ℕ
  in_front_lem = (begins ++ decimal_of bits) ++ mode_text mode

  length_front : length in_front_lem ≡ 16
  unfolding in_front_lem
  length_front = simp length-append (omega (arith, three, eight))

  behind_front : text ≡ in_front_lem ++ (spread digits_of salt ++ opens)
  unfolding text tag_of in_front_lem
  behind_front = simp append_assoc

  salt_part : part 16 48 text ≡ spread digits_of salt
  salt_part =
      ap (part 16 48) behind_front
      ∙ middle in_front_lem (spread digits_of salt) opens 16 48 (omega (arith, length_front)) (omega (arith, length_front, thirty_two))

  last_part : part 48 50 text ≡ opens
  last_part =
      ap (part 48 50) (behind_front ∙ sym (append_assoc in_front_lem (spread digits_of salt) opens))
      ∙ last (in_front_lem ++ spread digits_of salt) opens 48 50
      (simp length-append (omega (arith, length_front, thirty_two)))
      (simp length-append (omega (arith, length_front, thirty_two)))

  salt_read : salt_of (spread digits_of salt) ≡ Some salt
  salt_read = salt_begins (spread digits_of salt) thirty_two ∙ bytes_back [] salt b

  framed : framed_of text ≡ true
  unfolding framed_of
  framed = rw (first_part, last_part)

  head_back : head_of text ≡ Some (record { mode = mode; bits = bits; salt = salt })
  unfolding head_of
  head_back =
      let w = admitted_bounds bits a in
      let number : number_of (part 5 8 text) ≡ Some bits = ap number_of bits_part ∙ bits_back bits (omega arith) (omega arith) in
      let kind : mode_of (part 8 16 text) ≡ Some mode = ap mode_of mode_part ∙ mode_back mode in
      let given : salt_of (part 16 48 text) ≡ Some salt = ap salt_of salt_part ∙ salt_read in
      rw (framed, number, a, kind, given)

  -- ---- a whole line, with a mark in front and a name that may be escaped

  module _ (digest : List ℕ) (d : length digest ≡ bits / 8) (db : AreBytes digest) (mark name : List ℕ) (at : ℕ) (m : at ≡ length mark)
      (is : is_name (eqb at 1) name ≡ true) where
    line : List ℕ
    line = mark ++ (text ++ (name ++ (closes ++ spread digits_of digest)))

    length_hex : length (spread digits_of digest) ≡ bits / 4
    length_hex = let w = admitted_bounds bits a in omega (arith, length_digits digest)

    length_line : length line ≡ at + 50 + length name + 4 + bits / 4
    unfolding line
    length_line = simp length-append (omega (arith, fifty, length_hex))

    begin : ℕ
    begin = length line - bits / 4

    begins_at : begin ≡ at + 50 + length name + 4
    unfolding begin
    begins_at = omega (arith, length_line)

    head_part : part at (at + 50) line ≡ text
    unfolding line
    head_part = middle mark text (name ++ (closes ++ spread digits_of digest)) at (at + 50) m (omega (arith, fifty))

    name_part : part (at + 50) (begin - 4) line ≡ name
    unfolding line
    name_part =
        ap (part (at + 50) (begin - 4)) (sym (append_assoc mark text (name ++ (closes ++ spread digits_of digest))))
        ∙ middle (mark ++ text) name (closes ++ spread digits_of digest) (at + 50) (begin - 4)
        (simp length-append (omega (arith, fifty)))
        (simp length-append (omega (arith, fifty, begins_at)))

    before : List ℕ
    before = (mark ++ text) ++ name

    length_before : length before ≡ at + 50 + length name
    unfolding before
    length_before = simp length-append (omega (arith, fifty))

    behind_before : line ≡ before ++ (closes ++ spread digits_of digest)
    unfolding line before
    behind_before = simp append_assoc

    closes_part : part (begin - 4) begin line ≡ closes
    closes_part =
        ap (part (begin - 4) begin) behind_before
        ∙ middle before closes (spread digits_of digest) (begin - 4) begin
        (omega (arith, length_before, begins_at))
        (omega (arith, length_before, begins_at))

    hex_part : part begin (length line) line ≡ spread digits_of digest
    hex_part =
        ap (part begin (length line)) (behind_before ∙ sym (append_assoc before closes (spread digits_of digest)))
        ∙ last (before ++ closes) (spread digits_of digest) begin (length line)
        (simp length-append (omega (arith, length_before, begins_at)))
        (simp length-append (omega (arith, length_before, length_line, length_hex)))

    -- what the line says
    said : Listed
    said =
        record {
          mode = mode;
          bits = bits;
          salt = salt;
          digest = digest ++ drop (length digest) (replicate 64 0);
          is_escaped = eqb at 1;
          from = at + 50;
          to = begin - 4;
        }

    tagged_back : tagged_of line at ≡ Some said
    unfolding said begin
    tagged_back =
        let w = admitted_bounds bits a in
        tagged_good line at (record { mode = mode; bits = bits; salt = salt }) (digest ++ drop (length digest) (replicate 64 0))
        (omega (arith, length_line))
        (ap head_of head_part ∙ head_back)
        (omega (arith, length_line))
        (ap (λ (t : List ℕ). bytes_eq t closes) closes_part)
        (ap (is_name (eqb at 1)) name_part ∙ is)
        (ap (bytes_of 64) hex_part ∙ digest_back digest db (omega arith))

    all_back : (terms : Terms) (whole : List ℕ) → cond (eqb at 1) (unescaped name) name ≡ whole
        → mark_in (mark ++ (tag_of bits mode salt ++ (name ++ (closes ++ spread digits_of digest)))) ≡ at
        → ReadBack bits mode salt digest whole (mark ++ (tag_of bits mode salt ++ (name ++ (closes ++ spread digits_of digest))))
        (listed_of (mark ++ (tag_of bits mode salt ++ (name ++ (closes ++ spread digits_of digest)))) terms)
    unfolding line text said
    all_back terms whole e p =
        record {
          said = said;
          is_good = it_is_tagged line terms at p said tagged_back;
          bits_are = refl;
          mode_is = refl;
          salt_is = refl;
          digest_is = refl;
          name_is = rw name_part e;
        }

-- ---- the theorem

no_mark : (bits : ℕ) (mode : Mode) (salt rest : List ℕ) → mark_in (tag_of bits mode salt ++ rest) ≡ 0
unfolding tag_of
no_mark bits mode salt rest = unmarked _ (λ e. omega arith) (λ e. omega arith)

module _ (bits : ℕ) (a : is_admitted bits ≡ true) (mode : Mode) (salt : List ℕ) (l : length salt ≡ 16) (b : AreBytes salt)
    (digest : List ℕ) (d : length digest ≡ bits / 8) (db : AreBytes digest)
    (name : List ℕ) (h : length name ≡ 0 → ⊥) (z : holds_of 0 name ≡ false) (terms : Terms) where
  plain_back : is_plain name ≡ true
      → ReadBack bits mode salt digest name (tagged_line bits mode salt digest name) (listed_of (tagged_line bits mode salt digest name) terms)
  unfolding tagged_line
  plain_back p =
      rw (mark_none name p, plain_stays name p)
      (all_back bits mode salt a l b digest d db [] name 0 refl (plain_is_name name h z) terms name refl
      (no_mark bits mode salt (name ++ (closes ++ spread digits_of digest))))

  escaped_back : is_plain name ≡ false
      → ReadBack bits mode salt digest name (tagged_line bits mode salt digest name) (listed_of (tagged_line bits mode salt digest name) terms)
  unfolding tagged_line
  escaped_back p =
      rw (mark_one name p)
      (all_back bits mode salt a l b digest d db (92 ∷ []) (spread escape_of name) 1 refl (escaped_is_name name h z) terms name
      (unescaped_escaped name)
      (marked (92 ∷ (tag_of bits mode salt ++ (spread escape_of name ++ (closes ++ spread digits_of digest)))) (λ e. omega arith) refl))

  pub tagged_read_back
      : ReadBack bits mode salt digest name (tagged_line bits mode salt digest name) (listed_of (tagged_line bits mode salt digest name) terms)
  tagged_read_back = by (is_plain name) plain_back escaped_back

-- ---- the line that is written

-- with a tag and a line end, it is that line
pub tagged_is_written : (bits : ℕ) (mode : Mode) (salt digest name : List ℕ)
    → line_of (record { is_tagged = true; is_zero_ended = false; mode = mode; bits = bits; salt = salt }) digest name
    ≡ tagged_line bits mode salt digest name ++ (10 ∷ [])
unfolding line_of front_of back_of end_of tagged_line
tagged_is_written bits mode salt digest name = simp append_assoc
