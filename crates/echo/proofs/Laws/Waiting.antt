-- The waiting block of a session: where its next byte stands, a byte and a piece more, and the block compressed. Assumes nothing.
use Rattle.std.proofs.Common.{◌≡◌, ℕ, zero, suc, ◌+◌, ◌*◌, ◌/◌, ◌%◌, ◌^◌, ◌<◌, ◌≤◌, Bool, true, false, List, [], ◌∷◌, ◌++◌, length, get_or, take, drop, set, replicate, sym, refl, ap, ◌∙◌, ap₂, add-zero, mod-lt, add-one, arith, drop_of_length-le, length-take-le, drop-cons, eq-eqb, ne_eqb, eqb}
use Rattle.echo.specs.declared.mode.Mode.{Mode}
use Rattle.echo.specs.declared.session.Session.{Session}
use Rattle.echo.specs.Compression.{compress}
use Rattle.echo.specs.Families.{block_size, chaining_size, either, round_count}
use Rattle.echo.specs.Session.{add_bits, add_byte, add_bytes, add_part, bit_limit, block_of, compressed, filled_by, longer_by, made}
use Rattle.echo.specs.Square.{keys_from}
use Rattle.echo.proofs.Laws.Counting.{mod_full, mod_more}
use Rattle.echo.proofs.Laws.Families.{block_pos, sizes}

-- ---- the place of the next byte; b is a block size that the code computed

pub some_block : (mode : Mode) (h b : ℕ) → b ≡ block_size mode h → 0 < b
some_block mode h b size = omega (arith, block_pos mode h)

pub some_block_bits : (mode : Mode) (h b : ℕ) → b ≡ block_size mode h → 0 < 8 * b
some_block_bits mode h b size = omega (arith, block_pos mode h)

pub block_bits_fit : (mode : Mode) (h b : ℕ) → b ≡ block_size mode h → 8 * b < 2 ^ 64
block_bits_fit mode h b size = let S = sizes mode h in omega arith

module _ (mode : Mode) (h L at : ℕ) (place : at ≡ L / 8 % block_size mode h) where
  pub place_small : at < 224
  place_small = let S = sizes mode h in omega (arith, mod-lt (L / 8) (block_pos mode h))

-- the same of a place that the code computed
module _ (mode : Mode) (h L b : ℕ) (size : b ≡ block_size mode h) where
  pub same_place : L / 8 % b ≡ L / 8 % block_size mode h
  same_place = ap (λ (x : ℕ). L / 8 % x) size

  pub place_in : L / 8 % b < 224
  place_in = place_small mode h L (L / 8 % b) same_place

-- ---- one byte more, at its place

module _ (s : Session) (at b : ℕ) (place : at ≡ s.taken / 8 % block_of s) (size : b ≡ block_of s) where
  next_byte : (s.taken + 8) / 8 ≡ s.taken / 8 + 1
  next_byte = omega arith

  -- a byte that waits
  module _ (h : at + 1 < b) where
    waits : s.taken / 8 % block_of s + 1 < block_of s
    waits = omega arith

    pub next_place : at + 1 ≡ (s.taken + 8) / 8 % block_of s
    next_place =
        ap (λ (n : ℕ). n + 1) place
        ∙ sym (ap (λ (n : ℕ). n % block_of s) next_byte ∙ mod_more (block_of s) (block_pos s.mode s.bits) (s.taken / 8) waits)

    pub put_more : (x : ℕ) → made s.mode s.bits s.salt s.chaining (s.taken + 8) (set s.waiting at x) ≡ add_byte s x
    unfolding add_byte
    put_more x = rw (place, ne_eqb (s.taken / 8 % block_of s + 1) (block_of s) (λ p. omega (arith, waits)))

  -- a byte that fills the block: t is the session when it is compressed
  module _ (h : b ≤ at + 1) (x : ℕ) (t : Session)
      (e : t ≡ made s.mode s.bits s.salt (compressed s.mode s.bits s.salt s.chaining (s.taken + 8) (take (block_of s) (set s.waiting at x))) (s.taken + 8)
      (set s.waiting at x)) where
    fills : s.taken / 8 % block_of s + 1 ≡ block_of s
    fills = omega (arith, mod-lt (s.taken / 8) (block_pos s.mode s.bits))

    pub first_place : 0 ≡ t.taken / 8 % block_of t
    first_place =
        sym (ap (λ (u : Session). u.taken / 8 % block_of u) e ∙ ap (λ (n : ℕ). n % block_of s) next_byte
        ∙ mod_full (block_of s) (block_pos s.mode s.bits) (s.taken / 8) fills)

    pub put_full : made t.mode t.bits t.salt t.chaining t.taken (replicate 224 0) ≡ add_byte s x
    unfolding add_byte
    put_full =
        ap (λ (u : Session). made u.mode u.bits u.salt u.chaining u.taken (replicate 224 0)) e
        ∙ rw (place, eq-eqb (s.taken / 8 % block_of s + 1) (block_of s) fills)

byte_taken : (s : Session) (x : ℕ) → (add_byte s x).taken ≡ s.taken + 8
unfolding add_byte
byte_taken s x = by (eqb (s.taken / 8 % block_of s + 1) (block_of s))
  where
    by : (t : Bool) → (either t (filled_by s x) (longer_by s x 8)).taken ≡ s.taken + 8
    by true = refl
    by false = refl

-- ---- a piece, byte by byte

-- i of the n whole bytes of a piece are taken: s is the session then, and `at` the place of the next byte
pub record Absorbed (s₀ : Session) (piece : List ℕ) (n i : ℕ) (s : Session) (at : ℕ) : Type 0 where
  pub within : i ≤ n
  pub taken : s.taken ≡ s₀.taken + 8 * i
  pub place : at ≡ s.taken / 8 % block_of s
  pub leads : add_bytes s (drop i (take n piece)) ≡ add_bytes s₀ (take n piece)

module _ (s₀ : Session) (piece : List ℕ) (n : ℕ) where
  pub absorb_none : (b : ℕ) → b ≡ block_of s₀ → Absorbed s₀ piece n 0 (made s₀.mode s₀.bits s₀.salt s₀.chaining s₀.taken s₀.waiting) (s₀.taken / 8 % b)
  absorb_none b size = record { within = omega arith; taken = sym (add-zero s₀.taken); place = ap (λ (x : ℕ). s₀.taken / 8 % x) size; leads = refl }

  module _ (i : ℕ) (s : Session) (at : ℕ) (A : Absorbed s₀ piece n i s at) where
    pub absorb_small : at < 224
    absorb_small = place_small s.mode s.bits s.taken at A.place

    -- one more is within the limit
    pub absorb_room : (count : ℕ) → n ≡ count / 8 → s₀.taken + count ≤ bit_limit → i < n → s.taken + 8 ≤ bit_limit
    absorb_room count whole fits h = omega (arith, A.taken)

    pub absorb_more : n ≤ length piece → i < length (take n piece) → (x at' : ℕ) (t : Session) → x ≡ get_or (take n piece) i 0
        → t ≡ add_byte s x → at' ≡ t.taken / 8 % block_of t → Absorbed s₀ piece n (i + 1) t at'
    unfolding add_bytes
    absorb_more few inside x at' t here e p =
        let rest : drop i (take n piece) ≡ x ∷ drop (i + 1) (take n piece) =
        drop-cons (take n piece) i 0 inside ∙ ap₂ (λ (y k : ℕ). y ∷ drop k (take n piece)) (sym here) (sym (add-one i)) in
        record {
          within = omega (arith, length-take-le n piece few);
          taken = ap (λ (u : Session). u.taken) e ∙ byte_taken s x ∙ omega (arith, A.taken);
          place = p;
          leads = ap (λ (u : Session). add_bytes u (drop (i + 1) (take n piece))) e ∙ sym (ap (add_bytes s) rest) ∙ A.leads;
        }

    -- all of them
    module _ (h : n ≤ i) (count : ℕ) (whole : n ≡ count / 8) (size : length piece ≡ (count + 7) / 8) where
      absorb_all : s ≡ add_bytes s₀ (take (count / 8) piece)
      unfolding add_bytes
      absorb_all =
          let e : i ≡ n = omega (arith, A.within) in
          let short : length (take n piece) ≤ n = omega (arith, length-take-le n piece (omega arith)) in
          let none : drop n (take n piece) ≡ [] = drop_of_length-le (take n piece) short in
          sym (ap (add_bytes s) (ap (λ (k : ℕ). drop k (take n piece)) e ∙ none)) ∙ A.leads ∙ ap (λ (k : ℕ). add_bytes s₀ (take k piece)) whole

      pub absorb_whole : count % 8 ≡ 0 → (L : ℕ) → L ≡ s₀.taken → made s.mode s.bits s.salt s.chaining (L + count) s.waiting ≡ add_bits s₀ piece count
      unfolding add_bits add_part
      absorb_whole none L kept =
          let sum : L + count ≡ s.taken = omega (arith, A.taken, A.within) in
          ap (λ (k : ℕ). made s.mode s.bits s.salt s.chaining k s.waiting) sum ∙ absorb_all ∙ rw (eq-eqb (count % 8) 0 none)

      -- and the part byte
      module _ (some : count % 8 ≡ 0 → ⊥) where
        pub part_inside : n < length piece
        part_inside = by (count % 8) refl
          where
            by : (r : ℕ) → count % 8 ≡ r → n < length piece
            by zero e = absurd (some e)
            by (suc r) e = omega arith

        pub absorb_part : (L : ℕ) → L ≡ s₀.taken
            → made s.mode s.bits s.salt s.chaining (L + count) (set s.waiting at (get_or piece n 0)) ≡ add_bits s₀ piece count
        unfolding add_bits add_part
        absorb_part L kept =
            let sum : L + count ≡ s.taken + count % 8 = omega (arith, A.taken, A.within) in
            rw (← absorb_all, ne_eqb (count % 8) 0 some, sum, A.place, whole)

-- ---- the waiting block compressed, by sizes c and b and a round count n that the code computed

module _ (mode : Mode) (bits c : ℕ) (p : c ≡ chaining_size mode bits) where
  module _ (v : List ℕ) (lv : length v ≡ 128) where
    pub lent_within : c ≤ length v
    lent_within = let S = sizes mode bits in omega arith

    pub lent_chaining : c ≡ length (take c v)
    lent_chaining = sym (length-take-le c v lent_within)

    pub lent_some : 0 < length (take c v)
    lent_some = let S = sizes mode bits in omega (arith, lent_chaining)

    module _ (b : ℕ) (q : b ≡ block_size mode bits) (w : List ℕ) (lw : length w ≡ 224) where
      pub lent_block : b ≡ length (take b w)
      lent_block = let S = sizes mode bits in sym (length-take-le b w (omega arith))

      pub lent_square : length (take c v) + length (take b w) ≡ 256
      lent_square = let S = sizes mode bits in omega (arith, lent_chaining, lent_block)

      pub lent_compressed : (counter n : ℕ) → n ≡ round_count mode c → (salt last : List ℕ)
          → last ≡ compress (length (take c v)) n (keys_from counter) salt (take c v) (take b w)
          → last ++ drop c v ≡ compressed mode bits salt v counter (take (block_size mode bits) w)
      lent_compressed counter n r salt last e =
          ap (λ (l : List ℕ). l ++ drop c v)
          (e ∙ ap₂ (λ (x y : ℕ). compress x y (keys_from counter) salt (take c v) (take b w)) (sym lent_chaining) r)
          ∙ ap₂ (λ (x y : ℕ). compress x (round_count mode x) (keys_from counter) salt (take x v) (take y w) ++ drop x v) p q

      pub compress_made : (counter n : ℕ) → n ≡ round_count mode c → (salt last : List ℕ) (taken : ℕ)
          → last ≡ compress (length (take c v)) n (keys_from counter) salt (take c v) (take b w)
          → made mode bits salt (last ++ drop c v) taken w ≡ made mode bits salt (compressed mode bits salt v counter (take (block_size mode bits) w)) taken w
      compress_made counter n r salt last taken e = ap (λ (x : List ℕ). made mode bits salt x taken w) (lent_compressed counter n r salt last e)

-- the block is within the waiting room
pub block_within : (mode : Mode) (bits b : ℕ) → b ≡ block_size mode bits → b ≤ 224
block_within mode bits b q = let S = sizes mode bits in omega arith
