-- K0 as the code makes it, and the digest sessions that begin with it. Assumes nothing.
use mathlib.Core.Path.{◌≡◌, refl, sym, ap, ◌∙◌}
use Rattle.std.proofs.Common.{le_refl}
use mathlib.Core.Bool.{Bool, true, false}
use mathlib.Core.List.{List, ◌++◌, append_assoc}
use Prim.Native.Nat.{ℕ, ◌+◌, ◌-◌, ◌/◌, ◌%◌, ◌<◌, ◌≤◌}
use native.Mathlib.Omega.{arith}
use borrow.Author.Tests.{eq-eqb, le-ltb, lt-ltb, ltb-false}
use lib.Bits.{bit_xor}
use lib.Dec.{ltb}
use lib.ListN.{drop, get_or, get_or-replicate, length, length-append, length-replicate, replicate, replicate-append-replicate, take}
use lib.Seq.{drop_at, get_or-take, length-take-le, take_at}
use Rattle.aes_round.specs.Bytes.{xor, xor_bytes}
use Rattle.aes_round.proofs.Promises.{Filled, code_xor, fill_all, get_or-xor, length-xor, same_list, xor_is_tab}
use Rattle.echo.specs.declared.mode.Mode.TheVariants.{DoublePipe}
use Rattle.std.proofs.Common.{Result, Ok, IsOk}
use Rattle.echo.specs.declared.session.Refused.{Refused}
use Rattle.echo.specs.Answers.{answer_of}
use Rattle.echo.specs.declared.session.Session.{Session}
use Rattle.echo.specs.Families.{either}
use Rattle.echo.specs.Session.{add_answer, add_bytes, admitted, digest_leaves, digest_refusal, is_session, limit}
use Rattle.echo.proofs.Promises.{digest_long, digest_number, double_block, takes_bytes}
use Rattle.echo.proofs.Theorems.{admitted_exactly, at_once_is_the_digest}
use Rattle.hmac.specs.DoublePipe.{block_size, digest_of}
use Rattle.hmac.proofs.Laws.Answers.{is_taken, taken_is}
use Rattle.hmac.specs.Hmac.{key_block, with_zeros}

-- ---- zeros

zeros : ℕ → List ℕ
zeros n = replicate n 0

zeros_long : (n : ℕ) → length (zeros n) ≡ n
unfolding zeros
zeros_long n = length-replicate n 0

zeros_split : (n m : ℕ) → n ≤ m → zeros m ≡ zeros n ++ zeros (m - n)
unfolding zeros
zeros_split n m l = let e : n + (m - n) ≡ m = omega arith in sym (replicate-append-replicate n (m - n) 0 ∙ ap zeros e)

-- a list put at the front of zeros
in_front_lem : (n : ℕ) (s : List ℕ) → length s ≤ n → s ++ drop (length s) (zeros n) ≡ with_zeros n s
unfolding zeros with_zeros
in_front_lem n s l =
    ap (λ (x : List ℕ). s ++ x)
    (ap (drop (length s)) (zeros_split (length s) n l) ∙ drop_at (zeros (length s)) (zeros (n - length s)) (length s) (zeros_long (length s)))

pub length_with_zeros : (n : ℕ) (s : List ℕ) → length s ≤ n → length (with_zeros n s) ≡ n
unfolding with_zeros
length_with_zeros n s l = length-append s _ ∙ omega (arith, length-replicate {A = ℕ} (n - length s) 0)

-- zeros behind a list, cut off
fewer_zeros : (n m : ℕ) (s : List ℕ) → length s ≤ n → n ≤ m → take n (with_zeros m s) ≡ with_zeros n s
unfolding zeros with_zeros
fewer_zeros n m s l few =
    ap (λ (x : List ℕ). take n (s ++ x)) (zeros_split (n - length s) (m - length s) (omega arith))
    ∙ ap (take n) (sym (append_assoc s (zeros (n - length s)) _))
    ∙ take_at (with_zeros n s) _ n (length_with_zeros n s l)

-- ---- K0, from 192 zeros

module _ (h : ℕ) (salt key : List ℕ) (a : admitted h ≡ true) (l : length salt ≡ 16) (b : ℕ) (size : b ≡ block_size h) where
  most : h ≤ 512
  most = ((admitted_exactly h).0 a).1

  -- the key is digested
  module _ (r : ℕ) (e : r ≡ digest_refusal h (length salt) (length key) 192) where
    pub digested_number : r ≡ either (ltb limit (length key)) 4 0
    digested_number = by (ltb limit (length key)) refl
      where
        by : (t : Bool) → ltb limit (length key) ≡ t → r ≡ either (ltb limit (length key)) 4 0
        by true p = rw (e, digest_number h (length salt) (length key) 192, a, eq-eqb (length salt) 16 l, p)
        by false p =
            rw (e, digest_number h (length salt) (length key) 192, a, eq-eqb (length salt) 16 l, p, le-ltb 192 (h / 8) (omega (arith, most)))

    not_too_long : r ≡ 0 → length key ≤ limit
    not_too_long none = by (ltb limit (length key)) refl
      where
        by : (t : Bool) → ltb limit (length key) ≡ t → length key ≤ limit
        by true p = absurd (omega (arith, none, digested_number ∙ ap (λ (t : Bool). either {A = ℕ} t 4 0) p))
        by false p = ltb-false limit (length key) p

    pub digested_block : b < length key → (u : List ℕ) → u ≡ digest_leaves DoublePipe h salt key (replicate 192 0) → r ≡ 0
        → take (block_size h) u ≡ key_block (digest_of h salt) (block_size h) key
    unfolding key_block zeros
    digested_block long u d none =
        let S = double_block h in
        let n = digest_long DoublePipe h salt a key in
        rw (lt-ltb (block_size h) (length key) (omega (arith, size)))
        (ap (take (block_size h))
        (d
        ∙ (at_once_is_the_digest DoublePipe h salt key (zeros 192) a l (not_too_long none) (omega (arith, most, zeros_long 192))).1
        ∙ ap (λ (k : ℕ). digest_of h salt key ++ drop k (zeros 192)) (sym n)
        ∙ in_front_lem 192 (digest_of h salt key) (omega (arith, n, most)))
        ∙ fewer_zeros (block_size h) 192 (digest_of h salt key) (omega (arith, n, most)) S.1)

  -- the key is copied
  module _ (short : length key ≤ b) where
    pub copied_number : ◌≡◌ {A = ℕ} 0 (either (ltb limit (length key)) 4 0)
    copied_number = let S = double_block h in rw (le-ltb limit (length key) (omega arith))

    pub key_within : length key ≤ 192
    key_within = let S = double_block h in omega arith

    pub copied_block : (u : List ℕ) → u ≡ key → take (block_size h) (u ++ drop (length key) (replicate 192 0)) ≡ key_block (digest_of h salt) (block_size h) key
    unfolding key_block zeros
    copied_block u e =
        let S = double_block h in
        rw (e, le-ltb (block_size h) (length key) (omega arith))
        (ap (take (block_size h)) (in_front_lem 192 key (omega arith)) ∙ fewer_zeros (block_size h) 192 key (omega arith) S.1)

pub room_for : (n : ℕ) → n ≤ 192 → n ≡ length {A = ℕ} (take n (replicate 192 0))
room_for n l = sym (length-take-le n _ (omega (arith, length-replicate {A = ℕ} 192 0)))

-- ---- a pad xored to it, and the session that begins with that

-- the loop over the block rewrites it from the front: the byte that comes next is still the old one
pub padded_next : (k pad : ℕ) (f : ℕ → ℕ) (block r : List ℕ) → Filled 192 f block k r → k < 192
    → bit_xor (get_or r k 0) pad ≡ xor (get_or block k 0) (get_or (replicate 192 pad) k 0)
padded_next k pad f block r F l =
    code_xor (get_or r k 0) pad ∙ ap (λ (y : ℕ). xor y pad) (F.rest k (le_refl k)) ∙ ap (xor (get_or block k 0)) (sym (get_or-replicate 192 k pad 0 l))

pub padded_all : (k pad : ℕ) (block r : List ℕ) → Filled 192 (λ j. xor (get_or block j 0) (get_or (replicate 192 pad) j 0)) block k r → 192 ≤ k
    → r ≡ xor_bytes 192 block (replicate 192 pad)
padded_all k pad block r F h = fill_all 192 _ block k r F h ∙ xor_is_tab 192 block (replicate 192 pad)

module _ (h b pad : ℕ) (block padded : List ℕ) (e : padded ≡ xor_bytes 192 block (replicate 192 pad)) (size : b ≡ block_size h) where
  pub padded_long : b ≤ length padded
  padded_long = let S = double_block h in omega (arith, ap length e ∙ length-xor 192 _ _)

  pub padded_count : b ≡ length (take b padded)
  padded_count = sym (length-take-le b padded padded_long)

  padded_front : take b padded ≡ xor_bytes (block_size h) (take (block_size h) block) (replicate (block_size h) pad)
  padded_front =
      let S = double_block h in
      same_list b _ _ (sym padded_count) (length-xor (block_size h) _ _ ∙ sym size)
      (λ k lt.
      get_or-take b padded k 0 lt
      ∙ ap (λ (l : List ℕ). get_or l k 0) e
      ∙ get_or-xor 192 block _ k (omega arith)
      ∙ ap (xor (get_or block k 0)) (get_or-replicate 192 k pad 0 (omega arith))
      ∙ sym (get_or-xor (block_size h) _ _ k (omega arith)
      ∙ ap (λ (x : ℕ). xor x (get_or (replicate (block_size h) pad) k 0)) (get_or-take (block_size h) block k 0 (omega arith))
      ∙ ap (xor (get_or block k 0)) (get_or-replicate (block_size h) k pad 0 (omega arith))))

  module _ (fresh : Session) (is : is_session fresh ≡ true) (none : fresh.taken ≡ 0) (r : Result Session Refused)
      (d : answer_of r ≡ add_answer fresh (take b padded)) where
    keyed_answer : answer_of r ≡ record {
      refusal = 0;
      session = add_bytes fresh (xor_bytes (block_size h) (take (block_size h) block) (replicate (block_size h) pad));
    }
    keyed_answer =
        let S = double_block h in
        let whole : fresh.taken % 8 ≡ 0 = omega arith in
        d
        ∙ takes_bytes fresh (take b padded) is whole (omega (arith, padded_count))
        ∙ ap (λ (x : List ℕ). record { refusal = 0; session = add_bytes fresh x }) padded_front

    pub keyed_taken : IsOk r
    keyed_taken = is_taken r _ keyed_answer

    pub keyed_session : (s : Session) → r ≡ Ok s
        → s ≡ add_bytes fresh (xor_bytes (block_size h) (take (block_size h) block) (replicate (block_size h) pad))
    keyed_session s o = taken_is r _ s keyed_answer o
