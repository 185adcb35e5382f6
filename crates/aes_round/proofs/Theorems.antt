-- The theorems of this crate that the pages quote, each closed: what it assumes stands in its statement. Assumes nothing.
use mathlib.Core.Path.{◌≡◌, refl, ap, ◌∙◌}
use mathlib.Core.List.{List, [], ◌∷◌, ◌++◌}
use Prim.Native.Nat.{ℕ, ◌+◌, ◌*◌, ◌<◌}
use lib.ListN.{get_or}
use Rattle.aes_round.specs.Bytes.{Bytes, tab, xor}
use Rattle.aes_round.specs.Field.{mul}
use Rattle.aes_round.specs.Marked.{Example, Hold, ◌gives◌}
use Rattle.aes_round.specs.Mixing.{backward, dot, forward, mix_column}
use Rattle.aes_round.specs.Rounds.{aes_round, aes_round_back}
use Rattle.aes_round.specs.Numbers.{bytes_of, number, numbers}
use Rattle.aes_round.specs.ByTables.{row_number, row_table, table_round}
use Rattle.aes_round.specs.Substitution.{inverse, sub_byte, sub_byte_back}
use Rattle.aes_round.proofs.Laws.ByTables as by-tables
use Rattle.aes_round.proofs.Laws.Mixing as mixing
use Rattle.aes_round.proofs.Laws.Numbers as numbers
use Rattle.aes_round.proofs.Laws.Rounds as rounds
use Rattle.aes_round.proofs.Laws.Substitution as substitution

-- `Hold` skips no entry of its list, wherever it stands
pub every_example_of_a_list_that_holds_holds : (before after : List Example) (computed expected : List ℕ)
    → Hold (before ++ (computed gives expected) ∷ after)
    → computed ≡ expected
every_example_of_a_list_that_holds_holds [] after computed expected h = h.0
every_example_of_a_list_that_holds_holds ((c gives e) ∷ before) after computed expected h =
    every_example_of_a_list_that_holds_holds before after computed expected h.1

pub a_false_example_fails_its_list : (before after : List Example) (computed expected : List ℕ)
    → (computed ≡ expected → ⊥)
    → Hold (before ++ (computed gives expected) ∷ after)
    → ⊥
a_false_example_fails_its_list before after computed expected differs h =
    differs (every_example_of_a_list_that_holds_holds before after computed expected h)

-- substitution, doubling, mix of a column
pub the_marked_examples_hold : Hold
    (((sub_byte 0x00 ∷ []) gives (0x63 ∷ []))
    ∷ ((sub_byte 0x53 ∷ []) gives (0xed ∷ []))
    ∷ ((mul 2 0x80 ∷ []) gives (0x1b ∷ []))
    ∷ ((mul 2 0x57 ∷ []) gives (0xae ∷ []))
    ∷ (mix_column forward (0xdb ∷ 0x13 ∷ 0x53 ∷ 0x45 ∷ []) gives (0x8e ∷ 0x4d ∷ 0xa1 ∷ 0xbc ∷ []))
    ∷ [])
unfolding sub_byte mul xor mix_column dot forward tab
the_marked_examples_hold = (refl, (refl, (refl, (refl, (refl, tt)))))

pub the_inverse_is_one : (x : ℕ) → 0 < x → x < 256 → mul x (inverse x) ≡ 1
the_inverse_is_one = substitution.inverse_is

pub the_substitution_is_undone : (x : ℕ) → x < 256 → sub_byte_back (sub_byte x) ≡ x
the_substitution_is_undone = substitution.sub_undone

pub the_substitution_undoes : (x : ℕ) → x < 256 → sub_byte (sub_byte_back x) ≡ x
the_substitution_undoes = substitution.sub_back_undone

pub the_mix_is_undone : (c : List ℕ) → Bytes 4 c → mix_column backward (mix_column forward c) ≡ c
the_mix_is_undone = mixing.mix_undone

pub the_mix_undoes : (c : List ℕ) → Bytes 4 c → mix_column forward (mix_column backward c) ≡ c
the_mix_undoes = mixing.mix_back_undone

pub the_round_is_undone : (s k : List ℕ) → Bytes 16 s → aes_round_back (aes_round s k) k ≡ s
the_round_is_undone = rounds.round_undone

pub the_round_undoes : (s k : List ℕ) → Bytes 16 s → Bytes 16 k → aes_round (aes_round_back s k) k ≡ s
the_round_undoes = rounds.round_back_undone

-- ---- the path by tables

pub the_row_tables : (i x : ℕ) → x < 256 → get_or (row_table i) x 0 ≡ number (λ j. mul (get_or forward (4 * j + i) 0) (sub_byte x))
unfolding row_number
the_row_tables = by-tables.row_entry

pub the_round_by_tables : (s k : List ℕ) → Bytes 16 s → Bytes 16 k
    → bytes_of 4 (table_round (row_table 0) (row_table 1) (row_table 2) (row_table 3) (numbers 4 s) (numbers 4 k)) ≡ aes_round s k
the_round_by_tables s k S K = ap (bytes_of 4) (by-tables.table_round_lem s k S K) ∙ numbers.bytes_of_numbers 4 (aes_round s k) (rounds.round_bytes s k S K)
