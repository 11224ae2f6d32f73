-- Written slots: how many values they have, and that these are soft values.
use Rattle.std.proofs.Common.{◌≡◌, ℕ, ◌+◌, ◌-◌, Bool, true, false, cond, List, [], ◌∷◌, length, pos, arith, refl, ◌∙◌}
use Rattle.std.proofs.lemmas.Int.{ints}
use Rattle.std.proofs.lemmas.List.{length-append}
use Rattle.std.proofs.lemmas.List.Elements.{All-append}
use Rattle.tetra_bits.specs.Numbered.{length-numbered, all_numbered}
use Rattle.tetra_bits.specs.Order.{bit_at}
use Rattle.tetra_bits.specs.Soft.{IsSoft, AllSoft}
use Rattle.tetra_bursts.specs.Slot.{Carried, bits_of, level, levels, flat, span_values, written}
use Rattle.tetra_bursts.specs.Table.{is_part, total}
use Rattle.tetra_bursts.specs.declared.table.Part.TheVariants.{Silent}
use Rattle.tetra_bursts.specs.declared.table.Span.{Span}

span_size : (carried : Carried) (s : Span) → length (span_values carried s) ≡ s.count
unfolding flat levels
span_size carried s =
    elim (is_part Silent s.part) as (λ b. length (cond b (flat (pos 0) s.count) (levels (bits_of carried s.part) (s.from - 1) s.count)) ≡ s.count) [
      | true ↦ length-numbered (λ _. pos 0) s.count
      | false ↦ length-numbered (λ (i : ℕ). level (bit_at (bits_of carried s.part) (s.from - 1 + (i - 1)))) s.count
    ]

pub written_size : (carried : Carried) (table : List Span) → length (written carried table) ≡ total table
unfolding written
written_size carried [] = refl
written_size carried (s ∷ rest) =
    length-append (span_values carried s) (written carried rest) ∙ rw (span_size carried s, written_size carried rest) refl

level_soft : (bit : Bool) → IsSoft (level bit)
level_soft true = (omega (arith, ints), omega (arith, ints))
level_soft false = (omega (arith, ints), omega (arith, ints))

zero_soft : IsSoft (pos 0)
zero_soft = (omega (arith, ints), omega (arith, ints))

span_soft : (carried : Carried) (s : Span) → AllSoft (span_values carried s)
unfolding flat levels
span_soft carried s =
    elim (is_part Silent s.part) as (λ b. AllSoft (cond b (flat (pos 0) s.count) (levels (bits_of carried s.part) (s.from - 1) s.count))) [
      | true ↦ all_numbered IsSoft (λ _. pos 0) s.count (λ _. zero_soft)
      | false ↦ all_numbered IsSoft (λ (i : ℕ). level (bit_at (bits_of carried s.part) (s.from - 1 + (i - 1)))) s.count (λ i. level_soft (bit_at (bits_of carried s.part) (s.from - 1 + (i - 1))))
    ]

pub written_soft : (carried : Carried) (table : List Span) → AllSoft (written carried table)
unfolding written
written_soft carried [] = λ k d h. absurd (omega arith)
written_soft carried (s ∷ rest) =
    All-append IsSoft (span_values carried s) (written carried rest) (span_soft carried s) (written_soft carried rest)
