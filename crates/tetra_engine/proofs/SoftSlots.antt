-- The bytes of slots stand for soft values.
use Prim.Native.Nat.{zero, suc}
use Rattle.std.proofs.Common.{◌≡◌, ℕ, ◌-◌, ◌<◌, ◌≤◌, List, [], ◌∷◌, map, Bool, true, false, cond, nat_lt, nat_eq, pos, negsuc, All, get_or, arith, refl}
use Rattle.std.proofs.lemmas.Bool.Decides.{nat_tests}
use Rattle.std.proofs.lemmas.Int.{ints}
use Rattle.std.proofs.lemmas.List.Elements.{All-map}
use Rattle.tetra_bits.specs.Soft.{IsSoft, AllSoft, soft_value}
use Rattle.tetra_engine.specs.Slots.{soft_values}

-- every byte stands for a soft value
soft_byte : (byte : ℕ) → IsSoft (soft_value byte)
soft_byte byte = by_tests (nat_lt byte 128) (nat_eq byte 128) refl refl
  where
    by_tests : (low edge : Bool) → nat_lt byte 128 ≡ low → nat_eq byte 128 ≡ edge → IsSoft (cond low (pos byte) (cond edge (negsuc 126) (negsuc (255 - byte))))
    by_tests true edge is_low is_edge = let below : byte < 128 = grind (arith, nat_tests) in (omega (arith, ints), omega (arith, ints))
    by_tests false true is_low is_edge = (omega (arith, ints), omega (arith, ints))
    by_tests false false is_low is_edge = let above : 129 ≤ byte = grind (arith, nat_tests) in (omega (arith, ints), omega (arith, ints))

pub soft_slot : (slot : List ℕ) → AllSoft (soft_values slot)
soft_slot [] k d within = absurd (omega arith)
soft_slot (byte ∷ slot) zero d within = soft_byte byte
soft_slot (byte ∷ slot) (suc k) d within = soft_slot slot k d (omega arith)

pub soft_slots : (slots : List (List ℕ)) → All AllSoft (map soft_values slots)
soft_slots slots = All-map AllSoft soft_values slots (λ k d within. soft_slot (get_or slots k d))
