-- Bursts that arrive undamaged.
use Rattle.std.proofs.Common.{◌≡◌, ℕ, ◌+◌, ◌-◌, ◌<◌, Bool, true, false, ℤ, pos, List, [], ◌∷◌, ◌++◌, length, take, drop, cond, nat_eq, nat_le, arith, refl, ap, sym, ◌∙◌, inl, inr}
use Rattle.std.proofs.lemmas.Bool.{cases_lt, le-leb, lt-leb, eqb-true}
use Rattle.std.proofs.lemmas.List.{get_or-take, get_or-drop, get_or_append_left, get_or-append_right, length-append, length-take-le, length-drop}
use Rattle.tetra_bits.specs.Numbered.{numbered, length-numbered, get_or-numbered, is_numbered}
use Rattle.tetra_bits.specs.Order.{bit_at}
use Rattle.tetra_bits.specs.Soft.{value_at}
use Rattle.tetra_bits.specs.Undamaged.{HasSign, IsUndamaged}
use Rattle.tetra_bursts.specs.Table.{is_part, number}
use Rattle.tetra_bursts.specs.Slot.{Carried, with_pairs, bits_of, level, written, read}
use Rattle.tetra_bursts.specs.Laws.{part_at, number_at, part_bit, part_value}
use Rattle.tetra_bursts.specs.Arrives.{is_free, KeepsBy}
use Rattle.tetra_bursts.specs.lemmas.Joined.{undamaged_both}
use Rattle.tetra_bursts.specs.declared.table.Part.{Part}
use Rattle.tetra_bursts.specs.declared.table.Part.TheVariants.{Silent, Tail, Training, Q, X, Frequency, First, Second, Aach, Sync, Pairs}
use Rattle.tetra_bursts.specs.declared.table.Span.{Span}
use Rattle.tetra_bursts.specs.declared.table.Train.TheVariants.{N, P, Y}
use Rattle.tetra_bursts.specs.lemmas.Written.{written_size}
use Rattle.tetra_bursts.proofs.TableLemmas.{written_at}

-- so many bits of a list, the first few left out
unfoldable pub taken : List Bool → ℕ → ℕ → List Bool
taken bits skipped n = numbered (λ i. bit_at bits (skipped + (i - 1))) n

pub taken_size : (bits : List Bool) (skipped n : ℕ) → length (taken bits skipped n) ≡ n
unfolding taken
taken_size bits skipped n = length-numbered _ n

pub taken_bit : (bits : List Bool) (skipped n k : ℕ) → k < n → bit_at (taken bits skipped n) k ≡ bit_at bits (skipped + k)
unfolding taken
taken_bit bits skipped n k h =
    let place : skipped + (k + 1 - 1) ≡ skipped + k = omega arith in
    get_or-numbered (λ (i : ℕ). bit_at bits (skipped + (i - 1))) n k false h ∙ ap (bit_at bits) place

-- all bits of a list, in one piece or in two
pub all_taken : (bits : List Bool) (n : ℕ) → length bits ≡ n → taken bits 0 n ≡ bits
unfolding taken
all_taken bits n l =
    sym (is_numbered (λ (i : ℕ). bit_at bits (0 + (i - 1))) n false bits l (λ k h. let place : k ≡ 0 + (k + 1 - 1) = omega arith in ap (bit_at bits) place))

same_lists : (a b : List Bool) (n : ℕ) → length a ≡ n → length b ≡ n → ((k : ℕ) → k < n → bit_at a k ≡ bit_at b k) → a ≡ b
same_lists a b n la lb e =
    is_numbered (λ (i : ℕ). bit_at b (i - 1)) n false a la (λ k h. let place : k ≡ k + 1 - 1 = omega arith in e k h ∙ ap (bit_at b) place)
    ∙ sym (is_numbered (λ (i : ℕ). bit_at b (i - 1)) n false b lb (λ k h. let place : k ≡ k + 1 - 1 = omega arith in ap (bit_at b) place))

pub both_taken : (bits : List Bool) (m n : ℕ) → length bits ≡ m + n → taken bits 0 m ++ taken bits m n ≡ bits
both_taken bits m n l =
    same_lists (taken bits 0 m ++ taken bits m n) bits (m + n) (length-append (taken bits 0 m) (taken bits m n) ∙ rw (taken_size bits 0 m, taken_size bits m n) refl) l
    (λ k h. elim (cases_lt k m) [
      | inl below ↦
          let inside : k < length (taken bits 0 m) = rw (taken_size bits 0 m) below in
          let place : 0 + k ≡ k = omega arith in
          get_or_append_left (taken bits 0 m) (taken bits m n) false k inside ∙ taken_bit bits 0 m k below ∙ ap (bit_at bits) place
      | inr above ↦
          let place : m + (k - m) ≡ k = omega arith in
          get_or-append_right (taken bits 0 m) (taken bits m n) m k false (taken_size bits 0 m) above
          ∙ taken_bit bits m n (k - m) (omega arith) ∙ ap (bit_at bits) place
    ])

pub nothing_undamaged : IsUndamaged [] []
nothing_undamaged = record { size = refl; signs = λ k h. absurd (omega arith) }

-- parts of the same number are free or not alike
free_number : ℕ → Bool
free_number n = cond (nat_eq n 0) true (nat_eq n 12)

free_by_number : (part : Part) → is_free part ≡ free_number (number part)
unfolding free_number
free_by_number Silent = refl
free_by_number Tail = refl
free_by_number (Training N) = refl
free_by_number (Training P) = refl
free_by_number (Training Y) = refl
free_by_number Q = refl
free_by_number X = refl
free_by_number Frequency = refl
free_by_number First = refl
free_by_number Second = refl
free_by_number Aach = refl
free_by_number Sync = refl
free_by_number Pairs = refl

same_freedom : (a b : Part) → true ≡ is_part a b → is_free b ≡ is_free a
same_freedom a b same =
    let equal : number a ≡ number b = eqb-true (number a) (number b) (sym same) in
    free_by_number b ∙ ap free_number (sym equal) ∙ sym (free_by_number a)

-- behind a span, and in it
pub keeps_rest : (carried : Carried) (s : Span) (rest : List Span) (received : List ℤ)
    → KeepsBy carried (s ∷ rest) received → KeepsBy carried rest (drop s.count received)
keeps_rest carried s rest received h =
    let size = h.size in
    record {
      size = length-drop s.count received ∙ omega arith;
      signs = λ k low high bound.
          let there : nat_le (s.count + k) s.count ≡ false = lt-leb (s.count + k) s.count (omega arith) in
          let back : s.count + k - s.count ≡ k = omega arith in
          let place : s.count + k - 1 ≡ s.count + (k - 1) = omega arith in
          let value : value_at (drop s.count received) (k - 1) ≡ value_at received (s.count + (k - 1)) = get_or-drop s.count received (k - 1) (pos 0) in
          let sign = h.signs (s.count + k) (omega arith) (omega arith) (rw (there, back) bound) in
          rw value (rw (there, back, place) at sign);
    }

pub keeps_span : (carried : Carried) (s : Span) (rest : List Span) (received : List ℤ) → is_free s.part ≡ false
    → KeepsBy carried (s ∷ rest) received → IsUndamaged (taken (bits_of carried s.part) (s.from - 1) s.count) (take s.count received)
keeps_span carried s rest received bound h =
    let size = h.size in
    let there = taken_size (bits_of carried s.part) (s.from - 1) s.count in
    record {
      size = length-take-le s.count received (omega arith) ∙ sym there;
      signs = λ k inside.
          let within : k < s.count = omega arith in
          let here : nat_le (k + 1) s.count ≡ true = le-leb (k + 1) s.count (omega arith) in
          let place : s.from - 1 + (k + 1) - 1 ≡ s.from - 1 + k = omega arith in
          let first : k + 1 - 1 ≡ k = omega arith in
          let sign = h.signs (k + 1) (omega arith) (omega arith) (rw here bound) in
          rw (taken_bit (bits_of carried s.part) (s.from - 1) s.count k within, get_or-take s.count received k (pos 0) within)
          (rw (here, place, first) at sign);
    }

-- the bits of a part, span by span
unfoldable pub sent_bits : Carried → Part → List Span → List Bool
sent_bits carried part [] = []
sent_bits carried part (s ∷ rest) =
    cond (is_part part s.part) (taken (bits_of carried s.part) (s.from - 1) s.count) [] ++ sent_bits carried part rest

one_span : (b : Bool) (bits : List Bool) (values : List ℤ) → (true ≡ b → IsUndamaged bits values) → IsUndamaged (cond b bits []) (cond b values [])
one_span true bits values h = h refl
one_span false bits values h = nothing_undamaged

-- what is read of a part is undamaged
pub part_arrives : (carried : Carried) (part : Part) (table : List Span) (received : List ℤ) → is_free part ≡ false
    → KeepsBy carried table received → IsUndamaged (sent_bits carried part table) (read part table received)
unfolding sent_bits read
part_arrives carried part [] received bound h = nothing_undamaged
part_arrives carried part (s ∷ rest) received bound h =
    undamaged_both (cond (is_part part s.part) (taken (bits_of carried s.part) (s.from - 1) s.count) []) (sent_bits carried part rest)
    (cond (is_part part s.part) (take s.count received) []) (read part rest (drop s.count received))
    (one_span (is_part part s.part) (taken (bits_of carried s.part) (s.from - 1) s.count) (take s.count received)
    (λ same. keeps_span carried s rest received (same_freedom part s.part same ∙ bound) h))
    (part_arrives carried part rest (drop s.count received) bound (keeps_rest carried s rest received h))

-- a written slot keeps what it carries
level_sign : (b : Bool) → HasSign b (level b)
level_sign false = omega arith
level_sign true = tt

kept_level : (carried : Carried) (pairs : List Bool) (part : Part) (i : ℕ) → is_free part ≡ false
    → HasSign (part_bit carried part i) (part_value (with_pairs carried pairs) part i)
kept_level carried pairs Silent i bound = cc
kept_level carried pairs Tail i bound = level_sign (part_bit carried Tail i)
kept_level carried pairs (Training N) i bound = level_sign (part_bit carried (Training N) i)
kept_level carried pairs (Training P) i bound = level_sign (part_bit carried (Training P) i)
kept_level carried pairs (Training Y) i bound = level_sign (part_bit carried (Training Y) i)
kept_level carried pairs Q i bound = level_sign (part_bit carried Q i)
kept_level carried pairs X i bound = level_sign (part_bit carried X i)
kept_level carried pairs Frequency i bound = level_sign (part_bit carried Frequency i)
kept_level carried pairs First i bound = level_sign (part_bit carried First i)
kept_level carried pairs Second i bound = level_sign (part_bit carried Second i)
kept_level carried pairs Aach i bound = level_sign (part_bit carried Aach i)
kept_level carried pairs Sync i bound = level_sign (part_bit carried Sync i)
kept_level carried pairs Pairs i bound = cc

pub written_keeps : (carried : Carried) (pairs : List Bool) (table : List Span) → KeepsBy carried table (written (with_pairs carried pairs) table)
written_keeps carried pairs table =
    record {
      size = written_size (with_pairs carried pairs) table;
      signs = λ k low high bound.
          rw (written_at (with_pairs carried pairs) table k low high)
          (kept_level carried pairs (part_at table k) (number_at table k) bound);
    }
