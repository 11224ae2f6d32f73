-- Values that have the signs of speech as it is sent are read as its frames.
use Rattle.std.proofs.Common.{◌≡◌, ℕ, ◌+◌, ◌*◌, ◌<◌, ◌≤◌, ◌⊎◌, inl, inr, Bool, false, List, ◌++◌, length, take, drop, get_or, append_assoc, arith, refl, sym, ap, ◌∙◌, pos}
use Rattle.std.specs.Prelude.{ℤ}
use Rattle.std.proofs.lemmas.List.{length-append, length-take-le, length-drop, get_or-take, get_or-drop, get_or_append_left, get_or-append-add}
use Rattle.tetra_bits.specs.Cost.{metric}
use Rattle.tetra_bits.specs.Order.{bit_at}
use Rattle.tetra_bits.specs.Plain.{best_plain}
use Rattle.tetra_bits.specs.Soft.{value_at}
use Rattle.tetra_bits.specs.Undamaged.{HasSign, IsUndamaged}
use Rattle.tetra_bits.specs.lemmas.Written.{written_free, others_cost, free_is_best}
use Rattle.tetra_interleave.specs.Laws.{StayUndamaged, MatricesAreOneToOne}
use Rattle.tetra_interleave.specs.Matrix.{matrix_place}
use Rattle.tetra_parity.specs.Marks.{good_mark, BlocksAreGood}
use Rattle.tetra_parity.specs.Parity.{parity_bits, with_parity}
use Rattle.tetra_parity.specs.declared.kind.Parity.TheVariants.{Four, Eight}
use Rattle.tetra_parity.specs.lemmas.Messages.{length-parity_bits, length-with_parity}
use Rattle.tetra_puncture.specs.Best.{best_of, message_metric}
use Rattle.tetra_puncture.specs.Places.{speech_whole, speech_half}
use Rattle.tetra_puncture.specs.Plan.{CodePlan, IsMessage, WordsDiffer, word}
use Rattle.tetra_puncture.specs.lemmas.SpeechHalf.{speech_half_differ}
use Rattle.tetra_puncture.specs.lemmas.SpeechWhole.{speech_whole_differ}
use Rattle.tetra_puncture.specs.lemmas.Undamaged.{length-word, undamaged_free, undamaged_is_best}
use Rattle.tetra_speech.specs.Classes.{class_0, class_1, class_2, bits_at}
use Rattle.tetra_speech.specs.Frames.{alternated, whole_uncoded, whole_coded, half_uncoded, half_coded}
use Rattle.tetra_speech.specs.Laws.{PartsAreUndone, whole_written, half_written, UndamagedSpeechIsRead, UndamagedSpeechArrives}
use Rattle.tetra_speech.specs.Reading.{whole_reading, half_reading}
use Rattle.tetra_speech.specs.Words.{whole_message, whole_type3, whole_type4, half_message, half_type3, half_type4, whole_front, half_front}
use Rattle.tetra_speech.proofs.Pieces.{front_of, behind, second_of, behind_both}
use Rattle.tetra_speech.specs.lemmas.Sorted.{length-bits_at}
use Rattle.tetra_speech.specs.lemmas.Strands.{length-alternated}

-- the values of two lists behind one another have the signs of each
undamaged_front : (n : ℕ) (xs ys : List Bool) (soft : List ℤ) → length xs ≡ n → IsUndamaged (xs ++ ys) soft
    → IsUndamaged xs (take n soft)
undamaged_front n xs ys soft l u =
    let few : n ≤ length soft = omega (arith, u.size, length-append xs ys) in
    record {
      size = length-take-le n soft few ∙ sym l;
      signs = λ k h.
          let here : HasSign (bit_at (xs ++ ys) k) (value_at soft k) = u.signs k (omega (arith, length-append xs ys)) in
          let left : get_or (xs ++ ys) k false ≡ get_or xs k false = get_or_append_left xs ys false k h in
          let value : get_or (take n soft) k (pos 0) ≡ get_or soft k (pos 0) = get_or-take n soft k (pos 0) (omega arith) in
          rw (value, ← left) here;
    }

undamaged_behind : (n : ℕ) (xs ys : List Bool) (soft : List ℤ) → length xs ≡ n → IsUndamaged (xs ++ ys) soft
    → IsUndamaged ys (drop n soft)
undamaged_behind n xs ys soft l u = record {
  size = omega (arith, u.size, length-append xs ys, length-drop n soft);
  signs = λ k h.
      let here : HasSign (bit_at (xs ++ ys) (length xs + k)) (value_at soft (length xs + k)) =
      u.signs (length xs + k) (omega (arith, length-append xs ys))
      in
      let right : get_or (xs ++ ys) (length xs + k) false ≡ get_or ys k false = get_or-append-add xs ys k false in
      let value : get_or (drop n soft) k (pos 0) ≡ get_or soft (n + k) (pos 0) = get_or-drop n soft k (pos 0) in
      rw (value, ← l, ← right) here;
}

-- plain bits are read as they were written
undamaged_plain : (bits : List Bool) (values : List ℤ) → IsUndamaged bits values → best_plain values ≡ bits
unfolding best_plain
undamaged_plain bits values u =
    let others : (other : List Bool) → length other ≡ length values → (bits ≡ other) ⊎ (0 < metric values other) =
    λ other l. elim (others_cost bits other values u (l ∙ u.size)) [ inl same ↦ inl (sym same) | inr costs ↦ inr costs ]
    in
    sym (free_is_best (length values) (metric values) bits (sym u.size) (written_free bits values u) others)

-- what is read of uncoded bits and a sent word behind them
record ReadBack (p : CodePlan) (n : ℕ) (uncoded coded : List Bool) (soft : List ℤ) : Type 0 where
  plain : best_plain (take n soft) ≡ uncoded
  best : best_of p (drop n soft) ≡ coded
  free : message_metric p (drop n soft) coded ≡ 0

read_back : (p : CodePlan) (n : ℕ) (uncoded coded : List Bool) (soft : List ℤ) → WordsDiffer p → IsMessage p coded
    → length uncoded ≡ n → IsUndamaged (uncoded ++ word p coded) soft → ReadBack p n uncoded coded soft
read_back p n uncoded coded soft differ message l u =
    let front : IsUndamaged uncoded (take n soft) = undamaged_front n uncoded (word p coded) soft l u in
    let rest : IsUndamaged (word p coded) (drop n soft) = undamaged_behind n uncoded (word p coded) soft l u in
    record {
      plain = undamaged_plain uncoded (take n soft) front;
      best = undamaged_is_best p (drop n soft) coded differ message rest;
      free = undamaged_free p (drop n soft) coded rest;
    }

-- the bits of a whole slot by their parts
whole_message_is : (a b : List Bool)
    → whole_message a b ≡ a ++ (b ++ parity_bits Eight (alternated (bits_at class_2 a) (bits_at class_2 b)))
unfolding whole_message
whole_message_is a b = append_assoc a b _

whole_first : (a b : List Bool) → length a ≡ 137 → take 137 (whole_message a b) ≡ a
whole_first a b la = rw (whole_message_is a b) (front_of 137 a _ la)

whole_second : (a b : List Bool) → length a ≡ 137 → length b ≡ 137 → take 137 (drop 137 (whole_message a b)) ≡ b
whole_second a b la lb = rw (whole_message_is a b) (second_of 137 a b _ la lb)

whole_rest : (a b : List Bool) → length a ≡ 137 → length b ≡ 137
    → drop 274 (whole_message a b) ≡ parity_bits Eight (alternated (bits_at class_2 a) (bits_at class_2 b))
whole_rest a b la lb = rw (whole_message_is a b) (behind_both 137 274 a b _ refl la lb)

length-whole_message : (a b : List Bool) → length a ≡ 137 → length b ≡ 137 → length (whole_message a b) ≡ 282
length-whole_message a b la lb =
    let block : List Bool = alternated (bits_at class_2 a) (bits_at class_2 b) in
    let one : length (a ++ (b ++ parity_bits Eight block)) ≡ length a + length (b ++ parity_bits Eight block) =
    length-append a (b ++ parity_bits Eight block)
    in
    let two : length (b ++ parity_bits Eight block) ≡ length b + length (parity_bits Eight block) =
    length-append b (parity_bits Eight block)
    in
    rw (whole_message_is a b) (omega (arith, length-parity_bits Eight block))

whole_coded_is : (a b : List Bool) → length a ≡ 137 → length b ≡ 137
    → whole_coded (whole_message a b)
    ≡ alternated (bits_at class_1 a) (bits_at class_1 b)
    ++ with_parity Eight (alternated (bits_at class_2 a) (bits_at class_2 b))
unfolding whole_coded with_parity
whole_coded_is a b la lb =
    rw (whole_first a b la, whole_second a b la lb, whole_rest a b la lb)
    (append_assoc (alternated (bits_at class_1 a) (bits_at class_1 b)) (alternated (bits_at class_2 a) (bits_at class_2 b)) _)

length-pair : (places : List ℕ) (a b : List Bool) → length (alternated (bits_at places a) (bits_at places b)) ≡ 2 * length places
length-pair places a b = length-alternated _ _ ∙ ap (λ n. 2 * n) (length-bits_at places a)

length-whole_uncoded : (bits : List Bool) → length (whole_uncoded bits) ≡ 102
unfolding whole_uncoded
length-whole_uncoded bits = length-pair class_0 _ _

whole_protected : (a b : List Bool) → length a ≡ 137 → length b ≡ 137
    → drop 112 (whole_coded (whole_message a b)) ≡ with_parity Eight (alternated (bits_at class_2 a) (bits_at class_2 b))
whole_protected a b la lb = ap (drop 112) (whole_coded_is a b la lb) ∙ behind 112 _ _ (length-pair class_1 a b)

length-whole_coded : (a b : List Bool) → length a ≡ 137 → length b ≡ 137 → IsMessage speech_whole (whole_coded (whole_message a b))
length-whole_coded a b la lb =
    let one : List Bool = alternated (bits_at class_1 a) (bits_at class_1 b) in
    let two : List Bool = alternated (bits_at class_2 a) (bits_at class_2 b) in
    let e = ap length (whole_coded_is a b la lb) ∙ length-append one (with_parity Eight two) in
    let one_is : length one ≡ 112 = length-pair class_1 a b in
    let two_is : length two ≡ 60 = length-pair class_2 a b in
    omega (arith, e, length-with_parity Eight two)

undamaged_whole : PartsAreUndone → BlocksAreGood → (a b : List Bool) (soft : List ℤ) → length a ≡ 137 → length b ≡ 137
    → IsUndamaged (whole_type3 a b) soft → whole_reading soft ≡ whole_written a b soft
unfolding whole_reading whole_written whole_type3 good_mark
undamaged_whole undone good a b soft la lb u =
    let bits : List Bool = whole_message a b in
    let read = read_back speech_whole 102 (whole_uncoded bits) (whole_coded bits) soft speech_whole_differ
    (length-whole_coded a b la lb) (length-whole_uncoded bits) u in
    rw (
      read.best,
      read.free,
      read.plain,
      whole_protected a b la lb,
      good Eight (alternated (bits_at class_2 a) (bits_at class_2 b)),
      undone.whole_again bits (length-whole_message a b la lb),
    ) refl

-- the same of half a slot
half_first : (frame : List Bool) → length frame ≡ 137 → take 137 (half_message frame) ≡ frame
unfolding half_message
half_first frame l = front_of 137 frame _ l

half_rest : (frame : List Bool) → length frame ≡ 137 → drop 137 (half_message frame) ≡ parity_bits Four (bits_at class_2 frame)
unfolding half_message
half_rest frame l = behind 137 frame _ l

length-half_message : (frame : List Bool) → length frame ≡ 137 → length (half_message frame) ≡ 141
unfolding half_message
length-half_message frame l =
    let block : List Bool = bits_at class_2 frame in
    omega (arith, length-append frame (parity_bits Four block), length-parity_bits Four block)

half_coded_is : (frame : List Bool) → length frame ≡ 137
    → half_coded (half_message frame) ≡ bits_at class_1 frame ++ with_parity Four (bits_at class_2 frame)
unfolding half_coded with_parity
half_coded_is frame l = rw (half_first frame l, half_rest frame l) (append_assoc (bits_at class_1 frame) (bits_at class_2 frame) _)

length-half_uncoded : (bits : List Bool) → length (half_uncoded bits) ≡ 51
unfolding half_uncoded
length-half_uncoded bits = length-bits_at class_0 _

half_protected : (frame : List Bool) → length frame ≡ 137
    → drop 56 (half_coded (half_message frame)) ≡ with_parity Four (bits_at class_2 frame)
half_protected frame l = ap (drop 56) (half_coded_is frame l) ∙ behind 56 _ _ (length-bits_at class_1 frame)

length-half_coded : (frame : List Bool) → length frame ≡ 137 → IsMessage speech_half (half_coded (half_message frame))
length-half_coded frame l =
    let one : List Bool = bits_at class_1 frame in
    let two : List Bool = bits_at class_2 frame in
    let e = ap length (half_coded_is frame l) ∙ length-append one (with_parity Four two) in
    let one_is : length one ≡ 56 = length-bits_at class_1 frame in
    let two_is : length two ≡ 30 = length-bits_at class_2 frame in
    omega (arith, e, length-with_parity Four two)

undamaged_half : PartsAreUndone → BlocksAreGood → (frame : List Bool) (soft : List ℤ) → length frame ≡ 137
    → IsUndamaged (half_type3 frame) soft → half_reading soft ≡ half_written frame soft
unfolding half_reading half_written half_type3 good_mark
undamaged_half undone good frame soft l u =
    let bits : List Bool = half_message frame in
    let read = read_back speech_half 51 (half_uncoded bits) (half_coded bits) soft speech_half_differ
    (length-half_coded frame l) (length-half_uncoded bits) u in
    rw (
      read.best,
      read.free,
      read.plain,
      half_protected frame l,
      good Four (bits_at class_2 frame),
      undone.half_again bits (length-half_message frame l),
    ) refl

pub undamaged_speech_is_read : PartsAreUndone → BlocksAreGood → UndamagedSpeechIsRead
undamaged_speech_is_read undone good = record { whole = undamaged_whole undone good; half = undamaged_half undone good }

-- there are as many type-3 bits as values
pub length-whole_type3 : (a b : List Bool) → length (whole_type3 a b) ≡ 432
unfolding whole_type3
length-whole_type3 a b =
    let bits : List Bool = whole_message a b in
    omega (
      arith,
      length-append (whole_uncoded bits) (word speech_whole (whole_coded bits)),
      length-whole_uncoded bits,
      length-word speech_whole (whole_coded bits),
    )

pub length-half_type3 : (frame : List Bool) → length (half_type3 frame) ≡ 216
unfolding half_type3
length-half_type3 frame =
    let bits : List Bool = half_message frame in
    omega (
      arith,
      length-append (half_uncoded bits) (word speech_half (half_coded bits)),
      length-half_uncoded bits,
      length-word speech_half (half_coded bits),
    )

pub undamaged_speech_arrives : MatricesAreOneToOne → StayUndamaged → UndamagedSpeechArrives
unfolding whole_type4 half_type4 whole_front half_front
undamaged_speech_arrives one stay = record {
  whole = λ a b soft u. stay 432 (matrix_place 24 18) (whole_type3 a b) soft (one 24 18) (length-whole_type3 a b) u;
  half = λ frame soft u. stay 216 (matrix_place 24 9) (half_type3 frame) soft (one 24 9) (length-half_type3 frame) u;
}
