-- A buffer that is filled part by part with the bytes behind a letter.
use Rattle.std.proofs.Common.{◌≡◌, ℕ, ◌+◌, ◌-◌, ◌≤◌, ◌<◌, List, ◌++◌, length, length-append, length-take-le, length-take, length-drop, take, drop, get_or-take, Bool, refl, sym, ap, ◌∙◌, subst, Option, Ok, arith, drop_at}
use Rattle.std.specs.Prelude.{slice_index}
use Rattle.std.specs.Io.KnownBytes.{Consumes, IsAtEnd}
use Rattle.std.proofs.KnownBytes.{Consumes-trans}
use Rattle.std.proofs.Math.ListN.{get_or-append}
use Rattle.std.proofs.lemmas.Slice.{take-put_mid}
use borrow.Rule.Slice.PartMut.{put_mid}
use Rattle.tetra_io.specs.Filling.{TakesFewer}
use Rattle.tetra_io.specs.lemmas.Told.{AreTold-all, Went-behind}
use Rattle.tetra_settings.specs.declared.slots.Letter.{Letter}
use Rattle.tetra_settings.specs.declared.slots.Letter.TheVariants.{F, H, S, T, P, Q, C}
use Rattle.tetra_settings.specs.Blocks.{field_bits}
use Rattle.tetra_records.specs.declared.parsing.Layout.{Layout}
use Rattle.tetra_records.specs.Layouts.{access_bytes, mask_bytes, head_bytes, first_sent, second_sent, mask_behind, bits_in, fields_bytes, record_bytes}
use Rattle.tetra_records.specs.Buffers.{TakesLess, EndsShort, BehindGives}

pub part_filled : (from to : ℕ) (xs ys : List ℕ) → from ≤ to → to ≤ length xs → length ys ≡ to - from → take to (put_mid from (to - from) xs ys) ≡ take from xs ++ ys
part_filled from to xs ys part room size = take-put_mid from (to - from) xs ys to (omega arith) (omega arith)

pub part_is : (from to : ℕ) (xs ys : List ℕ) → from ≤ to → to ≤ length xs → length ys ≡ to - from → drop from (take to (put_mid from (to - from) xs ys)) ≡ ys
part_is from to xs ys part room size =
    let within : from ≤ length xs = omega arith in
    ap (drop from) (part_filled from to xs ys part room size) ∙ drop_at (take from xs) ys from (length-take-le from xs within)

-- the head of the bytes behind a letter says how long the record is
mask_kept : (letter : Letter) (at : ℕ) (front more : List ℕ) → at + mask_bytes letter ≤ length front → mask_behind letter at (front ++ more) ≡ mask_behind letter at front
mask_kept F at front more h = refl
mask_kept H at front more h = refl
mask_kept S at front more h = refl
mask_kept T at front more h = refl
mask_kept P at front more h = refl
mask_kept Q at front more h = refl
mask_kept C at front more h = get_or-append front more 0 at (omega arith)

pub size_kept : (layout : Layout) (front more : List ℕ) → head_bytes layout ≤ length front → record_bytes layout (front ++ more) ≡ record_bytes layout front
unfolding record_bytes
size_kept layout front more h =
    ap (λ m. head_bytes layout + fields_bytes (field_bits layout.letter layout.mode (first_sent layout.letter m) (second_sent layout.letter m))) (mask_kept layout.letter (access_bytes layout.dir) front more h)

pub head_small : (layout : Layout) (bytes : List ℕ) → head_bytes layout ≤ record_bytes layout bytes
unfolding record_bytes
head_small layout bytes = omega arith

-- the mask in a buffer whose head is filled is the mask in the head
mask_in_head : (letter : Letter) (at : ℕ) (buf : List ℕ) → at + mask_bytes letter ≤ length buf
    → (first_sent letter (slice_index buf at) ≡ first_sent letter (mask_behind letter at (take (at + mask_bytes letter) buf)))
    × (second_sent letter (slice_index buf at) ≡ second_sent letter (mask_behind letter at (take (at + mask_bytes letter) buf)))
mask_in_head F at buf h = (refl, refl)
mask_in_head H at buf h = (refl, refl)
mask_in_head S at buf h = (refl, refl)
mask_in_head T at buf h = (refl, refl)
mask_in_head P at buf h = (refl, refl)
mask_in_head Q at buf h = (refl, refl)
mask_in_head C at buf h =
    let same : slice_index buf at ≡ slice_index (take (at + 1) buf) at = sym (get_or-take (at + 1) buf at 0 (omega arith)) in
    (ap (first_sent C) same, ap (second_sent C) same)

module _ (layout : Layout) (buf : List ℕ) (room : head_bytes layout ≤ length buf) (first second : Bool) (is_first : first ≡ first_sent layout.letter (slice_index buf (access_bytes layout.dir)))
    (is_second : second ≡ second_sent layout.letter (slice_index buf (access_bytes layout.dir))) where
  -- the size of the record by the mask in the buffer
  pub size_read : head_bytes layout + fields_bytes (field_bits layout.letter layout.mode first second) ≡ record_bytes layout (take (head_bytes layout) buf)
  unfolding record_bytes
  size_read =
      let both = mask_in_head layout.letter (access_bytes layout.dir) buf room in
      rw (is_first, is_second, both.0, both.1) refl

-- what was taken where the bytes end in the head
pub head_ended : (layout : Layout) (old new : Option (List ℕ)) (front : List ℕ) → length front < head_bytes layout → Consumes old new front → IsAtEnd new → EndsShort layout old new
head_ended layout old new front short consumed ended = (front, AreTold-all old new front consumed ended, omega (arith, head_small layout front), consumed)

pub head_failed : (layout : Layout) (old new : Option (List ℕ)) (n : ℕ) → n ≤ head_bytes layout → TakesFewer old new n → TakesLess layout old new
head_failed layout old new n head (part, few, went) = (part, omega (arith, head_small layout part), went)

-- and in the fields
module _ (layout : Layout) (old mid new : Option (List ℕ)) (front : List ℕ) (head : head_bytes layout ≤ length front) (came : Consumes old mid front) where
  pub fields_ended : (more : List ℕ) → length front + length more < record_bytes layout front → Consumes mid new more → IsAtEnd new → EndsShort layout old new
  fields_ended more short consumed ended =
      let both = Consumes-trans old mid new front more came consumed in
      (front ++ more, AreTold-all old new (front ++ more) both ended, omega (arith, length-append front more, size_kept layout front more head), both)

  pub fields_failed : (n : ℕ) → length front + n ≤ record_bytes layout front → TakesFewer mid new n → TakesLess layout old new
  fields_failed n size (part, few, went) =
      (front ++ part, omega (arith, length-append front part, size_kept layout front part head), Went-behind old mid new front part came went)

module _ (layout : Layout) (old mid new : Option (List ℕ)) (one two : List ℕ) (h fields : ℕ) (bits : List ℕ) (first second : Bool) (at : ℕ)
    (at_head : h ≡ head_bytes layout) (at_access : at ≡ access_bytes layout.dir) (long : length one ≡ 88) (room : h ≤ 88)
    (is_first : first ≡ first_sent layout.letter (slice_index one at)) (is_second : second ≡ second_sent layout.letter (slice_index one at))
    (is_bits : bits ≡ field_bits layout.letter layout.mode first second) (is_fields : fields ≡ fields_bytes bits)
    (front : take (h + fields) two ≡ take h one ++ drop h (take (h + fields) two)) (came : Consumes old mid (take h one)) where
  head_long : head_bytes layout ≤ length (take h one)
  head_long = omega (arith, length-take h one)

  sized : h + fields ≡ record_bytes layout (take h one)
  sized =
      let inside : head_bytes layout ≤ length one = omega arith in
      let read = size_read layout one inside first second (is_first ∙ ap (λ n. first_sent layout.letter (slice_index one n)) at_access) (is_second ∙ ap (λ n. second_sent layout.letter (slice_index one n)) at_access) in
      ap (λ n. n + fields) at_head ∙ ap (λ n. head_bytes layout + n) (is_fields ∙ ap fields_bytes is_bits) ∙ read ∙ ap (λ n. record_bytes layout (take n one)) (sym at_head)

  pub behind_whole : h + fields ≤ 88 → Consumes mid new (drop h (take (h + fields) two)) → BehindGives layout old new (Ok (h + fields)) two
  behind_whole fits more = (
    omega arith,
    fits,
    sized ∙ sym (size_kept layout (take h one) (drop h (take (h + fields) two)) head_long) ∙ ap (record_bytes layout) (sym front),
    subst (Consumes old new) (sym front) (Consumes-trans old mid new (take h one) (drop h (take (h + fields) two)) came more),
  )

  rest_length : length (drop h (take (h + fields) two)) ≤ fields
  rest_length = omega (arith, length-drop h (take (h + fields) two), length-take (h + fields) two)

  pub behind_ended : (n : ℕ) → n < length (drop h (take (h + fields) two)) → Consumes mid new (take n (drop h (take (h + fields) two))) → IsAtEnd new → EndsShort layout old new
  behind_ended n few more ended =
      fields_ended layout old mid new (take h one) head_long came (take n (drop h (take (h + fields) two)))
      (omega (arith, sized, length-take n (drop h (take (h + fields) two)), length-take h one, rest_length)) more ended

  pub behind_failed : TakesFewer mid new (length (drop h (take (h + fields) two))) → TakesLess layout old new
  behind_failed took =
      fields_failed layout old mid new (take h one) head_long came (length (drop h (take (h + fields) two))) (omega (arith, sized, length-take h one, rest_length)) took

-- the bytes behind the head are those of the fields
pub rest_size : (layout : Layout) (n : ℕ) (buf : List ℕ) → length buf ≡ 88 → n ≤ 88 → n ≡ record_bytes layout (take n buf)
    → length (drop (head_bytes layout) (take n buf)) ≡ fields_bytes (bits_in layout (take n buf))
unfolding record_bytes
rest_size layout n buf long fits size = omega (arith, length-drop (head_bytes layout) (take n buf), length-take n buf)
