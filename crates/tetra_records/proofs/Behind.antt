-- What is behind the letter in the record of blocks: how long it is, that its pad bits are 0, and that it names the blocks.
use Rattle.std.proofs.Common.{◌≡◌, ℕ, ◌+◌, ◌*◌, ◌/◌, ◌%◌, List, [], ◌∷◌, ◌++◌, length, length-append, take, drop, get_or, Bool, refl, sym, ap, ◌∙◌, subst, inl, inr, Option, Some, None, append_assoc, append-nil, arith}
use Rattle.std.specs.Prelude.{slice_index, unwrap_or}
use Rattle.std.proofs.Math.Seq.{take-append_seam, drop-append_seam, get_or-append_seam}
use Rattle.tetra_bits.specs.Packed.{packed, bytes_for, HasPad}
use Rattle.tetra_bits.specs.lemmas.Packing_lists.{packed_apart, packed_pads}
use Rattle.tetra_settings.specs.declared.types.Dir.{Dir}
use Rattle.tetra_settings.specs.declared.types.Dir.TheVariants.{Dl, Ul}
use Rattle.tetra_settings.specs.declared.types.Mode.{Mode}
use Rattle.tetra_settings.specs.declared.slots.Letter.{Letter}
use Rattle.tetra_settings.specs.declared.blocks.Body.{Body}
use Rattle.tetra_settings.specs.declared.blocks.Body.TheVariants.{Full, Halves, Sync, Traffic, Stolen, Both, Control}
use Rattle.tetra_settings.specs.declared.blocks.SlotBlocks.{SlotBlocks}
use Rattle.tetra_settings.specs.Blocks.{letter_of, fields_of, sends_first, sends_second, field_bits, body_of, Lengths, HasLengths, FitsAccess}
use Rattle.tetra_records.specs.declared.parsing.Layout.{Layout}
use Rattle.tetra_records.specs.Spelling.{access_spelling, mask_spelling, fields_spelling, behind_letter}
use Rattle.tetra_records.specs.Layouts.{access_bytes, mask_bytes, head_bytes, first_sent, second_sent, mask_behind, mask_in, bits_in, fields_bytes, record_bytes, AccessHasPad, MaskHasPad, FieldsHavePad, RecordHasPad}
use Rattle.tetra_records.proofs.Fields.{packed_length, field_at}

-- lists of one length that begin the same bytes are the same
pub split_front : (p q x y : List ℕ) → length p ≡ length q → p ++ x ≡ q ++ y → (p ≡ q) × (x ≡ y)
split_front [] [] x y l e = (refl, e)
split_front [] (b ∷ q) x y l e = absurd (omega arith)
split_front (a ∷ p) [] x y l e = absurd (omega arith)
split_front (a ∷ p) (b ∷ q) x y l e =
    let more : p ++ x ≡ q ++ y = cc e in
    let head : a ≡ b = cc e in
    let both = split_front p q x y (omega arith) more in
    let front : p ≡ q = both.0 in
    (cc, both.1)

access_length : (dir : Dir) (access : Option ℕ) → FitsAccess dir access → length (access_spelling access) ≡ access_bytes dir
access_length Dl (Some message) fits = refl
access_length Dl None fits = absurd fits
access_length Ul None fits = refl
access_length Ul (Some message) fits = absurd fits

access_apart : (dir : Dir) (x y : Option ℕ) → FitsAccess dir x → FitsAccess dir y → access_spelling x ≡ access_spelling y → x ≡ y
access_apart Dl (Some m) (Some n) fx fy e =
    let high : m / 64 ≡ n / 64 = cc e in
    let low : m % 64 * 4 ≡ n % 64 * 4 = cc e in
    let same : m ≡ n = omega arith in
    ap (λ k. Some k) same
access_apart Dl (Some m) None fx fy e = absurd fy
access_apart Dl None y fx fy e = absurd fx
access_apart Ul None None fx fy e = refl
access_apart Ul None (Some n) fx fy e = absurd fy
access_apart Ul (Some m) y fx fy e = absurd fx

access_clean : (dir : Dir) (access : Option ℕ) (rest : List ℕ) → FitsAccess dir access → AccessHasPad dir (access_spelling access ++ rest) → ⊥
access_clean Dl (Some m) rest fits pad = pad (omega arith)
access_clean Dl None rest fits pad = fits
access_clean Ul access rest fits pad = pad

mask_length : (body : Body) → length (mask_spelling body) ≡ mask_bytes (letter_of body)
mask_length (Full block) = refl
mask_length (Halves first second) = refl
mask_length (Sync sync half) = refl
mask_length (Traffic load) = refl
mask_length (Stolen first load) = refl
mask_length (Both first second load) = refl
mask_length (Control first second) = refl

-- the mask as a number, 0 where there is none
abbrev mask_number : Body → ℕ
mask_number body = slice_index (mask_spelling body) 0

mask_found : (body : Body) (front rest : List ℕ) → mask_behind (letter_of body) (length front) (front ++ (mask_spelling body ++ rest)) ≡ mask_number body
mask_found (Full block) front rest = refl
mask_found (Halves first second) front rest = refl
mask_found (Sync sync half) front rest = refl
mask_found (Traffic load) front rest = refl
mask_found (Stolen first load) front rest = refl
mask_found (Both first second load) front rest = refl
mask_found (Control first second) front rest = get_or-append_seam front (mask_number (Control first second)) rest 0

mask_clean : (body : Body) → MaskHasPad (letter_of body) (mask_number body) → ⊥
mask_clean (Control None None) pad = pad refl
mask_clean (Control None (Some y)) pad = pad refl
mask_clean (Control (Some x) None) pad = pad refl
mask_clean (Control (Some x) (Some y)) pad = pad refl
mask_clean body pad = pad

first_found : (body : Body) → first_sent (letter_of body) (mask_number body) ≡ sends_first body
first_found (Control None None) = refl
first_found (Control None (Some y)) = refl
first_found (Control (Some x) None) = refl
first_found (Control (Some x) (Some y)) = refl
first_found body = refl

second_found : (body : Body) → second_sent (letter_of body) (mask_number body) ≡ sends_second body
second_found (Control None None) = refl
second_found (Control None (Some y)) = refl
second_found (Control (Some x) None) = refl
second_found (Control (Some x) (Some y)) = refl
second_found body = refl

-- fields of the same lengths take the same bytes
fields_length : (a b c : List Bool) (x y z : ℕ) → Lengths (a ∷ b ∷ c ∷ []) (x ∷ y ∷ z ∷ []) → length (fields_spelling (a ∷ b ∷ c ∷ [])) ≡ fields_bytes (x ∷ y ∷ z ∷ [])
fields_length a b c x y z l =
    omega (arith, length-append (packed a) (packed b ++ (packed c ++ [])), length-append (packed b) (packed c ++ []), length-append (packed c) [], packed_length a, packed_length b, packed_length c, l.0, l.1.0, l.1.1.0)

fields_apart : (xs ys : List (List Bool)) (ns : List ℕ) (u v : List ℕ) → Lengths xs ns → Lengths ys ns → fields_spelling xs ++ u ≡ fields_spelling ys ++ v → xs ≡ ys
fields_apart [] [] [] u v lx ly e = refl
fields_apart [] [] (n ∷ ns) u v lx ly e = absurd lx
fields_apart [] (y ∷ ys) [] u v lx ly e = absurd ly
fields_apart [] (y ∷ ys) (n ∷ ns) u v lx ly e = absurd lx
fields_apart (x ∷ xs) [] [] u v lx ly e = absurd lx
fields_apart (x ∷ xs) [] (n ∷ ns) u v lx ly e = absurd ly
fields_apart (x ∷ xs) (y ∷ ys) [] u v lx ly e = absurd lx
fields_apart (x ∷ xs) (y ∷ ys) (n ∷ ns) u v lx ly e =
    let same : length x ≡ length y = lx.0 ∙ sym ly.0 in
    let split = split_front (packed x) (packed y) (fields_spelling xs ++ u) (fields_spelling ys ++ v) (packed_length x ∙ ap bytes_for same ∙ sym (packed_length y))
    (sym (append_assoc (packed x) (fields_spelling xs) u) ∙ e ∙ append_assoc (packed y) (fields_spelling ys) v) in
    let head : x ≡ y = packed_apart x y same split.0 in
    let more : xs ≡ ys = fields_apart xs ys ns u v lx.1 ly.1 split.1 in
    cc (head, more)

packed_size : (x : List Bool) (n : ℕ) → length x ≡ n → bytes_for n ≡ length (packed x)
packed_size x n e = ap bytes_for (sym e) ∙ sym (packed_length x)

fields_clean : (xs : List (List Bool)) (ns : List ℕ) → Lengths xs ns → FieldsHavePad ns (fields_spelling xs) → ⊥
fields_clean [] [] l pad = pad
fields_clean [] (n ∷ ns) l pad = absurd l
fields_clean (x ∷ xs) [] l pad = pad
fields_clean (x ∷ xs) (n ∷ ns) l (inl pad) =
    packed_pads x (packed x) n l.0 refl (subst (λ b. HasPad b n) (ap (λ k. take k (packed x ++ fields_spelling xs)) (packed_size x n l.0) ∙ take-append_seam (packed x) (fields_spelling xs)) pad)
fields_clean (x ∷ xs) (n ∷ ns) l (inr pad) =
    fields_clean xs ns l.1 (subst (FieldsHavePad ns) (ap (λ k. drop k (packed x ++ fields_spelling xs)) (packed_size x n l.0) ∙ drop-append_seam (packed x) (fields_spelling xs)) pad)

-- a body is made of its fields
body_made : (body : Body) → body ≡ body_of (letter_of body) (sends_first body) (sends_second body) (field_at body 0) (field_at body 1) (field_at body 2)
body_made (Full block) = refl
body_made (Halves first second) = refl
body_made (Sync sync half) = refl
body_made (Traffic load) = refl
body_made (Stolen first load) = refl
body_made (Both first second load) = refl
body_made (Control None None) = refl
body_made (Control None (Some y)) = refl
body_made (Control (Some x) None) = refl
body_made (Control (Some x) (Some y)) = refl

fields_listed : (body : Body) → fields_of body ≡ field_at body 0 ∷ field_at body 1 ∷ field_at body 2 ∷ []
fields_listed (Full block) = refl
fields_listed (Halves first second) = refl
fields_listed (Sync sync half) = refl
fields_listed (Traffic load) = refl
fields_listed (Stolen first load) = refl
fields_listed (Both first second load) = refl
fields_listed (Control first second) = refl

-- the bytes of a body behind its mask, by the table of fields
body_length : (mode : Mode) (body : Body) → HasLengths mode body → length (fields_spelling (fields_of body)) ≡ fields_bytes (field_bits (letter_of body) mode (sends_first body) (sends_second body))
body_length mode (Full block) l = fields_length block [] [] 268 0 0 l
body_length mode (Halves first second) l = fields_length first second [] 124 124 0 l
body_length mode (Sync sync half) l = fields_length sync half [] 60 124 0 l
body_length mode (Traffic load) l = fields_length load [] [] _ 0 0 l
body_length mode (Stolen first load) l = fields_length first load [] 124 _ 0 l
body_length mode (Both first second load) l = fields_length first second load 124 124 _ l
body_length mode (Control first second) l = fields_length (unwrap_or first []) (unwrap_or second []) [] _ _ 0 l

-- the layout of blocks
abbrev pub own_layout : Dir → Mode → SlotBlocks → Layout
own_layout dir mode blocks = record { dir = dir; letter = letter_of blocks.body; mode = mode }

module _ (dir : Dir) (mode : Mode) (blocks : SlotBlocks) (access : FitsAccess dir blocks.aach) (lengths : HasLengths mode blocks.body) where
  -- the mask is found where the layout looks for it
  mask_is : (rest : List ℕ) → mask_in (own_layout dir mode blocks) (behind_letter blocks ++ rest) ≡ mask_number blocks.body
  unfolding behind_letter
  mask_is rest =
      ap (λ l. mask_behind (letter_of blocks.body) (access_bytes dir) l) (regroup (access_spelling blocks.aach) (mask_spelling blocks.body) (fields_spelling (fields_of blocks.body)) rest)
      ∙ ap (λ n. mask_behind (letter_of blocks.body) n (access_spelling blocks.aach ++ (mask_spelling blocks.body ++ (fields_spelling (fields_of blocks.body) ++ rest)))) (sym (access_length dir blocks.aach access))
      ∙ mask_found blocks.body (access_spelling blocks.aach) (fields_spelling (fields_of blocks.body) ++ rest) where
        regroup : (a m f r : List ℕ) → ((a ++ m) ++ f) ++ r ≡ a ++ (m ++ (f ++ r))
        regroup a m f r = simp append_assoc

  bits_are : (rest : List ℕ) → bits_in (own_layout dir mode blocks) (behind_letter blocks ++ rest) ≡ field_bits (letter_of blocks.body) mode (sends_first blocks.body) (sends_second blocks.body)
  bits_are rest =
      ap (λ m. field_bits (letter_of blocks.body) mode (first_sent (letter_of blocks.body) m) (second_sent (letter_of blocks.body) m)) (mask_is rest)
      ∙ ap (λ b. field_bits (letter_of blocks.body) mode b (second_sent (letter_of blocks.body) (mask_number blocks.body))) (first_found blocks.body)
      ∙ ap (λ b. field_bits (letter_of blocks.body) mode (sends_first blocks.body) b) (second_found blocks.body)

  head_length : length (access_spelling blocks.aach ++ mask_spelling blocks.body) ≡ head_bytes (own_layout dir mode blocks)
  head_length = omega (arith, length-append (access_spelling blocks.aach) (mask_spelling blocks.body), access_length dir blocks.aach access, mask_length blocks.body)

  -- a record is as long as its layout says, whatever follows it
  pub behind_length : (rest : List ℕ) → length (behind_letter blocks) ≡ record_bytes (own_layout dir mode blocks) (behind_letter blocks ++ rest)
  unfolding behind_letter record_bytes
  behind_length rest =
      length-append (access_spelling blocks.aach ++ mask_spelling blocks.body) (fields_spelling (fields_of blocks.body))
      ∙ ap (λ n. n + length (fields_spelling (fields_of blocks.body))) head_length
      ∙ ap (λ n. head_bytes (own_layout dir mode blocks) + n) (body_length mode blocks.body lengths ∙ ap fields_bytes (sym (bits_are rest)))

  alone : behind_letter blocks ≡ behind_letter blocks ++ []
  alone = sym (append-nil (behind_letter blocks))

  -- its pad bits are 0
  pub behind_clean : RecordHasPad (own_layout dir mode blocks) (behind_letter blocks) → ⊥
  unfolding behind_letter
  behind_clean (inl pad) =
      access_clean dir blocks.aach (mask_spelling blocks.body ++ fields_spelling (fields_of blocks.body)) access
      (subst (AccessHasPad dir) (append_assoc (access_spelling blocks.aach) (mask_spelling blocks.body) (fields_spelling (fields_of blocks.body))) pad)
  behind_clean (inr (inl pad)) =
      mask_clean blocks.body (subst (MaskHasPad (letter_of blocks.body)) (ap (mask_in (own_layout dir mode blocks)) alone ∙ mask_is []) pad)
  behind_clean (inr (inr pad)) =
      fields_clean (fields_of blocks.body) (field_bits (letter_of blocks.body) mode (sends_first blocks.body) (sends_second blocks.body)) lengths
      (subst (λ ns. FieldsHavePad ns (fields_spelling (fields_of blocks.body))) (ap (bits_in (own_layout dir mode blocks)) alone ∙ bits_are [])
      (subst (FieldsHavePad (bits_in (own_layout dir mode blocks) (behind_letter blocks)))
      (ap (λ n. drop n (behind_letter blocks)) (sym head_length) ∙ drop-append_seam (access_spelling blocks.aach ++ mask_spelling blocks.body) (fields_spelling (fields_of blocks.body))) pad))

same_lengths : (x y : Body) (mode : Mode) → letter_of x ≡ letter_of y → mask_spelling x ≡ mask_spelling y → HasLengths mode y
    → (sends_first x ≡ sends_first y) × (sends_second x ≡ sends_second y) × Lengths (fields_of y) (field_bits (letter_of x) mode (sends_first x) (sends_second x))
same_lengths x y mode letter mask lengths =
    let number : mask_number x ≡ mask_number y = ap (λ l. slice_index l 0) mask in
    let first : sends_first x ≡ sends_first y =
    sym (first_found x) ∙ ap (λ l. first_sent l (mask_number x)) letter ∙ ap (first_sent (letter_of y)) number ∙ first_found y in
    let second : sends_second x ≡ sends_second y =
    sym (second_found x) ∙ ap (λ l. second_sent l (mask_number x)) letter ∙ ap (second_sent (letter_of y)) number ∙ second_found y in
    (first, second, rw (letter, first, second) lengths)

-- bodies of one letter with the same fields, sent alike, are the same
same_body : (x y : Body) → letter_of x ≡ letter_of y → sends_first x ≡ sends_first y → sends_second x ≡ sends_second y → fields_of x ≡ fields_of y → x ≡ y
same_body x y letter first second fields =
    let own : Letter → Bool → Bool → List (List Bool) → Body = λ l f s xs. body_of l f s (get_or xs 0 []) (get_or xs 1 []) (get_or xs 2 []) in
    body_made x ∙ ap (λ l. own l (sends_first x) (sends_second x) (fields_of x)) letter ∙ ap (λ b. own (letter_of y) b (sends_second x) (fields_of x)) first
    ∙ ap (λ b. own (letter_of y) (sends_first y) b (fields_of x)) second ∙ ap (own (letter_of y) (sends_first y) (sends_second y)) fields ∙ sym (body_made y)

-- what is behind the letter names the blocks
pub same_blocks : (dir : Dir) (mode : Mode) (x y : SlotBlocks) (u v : List ℕ) → FitsAccess dir x.aach → FitsAccess dir y.aach → HasLengths mode x.body → HasLengths mode y.body
    → letter_of x.body ≡ letter_of y.body → behind_letter x ++ u ≡ behind_letter y ++ v → x ≡ y
unfolding behind_letter
same_blocks dir mode x y u v fx fy lx ly letter e =
    let first = split_front (access_spelling x.aach) (access_spelling y.aach) (mask_spelling x.body ++ (fields_spelling (fields_of x.body) ++ u)) (mask_spelling y.body ++ (fields_spelling (fields_of y.body) ++ v))
    (access_length dir x.aach fx ∙ sym (access_length dir y.aach fy)) (sym (regroup x u) ∙ e ∙ regroup y v) in
    let second = split_front (mask_spelling x.body) (mask_spelling y.body) (fields_spelling (fields_of x.body) ++ u) (fields_spelling (fields_of y.body) ++ v)
    (mask_length x.body ∙ ap mask_bytes letter ∙ sym (mask_length y.body)) first.1 in
    let alike = same_lengths x.body y.body mode letter second.0 ly in
    let fields : fields_of x.body ≡ fields_of y.body =
    fields_apart (fields_of x.body) (fields_of y.body) (field_bits (letter_of x.body) mode (sends_first x.body) (sends_second x.body)) u v lx alike.2 second.1 in
    let access : x.aach ≡ y.aach = access_apart dir x.aach y.aach fx fy first.0 in
    let body : x.body ≡ y.body = same_body x.body y.body letter alike.0 alike.1 fields in
    same_parts x y access body where
      regroup : (b : SlotBlocks) (w : List ℕ) → ((access_spelling b.aach ++ mask_spelling b.body) ++ fields_spelling (fields_of b.body)) ++ w ≡ access_spelling b.aach ++ (mask_spelling b.body ++ (fields_spelling (fields_of b.body) ++ w))
      regroup b w = simp append_assoc

      same_parts : (a b : SlotBlocks) → a.aach ≡ b.aach → a.body ≡ b.body → a ≡ b
      same_parts a b f g =
          let make : Option ℕ → Body → SlotBlocks = λ access body. record { aach = access; body = body } in
          ap (λ z. make z a.body) f ∙ ap (make b.aach) g
