-- An audit of what decoding wrote with certificates.
use Prim.Native.Nat.{suc}
use Rattle.std.proofs.Common.{◌≡◌, ℕ, ◌+◌, List, [], ◌∷◌, ◌++◌, length, map, ℤ, arith, refl, sym, ap, ◌∙◌, length-append, append-nil}
use Rattle.std.proofs.lemmas.List.{length-map}
use Rattle.std.specs.List.{flat_map, range_with_len}
use Rattle.tetra_bits.specs.Soft.{soft_value}
use Rattle.tetra_records.specs.Readings.{reading_spelling}
use Rattle.tetra_settings.specs.Validity.{IsValid}
use Rattle.tetra_session.specs.Heard.{letter_heard, block_heard, slot_front, slot_reading}
use Rattle.tetra_settings.specs.Slots.{mode_of, use_of}
use Rattle.tetra_settings.specs.declared.types.Form.{Form}
use Rattle.tetra_settings.specs.declared.types.Form.TheVariants.{Audit}
use Rattle.tetra_settings.specs.declared.types.Settings.{Settings}
use Rattle.tetra_audit.specs.Agreement.{own_record, OwnRecordsAgree}
use Rattle.tetra_audit.specs.Fields.{claim_length}
use Rattle.tetra_audit.specs.Verdicts.{slot_verdict}
use Rattle.tetra_audit.specs.declared.verdict.SlotVerdict.TheVariants.{Agrees}
use Rattle.tetra_engine.specs.Agreeing.{to_read_back, DecodedAgrees}
use Rattle.tetra_engine.specs.Auditing.{Claimed, slots_of, front_at, verdict_at, refused_by, refused_slots, audit_status, auditing}
use Rattle.tetra_engine.specs.Decoding.{framed, decoded, decoding}
use Rattle.tetra_engine.specs.Shapes.{AreInputs, spellings, outputs}
use Rattle.tetra_engine.specs.Slots.{soft_values}
use Rattle.tetra_engine.specs.Verdicts.{verdict_line}
use Rattle.tetra_engine.proofs.Audited.{slots_more}
use Rattle.tetra_engine.proofs.Framed.{heard_more}
use Rattle.tetra_engine.proofs.SoftSlots.{soft_slot, soft_slots}

module _ (settings : Settings) (form : Form) (max : ℕ) where
  -- neither form nor number of slots has a part in what is read
  front_same : (history : List (List ℤ)) (soft : List ℤ) → slot_front (to_read_back settings form max) history soft ≡ slot_front settings history soft
  unfolding slot_front block_heard letter_heard use_of mode_of
  front_same history soft = refl

  -- a slot with its own record, and slots with theirs
  own : List (List ℕ) → List ℕ → Claimed
  own before slot = (slot, own_record settings (map soft_values before) (soft_values slot))

  owns : List (List ℕ) → List (List ℕ) → List Claimed
  owns before [] = []
  owns before (slot ∷ slots) = own before slot ∷ owns (before ++ slot ∷ []) slots

  length-owns : (before slots : List (List ℕ)) → length (owns before slots) ≡ length slots
  unfolding owns
  length-owns before [] = refl
  length-owns before (slot ∷ slots) = ap (λ n. suc n) (length-owns (before ++ slot ∷ []) slots)

  -- these stand for the slots before
  record Behind (before : List (List ℕ)) (claimed : List Claimed) : Type 0 where
    pub slots : slots_of claimed ≡ map soft_values before
    pub many : length claimed ≡ length before

  behind_more : (before : List (List ℕ)) (claimed : List Claimed) (slot : List ℕ) → Behind before claimed → Behind (before ++ slot ∷ []) (claimed ++ own before slot ∷ [])
  unfolding own
  behind_more before claimed slot behind = record {
    slots = slots_more claimed (own before slot) ∙ (ap (λ heard. heard ++ soft_values slot ∷ []) behind.slots ∙ sym (heard_more before slot));
    many = omega (arith, length-append claimed (own before slot ∷ []), length-append before (slot ∷ []), behind.many);
  }

  module _ (agree : OwnRecordsAgree) (valid : IsValid settings) where
    module _ (before : List (List ℕ)) (claimed : List Claimed) (slot : List ℕ) (behind : Behind before claimed) (size : length slot ≡ 510) where
      front_is : front_at (to_read_back settings form max) claimed slot ≡ slot_front settings (map soft_values before) (soft_values slot)
      front_is = front_same (slots_of claimed) (soft_values slot) ∙ ap (λ history. slot_front settings history (soft_values slot)) behind.slots

      long : length (own_record settings (map soft_values before) (soft_values slot)) ≡ claim_length (front_at (to_read_back settings form max) claimed slot)
      long =
          (agree settings (map soft_values before) (soft_values slot) valid (soft_slots before) (length-map slot soft_value ∙ size) (soft_slot slot)).0
          ∙ ap claim_length (sym front_is)

      agrees : verdict_at (to_read_back settings form max) claimed (own before slot) ≡ Agrees
      unfolding own
      agrees =
          ap (λ front. slot_verdict settings.rows front (own_record settings (map soft_values before) (soft_values slot))) front_is
          ∙ (agree settings (map soft_values before) (soft_values slot) valid (soft_slots before) (length-map slot soft_value ∙ size) (soft_slot slot)).1

    inputs : (slots before : List (List ℕ)) (claimed : List Claimed) → Behind before claimed → AreInputs (decoding settings) before slots
        → AreInputs (auditing (to_read_back settings form max)) claimed (owns before slots)
    unfolding own owns
    inputs [] before claimed behind each = tt
    inputs (slot ∷ slots) before claimed behind each = (
      (each.0, long before claimed slot behind each.0),
      inputs slots (before ++ slot ∷ []) (claimed ++ own before slot ∷ []) (behind_more before claimed slot behind) each.1,
    )

    none_refused : (slots before : List (List ℕ)) (claimed : List Claimed) → Behind before claimed → AreInputs (decoding settings) before slots
        → refused_slots (to_read_back settings form max) claimed (owns before slots) ≡ []
    unfolding owns
    none_refused [] before claimed behind each = refl
    none_refused (slot ∷ slots) before claimed behind each =
        ap (λ verdict. refused_by (length claimed) verdict ++ refused_slots (to_read_back settings form max) (claimed ++ own before slot ∷ []) (owns (before ++ slot ∷ []) slots)) (agrees before claimed slot behind each.0)
        ∙ none_refused slots (before ++ slot ∷ []) (claimed ++ own before slot ∷ []) (behind_more before claimed slot behind) each.1

    lines : (slots before : List (List ℕ)) (claimed : List Claimed) → Behind before claimed → AreInputs (decoding settings) before slots
        → outputs (auditing (to_read_back settings form max)) claimed (owns before slots) ≡ flat_map (λ slot. verdict_line slot Agrees) (range_with_len (length claimed) (length slots))
    unfolding owns
    lines [] before claimed behind each = refl
    lines (slot ∷ slots) before claimed behind each =
        let more : length (claimed ++ own before slot ∷ []) ≡ length claimed + 1 = length-append claimed (own before slot ∷ []) in
        ap (λ verdict. verdict_line (length claimed) verdict ++ outputs (auditing (to_read_back settings form max)) (claimed ++ own before slot ∷ []) (owns (before ++ slot ∷ []) slots)) (agrees before claimed slot behind each.0)
        ∙ (ap (λ rest. verdict_line (length claimed) Agrees ++ rest) (lines slots (before ++ slot ∷ []) (claimed ++ own before slot ∷ []) (behind_more before claimed slot behind) each.1)
        ∙ ap (λ n. verdict_line (length claimed) Agrees ++ flat_map (λ s. verdict_line s Agrees) (range_with_len n (length slots))) more)

  -- what decoding writes is what an audit reads
  written_is : settings.form ≡ Audit → (slots before : List (List ℕ)) → outputs (decoding settings) before slots ≡ spellings (auditing (to_read_back settings form max)) (owns before slots)
  unfolding own owns
  written_is is [] before = refl
  written_is is (slot ∷ slots) before =
      let one : decoded settings before slot ≡ slot ++ own_record settings (map soft_values before) (soft_values slot) =
      ap (λ f. framed f slot (reading_spelling f (slot_reading settings (map soft_values before) (soft_values slot)))) is in
      ap (λ bytes. bytes ++ outputs (decoding settings) (before ++ slot ∷ []) slots) one
      ∙ ap (λ rest. (slot ++ own_record settings (map soft_values before) (soft_values slot)) ++ rest) (written_is is slots (before ++ slot ∷ []))

no_more : (x : Claimed) (rest : List ℕ) → length x.0 ≡ 510 → [] ≡ (x.0 ++ x.1) ++ rest → ⊥
no_more x rest size e = absurd (omega (arith, ap length e, length-append (x.0 ++ x.1) rest, length-append x.0 x.1))

pub decoded_agrees : OwnRecordsAgree → DecodedAgrees
decoded_agrees agree settings form max bytes written end valid audit few ran =
    let slots : List (List ℕ) = ran.xs in
    let start : Behind settings form max [] [] = record { slots = refl; many = refl } in
    let many : length (owns settings form max [] slots) ≡ length slots = length-owns settings form max [] slots in
    record {
      xs = owns settings form max [] slots;
      rest = [];
      cut = record {
        whole = sym ran.output ∙ (written_is settings form max audit slots [] ∙ sym (append-nil (spellings (auditing (to_read_back settings form max)) (owns settings form max [] slots))));
        each = inputs settings form max agree valid slots [] [] start ran.cut.each;
        few = omega (arith, many, ran.slots);
        longest = λ below x rest fits e. no_more x rest fits.0 e;
      };
      closes = ap audit_status (sym (none_refused settings form max agree valid slots [] [] start ran.cut.each));
      slots = ran.slots ∙ sym many;
      output = lines settings form max agree valid slots [] [] start ran.cut.each ∙ ap (λ n. flat_map (λ slot. verdict_line slot Agrees) (range_with_len 0 n)) (sym ran.slots);
    }
