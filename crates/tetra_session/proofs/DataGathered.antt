-- What is gathered from the slots of a timeslot of protected data.
use Rattle.std.proofs.Common.{ℕ, ℤ, ◌≡◌, ◌+◌, ◌-◌, ◌<◌, ◌≤◌, Bool, true, false, List, [], ◌∷◌, ◌++◌, length, map, get_or, take, Some, None, IfSome, All, nat_lt, arith, refl, ap, sym, subst, ◌∙◌}
use Rattle.std.proofs.lemmas.Bool.{lt-ltb, le-ltb}
use Rattle.std.proofs.lemmas.List.{length-take-le, length-map, get_or-map, take-map, take_more, map-append}
use Rattle.std.proofs.lemmas.List.Elements.{All-map}
use Rattle.tetra_bits.specs.Numbered.{numbered}
use Rattle.tetra_bits.specs.Undamaged.{IsUndamaged, IsNoneWrong}
use Rattle.tetra_channels.specs.Channels.{Channel, message_of, type3_bits}
use Rattle.tetra_channels.specs.Fields.{coded_reading}
use Rattle.tetra_channels.specs.Laws.{IsReadUpTo, written_reading}
use Rattle.tetra_diag.specs.Arrives.{EachWord}
use Rattle.tetra_diag.specs.Diagonal.{spread_word, gathered, gathered_value, complete_block}
use Rattle.tetra_parity.specs.Parity.{width}
use Rattle.tetra_puncture.specs.lemmas.Undamaged.{length-word}
use Rattle.tetra_scramble.specs.Key.{key_of}
use Rattle.tetra_settings.specs.declared.types.Mode.{Mode}
use Rattle.tetra_settings.specs.declared.types.Settings.{Settings}
use Rattle.tetra_settings.specs.declared.blocks.Body.TheVariants.{Full}
use Rattle.tetra_settings.specs.declared.blocks.SlotBlocks.{SlotBlocks}
use Rattle.tetra_session.specs.Data.{IsKept, IsWhole, LastSlots}
use Rattle.tetra_session.specs.Heard.{word_heard, words_heard}
use Rattle.tetra_session.specs.Sent.{load_of, block_sent, blocks_sent, whole}
use Rattle.tetra_session.specs.Time.{timeslot_mode, depth, own}
use Rattle.tetra_session.proofs.DataModes.{Laws, IsSpread}
use Rattle.tetra_session.proofs.DataSlots.{own_slot, own_load, slot_none_wrong, slot_undamaged}
use Rattle.tetra_session.proofs.PickedAt.{slot_at, own_long}

gathered_length : (n : ℕ) (words : List (List ℤ)) → n ≤ length words → gathered n words ≡ Some (numbered (gathered_value n words) 432)
unfolding gathered
gathered_length n words h =
    let f : nat_lt (length words) n ≡ false = le-ltb _ _ h in
    rw f refl

pub gathered_none : (n : ℕ) (words : List (List ℤ)) → length words < n → gathered n words ≡ None
unfolding gathered
gathered_none n words h =
    let f : nat_lt (length words) n ≡ true = lt-ltb _ _ h in
    rw f refl

abbrev pub no_blocks : SlotBlocks
no_blocks = record { aach = None; body = Full [] }

module _ (laws : Laws) (settings : Settings) (c : ℕ) (channel : Channel) (spread : IsSpread (timeslot_mode settings c) channel) where
  abbrev key : List Bool
  key = key_of settings.colour

  abbrev mode : Mode
  mode = timeslot_mode settings c

  module _ (all : List SlotBlocks) (heard : List (List ℤ)) (same : length heard ≡ length all) where
    blocks_until : (m t : ℕ) → m < length (own settings.at c all) → own settings.at c (take t all) ≡ take m (own settings.at c all)
        → get_or (own settings.at c all) m no_blocks ≡ get_or all t no_blocks
        → take (m + 1) (blocks_sent settings c all) ≡ blocks_sent settings c (take t all) ++ block_sent mode (get_or all t no_blocks) ∷ []
    blocks_until m t h e f =
        take-map (block_sent mode) (m + 1) (own settings.at c all)
        ∙ ap (map (block_sent mode)) (take_more (own settings.at c all) m no_blocks h)
        ∙ map-append (block_sent mode) (take m (own settings.at c all)) (get_or (own settings.at c all) m no_blocks ∷ [])
        ∙ ap (λ o. map (block_sent mode) (take m (own settings.at c all)) ++ block_sent mode o ∷ []) f
        ∙ ap (λ os. map (block_sent mode) os ++ block_sent mode (get_or all t no_blocks) ∷ []) (sym e)

    sent_size : length (blocks_sent settings c all) ≡ length (own settings.at c all)
    sent_size = length-map (own settings.at c all) (block_sent mode)

    pub heard_size : length (words_heard settings c heard) ≡ length (own settings.at c all)
    heard_size = length-map (own settings.at c heard) (word_heard settings.dir key mode) ∙ own_long settings.at c all heard same

    -- what holds of the words of the last slots, one by one
    abbrev OfSlot : (List Bool → List ℤ → Type 0) → ℕ → Type 0
    OfSlot R t =
        R (spread_word (depth mode) (blocks_sent settings c (take t all) ++ block_sent mode (get_or all t no_blocks) ∷ []))
        (word_heard settings.dir key mode (get_or heard t []))

    each_word : (R : List Bool → List ℤ → Type 0) → LastSlots (OfSlot R) settings c all → EachWord R (depth mode) (blocks_sent settings c all) (words_heard settings c heard)
    each_word R of_slots = record {
      size = heard_size ∙ sym sent_size;
      each = λ m h few.
          let within : m < length (own settings.at c all) = omega (arith, h, heard_size) in
          let x = slot_at settings.at c all heard same m no_blocks [] within in
          let early : length (own settings.at c (take x.t all)) ≡ m = ap length x.earlier ∙ length-take-le m (own settings.at c all) (omega (arith, within)) in
          let bits = blocks_until m x.t within x.earlier x.sent_is in
          let inside : m < length (own settings.at c heard) = omega (arith, within, own_long settings.at c all heard same) in
          let word : get_or (words_heard settings c heard) m [] ≡ word_heard settings.dir key mode (get_or heard x.t []) =
          get_or-map (word_heard settings.dir key mode) (own settings.at c heard) m [] [] inside ∙ ap (word_heard settings.dir key mode) x.heard_is in
          rw (bits, word) (of_slots x.t x.below x.counted (omega (arith, few, early, heard_size)));
    }

    abbrev Kept : Type 0
    Kept = LastSlots (IsKept settings all heard) settings c all

    abbrev AllWhole : Type 0
    AllWhole = LastSlots (IsWhole all) settings c all

    undamaged_words : Kept → AllWhole → EachWord IsUndamaged (depth mode) (blocks_sent settings c all) (words_heard settings c heard)
    undamaged_words kept whole =
        each_word IsUndamaged (λ t below counted few.
        let s = kept t below counted few in
        slot_undamaged laws settings c channel spread t (take t all) (get_or all t no_blocks) (get_or heard t []) (length-take-le t all (omega (arith, below))) (own_slot laws settings c channel spread t counted) (s.fits no_blocks)
        (s.kept no_blocks []) (whole t below counted few no_blocks))

    none_wrong_words : Kept → EachWord IsNoneWrong (depth mode) (blocks_sent settings c all) (words_heard settings c heard)
    none_wrong_words kept =
        each_word IsNoneWrong (λ t below counted few.
        let s = kept t below counted few in
        slot_none_wrong laws settings c channel spread t (take t all) (get_or all t no_blocks) (get_or heard t []) (length-take-le t all (omega (arith, below))) (own_slot laws settings c channel spread t counted) (s.fits no_blocks)
        (s.kept no_blocks []))

    block_sizes : All (λ b. length b ≡ 432) (blocks_sent settings c all)
    unfolding type3_bits
    block_sizes = All-map (λ b. length b ≡ 432) (block_sent mode) (own settings.at c all) (λ k d h.
        ap length (spread.block (load_of (get_or (own settings.at c all) k d).body)) ∙ length-word channel.plan _ ∙ spread.sent)

    -- the slot whose block is complete
    abbrev first : ℕ
    first = length (own settings.at c all) - depth mode

    abbrev load : List Bool
    load = load_of (get_or (own settings.at c all) first no_blocks).body

    module _ (enough : depth mode ≤ length (own settings.at c all)) where
      pub first_within : first < length (own settings.at c all)
      first_within = omega (arith, enough, spread.some)

      complete_is : complete_block (depth mode) (blocks_sent settings c all) ≡ type3_bits channel load
      complete_is =
          ap (λ size. get_or (blocks_sent settings c all) (size - depth mode) []) sent_size
          ∙ get_or-map (block_sent mode) (own settings.at c all) first no_blocks [] first_within ∙ spread.block load

      load_size : Kept → length load + width channel.parity + 4 ≡ channel.plan.steps
      load_size kept =
          let x = slot_at settings.at c all heard same first no_blocks [] first_within in
          let early : length (own settings.at c (take x.t all)) ≡ first = ap length x.earlier ∙ length-take-le first (own settings.at c all) (omega (arith, first_within)) in
          let s = kept x.t x.below x.counted (omega (arith, early, enough)) in
          let carries = own_load laws settings c channel spread x.t (get_or all x.t no_blocks) (own_slot laws settings c channel spread x.t x.counted) (s.fits no_blocks) in
          subst (λ blocks. length (load_of blocks.body) + width channel.parity + 4 ≡ channel.plan.steps) (sym x.sent_is) (spread.steps _ _ carries)

      abbrev values : List ℤ
      values = numbered (gathered_value (depth mode) (words_heard settings c heard)) 432

      pub gathered_is : gathered (depth mode) (words_heard settings c heard) ≡ Some values
      gathered_is = gathered_length (depth mode) (words_heard settings c heard) (omega (arith, enough, heard_size))

      -- what is gathered, against the block that was sent
      block_gathered : (R : List Bool → List ℤ → Type 0) → IfSome (gathered (depth mode) (words_heard settings c heard)) (R (complete_block (depth mode) (blocks_sent settings c all)))
          → R (type3_bits channel load) values
      block_gathered R there =
          let some = subst (λ block. IfSome block (R (complete_block (depth mode) (blocks_sent settings c all)))) gathered_is there in
          subst (λ bits. R bits values) complete_is some

      pub block_read : Kept → AllWhole → coded_reading channel values ≡ written_reading channel load values
      block_read kept whole =
          let there = laws.gathered_whole (depth mode) (blocks_sent settings c all) (words_heard settings c heard) spread.depth_is block_sizes (undamaged_words kept whole) in
          spread.laws.is_read load values (load_size kept) (block_gathered IsUndamaged there)

      pub block_up_to : Kept → IsReadUpTo (message_of channel load) (coded_reading channel values)
      block_up_to kept =
          let there = laws.gathered_none_wrong (depth mode) (blocks_sent settings c all) (words_heard settings c heard) spread.depth_is block_sizes (none_wrong_words kept) in
          spread.laws.none_wrong_is_read load values (load_size kept) (block_gathered IsNoneWrong there)
