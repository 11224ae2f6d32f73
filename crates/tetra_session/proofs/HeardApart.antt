-- What is read in a timeslot depends on no other timeslot.
use Rattle.std.proofs.Common.{ℕ, ℤ, ◌-◌, ◌≡◌, Bool, List, [], ◌∷◌, ◌++◌, Option, length, map, get_or, refl, ap, sym, ◌∙◌}
use Rattle.tetra_bursts.specs.Kind.{kind}
use Rattle.tetra_diag.specs.Diagonal.{gathered}
use Rattle.tetra_scramble.specs.Key.{key_of}
use Rattle.tetra_settings.specs.Slots.{timeslot_of, frame_of, mode_of, use_of, use_in}
use Rattle.tetra_settings.specs.declared.types.Dir.{Dir}
use Rattle.tetra_settings.specs.declared.types.Mode.{Mode}
use Rattle.tetra_settings.specs.declared.types.Mode.TheVariants.{Sig}
use Rattle.tetra_settings.specs.declared.types.Settings.{Settings}
use Rattle.tetra_session.specs.Apart.{AgreeOn, HeardApart}
use Rattle.tetra_session.specs.Heard.{allowed_in, letter_heard, letter_by, word_heard, block_heard, slot_front, slot_reading}
use Rattle.tetra_session.specs.Spots.{is_downlink}
use Rattle.tetra_session.specs.Time.{own, timeslot_mode, depth}
use Rattle.tetra_session.specs.lemmas.Same.{apart}

-- the block that is complete with a slot, by the slots of its timeslot
unfoldable block_of : Dir → List Bool → Mode → List (List ℤ) → List ℤ → Option (List ℤ)
block_of dir key mode slots soft = gathered (depth mode) (map (word_heard dir key mode) slots ++ word_heard dir key mode soft ∷ [])

block_at : (s : Settings) (history : List (List ℤ)) (soft : List ℤ) (t c : ℕ) → length history ≡ t → timeslot_of s.at t ≡ c
    → block_heard s history soft ≡ block_of s.dir (key_of s.colour) (timeslot_mode s c) (own s.at c history) soft
unfolding block_heard block_of mode_of
block_at s history soft t c l e = rw (l, e) refl

module _ (c : ℕ) (s z : Settings) (agree : AgreeOn c s z) (t : ℕ) (here : timeslot_of s.at t ≡ c) where
  there : timeslot_of z.at t ≡ c
  there = ap (λ a. timeslot_of a t) (sym agree.at) ∙ here

  mode_same : mode_of s t ≡ mode_of z t
  unfolding mode_of
  mode_same = ap (λ k. get_or s.modes (k - 1) Sig) here ∙ agree.mode ∙ ap (λ k. get_or z.modes (k - 1) Sig) (sym there)

  key_same : key_of s.colour ≡ key_of z.colour
  key_same = ap key_of agree.colour

  use_same : use_of s t ≡ use_of z t
  unfolding use_of
  use_same = ap (λ m. use_in m (frame_of s.at t)) mode_same ∙ ap (λ a. use_in (mode_of z t) (frame_of a t)) agree.at

  letter_same : (soft : List ℤ) → letter_heard s t soft ≡ letter_heard z t soft
  unfolding letter_heard
  letter_same soft =
      ap (λ u. letter_by u (kind soft (is_downlink s.dir) (allowed_in s.dir u))) use_same
      ∙ ap (λ d. letter_by (use_of z t) (kind soft (is_downlink d) (allowed_in d (use_of z t)))) agree.dir

  module _ (history other : List (List ℤ)) (soft : List ℤ) (lh : length history ≡ t) (lo : length other ≡ t) (slots : own s.at c history ≡ own z.at c other) where
    block_same : block_heard s history soft ≡ block_heard z other soft
    block_same =
        block_at s history soft t c lh here
        ∙ ap (λ d. block_of d (key_of s.colour) (timeslot_mode s c) (own s.at c history) soft) agree.dir
        ∙ ap (λ k. block_of z.dir k (timeslot_mode s c) (own s.at c history) soft) key_same
        ∙ ap (λ m. block_of z.dir (key_of z.colour) m (own s.at c history) soft) agree.mode
        ∙ ap (λ o. block_of z.dir (key_of z.colour) (timeslot_mode z c) o soft) slots
        ∙ sym (block_at z other soft t c lo there)

    front_same : slot_front s history soft ≡ slot_front z other soft
    unfolding slot_front
    front_same = rw (block_same, lh, lo, letter_same soft, mode_same, key_same, agree.dir) refl

    reading_same : slot_reading s history soft ≡ slot_reading z other soft
    unfolding slot_reading
    reading_same = rw (front_same, agree.rows) refl

pub heard_apart : HeardApart
heard_apart = record { fronts = apart slot_front front_same; readings = apart slot_reading reading_same }
