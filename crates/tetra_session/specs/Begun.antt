-- A slot that is heard in two steps: the fields in front of its load, and then its load. This project's own.
use Rattle.std.specs.Prelude.{◌≡◌, ℕ, ◌-◌, ◌≤◌, Bool, List, ℤ, length, map, take, None, slice_index_or}
use Rattle.tetra_scramble.specs.Key.{key_of}
use Rattle.tetra_settings.specs.declared.types.Settings.{Settings}
use Rattle.tetra_session.specs.Heard.{letter_heard, slot_letter, field_heard, is_good}
use Rattle.tetra_session.specs.Readers.{read_field}
use Rattle.tetra_session.specs.Spots.{places_before_load}
use Rattle.tetra_session.specs.declared.front.FrontField.{FrontField}
use Rattle.tetra_session.specs.declared.front.Front.{Front}

-- a front has the letter of slot t, and the fields in front of its load
pub record IsBegun (settings : Settings) (t : ℕ) (soft : List ℤ) (front : Front) : Type 0 where
  pub letter : front.letter ≡ slot_letter settings t soft
  pub fields : front.fields.items ≡ map (field_heard settings.dir (key_of settings.colour) None soft)
      (places_before_load settings.dir (letter_heard settings t soft))

-- it tells whether the last of these fields, where there is one, is read as Good
abbrev pub IsLastGood : List ℕ → List FrontField → Bool → Type 0
IsLastGood rows fields good = 1 ≤ length fields → (other : FrontField)
    → good ≡ is_good (read_field rows (slice_index_or fields (length fields - 1) other)).reading.mark

-- a front goes on in another one: the letter is the same, and its fields are the first ones there
pub record GoesOn (old new : Front) : Type 0 where
  pub letter : new.letter ≡ old.letter
  pub fields : take (length old.fields.items) new.fields.items ≡ old.fields.items
