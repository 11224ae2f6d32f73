-- What the lane of a timeslot of a receiver keeps, one slot on.
use Prim.Native.Nat.{zero, suc}
use Rattle.std.proofs.Common.{ℕ, ◌≤◌, ◌≡◌, inl, inr, Bool, true, false, List, [], ◌∷◌, ◌++◌, Option, Some, ℤ, length, IsTrue, arith, refl, sym, ap, ◌∙◌}
use Rattle.std.proofs.lemmas.Bool.{cases_Bool}
use Rattle.tetra_diag.specs.Diagonal.{gathered}
use Rattle.tetra_scramble.specs.Key.{key_of}
use Rattle.tetra_settings.specs.Slots.{timeslot_of, mode_of, use_of}
use Rattle.tetra_settings.specs.declared.types.Settings.{Settings}
use Rattle.tetra_settings.specs.declared.slots.SlotUse.TheVariants.{Traffic}
use Rattle.tetra_session.specs.Heard.{HeardStands, letter_heard, second_stolen, place_values, is_spread, word_heard, words_heard, block_heard}
use Rattle.tetra_session.specs.Spots.{load_place}
use Rattle.tetra_session.specs.Time.{depth}
use Rattle.tetra_session.specs.declared.spots.Place.{Place}
use Rattle.tetra_session.specs.lemmas.FourSteps.{turn_idle, turn_taken}
use Rattle.tetra_session.specs.lemmas.Spread.{load_spread, load_carries, load_is_word}

-- what is not spread has no depth
none_spread : (n : ℕ) (b : Bool) → (1 ≤ n → IsTrue b) → b ≡ false → n ≡ 0
none_spread zero b h e = refl
none_spread (suc n) b h e = absurd (let t : b ≡ true = h (omega arith) in let f : true ≡ false = sym t ∙ e in cc)

-- a slot with a load
module _ {L : Type 0} (Stands : ℕ → List (List ℤ) → L → Type 0) (settings : Settings) (history : List (List ℤ)) (soft : List ℤ) (t : ℕ) (key : List Bool) (n : ℕ) (load : Place) (old : L)
    (turn : t ≡ length history) (keyed : key ≡ key_of settings.colour) (deep : n ≡ depth (mode_of settings t))
    (loaded : Some load ≡ load_place (letter_heard settings t soft) (mode_of settings t) (second_stolen settings.dir key soft))
    (h : HeardStands Stands settings t history old) where
  word_is : place_values settings.dir key soft load ≡ word_heard settings.dir (key_of settings.colour) (mode_of settings t) soft
  word_is = load_is_word settings t soft (mode_of settings t) key load loaded ∙ ap (λ k. word_heard settings.dir k (mode_of settings t) soft) keyed

  -- what was brought before it
  abbrev before : List (List ℤ)
  before = words_heard settings (timeslot_of settings.at t) history

  stood : Stands n before old
  stood = rw deep h

  spreads : 1 ≤ n → IsTrue (is_spread load.name)
  spreads some = load_spread (letter_heard settings t soft) (mode_of settings t) (second_stolen settings.dir key soft) load loaded (rw (← deep) some)

  -- the block that is complete with it
  pub block_is : (block : Option (List ℤ)) → 1 ≤ depth (mode_of settings (length history))
      → ((words : List (List ℤ)) → Stands n words old → 1 ≤ n → IsTrue (is_spread load.name) → block ≡ gathered n (words ++ place_values settings.dir key soft load ∷ []))
      → block ≡ block_heard settings history soft
  unfolding block_heard
  block_is block spread step =
      let some : 1 ≤ n = rw (deep, turn) spread in
      step before stood some (spreads some) ∙ rw (deep, word_is, turn) refl

  -- the lane behind it
  pub lane_is : (new : L) → ((words more : List (List ℤ)) (lane : L) → Stands 0 words lane → Stands 0 more lane)
      → ((words : List (List ℤ)) → Stands n words old → IsTrue (is_spread load.name) → Stands n (words ++ place_values settings.dir key soft load ∷ []) new)
      → (is_spread load.name ≡ false → new ≡ old)
      → HeardStands Stands settings t (history ++ soft ∷ []) new
  lane_is new idle step still =
      let traffic : use_of settings t ≡ Traffic = load_carries settings t soft (mode_of settings t) (second_stolen settings.dir key soft) load loaded in
      elim (cases_Bool (is_spread load.name)) [
        | inl over ↦
            let taken : Stands (depth (mode_of settings t)) (before ++ word_heard settings.dir (key_of settings.colour) (mode_of settings t) soft ∷ []) new =
            rw (← deep, ← word_is) (step before stood over) in
            turn_taken Stands (word_heard settings.dir (key_of settings.colour)) settings t history soft new turn traffic taken
        | inr once ↦
            let none : depth (mode_of settings t) ≡ 0 = sym deep ∙ none_spread n (is_spread load.name) spreads once in
            rw (still once) (turn_idle Stands (word_heard settings.dir (key_of settings.colour)) settings t history soft old idle none h)
      ]
