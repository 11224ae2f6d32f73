-- Where no word gives `cb` on the downlink, no timeslot has it.
use Rattle.std.proofs.Common.{◌≡◌, ℕ, ◌+◌, List, [], ◌∷◌, suc, zero, Bool, true, false, ◌&&◌, refl, sym, ap, ◌∙◌, Option, Some, None, Result, Ok, Err, if◌then◌else◌, take, drop, subst}
use Rattle.std.specs.Prelude.{codes, slice_index_or, IfOk}
use Rattle.std.specs.Result.{result_unwrap_or}
use Rattle.std.specs.Option.{option_map}
use Rattle.std.specs.Str.{bytes_eq}
use Rattle.std.proofs.lemmas.Bool.{false≢true}
use Rattle.std.proofs.lemmas.Slice.Eq.{bytes_eq-Decides}
use Rattle.tetra_settings.specs.declared.keys.Key.{Key}
use Rattle.tetra_settings.specs.declared.keys.Key.TheVariants.{Ts1, Ts2, Ts3, Ts4}
use Rattle.tetra_settings.specs.declared.types.Command.{Command}
use Rattle.tetra_settings.specs.declared.types.Settings.{Settings}
use Rattle.tetra_settings.specs.declared.types.WordFault.{WordFault}
use Rattle.tetra_settings.specs.declared.types.WordWhy.TheVariants.{NotUplink}
use Rattle.tetra_settings.specs.declared.types.Dir.{Dir}
use Rattle.tetra_settings.specs.declared.types.Dir.TheVariants.{Dl, Ul}
use Rattle.tetra_settings.specs.declared.types.Mode.{Mode}
use Rattle.tetra_settings.specs.declared.types.Mode.TheVariants.{Sig, Cb, D72, D48, D24, Speech}
use Rattle.tetra_settings.specs.declared.values.Value.{Value}
use Rattle.tetra_settings.specs.declared.values.Value.TheVariants.{Timeslot}
use Rattle.tetra_settings.specs.declared.values.Values.TheVariants.{Timeslots}
use Rattle.tetra_settings.specs.Keys.{row, key_of_text, command_of_text}
use Rattle.tetra_settings.specs.Values.{beside, modes, mode_by_text, value_by, known, mode_in}
use Rattle.tetra_settings.specs.Words.{is_pair, key_text, value_text, value_under, or_else, given, is_timeslot, gives_cb, first_cb, first_fault, settings_of, meaning, meaning_by_command, meaning_by_fault, meaning_by_dir}
use Rattle.tetra_settings.specs.Validity.{HasMode, IsInRanges, IsValid}

-- in a table only `cb` gives Cb
abbrev OnlyCb : List (List ℕ × Mode) → Type 0
OnlyCb [] = Unit {0}
OnlyCb (r ∷ rs) = (r.1 ≡ Cb → r.0 ≡ codes "cb") × OnlyCb rs

only_cb : (rows : List (List ℕ × Mode)) → OnlyCb rows → (text : List ℕ) → beside rows text ≡ Some Cb → text ≡ codes "cb"
only_cb [] all text e = cc e
only_cb (r ∷ rs) all text e = at_row (bytes_eq text r.0) (bytes_eq-Decides text r.0).0 e (only_cb rs all.1 text) where
  at_row : (b : Bool) → (b ≡ true → text ≡ r.0) → (if b then Some r.1 else beside rs text) ≡ Some Cb → (beside rs text ≡ Some Cb → text ≡ codes "cb") → text ≡ codes "cb"
  at_row true same found later = let mode : r.1 ≡ Cb = cc found in same refl ∙ all.0 mode
  at_row false same found later = later found

cb_text : (text : List ℕ) → mode_by_text text ≡ Some Cb → text ≡ codes "cb"
unfolding mode_by_text
cb_text text e = only_cb modes (λ h. cc h, (λ h. refl, (λ h. cc h, (λ h. cc h, (λ h. cc h, (λ h. cc h, (λ h. cc h, (λ h. cc h, (λ h. cc h, (λ h. cc h, tt)))))))))) text e

module _ (key : Key) (own : key_of_text (row key).name ≡ Some key) (timeslot : is_timeslot (Some key) ≡ true) where
  -- a word that gives the key something else than `cb`
  not_cb : (word text : List ℕ) → gives_cb word ≡ false → value_under (row key).name word ≡ Some text → text ≡ codes "cb" → ⊥
  not_cb word text other found cb =
      at_pair (is_pair word) (bytes_eq (key_text word) (row key).name) (bytes_eq-Decides (key_text word) (row key).name).0 other found where
        at_pair : (p b : Bool) → (b ≡ true → key_text word ≡ (row key).name) → (p && is_timeslot (key_of_text (key_text word)) && bytes_eq (value_text word) (codes "cb")) ≡ false
            → (if p && b then Some (value_text word) else None) ≡ Some text → ⊥
        at_pair true true same no_match given_text =
            let is_text : value_text word ≡ text = cc given_text in
            let is_key : key_of_text (key_text word) ≡ Some key = ap key_of_text (same refl) ∙ own in
            let is_ts : is_timeslot (key_of_text (key_text word)) ≡ true = ap is_timeslot is_key ∙ timeslot in
            let is_cb : bytes_eq (value_text word) (codes "cb") ≡ true = (bytes_eq-Decides (value_text word) (codes "cb")).1 (is_text ∙ cb) in
            false≢true (sym no_match ∙ ap (λ t. t && bytes_eq (value_text word) (codes "cb")) is_ts ∙ is_cb)
        at_pair true false same no_match given_text = cc given_text
        at_pair false b same no_match given_text = cc given_text

  given_not_cb : (words : List (List ℕ)) (n : ℕ) (text : List ℕ) → first_cb n words ≡ None → given (row key).name words ≡ Some text → text ≡ codes "cb" → ⊥
  given_not_cb [] n text none found cb = cc found
  given_not_cb (word ∷ words) n text none found cb =
      at_word (gives_cb word) refl none (value_under (row key).name word) refl found (λ m none later. given_not_cb words m text none later cb) where
        at_word : (b : Bool) → gives_cb word ≡ b → (if b then Some (record { index = n; why = NotUplink }) else first_cb (n + 1) words) ≡ None → (o : Option (List ℕ)) → value_under (row key).name word ≡ o
            → or_else o (given (row key).name words) ≡ Some text → ((m : ℕ) → first_cb m words ≡ None → given (row key).name words ≡ Some text → ⊥) → ⊥
        at_word true is_cb no_fault o here both later = cc no_fault
        at_word false is_cb no_fault None here both later = later (n + 1) no_fault both
        at_word false is_cb no_fault (Some x) here both later = let same : x ≡ text = cc both in not_cb word x is_cb here (same ∙ cb)

-- what a timeslot is given, and else signalling
abbrev timeslot_given : Option (List ℕ) → Value
timeslot_given None = Timeslot Sig
timeslot_given (Some text) = result_unwrap_or (value_by Timeslots text) (Timeslot Sig)

mode_fits : (found : Option Mode) → (found ≡ Some Cb → ⊥) → HasMode Dl (mode_in (result_unwrap_or (known (option_map (λ mode. Timeslot mode) found)) (Timeslot Sig)))
mode_fits None other = tt
mode_fits (Some Sig) other = tt
mode_fits (Some Cb) other = other refl
mode_fits (Some D72) other = tt
mode_fits (Some (D48 span)) other = tt
mode_fits (Some (D24 span)) other = tt
mode_fits (Some Speech) other = tt

given_fits : (found : Option (List ℕ)) → ((text : List ℕ) → found ≡ Some text → text ≡ codes "cb" → ⊥) → HasMode Dl (mode_in (timeslot_given found))
given_fits None other = tt
given_fits (Some text) other = mode_fits (mode_by_text text) (λ e. other text refl (cb_text text e))

ts1_known : key_of_text (codes "ts1") ≡ Some Ts1
unfolding key_of_text
ts1_known = refl

ts2_known : key_of_text (codes "ts2") ≡ Some Ts2
unfolding key_of_text
ts2_known = refl

ts3_known : key_of_text (codes "ts3") ≡ Some Ts3
unfolding key_of_text
ts3_known = refl

ts4_known : key_of_text (codes "ts4") ≡ Some Ts4
unfolding key_of_text
ts4_known = refl

-- no timeslot of the downlink has control bursts
modes_fit : (words : List (List ℕ)) → first_cb 0 words ≡ None → (i : ℕ) → HasMode Dl (slice_index_or (settings_of words).modes i Sig)
modes_fit words none zero = given_fits (given (codes "ts1") words) (λ text found. given_not_cb Ts1 ts1_known refl words 0 text none found)
modes_fit words none (suc zero) = given_fits (given (codes "ts2") words) (λ text found. given_not_cb Ts2 ts2_known refl words 0 text none found)
modes_fit words none (suc (suc zero)) = given_fits (given (codes "ts3") words) (λ text found. given_not_cb Ts3 ts3_known refl words 0 text none found)
modes_fit words none (suc (suc (suc zero))) = given_fits (given (codes "ts4") words) (λ text found. given_not_cb Ts4 ts4_known refl words 0 text none found)
modes_fit words none (suc (suc (suc (suc i)))) = tt

fits_by_dir : (command : Command) (words : List (List ℕ)) (dir : Dir) (cb : Option WordFault) → (settings_of words).dir ≡ dir → first_cb 0 words ≡ cb
    → IfOk (meaning_by_dir command (settings_of words) dir cb) (λ found. (i : ℕ) → HasMode found.1.dir (slice_index_or found.1.modes i Sig))
fits_by_dir command words Ul cb up none = λ i. rw up tt
fits_by_dir command words Dl None down none = λ i. rw down (modes_fit words none i)
fits_by_dir command words Dl (Some fault) down none = tt

fits_by_fault : (command : Command) (words : List (List ℕ)) (fault : Option WordFault)
    → IfOk (meaning_by_fault command words fault) (λ found. (i : ℕ) → HasMode found.1.dir (slice_index_or found.1.modes i Sig))
fits_by_fault command words None = fits_by_dir command words (settings_of words).dir (first_cb 0 words) refl refl
fits_by_fault command words (Some fault) = tt

fits_by_command : (command : Option Command) (words : List (List ℕ)) → IfOk (meaning_by_command command words) (λ found. (i : ℕ) → HasMode found.1.dir (slice_index_or found.1.modes i Sig))
fits_by_command None words = tt
fits_by_command (Some command) words = fits_by_fault command words (first_fault command (take 1 words) (drop 1 words))

meaning_modes : (words : List (List ℕ)) → IfOk (meaning words) (λ found. (i : ℕ) → HasMode found.1.dir (slice_index_or found.1.modes i Sig))
unfolding meaning
meaning_modes [] = tt
meaning_modes (word ∷ words) = fits_by_command (command_of_text word) (word ∷ words)

-- what words mean is valid, where its numbers are in their ranges
pub meaning_valid : (words : List (List ℕ)) (r : Result (Command × Settings) WordFault) → r ≡ meaning words → IfOk r (λ found. IsInRanges found.1) → IfOk r (λ found. IsValid found.1)
meaning_valid words (Ok found) e ranges = record { ranges = ranges; modes = subst (λ r. IfOk r (λ found. (i : ℕ) → HasMode found.1.dir (slice_index_or found.1.modes i Sig))) (sym e) (meaning_modes words) }
meaning_valid words (Err fault) e ranges = tt
