-- The word that is named is the first that is faulty, and its reason the first that stands against it.
use Rattle.std.proofs.Common.{◌≡◌, ◌⊎◌, ℕ, ◌+◌, ◌<◌, ◌≤◌, List, [], ◌∷◌, ◌++◌, length, length-append, take, drop, Bool, true, false, refl, sym, ap, ◌∙◌, inl, inr, Option, Some, None, if◌then◌else◌, get_or, arith, subst, append_assoc}
use Rattle.std.proofs.Math.Seq.{take-append_seam, get_or-append_seam}
use Rattle.tetra_settings.specs.declared.types.Command.{Command}
use Rattle.tetra_settings.specs.declared.types.WordFault.{WordFault}
use Rattle.tetra_settings.specs.declared.types.WordWhy.{WordWhy}
use Rattle.tetra_settings.specs.declared.types.WordWhy.TheVariants.{NoCommand, UnknownCommand, NotPair, UnknownKey, NotHere, Repeated, BadNumber, OutOfRange, UnknownValue, NotUplink}
use Rattle.tetra_settings.specs.declared.types.Dir.{Dir}
use Rattle.tetra_settings.specs.declared.types.Dir.TheVariants.{Dl, Ul}
use Rattle.tetra_settings.specs.Keys.{command_of_text}
use Rattle.tetra_settings.specs.Words.{or_else, fault_at, reason, first_fault, gives_cb, first_cb, settings_of, meaning, meaning_by_command, meaning_by_fault, meaning_by_dir}
use Rattle.tetra_settings.specs.Faults.{word_at, Against, StandsAlone, Stands, IsFirstOf, IsFirstReason, IsFirstFault, NamesFirst}
use Rattle.tetra_settings.proofs.Reasons.{behind, reason_first, gives_cb_decides}

-- What a search from word n on says that goes by a test of each word.
abbrev Searched : (ℕ → Option WordWhy) → ℕ → ℕ → Option WordFault → Type 0
Searched test size n None = (i : ℕ) → n ≤ i → i < size → test i ≡ None
Searched test size n (Some fault) = (n ≤ fault.index) × (fault.index < size) × (test fault.index ≡ Some fault.why) × ((i : ℕ) → n ≤ i → i < fault.index → test i ≡ None)

at_or_behind : (n i : ℕ) → n ≤ i → (i ≡ n) ⊎ (n + 1 ≤ i)
at_or_behind n i h = grind arith

-- a word in front that passes
passed_more : (test : ℕ → Option WordWhy) (size n : ℕ) (found : Option WordFault) → test n ≡ None → Searched test size (n + 1) found → Searched test size n found
passed_more test size n None here later = λ i from below. elim (at_or_behind n i from) [ inl e ↦ ap test e ∙ here | inr more ↦ later i more below ]
passed_more test size n (Some fault) here (from, below, faulty, earlier) =
    (omega arith, below, faulty, λ i first last. elim (at_or_behind n i first) [ inl e ↦ ap test e ∙ here | inr more ↦ earlier i more last ])

-- a word that fails
failed_here : (test : ℕ → Option WordWhy) (size n : ℕ) (why : WordWhy) → n < size → test n ≡ Some why → Searched test size n (Some (record { index = n; why = why }))
failed_here test size n why below e = (omega arith, below, e, λ i first last. absurd (omega arith))

-- a test of one word, and then the search of the words behind it
searched_step : (test : ℕ → Option WordWhy) (size n : ℕ) (r : Option WordWhy) (later : Option WordFault) → n < size → test n ≡ r
    → Searched test size (n + 1) later → Searched test size n (or_else (fault_at n r) later)
searched_step test size n None later below e more = passed_more test size n later e more
searched_step test size n (Some why) later below e more = failed_here test size n why below e

-- the reason against word i
abbrev reason_at : Command → List (List ℕ) → ℕ → Option WordWhy
reason_at command words i = reason command (take i words) (word_at words i)

-- the words before a word, and the word
front_is : (words earlier rest : List (List ℕ)) (word : List ℕ) → words ≡ earlier ++ word ∷ rest → take (length earlier) words ≡ earlier
front_is words earlier rest word e = ap (take (length earlier)) e ∙ take-append_seam earlier (word ∷ rest)

word_is : (words earlier rest : List (List ℕ)) (word : List ℕ) → words ≡ earlier ++ word ∷ rest → word_at words (length earlier) ≡ word
word_is words earlier rest word e = ap (λ l. get_or l (length earlier) []) e ∙ get_or-append_seam earlier word rest []

inside : (words earlier rest : List (List ℕ)) (word : List ℕ) → words ≡ earlier ++ word ∷ rest → length earlier < length words
inside words earlier rest word e = omega (arith, ap length e, length-append earlier (word ∷ rest))

one_more : (earlier : List (List ℕ)) (word : List ℕ) → length (earlier ++ word ∷ []) ≡ length earlier + 1
one_more earlier word = omega (arith, length-append earlier (word ∷ []))

moved : (words earlier rest : List (List ℕ)) (word : List ℕ) → words ≡ earlier ++ word ∷ rest → words ≡ (earlier ++ word ∷ []) ++ rest
moved words earlier rest word e = e ∙ sym (append_assoc earlier (word ∷ []) rest)

fault_searched : (command : Command) (words earlier rest : List (List ℕ)) → words ≡ earlier ++ rest
    → Searched (reason_at command words) (length words) (length earlier) (first_fault command earlier rest)
fault_searched command words earlier [] e = λ i from below. absurd (omega (arith, ap length e, length-append earlier []))
fault_searched command words earlier (word ∷ rest) e =
    let more = fault_searched command words (earlier ++ word ∷ []) rest (moved words earlier rest word e) in
    let here : reason_at command words (length earlier) ≡ reason command earlier word =
    ap (λ front. reason command front (word_at words (length earlier))) (front_is words earlier rest word e) ∙ ap (reason command earlier) (word_is words earlier rest word e) in
    searched_step (reason_at command words) (length words) (length earlier) (reason command earlier word) (first_fault command (earlier ++ word ∷ []) rest) (inside words earlier rest word e) here
    (subst (λ n. Searched (reason_at command words) (length words) n (first_fault command (earlier ++ word ∷ []) rest)) (one_more earlier word) more)

-- the reason against word i of a downlink that has no other
abbrev cb_at : List (List ℕ) → ℕ → Option WordWhy
cb_at words i = if gives_cb (word_at words i) then Some NotUplink else None

cb_step : (test : ℕ → Option WordWhy) (size n : ℕ) (b : Bool) (later : Option WordFault) → n < size → test n ≡ (if b then Some NotUplink else None)
    → Searched test size (n + 1) later → Searched test size n (if b then Some (record { index = n; why = NotUplink }) else later)
cb_step test size n true later below e more = failed_here test size n NotUplink below e
cb_step test size n false later below e more = passed_more test size n later e more

cb_searched : (words earlier rest : List (List ℕ)) (n : ℕ) → n ≡ length earlier → words ≡ earlier ++ rest → Searched (cb_at words) (length words) n (first_cb n rest)
cb_searched words earlier [] n at e = λ i from below. absurd (omega (arith, ap length e, length-append earlier []))
cb_searched words earlier (word ∷ rest) n at e =
    let here : cb_at words n ≡ (if gives_cb word then Some NotUplink else None) =
    ap (cb_at words) at ∙ ap (λ w. if gives_cb w then Some NotUplink else None) (word_is words earlier rest word e) in
    cb_step (cb_at words) (length words) n (gives_cb word) (first_cb (n + 1) rest) (omega (arith, inside words earlier rest word e)) here
    (cb_searched words (earlier ++ word ∷ []) rest (n + 1) (omega (arith, one_more earlier word)) (moved words earlier rest word e))

-- an element of a list
abbrev Among : WordWhy → List WordWhy → Type 0
Among why [] = ⊥
Among why (x ∷ xs) = (why ≡ x) ⊎ Among why xs

none_stands : (P : WordWhy → Type 0) (xs : List WordWhy) (why : WordWhy) → IsFirstOf P xs None → Among why xs → P why → ⊥
none_stands P [] why none among p = among
none_stands P (x ∷ xs) why (inl (q, e)) among p = cc e
none_stands P (x ∷ xs) why (inr (not_x, none)) (inl e) p = not_x (subst P e p)
none_stands P (x ∷ xs) why (inr (not_x, none)) (inr among) p = none_stands P xs why none among p

first_stands : (P : WordWhy → Type 0) (xs : List WordWhy) (why : WordWhy) → IsFirstOf P xs (Some why) → P why
first_stands P [] why e = absurd (cc e)
first_stands P (x ∷ xs) why (inl (p, e)) = let same : why ≡ x = cc e in subst P (sym same) p
first_stands P (x ∷ xs) why (inr (not_x, first)) = first_stands P xs why first

-- a list with one element more, of which P does not hold
first_longer : (P : WordWhy → Type 0) (xs : List WordWhy) (last : WordWhy) (found : Option WordWhy) → (P last → ⊥) → IsFirstOf P xs found → IsFirstOf P (xs ++ last ∷ []) found
first_longer P [] last found not_last e = inr (not_last, e)
first_longer P (x ∷ xs) last found not_last (inl h) = inl h
first_longer P (x ∷ xs) last found not_last (inr (not_x, first)) = inr (not_x, first_longer P xs last found not_last first)

-- P holds of no element
none_first : (P : WordWhy → Type 0) (xs : List WordWhy) → ((why : WordWhy) → P why → ⊥) → IsFirstOf P xs None
none_first P [] never = refl
none_first P (x ∷ xs) never = inr (never x, none_first P xs never)

-- P holds of the last element alone
last_first : (P : WordWhy → Type 0) (xs : List WordWhy) (last : WordWhy) → IsFirstOf P xs None → P last → IsFirstOf P (xs ++ last ∷ []) (Some last)
last_first P [] last none p = inl (p, refl)
last_first P (x ∷ xs) last (inl (q, e)) p = absurd (cc e)
last_first P (x ∷ xs) last (inr (not_x, none)) p = inr (not_x, last_first P xs last none p)

-- facts that imply each other are first alike
first_alike : (P Q : WordWhy → Type 0) (xs : List WordWhy) (found : Option WordWhy) → ((why : WordWhy) → P why → Q why) → ((why : WordWhy) → Q why → P why) → IsFirstOf P xs found → IsFirstOf Q xs found
first_alike P Q [] found to from e = e
first_alike P Q (x ∷ xs) found to from (inl (p, e)) = inl (to x p, e)
first_alike P Q (x ∷ xs) found to from (inr (not_x, first)) = inr (λ q. not_x (from x q), first_alike P Q xs found to from first)

-- the reasons but NotUplink
abbrev alone : List WordWhy
alone = NoCommand ∷ UnknownCommand ∷ behind

among_behind : (command : Command) (earlier : List (List ℕ)) (word : List ℕ) (why : WordWhy) → Against command earlier word why → Among why behind
among_behind command earlier word NoCommand h = absurd h
among_behind command earlier word UnknownCommand h = absurd h
among_behind command earlier word NotPair h = inl refl
among_behind command earlier word UnknownKey h = inr (inl refl)
among_behind command earlier word NotHere h = inr (inr (inl refl))
among_behind command earlier word Repeated h = inr (inr (inr (inl refl)))
among_behind command earlier word BadNumber h = inr (inr (inr (inr (inl refl))))
among_behind command earlier word OutOfRange h = inr (inr (inr (inr (inr (inl refl)))))
among_behind command earlier word UnknownValue h = inr (inr (inr (inr (inr (inr (inl refl))))))
among_behind command earlier word NotUplink h = absurd h

found_cb : (b : Bool) (why : WordWhy) → (if b then Some NotUplink else None) ≡ Some why → (b ≡ true) × (NotUplink ≡ why)
found_cb true why e = (refl, cc e)
found_cb false why e = absurd (cc e)

some_is_not_none : Some NotUplink ≡ None → ⊥
some_is_not_none e = cc e

module _ (word : List ℕ) (more : List (List ℕ)) (command : Command) (known : command_of_text word ≡ Some command) where
  to_alone : (i : ℕ) → 1 ≤ i → i < length (word ∷ more) → (why : WordWhy) → Against command (take i (word ∷ more)) (word_at (word ∷ more) i) why → StandsAlone (word ∷ more) i why
  to_alone i from below NoCommand h = absurd h
  to_alone i from below UnknownCommand h = absurd h
  to_alone i from below NotUplink h = absurd h
  to_alone i from below NotPair h = (from, below, rw known h)
  to_alone i from below UnknownKey h = (from, below, rw known h)
  to_alone i from below NotHere h = (from, below, rw known h)
  to_alone i from below Repeated h = (from, below, rw known h)
  to_alone i from below BadNumber h = (from, below, rw known h)
  to_alone i from below OutOfRange h = (from, below, rw known h)
  to_alone i from below UnknownValue h = (from, below, rw known h)

  from_alone : (i : ℕ) (why : WordWhy) → StandsAlone (word ∷ more) i why → (1 ≤ i) × (i < length (word ∷ more)) × Against command (take i (word ∷ more)) (word_at (word ∷ more) i) why
  from_alone i NoCommand (e, z) = absurd (cc e)
  from_alone i UnknownCommand (some, z, e) = absurd (let f : Some command ≡ None = sym known ∙ e in cc f)
  from_alone i NotUplink (from, below, h) = absurd (rw known at h)
  from_alone i NotPair (from, below, h) = (from, below, rw known at h)
  from_alone i UnknownKey (from, below, h) = (from, below, rw known at h)
  from_alone i NotHere (from, below, h) = (from, below, rw known at h)
  from_alone i Repeated (from, below, h) = (from, below, rw known at h)
  from_alone i BadNumber (from, below, h) = (from, below, rw known at h)
  from_alone i OutOfRange (from, below, h) = (from, below, rw known at h)
  from_alone i UnknownValue (from, below, h) = (from, below, rw known at h)

  -- the search behind the command, for one word
  against_first : (i : ℕ) (found : Option WordWhy) → 1 ≤ i → i < length (word ∷ more) → reason_at command (word ∷ more) i ≡ found → IsFirstOf (StandsAlone (word ∷ more) i) behind found
  against_first i found from below e =
      first_alike (Against command (take i (word ∷ more)) (word_at (word ∷ more) i)) (StandsAlone (word ∷ more) i) behind found
      (to_alone i from below) (λ why h. (from_alone i why h).2) (subst (IsFirstOf (Against command (take i (word ∷ more)) (word_at (word ∷ more) i)) behind) e (reason_first command (take i (word ∷ more)) (word_at (word ∷ more) i)))

  -- the whole list of reasons at a word behind the command
  first_behind : (i : ℕ) (found : Option WordWhy) → 1 ≤ i → (Stands (word ∷ more) i NotUplink → ⊥) → IsFirstOf (StandsAlone (word ∷ more) i) behind found → IsFirstReason (word ∷ more) i found
  first_behind i found from no_cb first =
      inr (λ h. absurd (cc h.0), inr (λ h. omega (arith, h.1), first_longer (Stands (word ∷ more) i) behind NotUplink found no_cb first))

  -- no reason stands against the command
  first_command : (Stands (word ∷ more) 0 NotUplink → ⊥) → IsFirstReason (word ∷ more) 0 None
  first_command no_cb =
      first_longer (Stands (word ∷ more) 0) alone NotUplink None no_cb (none_first (StandsAlone (word ∷ more) 0) alone (λ why h. omega (arith, (from_alone 0 why h).0)))

  -- a fault behind the command
  named_behind : (fault : WordFault) → Searched (reason_at command (word ∷ more)) (length (word ∷ more)) 1 (Some fault) → IsFirstFault (word ∷ more) fault
  named_behind fault (from, below, faulty, earlier) =
      let first = against_first fault.index (Some fault.why) from below faulty in
      let stands : StandsAlone (word ∷ more) fault.index fault.why = first_stands (StandsAlone (word ∷ more) fault.index) behind fault.why first in
      let no_cb = λ (i : ℕ) (h : Stands (word ∷ more) i NotUplink). h.0 fault.index fault.why stands in
      record {
        earlier = λ i lt. elim (at_or_behind 0 i (omega arith)) [
          | inl e ↦ subst (λ n. IsFirstReason (word ∷ more) n None) (sym e) (first_command (no_cb 0))
          | inr more_than ↦ first_behind i None more_than (no_cb i) (against_first i None more_than (omega arith) (earlier i more_than lt))
        ];
        here = first_behind fault.index (Some fault.why) from (no_cb fault.index) first;
      }

  -- without a fault behind the command no reason but NotUplink stands
  none_alone : Searched (reason_at command (word ∷ more)) (length (word ∷ more)) 1 None → (j : ℕ) (why : WordWhy) → StandsAlone (word ∷ more) j why → ⊥
  none_alone searched j why h =
      let parts = from_alone j why h in
      none_stands (StandsAlone (word ∷ more) j) behind why (against_first j None parts.0 parts.1 (searched j parts.0 parts.1)) (among_behind command (take j (word ∷ more)) (word_at (word ∷ more) j) why parts.2) h

  module _ (searched : Searched (reason_at command (word ∷ more)) (length (word ∷ more)) 1 None) where
    -- no reason stands against a word where NotUplink does not
    no_reason : (i : ℕ) → (Stands (word ∷ more) i NotUplink → ⊥) → IsFirstReason (word ∷ more) i None
    no_reason i no_cb = first_longer (Stands (word ∷ more) i) alone NotUplink None no_cb (none_first (StandsAlone (word ∷ more) i) alone (none_alone searched i))

    named_by_dir : (dir : Dir) (cb : Option WordFault) → (settings_of (word ∷ more)).dir ≡ dir → Searched (cb_at (word ∷ more)) (length (word ∷ more)) 0 cb
        → NamesFirst (word ∷ more) (meaning_by_dir command (settings_of (word ∷ more)) dir cb)
    named_by_dir Ul cb e found = λ i. no_reason i (λ h. absurd (let f : Ul ≡ Dl = sym e ∙ h.1 in cc f))
    named_by_dir Dl None e found =
        λ i. no_reason i (λ h. some_is_not_none (sym (ap (λ b. if b then Some NotUplink else None) ((gives_cb_decides (word_at (word ∷ more) i)).1 h.3)) ∙ found i (omega arith) h.2))
    named_by_dir Dl (Some fault) e (from, below, faulty, earlier) =
        let given = found_cb (gives_cb (word_at (word ∷ more) fault.index)) fault.why faulty in
        record {
          earlier = λ i lt. no_reason i (λ h. some_is_not_none (sym (ap (λ b. if b then Some NotUplink else None) ((gives_cb_decides (word_at (word ∷ more) i)).1 h.3)) ∙ earlier i (omega arith) lt));
          here = subst (λ why. IsFirstReason (word ∷ more) fault.index (Some why)) given.1
              (last_first (Stands (word ∷ more) fault.index) alone NotUplink (none_first (StandsAlone (word ∷ more) fault.index) alone (none_alone searched fault.index))
              (none_alone searched, e, below, (gives_cb_decides (word_at (word ∷ more) fault.index)).0 given.0));
        }

  named_by_fault : (fault : Option WordFault) → Searched (reason_at command (word ∷ more)) (length (word ∷ more)) 1 fault
      → NamesFirst (word ∷ more) (meaning_by_fault command (word ∷ more) fault)
  named_by_fault (Some fault) searched = named_behind fault searched
  named_by_fault None searched =
      named_by_dir searched (settings_of (word ∷ more)).dir (first_cb 0 (word ∷ more)) refl (cb_searched (word ∷ more) [] (word ∷ more) 0 refl refl)

named_by_command : (word : List ℕ) (more : List (List ℕ)) (command : Option Command) → command_of_text word ≡ command → NamesFirst (word ∷ more) (meaning_by_command command (word ∷ more))
named_by_command word more None unknown =
    record { earlier = λ i lt. absurd (omega arith); here = inr (λ h. absurd (cc h.0), inl ((omega arith, refl, unknown), refl)) }
named_by_command word more (Some command) known =
    named_by_fault word more command known (first_fault command (take 1 (word ∷ more)) (drop 1 (word ∷ more))) (fault_searched command (word ∷ more) (word ∷ []) more refl)

-- what the words mean names the first fault
pub meaning_names_first : (words : List (List ℕ)) → NamesFirst words (meaning words)
unfolding meaning
meaning_names_first [] = record { earlier = λ i lt. absurd (omega arith); here = inl ((refl, refl), refl) }
meaning_names_first (word ∷ more) = named_by_command word more (command_of_text word) refl
