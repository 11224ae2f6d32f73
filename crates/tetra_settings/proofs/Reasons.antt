-- The first reason against one word behind the command.
use Rattle.std.proofs.Common.{rules, ◌≡◌, ◌⊎◌, ℕ, ◌<◌, ◌≤◌, List, [], ◌∷◌, suc, zero, Bool, true, false, ◌&&◌, not, nat_le, refl, sym, ◌∙◌, inl, inr, Option, Some, None, Ok, Err, if◌then◌else◌, is_some, arith, find}
use Rattle.std.specs.Bool.{Decides}
use Rattle.std.specs.Option.{IsSomeAnd, option_map}
use Rattle.std.specs.Str.{bytes_eq}
use Rattle.std.specs.Str.Parse.{digits_value}
use Rattle.std.proofs.lemmas.Bool.{false≢true}
use Rattle.std.proofs.lemmas.Slice.Eq.{bytes_eq-Decides}
use Rattle.tetra_settings.specs.declared.keys.Key.{Key}
use Rattle.std.specs.Prelude.{codes}
use Rattle.tetra_settings.specs.declared.types.Command.{Command}
use Rattle.tetra_settings.specs.declared.types.WordWhy.{WordWhy}
use Rattle.tetra_settings.specs.declared.types.WordWhy.TheVariants.{NotPair, UnknownKey, NotHere, Repeated, BadNumber, OutOfRange, UnknownValue}
use Rattle.tetra_settings.specs.declared.values.Value.{Value}
use Rattle.tetra_settings.specs.declared.values.Value.TheVariants.{Number, Direction, Timeslot, Shape}
use Rattle.tetra_settings.specs.declared.values.Values.{Values}
use Rattle.tetra_settings.specs.declared.values.Values.TheVariants.{Between, Directions, Timeslots, Forms}
use Rattle.tetra_settings.specs.Keys.{keys, row, key_of_text, takes_key}
use Rattle.tetra_settings.specs.Values.{is_number, value_by, known, direction_by_text, mode_by_text, form_by_text}
use Rattle.tetra_settings.specs.Words.{is_pair, key_text, value_text, value_under, or_else, given, error_of, reason, reason_by_key, gives_cb, are_timeslots, is_timeslot}
use Rattle.tetra_settings.specs.Faults.{key_in, IsGiven, Against, IsNoNumber, IsOutside, IsUnknown, IsFirstOf, GivesCb}

-- what passes the test of a search
found_passes : {X : Type 0} (p : X → Bool) (xs : List X) (x : X) → find p xs ≡ Some x → p x ≡ true
found_passes p [] x e = cc
found_passes p (y ∷ ys) x e = passed (p y) refl (found_passes p ys x) where
  passed : (b : Bool) → p y ≡ b → (find p ys ≡ Some x → p x ≡ true) → p x ≡ true
  passed true h later = let found : Some y ≡ Some x = rw h at e in let same : y ≡ x = cc in rw (← same) h
  passed false h later = later (rw h at e)

-- a key has its name
key_named : (text : List ℕ) (key : Key) → key_of_text text ≡ Some key → (row key).name ≡ text
unfolding key_of_text
key_named text key e = (bytes_eq-Decides (row key).name text).0 (found_passes (λ k. bytes_eq (row k).name text) keys key e)

-- one word has the key of a name
has_key : (name word : List ℕ) (key : Key) → key_of_text name ≡ Some key → Decides (is_some (value_under name word)) (key_in word ≡ Some key)
has_key name word key e = at_pair (is_pair word) (bytes_eq (key_text word) name) (bytes_eq-Decides (key_text word) name) where
  at_pair : (p b : Bool) → Decides b (key_text word ≡ name)
      → Decides (is_some (if p && b then Some (value_text word) else None)) ((if p then key_of_text (key_text word) else None) ≡ Some key)
  at_pair true true d = (λ _. rw (d.0 refl) e, λ _. refl)
  at_pair true false d = (λ h. absurd (cc h), λ h. absurd (let f : false ≡ true = d.1 (sym (key_named (key_text word) key h) ∙ key_named name key e) in cc f))
  at_pair false b d = (λ h. absurd (cc h), λ h. absurd (cc h))

either_some : {X : Type 0} (a b : Option X) (P Q : Type 0) → Decides (is_some a) P → Decides (is_some b) Q → Decides (is_some (or_else a b)) (P ⊎ Q)
either_some None b P Q d e = (λ h. inr (e.0 h), λ h. elim h [ inl p ↦ absurd (cc (d.1 p)) | inr q ↦ e.1 q ])
either_some (Some x) b P Q d e = (λ h. inl (d.0 refl), λ h. refl)

-- some word has the key of a name
some_has_key : (name : List ℕ) (key : Key) → key_of_text name ≡ Some key → (words : List (List ℕ)) → Decides (is_some (given name words)) (IsGiven key words)
some_has_key name key e [] = (λ h. absurd (cc h), λ (j, within, _). absurd (omega arith))
some_has_key name key e (word ∷ words) =
    let d = either_some _ _ _ _ (has_key name word key e) (some_has_key name key e words) in
    (λ h. elim (d.0 h) [ inl here ↦ (0, omega arith, here) | inr (j, within, later) ↦ (suc j, omega arith, later) ], λ h. d.1 (split h)) where
      split : IsGiven key (word ∷ words) → (key_in word ≡ Some key) ⊎ IsGiven key words
      split (zero, within, here) = inl here
      split (suc j, within, later) = inr (j, omega arith, later)

-- the reasons against the value of a key
abbrev AgainstValue : Values → List ℕ → WordWhy → Type 0
AgainstValue values text BadNumber = IsNoNumber values text
AgainstValue values text OutOfRange = IsOutside values text
AgainstValue values text UnknownValue = IsUnknown values text
AgainstValue values text why = ⊥

abbrev pub of_value : List WordWhy
of_value = BadNumber ∷ OutOfRange ∷ UnknownValue ∷ []

le_decides : (a b : ℕ) → Decides (nat_le a b) (a ≤ b)
le_decides a b = search rules

-- the first reason against a number
number_first : (b l h : Bool) (n low high : ℕ) → Decides l (low ≤ n) → Decides h (n ≤ high) → (P : WordWhy → Type 0)
    → (P BadNumber → b ≡ false) → (b ≡ false → P BadNumber) → (P OutOfRange → (b ≡ true) × ((n < low) ⊎ (high < n)))
    → ((b ≡ true) × ((n < low) ⊎ (high < n)) → P OutOfRange) → (P UnknownValue → ⊥)
    → IsFirstOf P of_value (error_of (if b then (if l && h then Ok (Number n) else Err OutOfRange) else Err BadNumber))
number_first false l h n low high dl dh P bad is_bad outside is_outside unknown = inl (is_bad refl, refl)
number_first true true true n low high dl dh P bad is_bad outside is_outside unknown =
    let above : low ≤ n = dl.0 refl in
    let below : n ≤ high = dh.0 refl in
    inr (λ p. cc (bad p), inr (λ p. elim (outside p).1 [ inl x ↦ omega arith | inr x ↦ omega arith ], inr (unknown, refl)))
number_first true true false n low high dl dh P bad is_bad outside is_outside unknown =
    let out : high < n = omega (arith, λ (p : n ≤ high). false≢true (dh.1 p)) in
    inr (λ p. cc (bad p), inl (is_outside (refl, inr out), refl))
number_first true false h n low high dl dh P bad is_bad outside is_outside unknown =
    let out : n < low = omega (arith, λ (p : low ≤ n). false≢true (dl.1 p)) in
    inr (λ p. cc (bad p), inl (is_outside (refl, inl out), refl))

-- the first reason against a value of a table
table_first : {X : Type 0} (found : Option X) (value : X → Value) (P : WordWhy → Type 0) → (P BadNumber → ⊥) → (P OutOfRange → ⊥)
    → (P UnknownValue → found ≡ None) → (found ≡ None → P UnknownValue)
    → IsFirstOf P of_value (error_of (known (option_map value found)))
table_first None value P bad outside unknown is_unknown = inr (bad, inr (outside, inl (is_unknown refl, refl)))
table_first (Some x) value P bad outside unknown is_unknown = inr (bad, inr (outside, inr (λ p. cc (unknown p), refl)))

value_first : (values : Values) (text : List ℕ) → IsFirstOf (AgainstValue values text) of_value (error_of (value_by values text))
value_first (Between low high) text =
    number_first (is_number text) _ _ (digits_value 10 text) low high (le_decides low (digits_value 10 text)) (le_decides (digits_value 10 text) high) (AgainstValue (Between low high) text)
    (λ h. h) (λ h. h) (λ h. h) (λ h. h) (λ h. h)
value_first Directions text = table_first (direction_by_text text) (λ dir. Direction dir) (AgainstValue Directions text) (λ h. h) (λ h. h) (λ h. h) (λ h. h)
value_first Timeslots text = table_first (mode_by_text text) (λ mode. Timeslot mode) (AgainstValue Timeslots text) (λ h. h) (λ h. h) (λ h. h) (λ h. h)
value_first Forms text = table_first (form_by_text text) (λ form. Shape form) (AgainstValue Forms text) (λ h. h) (λ h. h) (λ h. h) (λ h. h)

abbrev pub behind : List WordWhy
behind = NotPair ∷ UnknownKey ∷ NotHere ∷ Repeated ∷ of_value

first_if : {X : Type 0} (P : X → Type 0) (x : X) (xs : List X) (b : Bool) (rest : Option X) → Decides b (P x) → IsFirstOf P xs rest → IsFirstOf P (x ∷ xs) (if b then Some x else rest)
first_if P x xs true rest d more = inl (d.0 refl, refl)
first_if P x xs false rest d more = inr (λ p. absurd (false≢true (d.1 p)), more)

-- the reasons against a word that may be a pair and may have a known key
abbrev AgainstPair : Command → List (List ℕ) → Bool → Option Key → List ℕ → WordWhy → Type 0
AgainstPair command earlier p k value NotPair = p ≡ false
AgainstPair command earlier p k value UnknownKey = (p ≡ true) × (k ≡ None)
AgainstPair command earlier p k value NotHere = IsSomeAnd (if p then k else None) (λ key. takes_key command key ≡ false)
AgainstPair command earlier p k value Repeated = IsSomeAnd (if p then k else None) (λ key. IsGiven key earlier)
AgainstPair command earlier p k value BadNumber = IsSomeAnd (if p then k else None) (λ key. IsNoNumber (row key).values value)
AgainstPair command earlier p k value OutOfRange = IsSomeAnd (if p then k else None) (λ key. IsOutside (row key).values value)
AgainstPair command earlier p k value UnknownValue = IsSomeAnd (if p then k else None) (λ key. IsUnknown (row key).values value)
AgainstPair command earlier p k value why = ⊥

is_false : (b : Bool) → Decides (not b) (b ≡ false)
is_false true = (λ e. absurd (cc e), λ e. absurd (cc e))
is_false false = (λ e. refl, λ e. refl)

pair_first : (command : Command) (earlier : List (List ℕ)) (name value : List ℕ) (p : Bool) (k : Option Key)
    → ((key : Key) → k ≡ Some key → Decides (is_some (given name earlier)) (IsGiven key earlier))
    → IsFirstOf (AgainstPair command earlier p k value) behind (if p then reason_by_key command earlier name value k else Some NotPair)
pair_first command earlier name value false k given = inl (refl, refl)
pair_first command earlier name value true None given = inr (λ e. absurd (cc e), inl ((refl, refl), refl))
pair_first command earlier name value true (Some key) is_given =
    let P : WordWhy → Type 0 = AgainstPair command earlier true (Some key) value in
    let last : Option WordWhy = error_of (value_by (row key).values value) in
    inr (
      λ e. absurd (cc e),
      inr (
        λ e. absurd (let f : Some key ≡ None = e.1 in cc f),
        first_if P NotHere (Repeated ∷ of_value) (not (takes_key command key)) (if is_some (given name earlier) then Some Repeated else last) (is_false (takes_key command key))
            (first_if P Repeated of_value (is_some (given name earlier)) last (is_given key refl) (value_first (row key).values value)),
      ),
    )

-- the first reason against a word
pub reason_first : (command : Command) (earlier : List (List ℕ)) (word : List ℕ) → IsFirstOf (Against command earlier word) behind (reason command earlier word)
reason_first command earlier word =
    pair_first command earlier (key_text word) (value_text word) (is_pair word) (key_of_text (key_text word)) (λ key e. some_has_key (key_text word) key e earlier)

-- the test of `cb` at a key
cb_at_values : (values : Values) (b : Bool) (P : Type 0) → Decides b P → Decides (are_timeslots values && b) ((values ≡ Timeslots) × P)
cb_at_values Timeslots b P d = (λ h. (refl, d.0 h), λ h. d.1 h.1)
cb_at_values (Between low high) b P d = (λ h. absurd (cc h), λ h. absurd (cc h.0))
cb_at_values Directions b P d = (λ h. absurd (cc h), λ h. absurd (cc h.0))
cb_at_values Forms b P d = (λ h. absurd (cc h), λ h. absurd (cc h.0))

cb_at_pair : (p : Bool) (k : Option Key) (b : Bool) (P : Type 0) → Decides b P
    → Decides (p && is_timeslot k && b) (IsSomeAnd (if p then k else None) (λ key. ((row key).values ≡ Timeslots) × P))
cb_at_pair false k b P d = (λ h. absurd (cc h), λ h. absurd h)
cb_at_pair true None b P d = (λ h. absurd (cc h), λ h. absurd h)
cb_at_pair true (Some key) b P d = cb_at_values (row key).values b P d

-- the test of `cb` is what it says
pub gives_cb_decides : (word : List ℕ) → Decides (gives_cb word) (GivesCb word)
gives_cb_decides word =
    cb_at_pair (is_pair word) (key_of_text (key_text word)) (bytes_eq (value_text word) (codes "cb")) (value_text word ≡ codes "cb") (bytes_eq-Decides (value_text word) (codes "cb"))
