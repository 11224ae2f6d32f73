-- What an end says of its words and of the number of its slots, over any source.
use Rattle.std.proofs.Common.{◌≡◌, ◌⊎◌, ℕ, zero, suc, ◌+◌, ◌*◌, ◌<◌, ◌≤◌, ◌==◌, List, [], ◌∷◌, ◌++◌, length, refl, sym, inl, inr, subst, arith, length-append, Option, Bool, true, false, MatchBool, Ok}
use Rattle.std.proofs.lemmas.Bool.{eqb-true}
use Rattle.tetra_settings.specs.declared.types.Command.{Command}
use Rattle.tetra_settings.specs.declared.types.Command.TheVariants.{Encode, Decode, Audit, Gen, Trial}
use Rattle.tetra_settings.specs.declared.types.Settings.{Settings}
use Rattle.tetra_settings.specs.declared.types.WordWhy.{WordWhy}
use Rattle.tetra_records.specs.Records.{why as record_why}
use Rattle.tetra_records.specs.declared.faults.RecordFault.{RecordFault}
use Rattle.tetra_records.specs.declared.faults.RecordFault.TheVariants.{Truncated}
use Rattle.tetra_audit.specs.declared.verdict.SlotVerdict.{SlotVerdict}
use Rattle.tetra_audit.specs.declared.verdict.SlotVerdict.TheVariants.{Agrees, Kind, Field}
use Rattle.tetra_engine.specs.declared.status.End.{End}
use Rattle.tetra_engine.specs.declared.status.Status.{Status}
use Rattle.tetra_engine.specs.declared.status.Status.TheVariants.{Done, Refused, Words, TooLong, Input, Read, Write}
use Rattle.tetra_engine.specs.Shapes.{Shape}
use Rattle.tetra_engine.specs.Encoding.{encoding}
use Rattle.tetra_engine.specs.Decoding.{decoding}
use Rattle.tetra_engine.specs.Auditing.{auditing, Claimed, refused_by, refused_slots, verdict_at, audit_status}
use Rattle.tetra_engine.specs.Outcomes.{Outcome, Closes, EndsBy, Over}
use Rattle.tetra_engine.specs.Running.{CommandEnds, Says, IsAudit, most_slots}
use Rattle.tetra_engine.specs.Series.{Series, SeriesEnds}
use Rattle.tetra_engine.specs.Generating.{generating}
use Rattle.tetra_engine.specs.Trying.{trying}
use Rattle.tetra_engine.proofs.Ends.{one_way}
use Rattle.tetra_engine.proofs.Audited.{refused_few}

-- a status where bytes begin no input
abbrev IsStop : ℕ → Status → Type 0
IsStop n status = (why : RecordFault) × (status ≡ Input n why)

abbrev StopsSo : {X : Type 0} → Shape X → Type 0
StopsSo {X} shape = (xs : List X) (bytes : List ℕ) (status : Status) → shape.Stops xs bytes status → IsStop (length xs) status

-- a status at the end of the input; A says that it is that of an audit
abbrev IsDone : Type 0 → ℕ → Status → Type 0
IsDone A n status = (status ≡ Done) ⊎ ((slot : ℕ) × (count : ℕ) × (status ≡ Refused slot count) × A × (0 < count) × (count ≤ n) × (slot < n))

abbrev DoneSo : {X : Type 0} → Type 0 → Shape X → Type 0
DoneSo {X} A shape = (xs : List X) → IsDone A (length xs) (shape.done xs)

-- the status of an end over some bytes
abbrev IsKnown : Type 0 → ℕ → ℕ → Status → Type 0
IsKnown A max n status = IsDone A n status ⊎ (((n ≡ max) × (status ≡ TooLong)) ⊎ IsStop n status)

one_of_two : {X : Type 0} (shape : Shape X) → StopsSo shape → (A : Type 0) (max : ℕ) (xs : List X) (rest : List ℕ) (status : Status) (full : Bool)
    → (length xs == max) ≡ full → MatchBool full (status ≡ TooLong) (shape.Stops xs rest status) → IsKnown A max (length xs) status
one_of_two shape stops A max xs rest status true e long = inr (inl (eqb-true (length xs) max e, long))
one_of_two shape stops A max xs rest status false e stop = inr (inr (stops xs rest status stop))

closed : {X : Type 0} (shape : Shape X) (A : Type 0) → StopsSo shape → DoneSo A shape → (max : ℕ) (xs : List X) (rest : List ℕ) (status : Status) → Closes shape max xs rest status → IsKnown A max (length xs) status
closed shape A stops done max xs [] status is = inl (subst (IsDone A (length xs)) (sym is) (done xs))
closed shape A stops done max xs (b ∷ rest) status is = one_of_two shape stops A max xs (b ∷ rest) status (length xs == max) refl is

-- an end of a run with its slots
abbrev IsOf : Type 0 → ℕ → ℕ → Status → Type 0
IsOf A max n status = (status ≡ Read) ⊎ ((status ≡ Write) ⊎ IsKnown A max n status)

abbrev IsSaid : Type 0 → ℕ → End → Type 0
IsSaid A max end = (end.slots ≤ max) × IsOf A max end.slots end.status

module _ {X : Type 0} (shape : Shape X) (A : Type 0) (stops : StopsSo shape) (done : DoneSo A shape) (max : ℕ) (old new : Option (List ℕ)) (Took : List ℕ → Type 0) (end : End) where
  over_said : Over old (λ bytes. Outcome shape max bytes Took end) → IsSaid A max end
  over_said (bytes, told, out) = (
    omega (arith, out.cut.few, out.slots),
    inr (inr (subst (λ n. IsKnown A max n end.status) (sym out.slots) (closed shape A stops done max out.xs out.rest end.status out.closes))),
  )

  ends_said : (status : Status) → end.status ≡ status → EndsBy status shape max old new Took end → IsSaid A max end
  ends_said Done is ends = over_said ends
  ends_said (Refused s c) is ends = over_said ends
  ends_said (Words i w) is ends = over_said ends
  ends_said (Input i w) is ends = over_said ends
  ends_said Read is (came, went, out) = (omega (arith, out.cut.few, out.slots), inl is)
  ends_said Write is (bytes, told, out) = (omega (arith, out.few, out.slots), inr (inl is))
  ends_said TooLong is ends = over_said ends

-- how the three commands stop
decoding_stops : (settings : Settings) → StopsSo (decoding settings)
decoding_stops settings xs bytes status is = (Truncated, is)

auditing_stops : (settings : Settings) → StopsSo (auditing settings)
auditing_stops settings xs bytes status is = (Truncated, is)

encoding_stops : (settings : Settings) → StopsSo (encoding settings)
encoding_stops settings xs bytes status stops = (record_why settings (length xs) bytes, one_way settings (length xs) bytes status stops)

-- the first slot that is refused is one of those that were read
by_verdict : (n : ℕ) (verdict : SlotVerdict) (rest : List ℕ) (slot : ℕ) (slots : List ℕ) → refused_by n verdict ++ rest ≡ slot ∷ slots → (n ≡ slot) ⊎ (rest ≡ slot ∷ slots)
by_verdict n Agrees rest slot slots e = inr e
by_verdict n Kind rest slot slots e = inl (cc e)
by_verdict n (Field i why) rest slot slots e = inl (cc e)

first_refused : (settings : Settings) (before xs : List Claimed) (slot : ℕ) (slots : List ℕ) → refused_slots settings before xs ≡ slot ∷ slots → slot < length before + length xs
first_refused settings before [] slot slots e = absurd (cc e)
first_refused settings before (x ∷ xs) slot slots e =
    here (first_refused settings (before ++ x ∷ []) xs slot slots) (by_verdict (length before) (verdict_at settings before x) (refused_slots settings (before ++ x ∷ []) xs) slot slots e) where
      here : (refused_slots settings (before ++ x ∷ []) xs ≡ slot ∷ slots → slot < length (before ++ x ∷ []) + length xs)
          → (length before ≡ slot) ⊎ (refused_slots settings (before ++ x ∷ []) xs ≡ slot ∷ slots) → slot < length before + length (x ∷ xs)
      here behind (inl is) = omega (arith, is)
      here behind (inr later) = omega (arith, behind later, length-append before (x ∷ []))

audit_done : (slots : List ℕ) (n : ℕ) → length slots ≤ n → ((slot : ℕ) (more : List ℕ) → slots ≡ slot ∷ more → slot < n) → IsDone (Unit {0}) n (audit_status slots)
audit_done [] n few first = inl refl
audit_done (slot ∷ more) n few first = inr (slot, length (slot ∷ more), refl, tt, omega arith, few, first slot more refl)

auditing_done : (settings : Settings) → DoneSo (Unit {0}) (auditing settings)
auditing_done settings xs = audit_done (refused_slots settings [] xs) (length xs) (refused_few settings [] xs) (λ slot more e. omega (arith, first_refused settings [] xs slot more e))

-- what each status says
module _ (A : Type 0) (max n : ℕ) where
  never_words : (i : ℕ) (w : WordWhy) → IsOf A max n (Words i w) → ⊥
  never_words i w (inl e) = cc e
  never_words i w (inr (inl e)) = cc e
  never_words i w (inr (inr (inl (inl e)))) = cc e
  never_words i w (inr (inr (inl (inr (s, c, e, a, some, few, first))))) = cc e
  never_words i w (inr (inr (inr (inl (full, e))))) = cc e
  never_words i w (inr (inr (inr (inr (why, e))))) = cc e

  always_full : IsOf A max n TooLong → n ≡ max
  always_full (inl e) = absurd (cc e)
  always_full (inr (inl e)) = absurd (cc e)
  always_full (inr (inr (inl (inl e)))) = absurd (cc e)
  always_full (inr (inr (inl (inr (s, c, e, a, some, few, first))))) = absurd (cc e)
  always_full (inr (inr (inr (inl (full, e))))) = full
  always_full (inr (inr (inr (inr (why, e))))) = absurd (cc e)

  always_audit : (slot count : ℕ) → IsOf A max n (Refused slot count) → A × (0 < count) × (count ≤ n) × (slot < n)
  always_audit slot count (inl e) = absurd (cc e)
  always_audit slot count (inr (inl e)) = absurd (cc e)
  always_audit slot count (inr (inr (inl (inl e)))) = absurd (cc e)
  always_audit slot count (inr (inr (inl (inr (s, c, e, a, some, few, first))))) =
      let is : slot ≡ s = cc e in
      let number : count ≡ c = cc e in
      (a, omega (arith, number), omega (arith, number), omega (arith, is))
  always_audit slot count (inr (inr (inr (inl (full, e))))) = absurd (cc e)
  always_audit slot count (inr (inr (inr (inr (why, e))))) = absurd (cc e)

  always_next : (slot : ℕ) (why : RecordFault) → IsOf A max n (Input slot why) → slot ≡ n
  always_next slot why (inl e) = absurd (cc e)
  always_next slot why (inr (inl e)) = absurd (cc e)
  always_next slot why (inr (inr (inl (inl e)))) = absurd (cc e)
  always_next slot why (inr (inr (inl (inr (s, c, e, a, some, few, first))))) = absurd (cc e)
  always_next slot why (inr (inr (inr (inl (full, e))))) = absurd (cc e)
  always_next slot why (inr (inr (inr (inr (w, e))))) = cc e

-- the end of a series, whose outputs stand for no more slots than max
series_said : (series : Series) (A : Type 0) (max : ℕ) → ((k : ℕ) → k ≤ series.count → series.slots k ≤ max) → (Took : List ℕ → Type 0) (end : End)
    (status : Status) → end.status ≡ status → SeriesEnds status series Took end → IsSaid A max end
series_said series A max few Took end Done is out = (omega (arith, few series.count (omega arith), out.slots), inr (inr (inl (inl is))))
series_said series A max few Took end Write is out = (omega (arith, few out.k out.few, out.slots), inr (inl is))
series_said series A max few Took end (Refused slot count) is out = absurd out
series_said series A max few Took end (Words index why) is out = absurd out
series_said series A max few Took end (Input slot why) is out = absurd out
series_said series A max few Took end Read is out = absurd out
series_said series A max few Took end TooLong is out = absurd out

said : (command : Command) (settings : Settings) (end : End) → IsSaid (IsAudit (Ok (command, settings))) (most_slots command settings) end → Says (Ok (command, settings)) end
said command settings end (few, of) =
    let A = IsAudit (Ok (command, settings)) in
    let max = most_slots command settings in
    let at : (status : Status) → end.status ≡ status → IsOf A max end.slots status = λ status is. subst (IsOf A max end.slots) is of in
    record {
      words = (λ fault. (λ is. absurd (never_words A max end.slots fault.index fault.why (at (Words fault.index fault.why) is)), λ e. absurd (cc e)));
      few = few;
      too_long = λ is. always_full A max end.slots (at TooLong is);
      refused = λ slot count is. always_audit A max end.slots slot count (at (Refused slot count) is);
      input = λ slot why is. always_next A max end.slots slot why (at (Input slot why) is);
    }

at_most_once : (k n : ℕ) → k ≤ 1 → k * n ≤ n
at_most_once zero n few = omega arith
at_most_once (suc zero) n few = omega arith
at_most_once (suc (suc k)) n few = absurd (omega arith)

-- what the end of a command's run says
pub command_says : (command : Command) (settings : Settings) (r0 r1 t0 t1 : Option (List ℕ)) (end : End)
    → CommandEnds command settings r0 r1 t0 t1 end → Says (Ok (command, settings)) end
command_says Encode settings r0 r1 t0 t1 end ends = said Encode settings end (ends_said (encoding settings) _ (encoding_stops settings) (λ xs. inl refl) settings.max r0 r1 _ end end.status refl ends)
command_says Decode settings r0 r1 t0 t1 end ends = said Decode settings end (ends_said (decoding settings) _ (decoding_stops settings) (λ xs. inl refl) settings.max r0 r1 _ end end.status refl ends)
command_says Audit settings r0 r1 t0 t1 end ends = said Audit settings end (ends_said (auditing settings) _ (auditing_stops settings) (auditing_done settings) settings.max r0 r1 _ end end.status refl ends)
command_says Gen settings r0 r1 t0 t1 end ends = said Gen settings end (series_said (generating settings) _ settings.slots (λ k few. few) _ end end.status refl ends)
command_says Trial settings r0 r1 t0 t1 end ends = said Trial settings end (series_said (trying settings) _ settings.slots (λ k few. at_most_once k settings.slots few) _ end end.status refl ends)
