-- There is one end, over any shape that is unambiguous and decided.
use Rattle.std.proofs.Common.{◌≡◌, ℕ, ◌==◌, List, [], ◌∷◌, length, ap, sym, ◌∙◌, subst, Bool, true, false, MatchBool}
use Rattle.tetra_settings.specs.declared.types.Settings.{Settings}
use Rattle.tetra_engine.specs.declared.status.End.{End}
use Rattle.tetra_engine.specs.declared.status.Status.{Status}
use Rattle.tetra_engine.specs.declared.status.Status.TheVariants.{Done, Refused, Words, TooLong, Input, Read, Write}
use Rattle.tetra_engine.specs.Shapes.{Shape, IsUnambiguous, IsDecided, outputs}
use Rattle.tetra_engine.specs.Outcomes.{Closes, OneEnd}
use Rattle.tetra_records.specs.Records.{why as record_why}
use Rattle.tetra_engine.specs.Encoding.{encoding, EncodingStops}
use Rattle.tetra_engine.proofs.Cuts.{one_cut}

one_or_other : (full : Bool) (P Q : Type 0) (s t : Status) (A B : Type 0) → MatchBool full A P → MatchBool full B Q → (A → B → s ≡ t) → (P → Q → s ≡ t) → s ≡ t
one_or_other true P Q s t A B x y long stop = long x y
one_or_other false P Q s t A B x y long stop = stop x y

-- the status behind one cut
one_status : {X : Type 0} (shape : Shape X) → IsDecided shape → (max : ℕ) (xs : List X) (rest : List ℕ) (s t : Status) → Closes shape max xs rest s → Closes shape max xs rest t → s ≡ t
one_status shape decided max xs [] s t a b = a ∙ sym b
one_status shape decided max xs (c ∷ rest) s t a b =
    one_or_other (length xs == max) _ _ s t _ _ a b (λ x y. x ∙ sym y) (decided xs (c ∷ rest) s t)

same_end : (end other : End) → end.status ≡ other.status → end.slots ≡ other.slots → end ≡ other
same_end end other s n =
    let made : Status → ℕ → End = λ status slots. record { status = status; slots = slots } in
    ap (λ status. made status end.slots) s ∙ ap (made other.status) n

pub one_end : {X : Type 0} (shape : Shape X) → IsUnambiguous shape → IsDecided shape → OneEnd shape
one_end {X} shape one decided max bytes end other written others a b =
    let cut = one_cut shape one max bytes a.xs b.xs a.rest b.rest a.cut b.cut in
    let there = subst (λ xs. Closes shape max xs b.rest other.status) (sym cut.0) b.closes in
    let here = subst (λ rest. Closes shape max a.xs rest end.status) cut.1 a.closes in
    let same = same_end end other (one_status shape decided max a.xs b.rest end.status other.status here there) (a.slots ∙ ap (λ xs. length xs) cut.0 ∙ sym b.slots) in
    (same, sym a.output ∙ ap (outputs shape []) cut.0 ∙ b.output)

-- the one way in which encoding stops
pub one_way : (settings : Settings) (n : ℕ) (bytes : List ℕ) (status : Status) → EncodingStops settings n bytes status → status ≡ Input n (record_why settings n bytes)
one_way settings n bytes Done stops = absurd stops
one_way settings n bytes (Refused s c) stops = absurd stops
one_way settings n bytes (Words i w) stops = absurd stops
one_way settings n bytes (Input slot why) stops = ap (λ m. Input m why) stops.0 ∙ ap (Input n) (sym stops.2)
one_way settings n bytes Read stops = absurd stops
one_way settings n bytes Write stops = absurd stops
one_way settings n bytes TooLong stops = absurd stops

pub encoding_decided : (settings : Settings) → IsDecided (encoding settings)
encoding_decided settings before bytes s t a b = one_way settings (length before) bytes s a ∙ sym (one_way settings (length before) bytes t b)
