-- The tables of the places of speech: computed at each of their entries.
use Rattle.std.proofs.Common.{ℕ, ◌+◌, ◌-◌, ◌<◌, ◌≤◌, ◌≡◌, Bool, true, get_or, arith, refl, ap, ◌∙◌}
use Rattle.std.proofs.lemmas.Bool.{agree_below, agree_below_at, eqb-true}
use Rattle.std.specs.Prelude.{nat_eq}
use Rattle.tetra_puncture.specs.Places.{speech_whole_place, speech_half_place}
use Rattle.tetra_puncture.specs.declared.speech.TheConstants.{WHOLE, HALF}

-- entry q, counted from 0, is the place of sent bit q + 1
is_whole : ℕ → Bool
is_whole q = nat_eq (get_or WHOLE q 0) (speech_whole_place (q + 1))

all_whole : agree_below is_whole (λ q. true) 330 ≡ true
unfolding is_whole
all_whole = refl

pub whole_at : (j : ℕ) → 1 ≤ j → j ≤ 330 → get_or WHOLE (j - 1) 0 ≡ speech_whole_place j
unfolding is_whole
whole_at j one le =
    let back : j - 1 + 1 ≡ j = omega arith in
    let here : j - 1 < 330 = omega arith in
    eqb-true _ _ (agree_below_at is_whole (λ q. true) 330 (j - 1) all_whole here) ∙ ap speech_whole_place back

is_half : ℕ → Bool
is_half q = nat_eq (get_or HALF q 0) (speech_half_place (q + 1))

all_half : agree_below is_half (λ q. true) 165 ≡ true
unfolding is_half
all_half = refl

pub half_at : (j : ℕ) → 1 ≤ j → j ≤ 165 → get_or HALF (j - 1) 0 ≡ speech_half_place j
unfolding is_half
half_at j one le =
    let back : j - 1 + 1 ≡ j = omega arith in
    let here : j - 1 < 165 = omega arith in
    eqb-true _ _ (agree_below_at is_half (λ q. true) 165 (j - 1) all_half here) ∙ ap speech_half_place back
