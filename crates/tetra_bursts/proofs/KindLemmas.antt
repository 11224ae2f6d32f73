-- The kind of a slot is the only one, and that of an undamaged burst the one that was written.
use Prim.Native.Nat.{zero, suc}
use Rattle.std.proofs.Common.{◌≡◌, ℕ, ◌+◌, ◌<◌, ◌≤◌, ◌≢◌, Bool, true, false, not, nat_lt, if◌then◌else◌, ℤ, pos, negsuc, List, length, take, drop, arith, refl, ◌∙◌, inl, inr}
use Rattle.std.proofs.lemmas.Bool.{cases_lt, lt-ltb, le-ltb}
use Rattle.std.proofs.lemmas.List.{get_or-take, get_or-drop, length-take-le, length-drop}
use Rattle.tetra_bits.specs.Cost.{cost, cost_at, metric}
use Rattle.tetra_bits.specs.Order.{bit_at}
use Rattle.tetra_bits.specs.Soft.{value_at}
use Rattle.tetra_bits.specs.Sums.{sum_below}
use Rattle.tetra_bits.specs.lemmas.Written.{written_free}
use Rattle.tetra_bits.specs.Undamaged.{HasSign}
use Rattle.tetra_bursts.specs.Table.{normal_down, sync_down, normal_up}
use Rattle.tetra_bursts.specs.Slot.{Carried, text, text_bits, read}
use Rattle.tetra_bursts.specs.Kind.{burst_with, sequence_cost, scaled, place, allows, IsKind, cheaper, cheapest, kind, OnlyKind}
use Rattle.tetra_bursts.specs.Arrives.{KeepsBy, StandsIn, OneCostsNothing, KindArrives}
use Rattle.tetra_bursts.specs.declared.kinds.Allowed.{Allowed}
use Rattle.tetra_bursts.specs.declared.table.Part.TheVariants.{Training}
use Rattle.tetra_bursts.specs.declared.table.Train.{Train}
use Rattle.tetra_bursts.specs.declared.table.Train.TheVariants.{N, P, Y}
use Rattle.tetra_bursts.proofs.Arriving.{sent_bits, part_arrives}
use Rattle.tetra_bursts.proofs.FieldLemmas.{whole}
use Rattle.tetra_bursts.proofs.TrainingLemmas.{n_down, p_down, y_down, n_up, p_up}

-- of two kinds neither stands before the other
before_not : (soft : List ℤ) (dl : Bool) (allowed : Allowed) (a b : Train) → IsKind soft dl allowed a → IsKind soft dl allowed b
    → place a < place b → ⊥
before_not soft dl allowed a b ka kb before =
    let least = ka.least b kb.is_allowed in
    let first = kb.first a ka.is_allowed before in
    omega (arith, least, first)

pub only_kind : OnlyKind
only_kind soft dl allowed N N ka kb = refl
only_kind soft dl allowed P P ka kb = refl
only_kind soft dl allowed Y Y ka kb = refl
only_kind soft dl allowed N P ka kb = absurd (before_not soft dl allowed N P ka kb (omega arith))
only_kind soft dl allowed N Y ka kb = absurd (before_not soft dl allowed N Y ka kb (omega arith))
only_kind soft dl allowed P Y ka kb = absurd (before_not soft dl allowed P Y ka kb (omega arith))
only_kind soft dl allowed P N ka kb = absurd (before_not soft dl allowed N P kb ka (omega arith))
only_kind soft dl allowed Y N ka kb = absurd (before_not soft dl allowed N Y kb ka (omega arith))
only_kind soft dl allowed Y P ka kb = absurd (before_not soft dl allowed P Y kb ka (omega arith))

-- a value of the other sign costs something
other_bit_costs : (b : Bool) (v : ℤ) → HasSign (not b) v → 0 < cost v b
unfolding cost
other_bit_costs false (pos n) h = absurd h
other_bit_costs false (negsuc n) h = omega arith
other_bit_costs true (pos n) h = h
other_bit_costs true (negsuc n) h = absurd h

term_below : (n : ℕ) (f : ℕ → ℕ) (k : ℕ) → k < n → f k ≤ sum_below n f
unfolding sum_below
term_below zero f k h = absurd (omega arith)
term_below (suc n) f k h =
    elim (cases_lt k n) [
      | inl below ↦ let before = term_below n f k below in omega (arith, before)
      | inr above ↦ let same : k ≡ n = omega arith in rw same (omega arith)
    ]

one_costs : (bits : List Bool) (values : List ℤ) (k : ℕ) → k < length values → HasSign (not (bit_at bits k)) (value_at values k) → 0 < metric values bits
unfolding metric cost_at
one_costs bits values k inside h =
    let term = term_below (length values) (cost_at values bits) k inside in
    let some = other_bit_costs (bit_at bits k) (value_at values k) h in
    omega (arith, term, some)

-- a value of the other sign at one place of a part that stands in one span behind others
place_costs : (bits : List Bool) (values received : List ℤ) (before n k : ℕ) → values ≡ take n (drop before received)
    → before + n ≤ length received → k < n → HasSign (not (bit_at bits k)) (value_at received (before + k)) → 0 < metric values bits
place_costs bits values received before n k e fits h sign =
    let size : length (take n (drop before received)) ≡ n = length-take-le n (drop before received) (rw (length-drop before received) (omega arith)) in
    let value : value_at (take n (drop before received)) k ≡ value_at received (before + k) =
    get_or-take n (drop before received) k (pos 0) h ∙ get_or-drop before received k (pos 0) in
    rw e (one_costs bits (take n (drop before received)) k (omega arith) (rw value sign))

-- the written sequence costs nothing
own_free : (carried : Carried) (dl : Bool) (train : Train) (received : List ℤ) → KeepsBy carried (burst_with dl train) received
    → sequence_cost received dl train ≡ 0
unfolding sequence_cost sent_bits
own_free carried true N received h =
    written_free (text_bits (text (Training N))) (read (Training N) (normal_down N) received)
    (whole (text_bits (text (Training N))) (read (Training N) (normal_down N) received) 22 refl (part_arrives carried (Training N) (normal_down N) received refl h))
own_free carried true P received h =
    written_free (text_bits (text (Training P))) (read (Training P) (normal_down P) received)
    (whole (text_bits (text (Training P))) (read (Training P) (normal_down P) received) 22 refl (part_arrives carried (Training P) (normal_down P) received refl h))
own_free carried dl Y received h =
    written_free (text_bits (text (Training Y))) (read (Training Y) sync_down received)
    (whole (text_bits (text (Training Y))) (read (Training Y) sync_down received) 38 refl (part_arrives carried (Training Y) sync_down received refl h))
own_free carried false N received h =
    written_free (text_bits (text (Training N))) (read (Training N) (normal_up N) received)
    (whole (text_bits (text (Training N))) (read (Training N) (normal_up N) received) 22 refl (part_arrives carried (Training N) (normal_up N) received refl h))
own_free carried false P received h =
    written_free (text_bits (text (Training P))) (read (Training P) (normal_up P) received)
    (whole (text_bits (text (Training P))) (read (Training P) (normal_up P) received) 22 refl (part_arrives carried (Training P) (normal_up P) received refl h))

n_not_y : N ≢ Y
n_not_y h = cc

p_not_y : P ≢ Y
p_not_y h = cc

p_not_n : P ≢ N
p_not_n h = cc

y_not_n : Y ≢ N
y_not_n h = cc

y_not_p : Y ≢ P
y_not_p h = cc

-- each other one costs something: n1 and y31 stand at position 245, and p4 and y34 at position 248
others_cost : (carried : Carried) (dl : Bool) (train other : Train) (received : List ℤ) → StandsIn dl train → StandsIn dl other
    → KeepsBy carried (burst_with dl train) received → (train ≡ other → ⊥) → 0 < sequence_cost received dl other
unfolding sequence_cost
others_cost carried dl N N received t o h differ = absurd (differ refl)
others_cost carried dl P P received t o h differ = absurd (differ refl)
others_cost carried dl Y Y received t o h differ = absurd (differ refl)
others_cost carried true N P received t o h differ =
    let size : length received ≡ 510 = h.size in
    place_costs (text_bits (text (Training P))) (read (Training P) (normal_down P) received) received 244 22 0 (p_down received) (omega arith) (omega arith) (h.signs 245 (omega arith) (omega arith) refl)
others_cost carried true N Y received t o h differ =
    let size : length received ≡ 510 = h.size in
    place_costs (text_bits (text (Training Y))) (read (Training Y) sync_down received) received 214 38 30 (y_down received) (omega arith) (omega arith) (h.signs 245 (omega arith) (omega arith) refl)
others_cost carried true P N received t o h differ =
    let size : length received ≡ 510 = h.size in
    place_costs (text_bits (text (Training N))) (read (Training N) (normal_down N) received) received 244 22 0 (n_down received) (omega arith) (omega arith) (h.signs 245 (omega arith) (omega arith) refl)
others_cost carried true P Y received t o h differ =
    let size : length received ≡ 510 = h.size in
    place_costs (text_bits (text (Training Y))) (read (Training Y) sync_down received) received 214 38 33 (y_down received) (omega arith) (omega arith) (h.signs 248 (omega arith) (omega arith) refl)
others_cost carried true Y N received t o h differ =
    let size : length received ≡ 510 = h.size in
    place_costs (text_bits (text (Training N))) (read (Training N) (normal_down N) received) received 244 22 0 (n_down received) (omega arith) (omega arith) (h.signs 245 (omega arith) (omega arith) refl)
others_cost carried true Y P received t o h differ =
    let size : length received ≡ 510 = h.size in
    place_costs (text_bits (text (Training P))) (read (Training P) (normal_down P) received) received 244 22 3 (p_down received) (omega arith) (omega arith) (h.signs 248 (omega arith) (omega arith) refl)
others_cost carried false N P received t o h differ =
    let size : length received ≡ 510 = h.size in
    place_costs (text_bits (text (Training P))) (read (Training P) (normal_up P) received) received 254 22 0 (p_up received) (omega arith) (omega arith) (h.signs 255 (omega arith) (omega arith) refl)
others_cost carried false P N received t o h differ =
    let size : length received ≡ 510 = h.size in
    place_costs (text_bits (text (Training N))) (read (Training N) (normal_up N) received) received 254 22 0 (n_up received) (omega arith) (omega arith) (h.signs 255 (omega arith) (omega arith) refl)
others_cost carried false N Y received t o h differ = let e : false ≡ true = o refl in cc
others_cost carried false P Y received t o h differ = let e : false ≡ true = o refl in cc
others_cost carried false Y N received t o h differ = let e : false ≡ true = t refl in cc
others_cost carried false Y P received t o h differ = let e : false ≡ true = t refl in cc

one_costs_nothing : (carried : Carried) (dl : Bool) (train : Train) (received : List ℤ) → StandsIn dl train
    → KeepsBy carried (burst_with dl train) received → OneCostsNothing dl train received
one_costs_nothing carried dl train received t h = record {
  own = own_free carried dl train received h;
  others = λ other o differ. others_cost carried dl train other received t o h differ;
}

-- the function gives the kind
keeps_first : (soft : List ℤ) (dl : Bool) (a b : Train) → scaled soft dl a ≤ scaled soft dl b → cheaper soft dl a b ≡ a
keeps_first soft dl a b h = rw (le-ltb (scaled soft dl b) (scaled soft dl a) h) refl

takes_second : (soft : List ℤ) (dl : Bool) (a b : Train) → scaled soft dl b < scaled soft dl a → cheaper soft dl a b ≡ b
takes_second soft dl a b h = rw (lt-ltb (scaled soft dl b) (scaled soft dl a) h) refl

either_costs : (soft : List ℤ) (dl : Bool) (a b c : Train) (q : Bool) → scaled soft dl c < scaled soft dl a → scaled soft dl c < scaled soft dl b
    → scaled soft dl c < scaled soft dl (if q then b else a)
either_costs soft dl a b c true ha hb = hb
either_costs soft dl a b c false ha hb = ha

takes_third : (soft : List ℤ) (dl : Bool) (a b c : Train) → scaled soft dl c < scaled soft dl a → scaled soft dl c < scaled soft dl b
    → cheaper soft dl (cheaper soft dl a b) c ≡ c
takes_third soft dl a b c ha hb =
    takes_second soft dl (cheaper soft dl a b) c (either_costs soft dl a b c (nat_lt (scaled soft dl b) (scaled soft dl a)) ha hb)

given : Bool → Bool → Bool → Allowed
given n p y = record { n = n; p = p; y = y }

-- the cheapest one is the one that costs nothing, where each other allowed one costs something
free_is_cheapest : (soft : List ℤ) (dl n p y : Bool) (train : Train) → scaled soft dl train ≡ 0
    → ((other : Train) → allows (given n p y) other ≡ true → (train ≡ other → ⊥) → 0 < scaled soft dl other)
    → allows (given n p y) train ≡ true → cheapest soft dl n p y ≡ train
unfolding given
free_is_cheapest soft dl true true true N z others h =
    rw (keeps_first soft dl N P (omega arith)) (keeps_first soft dl N Y (omega arith))
free_is_cheapest soft dl true true false N z others h = keeps_first soft dl N P (omega arith)
free_is_cheapest soft dl true false true N z others h = keeps_first soft dl N Y (omega arith)
free_is_cheapest soft dl true false false N z others h = refl
free_is_cheapest soft dl false p y N z others h = cc
free_is_cheapest soft dl true true true P z others h =
    let first = others N refl p_not_n in
    rw (takes_second soft dl N P (omega arith)) (keeps_first soft dl P Y (omega arith))
free_is_cheapest soft dl true true false P z others h =
    let first = others N refl p_not_n in
    takes_second soft dl N P (omega arith)
free_is_cheapest soft dl false true true P z others h = keeps_first soft dl P Y (omega arith)
free_is_cheapest soft dl false true false P z others h = refl
free_is_cheapest soft dl true false y P z others h = cc
free_is_cheapest soft dl false false y P z others h = cc
free_is_cheapest soft dl true true true Y z others h =
    let first = others N refl y_not_n in
    let second = others P refl y_not_p in
    takes_third soft dl N P Y (omega arith) (omega arith)
free_is_cheapest soft dl true false true Y z others h =
    let first = others N refl y_not_n in
    takes_second soft dl N Y (omega arith)
free_is_cheapest soft dl false true true Y z others h =
    let second = others P refl y_not_p in
    takes_second soft dl P Y (omega arith)
free_is_cheapest soft dl false false true Y z others h = refl
free_is_cheapest soft dl true true false Y z others h = cc
free_is_cheapest soft dl true false false Y z others h = cc
free_is_cheapest soft dl false true false Y z others h = cc
free_is_cheapest soft dl false false false Y z others h = cc

scaled_free : (soft : List ℤ) (dl : Bool) (train : Train) → sequence_cost soft dl train ≡ 0 → scaled soft dl train ≡ 0
unfolding scaled
scaled_free soft dl N h = omega arith
scaled_free soft dl P h = omega arith
scaled_free soft dl Y h = omega arith

scaled_costs : (soft : List ℤ) (dl : Bool) (train : Train) → 0 < sequence_cost soft dl train → 0 < scaled soft dl train
unfolding scaled
scaled_costs soft dl N h = omega arith
scaled_costs soft dl P h = omega arith
scaled_costs soft dl Y h = omega arith

-- what is allowed may stand in the slot
allowed_stands : (allowed : Allowed) (dl : Bool) (train : Train) → (allowed.y ≡ true → dl ≡ true) → allows allowed train ≡ true → StandsIn dl train
allowed_stands allowed dl N down h = λ e. absurd (n_not_y e)
allowed_stands allowed dl P down h = λ e. absurd (p_not_y e)
allowed_stands allowed dl Y down h = λ e. down h

written_kind : (carried : Carried) (dl : Bool) (train : Train) (allowed : Allowed) (received : List ℤ) → KeepsBy carried (burst_with dl train) received
    → allows allowed train ≡ true → (allowed.y ≡ true → dl ≡ true) → kind received dl allowed ≡ train
unfolding kind given
written_kind carried dl train allowed received h is_allowed down =
    free_is_cheapest received dl allowed.n allowed.p allowed.y train (scaled_free received dl train (own_free carried dl train received h))
    (λ other may differ. scaled_costs received dl other
    (others_cost carried dl train other received (allowed_stands allowed dl train down is_allowed) (allowed_stands allowed dl other down may) h differ))
    is_allowed

pub kind_arrives : KindArrives
kind_arrives = record { costs = one_costs_nothing; kind = written_kind }
