-- The test whether what is kept of a timeslot is a ring.
use Rattle.std.proofs.Common.{ℕ, ◌<◌, ◌≤◌, ◌≡◌, inl, inr, arith, nat_eq, List, length, take, ap}
use Rattle.std.specs.Prelude.{IsTrue}
use Rattle.std.proofs.lemmas.Bool.{or_cases, and_parts, ltb-true, eqb-true, or_left, or_right, and_from, lt-ltb, eq-eqb, cases_lt}
use Rattle.std.proofs.lemmas.List.{take_all, length-take-le}
use Rattle.tetra_c.specs.Rings.{is_ring}

-- what it says
pub record IsKeptRing (n count oldest : ℕ) : Type 0 where
  pub low : oldest < n
  pub few : count ≤ n
  pub straight : count < n → oldest ≡ 0

pub ring_says : (n count oldest : ℕ) → 1 ≤ n → IsTrue (is_ring n count oldest) → IsKeptRing n count oldest
ring_says n count oldest some h =
    elim (or_cases _ _ h) [
      | inl none ↦
          let z : n ≡ 0 = eqb-true n 0 none in
          absurd (omega (arith, some, z))
      | inr rest ↦
          let parts = and_parts _ _ rest in
          let low : oldest < n = ltb-true oldest n parts.0 in
          elim (or_cases _ _ parts.1) [
            | inl full ↦
                let e : count ≡ n = eqb-true count n full in
                record { low = low; few = omega (arith, e); straight = λ l. absurd (omega (arith, e, l)) }
            | inr few ↦
                let both = and_parts _ _ few in
                let lt : count < n = ltb-true count n both.0 in
                record { low = low; few = omega (arith, lt); straight = λ l. eqb-true oldest 0 both.1 }
          ]
    ]

pub ring_holds : (n count oldest : ℕ) → IsKeptRing n count oldest → IsTrue (is_ring n count oldest)
ring_holds n count oldest ring =
    or_right (nat_eq n 0) _
    (and_from _ _ (lt-ltb oldest n ring.low)
    (elim (cases_lt count n) [
      | inl lt ↦ or_right _ _ (and_from _ _ (lt-ltb count n lt) (eq-eqb oldest 0 (ring.straight lt)))
      | inr ge ↦ or_left _ _ (eq-eqb count n (omega (arith, ge, ring.few)))
    ]))

-- of a list no more than the first m are taken
pub taken_few : {X : Type 0} (m : ℕ) (xs : List X) → length (take m xs) ≤ m
taken_few m xs = elim (cases_lt (length xs) m) [
  | inl few ↦ omega (arith, ap length (take_all m xs (omega arith)))
  | inr all ↦ omega (arith, length-take-le m xs all)
]
