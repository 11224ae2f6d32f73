-- The least of the values of a function.
use Rattle.std.proofs.Common.{◌≡◌, ℕ, ◌+◌, ◌-◌, ◌*◌, ◌/◌, ◌%◌, ◌<◌, ◌≤◌, ◌⊎◌, inl, inr, min, arith, refl, ap, sym, ◌∙◌}
use Rattle.std.proofs.lemmas.Bool.{cases_lt}
use Rattle.tetra_rm.specs.Search.{IsLeastBelow}

-- one value
pub least_of_one : (f : ℕ → ℕ) (x : ℕ) → x ≡ f 0 → IsLeastBelow f 1 x
least_of_one f x e = record {
  least = λ k h. let first : k ≡ 0 = omega arith in let same : f k ≡ f 0 = ap f first in omega arith;
  place = 0;
  there = omega arith;
  reached = e;
}

-- the same values, of another function, with a number added
pub least_moved : (f g : ℕ → ℕ) (n c x y : ℕ) → ((k : ℕ) → k < n → f k ≡ g k + c) → y ≡ x + c → IsLeastBelow g n x → IsLeastBelow f n y
least_moved f g n c x y same e l = record {
  least = λ k h. let most : x ≤ g k = l.least k h in let here : f k ≡ g k + c = same k h in omega arith;
  place = l.place;
  there = l.there;
  reached = let here : f l.place ≡ g l.place + c = same l.place l.there in let at : x ≡ g l.place = l.reached in omega arith;
}

min_either : (x y : ℕ) → (min x y ≡ x) ⊎ (min x y ≡ y)
min_either x y = elim (cases_lt x y) [ inl less ↦ inl (omega arith) | inr more ↦ inr (omega arith) ]

-- more values behind the others
pub least_joined : (f g : ℕ → ℕ) (n m x y z : ℕ) → ((k : ℕ) → k < m → f (n + k) ≡ g k) → z ≡ min x y → IsLeastBelow f n x → IsLeastBelow g m y → IsLeastBelow f (n + m) z
least_joined f g n m x y z same e a b =
    let behind : IsLeastBelow g m y = b in
    let least_here : (k : ℕ) → k < n + m → z ≤ f k =
    λ k h. elim (cases_lt k n) [
      | inl lower ↦ let most : x ≤ f k = a.least k lower in omega arith
      | inr upper ↦
          let place : n + (k - n) ≡ k = omega arith in
          let most : y ≤ g (k - n) = behind.least (k - n) (omega arith) in
          let here : f (n + (k - n)) ≡ g (k - n) = same (k - n) (omega arith) in
          let at : f (n + (k - n)) ≡ f k = ap f place in
          omega arith
    ] in
    elim (min_either x y) [
      | inl first ↦ record {
        least = least_here;
        place = a.place;
        there = let l : a.place < n = a.there in omega arith;
        reached = e ∙ first ∙ a.reached;
      }
      | inr second ↦ record {
        least = least_here;
        place = n + behind.place;
        there = let l : behind.place < m = behind.there in omega arith;
        reached = e ∙ second ∙ behind.reached ∙ sym (same behind.place behind.there);
      }
    ]

-- one value more
pub least_more : (f : ℕ → ℕ) (n x y z : ℕ) → y ≡ f n → z ≡ min x y → IsLeastBelow f n x → IsLeastBelow f (n + 1) z
least_more f n x y z here e l =
    least_joined f (λ k. f (n + k)) n 1 x y z (λ k h. refl) e l (least_of_one (λ k. f (n + k)) y (let place : n + 0 ≡ n = omega arith in here ∙ ap f (sym place)))

-- the values by eights: the least of each lane, and the least of the lanes
pub least_by_lanes : (f : ℕ → ℕ) (g : ℕ → ℕ → ℕ) (n : ℕ) (x c : ℕ → ℕ) (y : ℕ)
    → ((u j : ℕ) → u < n → j < 8 → f (u * 8 + j) ≡ g j u + c j)
    → ((j : ℕ) → j < 8 → IsLeastBelow (g j) n (x j)) → IsLeastBelow (λ j. x j + c j) 8 y → IsLeastBelow f (n * 8) y
least_by_lanes f g n x c y same lanes l =
    let lane : IsLeastBelow (g l.place) n (x l.place) = lanes l.place l.there in
    record {
      least = λ k h.
          let place : k / 8 * 8 + k % 8 ≡ k = omega arith in
          let own : IsLeastBelow (g (k % 8)) n (x (k % 8)) = lanes (k % 8) (omega arith) in
          let most : x (k % 8) ≤ g (k % 8) (k / 8) = own.least (k / 8) (omega arith) in
          let all : y ≤ x (k % 8) + c (k % 8) = l.least (k % 8) (omega arith) in
          let here : f (k / 8 * 8 + k % 8) ≡ g (k % 8) (k / 8) + c (k % 8) = same (k / 8) (k % 8) (omega arith) (omega arith) in
          let at : f (k / 8 * 8 + k % 8) ≡ f k = ap f place in
          omega arith;
      place = lane.place * 8 + l.place;
      there = let a : lane.place < n = lane.there in let b : l.place < 8 = l.there in omega arith;
      reached =
          let here : f (lane.place * 8 + l.place) ≡ g l.place lane.place + c l.place = same lane.place l.place lane.there l.there in
          let a : x l.place ≡ g l.place lane.place = lane.reached in
          let b : y ≡ x l.place + c l.place = l.reached in
          omega arith;
    }

-- more values behind the others, none of which is less
pub least_kept : (f : ℕ → ℕ) (n m x : ℕ) → ((k : ℕ) → k < m → x ≤ f (n + k)) → IsLeastBelow f n x → IsLeastBelow f (n + m) x
least_kept f n m x more l = record {
  least = λ k h. elim (cases_lt k n) [
    | inl lower ↦ l.least k lower
    | inr upper ↦
        let place : n + (k - n) ≡ k = omega arith in
        let most : x ≤ f (n + (k - n)) = more (k - n) (omega arith) in
        let at : f (n + (k - n)) ≡ f k = ap f place in
        omega arith
  ];
  place = l.place;
  there = let a : l.place < n = l.there in omega arith;
  reached = l.reached;
}

-- the same values, of another function
pub least_of_same : (f g : ℕ → ℕ) (n x : ℕ) → ((k : ℕ) → k < n → f k ≡ g k) → IsLeastBelow g n x → IsLeastBelow f n x
least_of_same f g n x same l = least_moved f g n 0 x x (λ k h. let here : f k ≡ g k = same k h in omega arith) (omega arith) l

-- the values in turn from a place on, and those before it behind them
pub least_turned : (f : ℕ → ℕ) (start x : ℕ) → start ≤ 16384 → IsLeastBelow (λ k. f ((start + k) % 16384)) 16384 x → IsLeastBelow f 16384 x
least_turned f start x h l = record {
  least = λ k low.
      let most : x ≤ f ((start + (k + (16384 - start)) % 16384) % 16384) = l.least ((k + (16384 - start)) % 16384) (omega arith) in
      let place : (start + (k + (16384 - start)) % 16384) % 16384 ≡ k = omega arith in
      let at : f ((start + (k + (16384 - start)) % 16384) % 16384) ≡ f k = ap f place in
      omega arith;
  place = (start + l.place) % 16384;
  there = omega arith;
  reached = l.reached;
}
