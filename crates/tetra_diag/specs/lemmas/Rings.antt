-- Facts on rings.
use Rattle.std.proofs.Common.{ℕ, zero, suc, ◌+◌, ◌-◌, ◌*◌, ◌%◌, ◌<◌, ◌≤◌, ◌≡◌, inl, inr, List, [], ◌∷◌, ◌++◌, length, map, take, drop, set, get_or, nat_lt, true, false, arith, ap, sym, ◌∙◌, length-drop, length-append, append_assoc, length-set, append-nil, refl}
use Rattle.std.specs.Prelude.{All}
use Rattle.std.proofs.lemmas.Bool.{lt-ltb, le-ltb, cases_lt}
use Rattle.std.proofs.lemmas.List.{get_or-drop, get_or-take, get_or-append_right, get_or_append_left, drop-drop, drop-append-le, drop-set-lt, take_more_set, take_all, drop_all, length_push, length-take-le, map_push, get_or-map, drop-map, take-map, map-append, length-map, map-set}
use Rattle.std.proofs.lemmas.List.Elements.{All-push, All-set}
use Rattle.std.proofs.lemmas.Nat.{mod-mul-add}
use Rattle.tetra_diag.specs.Diagonal.{last}
use Rattle.tetra_diag.specs.lemmas.Kept.{last_room, last_full}
use Rattle.tetra_diag.specs.Ring.{turned, IsRing, Puts, place}

mod_less : (m n : ℕ) → m < n → m % n ≡ m
mod_less m n h =
    let e : 0 * n + m ≡ m = omega arith in
    ap (λ k. k % n) (sym e) ∙ mod-mul-add 0 n m h

mod_all : (m n : ℕ) → (m ≡ n) × (0 < n) → m % n ≡ 0
mod_all m n h =
    let e : 1 * n + 0 ≡ m = omega (arith, h.0) in
    ap (λ k. k % n) (sym e) ∙ mod-mul-add 1 n 0 h.1

module _ {X : Type 0} where
  pub length-turned : (o : ℕ) (xs : List X) → o ≤ length xs → length (turned o xs) ≡ length xs
  length-turned o xs h = omega (arith, length-append (drop o xs) (take o xs), length-drop o xs, length-take-le o xs h)

  pub turned_at : (o i : ℕ) (xs : List X) (d : X) → o ≤ length xs → i < length xs → get_or (turned o xs) i d ≡ get_or xs (place o i (length xs)) d
  turned_at o i xs d h l =
      let ld : length (drop o xs) ≡ length xs - o = length-drop o xs in
      elim (cases_lt (o + i) (length xs)) [
        | inl lt ↦
            let t : nat_lt (o + i) (length xs) ≡ true = lt-ltb _ _ lt in
            rw t (get_or_append_left (drop o xs) (take o xs) d i (omega arith) ∙ get_or-drop o xs i d)
        | inr ge ↦
            let t : nat_lt (o + i) (length xs) ≡ false = le-ltb _ _ ge in
            let e : i - (length xs - o) ≡ o + i - length xs = omega arith in
            rw t (get_or-append_right (drop o xs) (take o xs) (length xs - o) i d ld (omega arith) ∙ ap (λ j. get_or (take o xs) j d) e ∙ get_or-take o xs (o + i - length xs) d (omega arith))
      ]

  pub turned_read : (o i p : ℕ) (xs : List X) (x : X) → o ≤ length xs → i < length xs → p ≡ place o i (length xs) → x ≡ get_or xs p x → x ≡ get_or (turned o xs) i x
  turned_read o i p xs x h l e r = r ∙ ap (λ j. get_or xs j x) e ∙ sym (turned_at o i xs x h l)

  -- a full ring, one entry on
  turned_full : (n o next : ℕ) (old : List X) (b : X) → o < n → length old ≡ n → next ≡ (o + 1) % n → turned next (set old o b) ≡ drop 1 (turned o old) ++ b ∷ []
  turned_full n o next old b low full e =
      let head : take (o + 1) (set old o b) ≡ take o old ++ b ∷ [] = take_more_set old o b (omega arith) in
      let right : drop 1 (turned o old) ++ b ∷ [] ≡ drop (o + 1) old ++ (take o old ++ b ∷ []) =
      ap (λ zs. zs ++ b ∷ []) (drop-append-le 1 (drop o old) (take o old) (omega (arith, length-drop o old)) ∙ ap (λ zs. zs ++ take o old) (drop-drop 1 o old)) ∙ append_assoc (drop (o + 1) old) (take o old) (b ∷ []) in
      elim (cases_lt (o + 1) n) [
        | inl lt ↦
            let z : next ≡ o + 1 = e ∙ mod_less (o + 1) n lt in
            rw (z, drop-set-lt (o + 1) old o b (omega arith), head) (sym right)
        | inr ge ↦
            let z : next ≡ 0 = e ∙ mod_all (o + 1) n (omega arith, omega arith) in
            let none : drop (o + 1) old ≡ [] = drop_all (o + 1) old (omega arith) in
            let all : take (o + 1) (set old o b) ≡ set old o b = take_all (o + 1) (set old o b) (omega (arith, length-set old o b)) in
            rw (z, right, none, ← head, all) (append-nil (set old o b))
      ]

  pub turned_put : (n o next : ℕ) (pushed old new : List X) (b : X) → IsRing n o old → Puts n o old b next new → turned o old ≡ last n pushed → turned next new ≡ last n (pushed ++ b ∷ [])
  turned_put n o next pushed old new b w (inl p) e =
      let z : o ≡ 0 = w.straight p.0 in
      let y : next ≡ 0 = p.2 ∙ z in
      let k : old ≡ last n pushed = sym (append-nil old) ∙ ap (λ i. turned i old) (sym z) ∙ e in
      rw (y, p.1) (append-nil (old ++ b ∷ []) ∙ last_room n pushed old b k p.0)
  turned_put n o next pushed old new b w (inr p) e =
      let full : length old ≡ n = omega (arith, p.0, w.few) in
      let long : length (turned o old) ≡ n = length-turned o old (omega (arith, w.low)) ∙ full in
      rw p.1 (turned_full n o next old b w.low full p.2 ∙ last_full n pushed (turned o old) b (omega (arith, w.low)) e long)

  pub ring_put : (n o next : ℕ) (old new : List X) (b : X) → IsRing n o old → Puts n o old b next new → IsRing n next new
  ring_put n o next old new b w (inl p) =
      let l : length new ≡ length old + 1 = ap length p.1 ∙ length_push old b in
      record { low = omega (arith, p.2, w.low); few = omega (arith, p.0); straight = λ h. p.2 ∙ w.straight p.0 }
  ring_put n o next old new b w (inr p) =
      let l : length new ≡ length old = ap length p.1 ∙ length-set old o b in
      record { low = omega (arith, p.2, w.low); few = omega (arith, w.few); straight = λ h. absurd (omega (arith, p.0)) }

  -- one more entry behind the others
  pub put_behind : (n o next : ℕ) (old new : List X) (b : X) → length old < n → new ≡ old ++ b ∷ [] → next ≡ o → Puts n o old b next new
  put_behind n o next old new b room e same = inl (room, e, same)

  -- one more entry in place of the oldest
  pub put_over : (n o next : ℕ) (old new : List X) (b : X) → n ≤ length old → new ≡ set old o b → next ≡ (o + 1) % n → Puts n o old b next new
  put_over n o next old new b full e step = inr (full, e, step)

  -- where a ring has the first m places of a list, one more entry behind the others is written at place m
  pub front_behind : (n o next m : ℕ) (places : List X) (b : X) → m < n → m < length places → next ≡ o
      → Puts n o (take m places) b next (take (m + 1) (set places m b))
  front_behind n o next m places b room within same =
      put_behind n o next (take m places) (take (m + 1) (set places m b)) b (omega (arith, length-take-le m places (omega arith))) (take_more_set places m b within) same

  take_of_set : (m o : ℕ) (places : List X) (b : X) → take m (set places o b) ≡ set (take m places) o b
  take_of_set zero o places b = refl
  take_of_set (suc m) o [] b = refl
  take_of_set (suc m) zero (x ∷ places) b = refl
  take_of_set (suc m) (suc o) (x ∷ places) b = ap (λ xs. x ∷ xs) (take_of_set m o places b)

  -- and one in place of the oldest is written at its place
  pub front_over : (n o next m : ℕ) (places : List X) (b : X) → n ≤ m → m ≤ length places → next ≡ (o + 1) % n
      → Puts n o (take m places) b next (take m (set places o b))
  front_over n o next m places b full within step =
      put_over n o next (take m places) (take m (set places o b)) b (omega (arith, length-take-le m places within)) (take_of_set m o places b) step

  pub ring_low : (n o : ℕ) (xs : List X) → IsRing n o xs → o ≤ length xs
  ring_low n o xs w = elim (cases_lt (length xs) n) [ inl lt ↦ omega (arith, w.straight lt) | inr ge ↦ omega (arith, w.low) ]

module _ {X : Type 0} (P : X → Type 0) where
  pub all_put : (n o next : ℕ) (old new : List X) (b : X) → Puts n o old b next new → All P old → P b → All P new
  all_put n o next old new b (inl p) a h = rw p.1 (All-push P old b a h)
  all_put n o next old new b (inr p) a h = rw p.1 (All-set P old o b h a)

-- a ring, its entries read by f
module _ {X Y : Type 0} (f : X → Y) where
  pub map_turned : (o : ℕ) (xs : List X) → map f (turned o xs) ≡ turned o (map f xs)
  map_turned o xs = map-append f (drop o xs) (take o xs) ∙ (λ i. sym (drop-map f o xs) i ++ sym (take-map f o xs) i)

  pub ring_map : (n o : ℕ) (xs : List X) → IsRing n o xs → IsRing n o (map f xs)
  ring_map n o xs w =
      let l : length (map f xs) ≡ length xs = length-map xs f in
      record { low = w.low; few = omega (arith, w.few); straight = λ h. w.straight (omega arith) }

  pub put_map : (n o next : ℕ) (old new : List X) (b : X) → Puts n o old b next new → Puts n o (map f old) (f b) next (map f new)
  put_map n o next old new b (inl p) = inl (omega (arith, length-map old f, p.0), ap (map f) p.1 ∙ map_push f old b, p.2)
  put_map n o next old new b (inr p) = inr (omega (arith, length-map old f, p.0), ap (map f) p.1 ∙ map-set f old o b, p.2)

  -- entry i from the oldest on, where the entry x at its place was read
  pub turned_map_read : (o i p : ℕ) (xs : List X) (x : X) → o ≤ length xs → i < length xs → p ≡ place o i (length xs)
      → x ≡ get_or xs p x → p < length xs → f x ≡ get_or (turned o (map f xs)) i (f x)
  turned_map_read o i p xs x low within e read there =
      let l : length (map f xs) ≡ length xs = length-map xs f in
      turned_read o i p (map f xs) (f x) (omega arith) (omega arith) (e ∙ ap (place o i) (sym l)) (ap f read ∙ sym (get_or-map f xs p x (f x) there))
