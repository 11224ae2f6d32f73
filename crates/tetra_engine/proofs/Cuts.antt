-- There is one cut, over any shape that is unambiguous.
use Rattle.std.proofs.Common.{◌≡◌, ℕ, ◌<◌, ◌≤◌, List, [], ◌∷◌, ◌++◌, length, refl, ap, sym, ◌∙◌, arith, append_assoc, append-nil, subst, ◌-◌}
use Rattle.tetra_engine.specs.Shapes.{Shape, AreInputs, spellings, NoInput, IsUnambiguous, OneCut}

-- what follows one front is the same
pub behind : (a u v : List ℕ) → a ++ u ≡ a ++ v → u ≡ v
behind [] u v e = e
behind (x ∷ a) u v e = behind a u v (cc e)

-- two cuts behind the same inputs
same_from : {X : Type 0} (shape : Shape X) → IsUnambiguous shape → (before : List X) (most : ℕ) (xs ys : List X) (u v : List ℕ)
    → spellings shape xs ++ u ≡ spellings shape ys ++ v → AreInputs shape before xs → AreInputs shape before ys
    → length xs ≤ most → length ys ≤ most
    → (length xs < most → NoInput shape (before ++ xs) u) → (length ys < most → NoInput shape (before ++ ys) v) → (xs ≡ ys) × (u ≡ v)
same_from shape one before most [] [] u v e fx fy lx ly nx ny = (refl, e)
same_from shape one before most [] (y ∷ ys) u v e fx fy lx ly nx ny =
    absurd (nx (omega arith) y (spellings shape ys ++ v) (subst (λ k. shape.Fits k y) (sym (append-nil before)) fy.0) (e ∙ append_assoc (shape.spelling y) (spellings shape ys) v))
same_from shape one before most (x ∷ xs) [] u v e fx fy lx ly nx ny =
    absurd (ny (omega arith) x (spellings shape xs ++ u) (subst (λ k. shape.Fits k x) (sym (append-nil before)) fx.0) (sym e ∙ append_assoc (shape.spelling x) (spellings shape xs) u))
same_from shape one before most (x ∷ xs) (y ∷ ys) u v e fx fy lx ly nx ny =
    let split : shape.spelling x ++ (spellings shape xs ++ u) ≡ shape.spelling y ++ (spellings shape ys ++ v) =
    sym (append_assoc (shape.spelling x) (spellings shape xs) u) ∙ e ∙ append_assoc (shape.spelling y) (spellings shape ys) v in
    let head : x ≡ y = one before x y _ _ fx.0 fy.0 split in
    let rest = behind (shape.spelling y) _ _ (ap (λ z. shape.spelling z ++ (spellings shape xs ++ u)) (sym head) ∙ split) in
    let fy' = subst (λ z. AreInputs shape (before ++ z ∷ []) ys) (sym head) fy.1 in
    let ny' : length ys < most - 1 → NoInput shape ((before ++ x ∷ []) ++ ys) v =
    λ l. subst (λ k. NoInput shape k v) (ap (λ z. before ++ z ∷ ys) (sym head) ∙ sym (append_assoc before (x ∷ []) ys)) (ny (omega arith)) in
    let nx' : length xs < most - 1 → NoInput shape ((before ++ x ∷ []) ++ xs) u =
    λ l. subst (λ k. NoInput shape k u) (sym (append_assoc before (x ∷ []) xs)) (nx (omega arith)) in
    let more = same_from shape one (before ++ x ∷ []) (most - 1) xs ys u v rest fx.1 fy' (omega arith) (omega arith) nx' ny' in
    (ap (λ z. z ∷ xs) head ∙ ap (λ zs. y ∷ zs) more.0, more.1)

pub one_cut : {X : Type 0} (shape : Shape X) → IsUnambiguous shape → OneCut shape
one_cut shape one max bytes xs ys u v a b =
    same_from shape one [] max xs ys u v (sym a.whole ∙ b.whole) a.each b.each a.few b.few a.longest b.longest

-- lists of one length that begin the same list are the same
pub same_front : {X : Type 0} (n : ℕ) (a b u v : List X) → length a ≡ n → length b ≡ n → a ++ u ≡ b ++ v → a ≡ b
same_front n [] [] u v la lb e = refl
same_front n [] (y ∷ b) u v la lb e = absurd (omega arith)
same_front n (x ∷ a) [] u v la lb e = absurd (omega arith)
same_front n (x ∷ a) (y ∷ b) u v la lb e =
    let rest : a ++ u ≡ b ++ v = cc e in
    let same : a ≡ b = same_front (length a) a b u v refl (omega arith) rest in
    let head : x ≡ y = cc e in
    cc (same, head)
