-- Bytes that a source may tell: what went of them, and what they are.
use Rattle.std.proofs.Common.{ℕ, List, [], ◌++◌, None, Some, refl, sym, ap, ◌∙◌, append_assoc, append-nil}
use Rattle.std.specs.declared.option.Option.{Option}
use Rattle.std.specs.Io.KnownBytes.{Consumes, IsAtEnd}
use Rattle.tetra_io.specs.Streams.{KeepsOrHides}
use Rattle.tetra_io.specs.Filling.{AreTold, Went}

pub Went-kept : (a b c : Option (List ℕ)) (bs : List ℕ) → Consumes a b bs → KeepsOrHides b c → Went a c bs
Went-kept None b c bs p q = tt
Went-kept (Some x) None c bs p q = absurd p
Went-kept (Some x) (Some y) None bs p q = (y, p)
Went-kept (Some x) (Some y) (Some z) bs p q = p ∙ ap (λ l. bs ++ l) (sym q)

pub Went-behind : (a b c : Option (List ℕ)) (bs cs : List ℕ) → Consumes a b bs → Went b c cs → Went a c (bs ++ cs)
Went-behind None b c bs cs p q = tt
Went-behind (Some x) None c bs cs p q = absurd p
Went-behind (Some x) (Some y) None bs cs p (rest, is) = (rest, p ∙ ap (λ l. bs ++ l) is ∙ sym (append_assoc bs cs rest))
Went-behind (Some x) (Some y) (Some z) bs cs p q = p ∙ ap (λ l. bs ++ l) q ∙ sym (append_assoc bs cs z)

pub AreTold-some : (a : Option (List ℕ)) → (bytes : List ℕ) × AreTold a bytes
AreTold-some None = ([], tt)
AreTold-some (Some x) = (x, refl)

pub AreTold-end : (a : Option (List ℕ)) → IsAtEnd a → AreTold a []
AreTold-end None e = tt
AreTold-end (Some x) e = e

pub AreTold-behind : (a b : Option (List ℕ)) (bs rest : List ℕ)
    → Consumes a b bs → AreTold b rest → AreTold a (bs ++ rest)
AreTold-behind None b bs rest p q = tt
AreTold-behind (Some x) None bs rest p q = absurd p
AreTold-behind (Some x) (Some y) bs rest p q = p ∙ ap (λ l. bs ++ l) q

pub AreTold-all : (a b : Option (List ℕ)) (bs : List ℕ) → Consumes a b bs → IsAtEnd b → AreTold a bs
AreTold-all None b bs p e = tt
AreTold-all (Some x) None bs p e = absurd p
AreTold-all (Some x) (Some y) bs p e = p ∙ ap (λ l. bs ++ l) e ∙ append-nil bs

pub AreTold-went : (a b : Option (List ℕ)) (bs : List ℕ) → Went a b bs → (rest : List ℕ) × AreTold a (bs ++ rest)
AreTold-went None b bs q = ([], tt)
AreTold-went (Some x) None bs q = q
AreTold-went (Some x) (Some y) bs q = (y, q)
