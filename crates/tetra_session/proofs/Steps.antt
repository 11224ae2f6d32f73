-- A slot that is heard in two steps.
use Rattle.std.proofs.Common.{◌≡◌, List, [], ◌∷◌, ◌++◌, Option, None, Some, length, map, take, arith, refl, sym, ap, ◌∙◌}
use Rattle.std.specs.Prelude.{MatchOption}
use Rattle.std.proofs.lemmas.List.{take_all, take-append-le, map-append}
use Rattle.tetra_settings.specs.Slots.{byte_of, letter_of_byte}
use Rattle.tetra_settings.specs.declared.slots.Letter.{Letter}
use Rattle.tetra_settings.specs.declared.slots.Letter.TheVariants.{F, H, S, T, P, Q, C}
use Rattle.tetra_session.specs.Spots.{with_load}
use Rattle.tetra_session.specs.declared.spots.Place.{Place}

-- the field of the load is put behind the fields in front of it
module _ {Y : Type 0} (f : Place → Y) (load : Option Place) (old new : List Y)
    (added : MatchOption load (new ≡ old) (λ place. new ≡ old ++ f place ∷ [])) where
  pub load_added : (places : List Place) → old ≡ map f places → new ≡ map f (with_load places load)
  load_added places e =
      elim load as (λ l. MatchOption l (new ≡ old) (λ place. new ≡ old ++ f place ∷ []) → new ≡ map f (with_load places l)) [
        | None ↦ λ h. h ∙ e
        | Some place ↦ λ h. h ∙ ap (λ l. l ++ f place ∷ []) e ∙ sym (map-append f places (place ∷ []))
      ] added

  pub load_behind : take (length old) new ≡ old
  load_behind =
      elim load as (λ l. MatchOption l (new ≡ old) (λ place. new ≡ old ++ f place ∷ []) → take (length old) new ≡ old) [
        | None ↦ λ h. ap (take (length old)) h ∙ take_all (length old) old (omega arith)
        | Some place ↦ λ h. ap (take (length old)) h ∙ take-append-le (length old) old (f place ∷ []) (omega arith)
            ∙ take_all (length old) old (omega arith)
      ] added

-- the letter of a byte of a letter
pub by_byte : (letter : Letter) → letter_of_byte (byte_of letter) ≡ Some letter
unfolding letter_of_byte
by_byte F = refl
by_byte H = refl
by_byte S = refl
by_byte T = refl
by_byte P = refl
by_byte Q = refl
by_byte C = refl
