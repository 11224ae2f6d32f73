-- What is read by one table behind another.
use Rattle.std.proofs.Common.{◌≡◌, ◌+◌, ℤ, List, [], ◌∷◌, ◌++◌, take, drop, cond, refl, ap, sym, ◌∙◌}
use Rattle.std.proofs.lemmas.List.{append_assoc, drop-drop}
use Rattle.tetra_bursts.specs.Table.{is_part, total, subslot}
use Rattle.tetra_bursts.specs.Slot.{read}
use Rattle.tetra_bursts.specs.Fields.{sub_first, sub_second}
use Rattle.tetra_bursts.specs.declared.table.Part.{Part}
use Rattle.tetra_bursts.specs.declared.table.Part.TheVariants.{First, Second}
use Rattle.tetra_bursts.specs.declared.table.Span.{Span}

pub read_both : (part : Part) (a b : List Span) (values : List ℤ)
    → read part (a ++ b) values ≡ read part a values ++ read part b (drop (total a) values)
unfolding read
read_both part [] b values = refl
read_both part (s ∷ a) b values =
    let here = cond (is_part part s.part) (take s.count values) [] in
    let behind : drop (total a) (drop s.count values) ≡ drop (s.count + total a) values = drop-drop (total a) s.count values in
    ap (λ xs. here ++ xs) (read_both part a b (drop s.count values))
    ∙ sym (append_assoc here (read part a (drop s.count values)) (read part b (drop (total a) (drop s.count values))))
    ∙ ap (λ xs. (here ++ read part a (drop s.count values)) ++ read part b xs) behind

pub first_of_two : (soft : List ℤ) → read First (subslot First) soft ≡ sub_first soft
unfolding read sub_first
first_of_two soft = refl

pub second_of_two : (soft : List ℤ) → read Second (subslot Second) (drop 255 soft) ≡ sub_second soft
unfolding sub_second read
second_of_two soft = sym (read_both Second (subslot First) (subslot Second) soft)
