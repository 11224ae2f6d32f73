use Rattle.std.proofs.Common.{refl, arith}
use Rattle.tetra_scramble.proofs.Table.{entry_at, next_register}
use Rattle.tetra_scramble.proofs.register.next_32.Goals as goal

pub returns : goal.returns
returns c e n holds =
    let r = c.args.register in
    next_register e n _ _ _ _ _ _ _ _
    (entry_at e n r 0 28 0 _ _ holds refl refl c.added_by.ensures)
    (entry_at e n r 1 24 4 _ _ holds refl refl c.added_by-2.ensures)
    (entry_at e n r 2 20 8 _ _ holds refl refl c.added_by-3.ensures)
    (entry_at e n r 3 16 12 _ _ holds refl refl c.added_by-4.ensures)
    (entry_at e n r 4 12 16 _ _ holds refl refl c.added_by-5.ensures)
    (entry_at e n r 5 8 20 _ _ holds refl refl c.added_by-6.ensures)
    (entry_at e n r 6 4 24 _ _ holds refl refl c.added_by-7.ensures)
    (entry_at e n r 7 0 28 _ _ holds refl (omega arith) c.added_by-8.ensures)
