use Rattle.std.proofs.Common.{◌≡◌, ℕ, ◌-◌, ◌∙◌, Bool, List, None, length, take, drop, false, true, arith, sym}
use Rattle.tetra_bits.specs.Packed.{HasPad, packed}
use Rattle.tetra_bits.specs.declared.reading.Mark.{Mark}
use Rattle.tetra_bits.specs.declared.reading.Reading.{Reading}
use Rattle.tetra_audit.proofs.Testing.{plain_pad, plain_bits, plain_head, differs, agrees}
use Rattle.tetra_audit.proofs.fields.plain_fault.Goals as goal
use Rattle.tetra_audit.proofs.fields.plain_fault.Goals.{Else-is_err}

-- the reading that is claimed
unfoldable reading : List Bool → ℕ → Mark → Reading
reading bits metric mark = record { mark = mark; metric = metric; bits = bits; potentials = None }

no_pad : (c : Else-is_err) → HasPad (take (length c.args.bytes.now - 3) (drop 3 c.args.bytes.now)) c.len.result → ⊥
no_pad c h = let clash : true ≡ false = sym (c.unpack.ensures.pad.1 h) ∙ (sym c.is_err.ensures.value ∙ c.if-is_err.false) in cc

pub returns-then-is_err : goal.returns-then-is_err
unfolding reading
returns-then-is_err c =
    sym (plain_pad (reading c.args.bits.now c.args.metric c.args.mark) c.args.bytes.now (length c.args.bytes.now - 3) c.len.result (omega arith) c.len.ensures.value
    (c.unpack.ensures.pad.0 (sym c.is_err.ensures.value ∙ c.if-is_err.true)))

pub returns-then-ne : goal.returns-then-ne
unfolding reading
returns-then-ne c =
    sym (plain_bits (reading c.args.bits.now c.args.metric c.args.mark) c.args.bytes.now (length c.args.bytes.now - 3) c.len.result (omega arith) c.len.ensures.value
    (no_pad (goal.at.returns-then-ne c).Else-is_err)
    (differs c.as_slice.result.now (take (length c.args.bytes.now - 3) (drop 3 c.args.bytes.now)) (packed c.args.bits.now) (c.as_slice.ensures.value ∙ c.pack.ensures) (sym c.if-ne.true ∙ c.ne.ensures)))

pub returns : goal.returns
unfolding reading
returns c =
    c.head_fault.ensures ∙ sym (plain_head (reading c.args.bits.now c.args.metric c.args.mark) c.args.bytes.now (length c.args.bytes.now - 3) c.len.result (omega arith) c.len.ensures.value
    (no_pad (goal.at.returns c).Else-is_err)
    (agrees c.as_slice.result.now (take (length c.args.bytes.now - 3) (drop 3 c.args.bytes.now)) (packed c.args.bits.now) (c.as_slice.ensures.value ∙ c.pack.ensures) (sym c.if-ne.false ∙ c.ne.ensures)))
