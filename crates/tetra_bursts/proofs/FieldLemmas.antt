-- What is read of the fields of undamaged bursts.
use Rattle.std.proofs.Common.{◌≤◌, ◌⊎◌, inl, inr, ◌∷◌, cond, arith, ◌≡◌, ℕ, ◌+◌, Bool, true, false, ℤ, List, [], ◌++◌, Option, Some, None, is_some, length, take, drop, refl, sym, ◌∙◌}
use Rattle.std.proofs.lemmas.List.{append-nil, length-append, length-take-le, length-drop}
use Rattle.tetra_bits.specs.Undamaged.{IsUndamaged}
use Rattle.tetra_bursts.specs.Table.{is_part, total, count_of, normal_down, sync_down, normal_up, control_up, subslot, silence}
use Rattle.tetra_bursts.specs.Slot.{read}
use Rattle.tetra_bursts.specs.Bursts.{blocks_down, synchronisation, blocks_up, downlink, normal_down_slot, sync_down_slot, normal_up_slot, control_up_slot, sub_bits, subs_table}
use Rattle.tetra_bursts.specs.Fields.{halves, first_half, second_half, sync_field, aach_field, aach_sync, sub_first, sub_second, FieldsHaveSizes}
use Rattle.tetra_bursts.specs.Arrives.{KeepsNormalDown, KeepsSyncDown, KeepsNormalUp, KeepsControlUp, WrittenArrives, NormalDownIsRead, SyncDownIsRead, NormalUpIsRead, FieldsArrive}
use Rattle.tetra_bursts.specs.declared.table.Span.{Span}
use Rattle.tetra_bursts.specs.declared.table.Part.{Part}
use Rattle.tetra_bursts.specs.declared.table.Part.TheVariants.{First, Second, Aach, Sync}
use Rattle.tetra_bursts.specs.declared.table.Train.{Train}
use Rattle.tetra_bursts.specs.declared.table.Train.TheVariants.{N, P, Y}
use Rattle.tetra_bursts.proofs.Arriving.{taken, sent_bits, all_taken, both_taken, part_arrives, written_keeps}
use Rattle.tetra_bursts.proofs.ReadLemmas.{read_both, second_of_two}

pub written_arrives : WrittenArrives
unfolding downlink normal_down_slot sync_down_slot normal_up_slot control_up_slot
written_arrives = record {
  normal_down = λ train first aach second. written_keeps (blocks_down first aach second) _ (normal_down train);
  sync_down = λ sync aach half. written_keeps (synchronisation sync aach half) _ sync_down;
  normal_up = λ train first second. written_keeps (blocks_up first second) [] (normal_up train);
  control_up = λ first second. written_keeps (blocks_up (sub_bits first) (sub_bits second)) [] (subs_table (is_some first) (is_some second));
}

-- a field in one span
pub whole : (bits : List Bool) (values : List ℤ) (n : ℕ) → length bits ≡ n → IsUndamaged (taken bits 0 n ++ []) values → IsUndamaged bits values
whole bits values n l h = rw (append-nil (taken bits 0 n), all_taken bits n l) at h

-- and in two
two : (bits : List Bool) (values : List ℤ) (m n : ℕ) → length bits ≡ m + n → IsUndamaged (taken bits 0 m ++ (taken bits m n ++ [])) values → IsUndamaged bits values
two bits values m n l h = rw (append-nil (taken bits m n), both_taken bits m n l) at h

normal_down_arrives : (train : Train) (first aach second : List Bool) (received : List ℤ)
    → length first ≡ 216 → length aach ≡ 30 → length second ≡ 216
    → KeepsNormalDown train first aach second received → NormalDownIsRead first aach second received
unfolding first_half second_half aach_field sent_bits read
normal_down_arrives N first aach second received l1 la l2 h = record {
  block_1 = whole first _ 216 l1 (part_arrives (blocks_down first aach second) First (normal_down N) received refl h);
  access = two aach _ 14 16 la (part_arrives (blocks_down first aach second) Aach (normal_down N) received refl h);
  block_2 = whole second _ 216 l2 (part_arrives (blocks_down first aach second) Second (normal_down N) received refl h);
}
normal_down_arrives P first aach second received l1 la l2 h = record {
  block_1 = whole first _ 216 l1 (part_arrives (blocks_down first aach second) First (normal_down P) received refl h);
  access = two aach _ 14 16 la (part_arrives (blocks_down first aach second) Aach (normal_down P) received refl h);
  block_2 = whole second _ 216 l2 (part_arrives (blocks_down first aach second) Second (normal_down P) received refl h);
}
normal_down_arrives Y first aach second received l1 la l2 h = record {
  block_1 = whole first _ 216 l1 (part_arrives (blocks_down first aach second) First (normal_down Y) received refl h);
  access = two aach _ 14 16 la (part_arrives (blocks_down first aach second) Aach (normal_down Y) received refl h);
  block_2 = whole second _ 216 l2 (part_arrives (blocks_down first aach second) Second (normal_down Y) received refl h);
}

-- block 2 stands at the same positions in both downlink bursts
same_second : (received : List ℤ) → read Second sync_down received ≡ read Second (normal_down N) received
unfolding read
same_second received =
    read_both Second (take 6 sync_down) (drop 6 sync_down) received ∙ sym (read_both Second (take 6 (normal_down N)) (drop 6 (normal_down N)) received)

sync_down_arrives : (sync aach half : List Bool) (received : List ℤ)
    → length sync ≡ 120 → length aach ≡ 30 → length half ≡ 216
    → KeepsSyncDown sync aach half received → SyncDownIsRead sync aach half received
unfolding second_half aach_sync sync_field sent_bits
sync_down_arrives sync aach half received ls la lh h = record {
  synchronisation = whole sync _ 120 ls (part_arrives (synchronisation sync aach half) Sync sync_down received refl h);
  access = whole aach _ 30 la (part_arrives (synchronisation sync aach half) Aach sync_down received refl h);
  block_2 = rw (same_second received) at (whole half (read Second sync_down received) 216 lh (part_arrives (synchronisation sync aach half) Second sync_down received refl h));
}

normal_up_arrives : (train : Train) (first second : List Bool) (received : List ℤ) → length first ≡ 216 → length second ≡ 216
    → KeepsNormalUp train first second received → NormalUpIsRead first second received
unfolding first_half second_half sent_bits read
normal_up_arrives N first second received l1 l2 h = record {
  block_1 = whole first _ 216 l1 (part_arrives (blocks_up first second) First (normal_up N) received refl h);
  block_2 = whole second _ 216 l2 (part_arrives (blocks_up first second) Second (normal_up N) received refl h);
}
normal_up_arrives P first second received l1 l2 h = record {
  block_1 = whole first _ 216 l1 (part_arrives (blocks_up first second) First (normal_up P) received refl h);
  block_2 = whole second _ 216 l2 (part_arrives (blocks_up first second) Second (normal_up P) received refl h);
}
normal_up_arrives Y first second received l1 l2 h = record {
  block_1 = whole first _ 216 l1 (part_arrives (blocks_up first second) First (normal_up Y) received refl h);
  block_2 = whole second _ 216 l2 (part_arrives (blocks_up first second) Second (normal_up Y) received refl h);
}

first_sub_arrives : (bits : List Bool) (second : Option (List Bool)) (received : List ℤ)
    → length bits ≡ 168 → KeepsControlUp (Some bits) second received → IsUndamaged bits (sub_first received)
unfolding sub_first sent_bits read
first_sub_arrives bits None received l h =
    two bits _ 84 84 l (part_arrives (blocks_up bits []) First (subs_table true false) received refl h)
first_sub_arrives bits (Some other) received l h =
    two bits _ 84 84 l (part_arrives (blocks_up bits other) First (subs_table true true) received refl h)

behind_silence : (received : List ℤ) → read Second (subs_table false true) received ≡ sub_second received
unfolding read
behind_silence received = read_both Second silence (subslot Second) received ∙ second_of_two received

second_sub_arrives : (first : Option (List Bool)) (bits : List Bool) (received : List ℤ)
    → length bits ≡ 168 → KeepsControlUp first (Some bits) received → IsUndamaged bits (sub_second received)
unfolding sub_second sent_bits
second_sub_arrives None bits received l h =
    rw (behind_silence received) at (two bits (read Second (subs_table false true) received) 84 84 l (part_arrives (blocks_up [] bits) Second (subs_table false true) received refl h))
second_sub_arrives (Some other) bits received l h =
    two bits _ 84 84 l (part_arrives (blocks_up other bits) Second (subs_table true true) received refl h)

pub fields_arrive : FieldsArrive
fields_arrive = record {
  normal_down = normal_down_arrives;
  sync_down = sync_down_arrives;
  normal_up = normal_up_arrives;
  first_sub = first_sub_arrives;
  second_sub = second_sub_arrives;
}

one_size : (b : Bool) (n : ℕ) (values : List ℤ) → n ≤ length values → length (cond b (take n values) []) ≡ cond b n 0
one_size true n values h = length-take-le n values h
one_size false n values h = refl

read_size : (part : Part) (table : List Span) (values : List ℤ) → total table ≤ length values → length (read part table values) ≡ count_of part table
unfolding read
read_size part [] values h = refl
read_size part (s ∷ rest) values h =
    let left = length-drop s.count values in
    let behind : length (read part rest (drop s.count values)) ≡ count_of part rest = read_size part rest (drop s.count values) (omega arith) in
    length-append (cond (is_part part s.part) (take s.count values) []) (read part rest (drop s.count values))
    ∙ rw (one_size (is_part part s.part) s.count values (omega arith), behind) refl

half_size : (part : Part) (dl : Bool) (soft : List ℤ) → length soft ≡ 510 → (part ≡ First) ⊎ (part ≡ Second) → length (read part (halves dl) soft) ≡ 216
half_size part true soft h (inl e) = rw e (read_size First (normal_down N) soft (omega arith))
half_size part true soft h (inr e) = rw e (read_size Second (normal_down N) soft (omega arith))
half_size part false soft h (inl e) = rw e (read_size First (normal_up N) soft (omega arith))
half_size part false soft h (inr e) = rw e (read_size Second (normal_up N) soft (omega arith))

pub field_sizes : FieldsHaveSizes
unfolding first_half second_half sync_field aach_field aach_sync sub_first sub_second
field_sizes soft h = record {
  block_1 = λ dl. half_size First dl soft h (inl refl);
  block_2 = λ dl. half_size Second dl soft h (inr refl);
  synchronisation = read_size Sync sync_down soft (omega arith);
  access = read_size Aach (normal_down N) soft (omega arith);
  access_sync = read_size Aach sync_down soft (omega arith);
  subslot_1 = read_size First control_up soft (omega arith);
  subslot_2 = read_size Second control_up soft (omega arith);
}
