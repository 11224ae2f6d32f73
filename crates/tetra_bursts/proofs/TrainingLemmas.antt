-- Where the training sequences stand.
use Rattle.std.proofs.Common.{◌≡◌, ℤ, List, take, drop, ◌∙◌}
use Rattle.std.proofs.lemmas.List.{append-nil}
use Rattle.tetra_bursts.specs.Table.{normal_down, sync_down, normal_up}
use Rattle.tetra_bursts.specs.Slot.{read}
use Rattle.tetra_bursts.specs.declared.table.Part.TheVariants.{Training}
use Rattle.tetra_bursts.specs.declared.table.Train.TheVariants.{N, P, Y}
use Rattle.tetra_bursts.proofs.ReadLemmas.{read_both}

pub n_down : (soft : List ℤ) → read (Training N) (normal_down N) soft ≡ take 22 (drop 244 soft)
unfolding read
n_down soft = read_both (Training N) (take 4 (normal_down N)) (drop 4 (normal_down N)) soft ∙ append-nil (take 22 (drop 244 soft))

pub p_down : (soft : List ℤ) → read (Training P) (normal_down P) soft ≡ take 22 (drop 244 soft)
unfolding read
p_down soft = read_both (Training P) (take 4 (normal_down P)) (drop 4 (normal_down P)) soft ∙ append-nil (take 22 (drop 244 soft))

pub y_down : (soft : List ℤ) → read (Training Y) sync_down soft ≡ take 38 (drop 214 soft)
unfolding read
y_down soft = read_both (Training Y) (take 4 sync_down) (drop 4 sync_down) soft ∙ append-nil (take 38 (drop 214 soft))

pub n_up : (soft : List ℤ) → read (Training N) (normal_up N) soft ≡ take 22 (drop 254 soft)
unfolding read
n_up soft = read_both (Training N) (take 3 (normal_up N)) (drop 3 (normal_up N)) soft ∙ append-nil (take 22 (drop 254 soft))

pub p_up : (soft : List ℤ) → read (Training P) (normal_up P) soft ≡ take 22 (drop 254 soft)
unfolding read
p_up soft = read_both (Training P) (take 3 (normal_up P)) (drop 3 (normal_up P)) soft ∙ append-nil (take 22 (drop 254 soft))
