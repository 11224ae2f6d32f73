-- The reading of a coded field from what the decoder answers.
use Rattle.std.proofs.Common.{◌≡◌, ℕ, ◌-◌, Bool, List, ℤ, Some, refl, ap, ◌∙◌}
use Rattle.tetra_bits.specs.Parts.{InParts}
use Rattle.tetra_bits.specs.declared.reading.Mark.{Mark}
use Rattle.tetra_bits.specs.declared.reading.Reading.{Reading}
use Rattle.tetra_bits.specs.lemmas.Best.{best_is_first}
use Rattle.tetra_parity.specs.Marks.{mark_of}
use Rattle.tetra_puncture.specs.Best.{IsFirstLeast, best_of, message_metric}
use Rattle.tetra_puncture.specs.Plan.{CodePlan}
use Rattle.tetra_puncture.specs.ToGo.{potentials_of}
use Rattle.tetra_channels.specs.Channels.{Channel}
use Rattle.tetra_channels.specs.Fields.{coded_reading}

pub is_coded_reading : (channel : Channel) (soft : List ℤ) (mark : Mark) (metric : ℕ) (bits : List Bool)
    (rows : List (List ℕ))
    → mark ≡ mark_of channel.parity bits → metric ≡ message_metric channel.plan soft bits
    → bits ≡ best_of channel.plan soft → rows ≡ potentials_of channel.plan soft
    → ◌≡◌ {A = Reading} (record { mark = mark; metric = metric; bits = bits; potentials = Some rows })
    (coded_reading channel soft)
unfolding coded_reading
is_coded_reading channel soft mark metric bits rows em et eb er = rw (em, et, eb, er) refl

-- the same in parts
pub coded_in_parts : (channel : Channel) (soft : List ℤ) (mark : Mark) (metric : ℕ) (bits : List Bool)
    (rows : List (List ℕ))
    → mark ≡ mark_of channel.parity bits → metric ≡ message_metric channel.plan soft bits
    → bits ≡ best_of channel.plan soft → rows ≡ potentials_of channel.plan soft
    → InParts (coded_reading channel soft) (record { mark = mark; metric = metric }) bits rows
unfolding coded_reading
coded_in_parts channel soft mark metric bits rows em et eb er =
    record {
      mark = em ∙ ap (mark_of channel.parity) eb;
      metric = et ∙ ap (message_metric channel.plan soft) eb;
      bits = eb;
      rows = er;
    }

-- the first-least message of a plan ranks before all others
pub best_ranks : (p : CodePlan) (soft : List ℤ) (bits : List Bool) → bits ≡ best_of p soft → IsFirstLeast p soft bits
unfolding best_of
best_ranks p soft bits e = rw e (best_is_first (p.steps - 4) (message_metric p soft))
