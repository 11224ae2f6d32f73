-- Settings are valid in at most one way.
use Rattle.std.specs.Prelude.{ℕ, slice_index_or}
use Rattle.std.specs.Coded.{Unit-prop}
use Rattle.std.proofs.Props.{props}
use Rattle.tetra_settings.specs.Validity.{HasMode, IsInRanges, IsValid}
use Rattle.tetra_settings.specs.declared.types.Dir.{Dir}
use Rattle.tetra_settings.specs.declared.types.Dir.TheVariants.{Dl, Ul}
use Rattle.tetra_settings.specs.declared.types.Mode.{Mode}
use Rattle.tetra_settings.specs.declared.types.Mode.TheVariants.{Sig, Cb, D72, D48, D24, Speech}
use Rattle.tetra_settings.specs.declared.types.Settings.{Settings}

HasMode-prop : (dir : Dir) (mode : Mode) → IsProp (HasMode dir mode)
HasMode-prop Dl Sig = Unit-prop
HasMode-prop Dl Cb = λ x y. absurd x
HasMode-prop Dl D72 = Unit-prop
HasMode-prop Dl (D48 span) = Unit-prop
HasMode-prop Dl (D24 span) = Unit-prop
HasMode-prop Dl Speech = Unit-prop
HasMode-prop Ul mode = Unit-prop

pub IsValid-prop : (settings : Settings) → IsProp (IsValid settings)
IsValid-prop settings x y =
    let ranges_prop : IsProp (IsInRanges settings) = hlevel props in
    let modes_prop : IsProp ((i : ℕ) → HasMode settings.dir (slice_index_or settings.modes i Sig)) = hlevel (props, HasMode-prop) in
    λ i. record {
      ranges = ranges_prop x.ranges y.ranges i;
      modes = modes_prop x.modes y.modes i;
    }
