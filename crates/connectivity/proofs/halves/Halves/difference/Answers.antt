-- `difference`: both halves are read as signed numbers, and their difference is as small as the larger of them.
use Rattle.std.proofs.Common.{ℕ, ◌^◌, ◌<◌, ◌≡◌, ap, ap₂, ◌∙◌, arith, ℤ, pos, ◌-ℤ◌, w32, SFits, of_z, to_z, to_z-of_z}
use Rattle.laws.specs.Integer.{read32, fits32, nat_abs-diff}
use Rattle.connectivity.proofs.halves.Halves.difference.Goals as goal

module _ (f d : ℕ) (lf : f < 2 ^ 31) (ld : d < 2 ^ 31) where
  is : to_z w32 f -ℤ to_z w32 d ≡ pos f -ℤ pos d
  is = ap₂ ◌-ℤ◌ (read32 (pos f) lf) (read32 (pos d) ld)

  small : SFits w32 (pos f -ℤ pos d)
  small = fits32 (pos f -ℤ pos d) (omega (arith, nat_abs-diff f d 2147483647 (omega arith) (omega arith)))

pub overflow_sub-result : goal.overflow_sub-result
overflow_sub-result c =
    rw (is c.args.self.freed c.args.self.drawn c.requires.0 c.requires.1) (small c.args.self.freed c.args.self.drawn c.requires.0 c.requires.1)

pub returns : goal.returns
returns c =
    ap (λ (z : ℤ). to_z w32 (of_z w32 z)) (is c.args.self.freed c.args.self.drawn c.requires.0 c.requires.1)
    ∙ to_z-of_z (small c.args.self.freed c.args.self.drawn c.requires.0 c.requires.1)
