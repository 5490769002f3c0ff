-- `shift_at`: the weight, or its opposite, is small beside the entry.
use Rattle.std.proofs.Common.{pos, arith, ap, ◌∙◌, refl}
use Rattle.laws.specs.Integer.{read32, add-at-fits}
use Rattle.connectivity.specs.Raised.{at}
use Rattle.connectivity.specs.Laid.{signed, signed_le}
use Rattle.connectivity.specs.Touch.{pos-abs}
use Rattle.connectivity.proofs.shift_at.Goals as goal

pub signed-requires : goal.signed-requires
signed-requires c = rw (read32 c.from.result c.from.type_inv, c.from.ensures) (omega (arith, pos-abs c.args.w, c.ranges.w.fits))

pub add_at-requires : goal.add_at-requires
add_at-requires c =
    let e = c.signed.ensures ∙ ap (signed c.args.take) (read32 _ c.from.type_inv ∙ c.from.ensures) in
    record { i_in_bounds = c.requires.i_in_bounds; sfits = add-at-fits (at c.args.g.now c.args.i) c.signed.result (at c.args.g.now c.args.i) (signed c.args.take (pos c.args.w)) c.signed.type_inv refl e (omega (arith, c.requires.i_bound, pos-abs c.args.w, c.ranges.w.fits, signed_le c.args.take (pos c.args.w))) }

pub returns : goal.returns
returns c =
    let e = c.signed.ensures ∙ ap (signed c.args.take) (read32 _ c.from.type_inv ∙ c.from.ensures) in
    rw (← e, ← read32 c.signed.result c.signed.type_inv) c.add_at.ensures
