use Rattle.std.proofs.Common.{◌∙◌, ◌*◌, ap, arith}
use Rattle.laws.specs.Integer.{read32, add-at-fits}
use Rattle.connectivity.specs.Share.{share, share-le}
use Rattle.connectivity.specs.Raised.{raised-none, raised-set, raised-next, raised-done}
use Rattle.connectivity.specs.Laid.{signed, signed_le}
use Rattle.connectivity.proofs.shares.share_row.Goals as goal

pub loop-x-init : goal.loop-x-init
loop-x-init c = raised-none _

pub share_of-share-requires : goal.share_of-share-requires
share_of-share-requires c = record { x_in_bounds = omega (arith, c.requires.ready); freed_value = c.when_is-freed.ensures }

pub signed-requires : goal.signed-requires
signed-requires c =
    let a = c.args in
    let share = c.share_of-share in
    rw (read32 share.result share.type_inv, share.ensures) (omega (arith, share-le a.counts.now (16 * a.e) a.own a.w c.loop-x.x, c.requires.ready.weight))

pub add_at-requires : goal.add_at-requires
add_at-requires c =
    let a = c.args in
    record {
      i_in_bounds = omega (arith, c.requires.ready, c.loop-x.invariant.len);
      sfits = add-at-fits _ c.signed.result _ _ c.signed.type_inv (raised-next c.loop-x.invariant) (c.signed.ensures ∙ ap (signed a.take) (read32 _ c.share_of-share.type_inv ∙ c.share_of-share.ensures))
          (omega (arith, c.requires.ready.weight, c.requires.ready.small c.loop-x.x c.loop-x-test.true, share-le a.counts.now (16 * a.e) a.own a.w c.loop-x.x, signed_le a.take (share a.counts.now (16 * a.e) a.own a.w c.loop-x.x)));
    }

pub loop-x-preserved : goal.loop-x-preserved
loop-x-preserved c =
    raised-set c.loop-x.invariant (omega (arith, c.requires.ready)) (read32 c.signed.result c.signed.type_inv ∙ c.signed.ensures ∙ ap (signed c.args.take) (read32 _ c.share_of-share.type_inv ∙ c.share_of-share.ensures)) c.add_at.ensures

pub shape_of-gains : goal.shape_of-gains
shape_of-gains c = c.loop-x.invariant.len

pub returns : goal.returns
returns c = raised-done (omega arith) c.loop-x.invariant
