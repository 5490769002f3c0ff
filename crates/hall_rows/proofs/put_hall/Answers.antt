-- `hall_rows::put_hall` meets its contract: the tables tell how many catalogues there are.
use Rattle.std.proofs.Common.{arith, sym}
use Rattle.hall_rows.proofs.put_hall.Goals as goal

pub put_desks-requires : goal.put_desks-requires
put_desks-requires c =
    let k = c.requires in
    let e = c.catalogues-count.ensures _ k.told in
    record {
      desks = k.desks;
      all = sym e;
      few = omega (arith, e, k.few);
      in_blocks = omega (arith, e, k.few, k.four.0);
      in-aboves = omega (arith, e, k.told.fits);
      in-pins = omega (arith, e, k.few, k.four.1);
      in-firsts = omega (arith, e, k.few, k.four.2);
      in-sizes = omega (arith, e, k.few, k.four.3);
      in-visited = omega (arith, e, k.few, k.four.4);
      ended = k.ended;
      fits = k.fits;
    }

pub returns : goal.returns
returns c = λ ds t d f. c.put_desks.ensures ds (sym (c.catalogues-count.ensures _ t)) d f
