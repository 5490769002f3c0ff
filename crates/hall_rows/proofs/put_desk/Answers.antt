-- `hall_rows::put_desk` meets its contract: the lead is the catalogue's number and a comma.
use Rattle.hall_rows.proofs.Desks.{lead_is}
use Rattle.hall_rows.proofs.put_desk.Goals as goal

pub put_sale-requires : goal.put_sale-requires
put_sale-requires c =
    let k = c.requires in
    record { sale = k.sale; ended = k.ended; fits = rw (lead_is _ _ k.few c.digit-number.ensures) at k.fits }

pub returns : goal.returns
returns c =
    let k = c.requires in
    λ a d f. rw (lead_is _ _ k.few c.digit-number.ensures) (c.put_sale.ensures a d (rw (lead_is _ _ k.few c.digit-number.ensures) at f))
