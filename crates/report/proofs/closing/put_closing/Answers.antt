-- `report::closing::put_closing` meets its contract: the line of the totals, the lines of the vertices, the lines of the nets.
use Rattle.std.proofs.Common.{arith}
use Rattle.model.specs.Grammar.{bytes}
use Rattle.model.specs.Report.{row}
use Rattle.fields.proofs.Laws.{wrote-append}
use Rattle.report.proofs.Climb.{ended-vertices, ended-nets}
use Rattle.report.proofs.Rows.{closing-parts, closing-length}
use Rattle.report.proofs.closing.put_closing.Goals as goal

pub put_row-p-requires : goal.put_row-p-requires
unfolding row bytes
put_row-p-requires c = omega (arith, closing-length c.requires.ended, c.requires.fits)

pub put_lots-q-requires : goal.put_lots-q-requires
unfolding row bytes
put_lots-q-requires c =
    let k = c.requires in
    record { h = k.h; s = k.s; shown = ended-vertices k.ended; fits = omega (arith, c.put_row-p.ensures.ends, c.put_row-p.auto.out, closing-length k.ended, k.fits) }

pub put_nets-requires : goal.put_nets-requires
unfolding row bytes
put_nets-requires c =
    let k = c.requires in
    let lots = c.put_lots-q.ensures k.h k.s (ended-vertices k.ended) in
    record {
      h = k.h;
      s = k.s;
      shown = ended-nets k.ended;
      fits = omega (arith, c.put_row-p.ensures.ends, c.put_row-p.auto.out, lots.ends, c.put_lots-q.auto.out, closing-length k.ended, k.fits);
    }

pub returns : goal.returns
unfolding row bytes
returns c = λ h s t.
    let k = c.requires in
    let long = closing-length k.ended in
    let lots = c.put_lots-q.ensures k.h k.s (ended-vertices k.ended) in
    let first = wrote-append (omega (arith, k.fits)) c.put_row-p.ensures (c.put_lots-q.ensures h s (ended-vertices t)) in
    rw (closing-parts t) (wrote-append (omega (arith, first.ends, lots.ends, c.put_row-p.ensures.ends, k.fits)) first (c.put_nets.ensures h s (ended-nets t)))
