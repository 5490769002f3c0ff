use Rattle.std.proofs.Common.{ℕ, arith, ◌∙◌, get_or}
use Rattle.model.specs.Hall.{no_desk}
use Rattle.fields.proofs.Laws.{remains-none}
use Rattle.hall_rows.proofs.Desks.{desks-end, desks-room, desks-more}
use Rattle.hall_rows.proofs.put_desks.Goals as goal

pub put_desk-p-requires : goal.put_desk-p-requires
put_desk-p-requires c =
    let k = c.requires in
    let i : ℕ = c.loop-c.c in
    record {
      few = omega (arith, k.few);
      sale = get_or k.desks i no_desk;
      ended = k.ended i (omega arith);
      fits = desks-room k.desks i (omega arith) (omega (arith, k.fits)) (c.loop-c.invariant.2 k.desks k.all k.ended k.fits);
    }

pub loop-c-preserved : goal.loop-c-preserved
loop-c-preserved c = (
  omega arith,
  c.put_desk-p.auto.out ∙ c.loop-c.invariant.1,
  λ ds e d f. desks-more ds c.loop-c.c (omega (arith, e)) (omega (arith, f)) (c.loop-c.invariant.2 ds e d f) (c.put_desk-p.ensures (get_or ds c.loop-c.c no_desk) (d c.loop-c.c (omega (arith, e))) (desks-room ds c.loop-c.c (omega (arith, e)) (omega (arith, f)) (c.loop-c.invariant.2 ds e d f))),
)

pub returns : goal.returns
returns c = λ ds e d f. remains-none (rw (desks-end ds c.loop-c.c (omega (arith, e))) at (c.loop-c.invariant.2 ds e d f))
