-- `best_with`: the row is made right, and its first block with room taken.
use Rattle.std.proofs.Common.{subst, ℕ, ◌-◌, ◌+◌, get_or, arith}
use Rattle.index.specs.Row.{written_as}
use Rattle.index.specs.Indexed.{row_for, row_on, kept_row}
use Rattle.best_move.specs.Open.{Leads, best_in_row, gain_in, may_go}
use Rattle.best_move.proofs.open.best_with.Goals as goal

pub returns : goal.returns
returns c =
    let a = c.args in
    let own = c.from in
    let row = c.put_right.ensures in record {
      leads = λ b h.
          subst (λ (x : ℕ). Leads c.first_open.result (best_in_row (gain_in a.gains.now) (λ b. may_go (get_or a.loads.now (b - 1) 0) (get_or a.blocks.now a.i 0) x (get_or a.ceilings.now (b - 1) 0) b) (a.i + 1) a.k b))
          c.from-2.ensures
          (subst (λ (x : ℕ). Leads c.first_open.result (best_in_row (gain_in a.gains.now) (λ b. may_go (get_or a.loads.now (b - 1) 0) x c.from-2.result (get_or a.ceilings.now (b - 1) 0) b) (a.i + 1) a.k b))
          own.ensures (c.first_open.ensures b h));
      kept = kept_row (row_for a.gains.now a.blocks.now a.k a.i) (omega arith) row;
    }

pub put_right-requires : goal.put_right-requires
put_right-requires c =
    let ok = c.requires in
    (record { x-to = ok.row.i-to; k-to = ok.row.k-to; in-index = omega (arith, ok.in-index); in-gains = omega (arith, ok.row.in-gains) }, ok.in_blocks, ok.own.1)

pub first_open-requires : goal.first_open-requires
first_open-requires c =
    let a = c.args in
    let ok = c.requires in
    let own = c.from in
    let row = c.put_right.ensures in
    record {
      rows = record { x-to = ok.row.i-to; k-to = ok.row.k-to; in-index = omega (arith, ok.in-index, row.len); in-gains = omega (arith, ok.row.in-gains) };
      from = omega (arith, own.ensures, ok.own.0);
      to = omega (arith, own.ensures, ok.own.1);
      holds = (written_as (row_on a.gains.now a.blocks.now a.k a.i own.result own.ensures (λ z. omega (arith, z, own.ensures, ok.own.0))) row).here;
    }
