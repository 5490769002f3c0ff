-- `stretches::stretch_in` meets its contract.
use Rattle.std.proofs.Common.{arith, refl, sym, ◌-◌}
use Rattle.stretches.proofs.Handing.{alike, short_none, zero-none, high-none, past-none, part-some}
use Rattle.stretches.proofs.stretch_in.Goals as goal

pub returns-then-not-long : goal.returns-then-not-long
returns-then-not-long c =
    let a = c.args in
    alike (sym (short_none a.table.now a.firsts.now a.sizes.now a.long a.e c.if-not-long.true)) (refl, refl)

pub returns-then-e-lt1 : goal.returns-then-e-lt1
returns-then-e-lt1 c =
    let a = c.args in
    alike (sym (zero-none a.table.now a.firsts.now a.sizes.now a.long a.e c.if-e-lt1.true)) (refl, refl)

pub returns-then-e-gt1024 : goal.returns-then-e-gt1024
returns-then-e-gt1024 c =
    let a = c.args in
    alike (sym (high-none a.table.now a.firsts.now a.sizes.now a.long a.e c.if-e-gt1024.true)) (refl, refl)

pub bounds-firsts-x : goal.bounds-firsts-x
bounds-firsts-x c =
    omega (arith, c.requires.f-len c.if-not-long.false)

pub overflow_cast-first : goal.overflow_cast-first
overflow_cast-first c =
    omega (arith, c.shared_slice_known-1.given (c.args.e - 1))

pub bounds-sizes-x : goal.bounds-sizes-x
bounds-sizes-x c =
    omega (arith, c.requires.c_len c.if-not-long.false)

pub overflow_cast-size : goal.overflow_cast-size
overflow_cast-size c =
    omega (arith, c.shared_slice_known-2-1.given (c.args.e - 1))

pub overflow_add-first : goal.overflow_add-first
overflow_add-first c =
    omega (arith, c.shared_slice_known-1.given (c.args.e - 1), c.shared_slice_known-2-1.given (c.args.e - 1))

pub returns-then-table-first : goal.returns-then-table-first
returns-then-table-first c =
    let a = c.args in
    alike (sym (past-none a.table.now a.firsts.now a.sizes.now a.long a.e c.if-table-first.true)) (refl, refl)

pub returns : goal.returns
returns c =
    let a = c.args in
    alike (sym (part-some a.table.now a.firsts.now a.sizes.now a.long a.e c.if-not-long.false c.if-e-lt1.false c.if-e-gt1024.false c.if-table-first.false)) (refl, refl)
