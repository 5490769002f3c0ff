use Rattle.std.proofs.Common.{ℕ, refl}
use Rattle.std.proofs.lemmas.List.{length-replicate}
use Rattle.call_list.specs.Opened.{blank, can-begin, can-open, rows_fit}
use Rattle.sale.specs.Sale.{begins, can-run, sold}
use Rattle.sale.proofs.sell.Goals as goal

pub open-draft-requires : goal.open-draft-requires
open-draft-requires c = can-open c.requires.catalogued.prepared (blank 16384 refl) (length-replicate {A = ℕ} 16 0)

pub put_all_right-requires : goal.put_all_right-requires
put_all_right-requires c = rows_fit c.requires.catalogued.prepared (blank 16384 refl) c.open-draft.ensures

pub begin-start-requires : goal.begin-start-requires
begin-start-requires c = can-begin c.requires.catalogued.prepared

pub run_calls-course-requires : goal.run_calls-course-requires
run_calls-course-requires c =
    let can = c.requires in record { can_run = can-run can.catalogued (blank 16384 refl) c.open-draft.ensures c.put_all_right.ensures c.begin-start.ensures can.listed c.args.output.now can.spacious; at_value = c.begin-start.ensures.at-start }

pub returns : goal.returns
returns c =
    let out = c.args.output.now in
    λ limits lows old g l spacious.
    sold g (blank 16384 refl) c.open-draft.ensures c.put_all_right.ensures c.begin-start.ensures l out spacious
    (c.run_calls-course.ensures limits _ _ (begins g (blank 16384 refl) c.open-draft.ensures c.put_all_right.ensures c.begin-start.ensures l out spacious))
