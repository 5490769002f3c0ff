-- `rate`: the best partner's rating becomes the bound, and the tops follow.
use Rattle.std.proofs.Common.{length, length-set, refl, ◌∙◌, ap, arith}
use Rattle.best_contraction.specs.declared.join.Partner.{Partner}
use Rattle.best_contraction.proofs.join.rate.Goals as goal

pub best_partner-p-requires : goal.best_partner-p-requires
best_partner-p-requires c =
    let p = c.requires in record { tables_ok = p.tables_ok; blank = (p.blank.0, p.blank.2, p.blank.3, p.blank.4) }

pub set_bound-requires : goal.set_bound-requires
set_bound-requires c =
    let p = c.requires in
    (p.blank.1, p.blank.2, p.blank.3, p.tables_ok.vertices, p.topped)

pub highest-requires : goal.highest-requires
highest-requires c =
    let p = c.requires in
    let e = c.set_bound.ensures in
    (ap length e.0 ∙ length-set c.args.bounds.now c.args.u _ ∙ p.blank.1, omega (arith, p.blank), p.tables_ok.vertices, e.1)

pub returns : goal.returns
returns c =
    let q = c.best_partner-p.ensures in
    let e = c.set_bound.ensures in record { rates = record { into-is = refl; rating-is = ap (λ (p : Partner). p.rating) q.best; gone-is = ap (λ (p : Partner). p.vertex) q.best; bounds-are = e.0; high = c.highest.ensures }; blank_2 = q.clear; topped_2 = e.1 }
