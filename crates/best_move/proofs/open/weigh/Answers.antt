use Rattle.std.proofs.Common.{◌∙◌, refl}
use Rattle.laws.specs.Integer.{read32}
use Rattle.best_move.specs.OpenLaw.{read64, weighed}
use Rattle.best_move.proofs.open.weigh.Goals as goal

pub returns : goal.returns
returns c =
    λ before h.
    weighed c.args.may c.args.here c.args.gain c.args.lead before c.requires c.ranges.gain h
    (read64 _ c.from-worth.type_inv ∙ c.from-worth.ensures ∙ read32 _ c.ranges.gain.sfits) (read64 c.args.lead.top c.struct_told-1.given.1.0.1)
    refl refl c.choose.ensures (read64 _ c.choose-2.type_inv ∙ c.choose-2.ensures)
