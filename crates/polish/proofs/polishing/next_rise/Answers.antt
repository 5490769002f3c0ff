use Rattle.std.proofs.Common.{sym, ◌∙◌}
use Rattle.best_move.specs.Open.{gain_in}
use Rattle.polish.specs.Polishing.{rise-none, rise-yes, rise-no, rise-in}
use Rattle.polish.proofs.polishing.next_rise.Goals as goal

pub rises-requires : goal.rises-requires
rises-requires c =
    let a = c.args in
    let ok = c.requires.search_ok in
    rise-in a.n a.k _ _ _ c.best_open.ensures.chosen.within c.in-Some.is ok.n-to ok.k-to ok.in-gains

pub returns-then-rises : goal.returns-then-rises
returns-then-rises c =
    let a = c.args in record { chosen = rise-yes (gain_in a.gains.now) a.n a.k _ _ c.best_open.ensures.chosen c.in-Some.is (sym c.rises.ensures ∙ c.if-rises.true); kept = c.best_open.ensures.kept }

pub returns-in-None : goal.returns-in-None
returns-in-None c =
    let a = c.args in
    let found = c.best_open.ensures in record { chosen = rise-none (gain_in a.gains.now) a.n a.k found.chosen c.in-None.is; kept = found.kept }

pub returns-else-rises : goal.returns-else-rises
returns-else-rises c =
    let a = c.args in record { chosen = rise-no (gain_in a.gains.now) a.n a.k _ _ c.best_open.ensures.chosen c.in-Some.is (sym c.rises.ensures ∙ c.if-rises.false); kept = c.best_open.ensures.kept }
