use Rattle.search_moves.specs.Lifting.{higher-none}
use Rattle.search_moves.proofs.peaks.raise_in_block.Goals as goal

pub returns-then-own-s : goal.returns-then-own-s
returns-then-own-s c = (higher-none c.args.peaks.now, λ e. absurd (c.if-own-s.true e))

pub returns : goal.returns
returns c = (c.raise_row.ensures.0, λ e. c.raise_row.ensures.1)
