-- `run_columns`: `serve` at the main entry's limits, and the promises that follow from what it serves. Assumes nothing.
use Rattle.std.proofs.Common.{arith}
use Rattle.model.specs.Catalogue.{main_limits}
use Rattle.guarantees.specs.Promises.{file-serves}
use Rattle.engine.proofs.columns_entry.run_columns.Goals as goal

pub serve-served-requires : goal.serve-served-requires
serve-served-requires c = record { lots-few = omega arith; sessions-few = omega arith; few = record { nets-few = omega arith; pins-few = omega arith } }

pub returns : goal.returns
returns c = file-serves main_limits (record { nets-few = omega arith; pins-few = omega arith }) (omega arith) _ _ _ _ _ c.serve-served.ensures.serves
