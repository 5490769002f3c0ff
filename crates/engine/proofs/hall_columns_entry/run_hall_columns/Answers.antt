-- `run_hall_columns`: `serve_hall`, without the number of lots. Assumes nothing.
use Rattle.engine.proofs.hall_columns_entry.run_hall_columns.Goals as goal

pub serve_hall-served-requires : goal.serve_hall-served-requires
serve_hall-served-requires c = tt

pub returns : goal.returns
returns c = c.serve_hall-served.ensures.serves
