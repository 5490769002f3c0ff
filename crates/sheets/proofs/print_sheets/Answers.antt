-- `sheets::print_sheets` meets its contract: the engine on this crate's own memory, and what it left handed over.
use Rattle.std.proofs.Common.{refl}
use Rattle.sheets.proofs.Served.{own, left-of}
use Rattle.sheets.proofs.print_sheets.Goals as goal

pub hand_over-requires : goal.hand_over-requires
hand_over-requires c = record { file = c.args.file.now; left = left-of c.args.file.now own _ refl c.run_columns-ran.ensures.serves; roomy = c.requires }

pub returns : goal.returns
returns c = c.hand_over.ensures c.args.file.now (left-of c.args.file.now own _ refl c.run_columns-ran.ensures.serves)
