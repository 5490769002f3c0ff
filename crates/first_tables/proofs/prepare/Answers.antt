-- `prepare`: blank tables, filled.
use Rattle.first_tables.specs.Prepare.{prepare-fills, prepared}
use Rattle.first_tables.proofs.prepare.Goals as goal

pub fill-requires : goal.fill-requires
fill-requires c =
    prepare-fills c.requires c.clear_rows.ensures c.clear_row.ensures c.clear_rows-2.ensures

pub returns : goal.returns
returns c =
    prepared c.requires c.clear_rows.ensures c.clear_row.ensures c.clear_rows-2.ensures c.fill.ensures
