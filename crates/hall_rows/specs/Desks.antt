-- The engine's tables of a hall: six of them, each with one array for each catalogue. Rests on sheet_rows' Tables. Assumes nothing.
use Rattle.std.specs.Prelude.{ℕ, ◌+◌, ◌<◌, ◌≤◌, ◌≡◌, List, [], ◌∷◌, ◌++◌, length, get_or}
use Rattle.model.specs.Report.{digits}
use Rattle.model.specs.Sale.{Sale}
use Rattle.model.specs.Hall.{no_desk}
use Rattle.model.specs.Sheets.{sheets, hall_sheets}
use Rattle.sheet_rows.specs.Tables.{Ended}

-- the sheets of the catalogue at place c fit
pub record DeskFits (room at c : ℕ) (blocks aboves pins firsts sizes visited : List ℕ) : Type 0 where
  pub few : c < 9
  pub sale : Sale
  pub ended : Ended sale blocks aboves pins firsts sizes visited
  pub fits : at + length (sheets (digits (c + 1) ++ (44 ∷ [])) sale) ≤ room

-- each catalogue's arrays hold its sale
abbrev pub HallEnded : List Sale → (blocks aboves pins firsts sizes visited : List (List ℕ)) → Type 0
HallEnded ds blocks aboves pins firsts sizes visited =
    (c : ℕ) → c < length ds → Ended (get_or ds c no_desk) (get_or blocks c []) (get_or aboves c []) (get_or pins c []) (get_or firsts c []) (get_or sizes c []) (get_or visited c [])

-- the first `count` sets are a catalogue's, and of the others the lots above hold 65,535
pub record Catalogues (count : ℕ) (aboves : List (List ℕ)) : Type 0 where
  pub fits : count ≤ length aboves
  pub used : (c : ℕ) → c < count → get_or (get_or aboves c []) 0 0 < 65535
  pub past : (c : ℕ) → count ≤ c → c < length aboves → get_or (get_or aboves c []) 0 0 ≡ 65535

-- the sheets of `count` such catalogues fit
pub record DesksFit (room : ℕ) (blocks aboves pins firsts sizes visited : List (List ℕ)) (count : ℕ) : Type 0 where
  pub desks : List Sale
  pub all : length desks ≡ count
  pub few : count ≤ 9
  pub in_blocks : count ≤ length blocks
  pub in-aboves : count ≤ length aboves
  pub in-pins : count ≤ length pins
  pub in-firsts : count ≤ length firsts
  pub in-sizes : count ≤ length sizes
  pub in-visited : count ≤ length visited
  pub ended : HallEnded desks blocks aboves pins firsts sizes visited
  pub fits : length (hall_sheets 1 desks) ≤ room

-- those of some hall of four sets of tables
pub record HallFits (room : ℕ) (blocks aboves pins firsts sizes visited : List (List ℕ)) : Type 0 where
  pub desks : List Sale
  pub few : length desks ≤ 4
  pub told : Catalogues (length desks) aboves
  pub four : (4 ≤ length blocks) × (4 ≤ length pins) × (4 ≤ length firsts) × (4 ≤ length sizes) × (4 ≤ length visited)
  pub ended : HallEnded desks blocks aboves pins firsts sizes visited
  pub fits : length (hall_sheets 1 desks) ≤ room
