-- Request M-113, buyers' sheets: what is printed of a sale and of a hall after all calls, what holds of every sheet, and what the product returns and
-- leaves. Rests on Memory and HallText. Assumes nothing.
use Rattle.std.specs.Prelude.{ℕ, suc, ◌-◌, ◌≤◌, ◌<◌, ◌≡◌, Bool, true, false, cond, ◌&&◌, List, [], ◌∷◌, ◌++◌, ◌⊎◌, eqb, leb, length}
use Rattle.laws.specs.Choice.{one}
use Rattle.laws.specs.Fold.{sum_over, any, All}
use Rattle.laws.specs.Sum.{fold_to}
use Rattle.model.specs.Catalogue.{Limits, Net, Hypergraph, vertices, in_sale}
use Rattle.model.specs.Measure.{representative, connectivity}
use Rattle.model.specs.Machine.{State}
use Rattle.model.specs.Sale.{Sale, opened}
use Rattle.model.specs.Grammar.{Reading, unread, reading, stopped, parse}
use Rattle.model.specs.Report.{digits, row}
use Rattle.model.specs.Engine.{after, Outcome, outcome}
use Rattle.model.specs.Memory.{net, Written}
use Rattle.model.specs.Hall.{hall_after, fresh_desks}
use Rattle.model.specs.HallText.{HallReading, hall_unread, in_catalogue, in_calls, hall_stopped, graphs, parse_hall, hall_outcome}

-- ---- a sheet
-- AT,session of stand,lot
pub record At : Type 0 where
  pub session : ℕ
  pub lot : ℕ

-- a lot is marked with a buyer
abbrev pub is_marked : Net → ℕ → Bool
is_marked e v = any e.pins (λ x. eqb x v)

module _ (h : Hypergraph) (s : State) where
  -- the session of a lot's stand
  abbrev pub stands_in : ℕ → ℕ
  stands_in v = s.block (representative s.stack v)

  -- the lots marked with a buyer whose stand is in session t, by lot number
  unfoldable pub ats_in : Net → ℕ → List At
  ats_in e t = fold_to (vertices h) (λ out v. cond (is_marked e v && eqb (stands_in v) t) (out ++ (record { session = t; lot = v } ∷ [])) out) []

  -- all of them, "by session and then lot number"
  unfoldable pub ats : Net → List At
  ats e = fold_to h.blocks (λ out t. out ++ ats_in e t) []

-- ---- as bytes; each line has the lead, which is empty for a sale by itself
unfoldable pub at_rows : List ℕ → List At → List ℕ
at_rows lead [] = []
at_rows lead (x ∷ xs) = lead ++ row "AT" (digits x.session ∷ digits x.lot ∷ []) ++ at_rows lead xs

-- SHEET,buyer,visited and its lots: the buyers from number i on
unfoldable pub sheet_rows : List ℕ → Hypergraph → State → ℕ → List Net → List ℕ
sheet_rows lead h s i [] = []
sheet_rows lead h s i (e ∷ es) =
    lead ++ row "SHEET" (digits i ∷ digits (connectivity h s.stack s.block e) ∷ [])
    ++ at_rows lead (ats h s e)
    ++ sheet_rows lead h s (suc i) es

-- the sheets of a sale
unfoldable pub sheets : List ℕ → Sale → List ℕ
sheets lead a = sheet_rows lead a.graph a.state 1 a.graph.nets

-- "a hall's lines follow catalogue by catalogue, led by its number and a comma": the desks from number c on
unfoldable pub hall_sheets : ℕ → List Sale → List ℕ
hall_sheets c [] = []
hall_sheets c (a ∷ ds) = sheets (digits c ++ (44 ∷ [])) a ++ hall_sheets (suc c) ds

-- ---- what holds of every sheet
-- how often lot v is printed
unfoldable pub times_printed : List At → ℕ → ℕ
times_printed l v = sum_over l (λ x. one (eqb x.lot v))

-- how many different sessions are printed
unfoldable pub different : List At → ℕ
different [] = 0
different (x ∷ xs) = cond (any xs (λ y. eqb y.session x.session)) (different xs) (suc (different xs))

-- one line goes before another: by session and then lot number
abbrev pub Before : At → At → Type 0
Before x y = (x.session < y.session) ⊎ ((x.session ≡ y.session) × (x.lot < y.lot))

-- each line before all that follow it
abbrev pub InOrder : List At → Type 0
InOrder [] = Unit {0}
InOrder (x ∷ xs) = All xs (Before x) × InOrder xs

-- the sheet of buyer e
pub record SheetHolds (a : Sale) (e : ℕ) : Type 0 where
  -- "every mark of a lot still in the sale is printed exactly once, no other is"
  pub each-once : (v : ℕ) → times_printed (ats a.graph a.state (net a.graph e)) v ≡ one (is_marked (net a.graph e) v)
  pub in-sale : All (ats a.graph a.state (net a.graph e)) (λ x. in_sale a.graph x.lot ≡ true)
  pub where-it-stands : All (ats a.graph a.state (net a.graph e)) (λ x. x.session ≡ stands_in a.graph a.state x.lot)
  pub in_order : InOrder (ats a.graph a.state (net a.graph e))
  -- "the number of different sessions printed equals the visited count in the engine's report"
  pub as-visited : different (ats a.graph a.state (net a.graph e)) ≡ connectivity a.graph a.state.stack a.state.block (net a.graph e)

-- those of all buyers
abbrev pub SheetsHold : Sale → Type 0
SheetsHold a = (e : ℕ) → 1 ≤ e → e ≤ length a.graph.nets → SheetHolds a e

-- ---- what the product returns and writes, where the lent output is not short: "a sale turned down at loading prints the engine's NO line only"
unfoldable pub sheets_outcome : Limits → Reading → Outcome
sheets_outcome limits unread = outcome limits unread
sheets_outcome limits (stopped q n) = outcome limits (stopped q n)
sheets_outcome limits (reading k) = record { code = 0; report = sheets [] (after limits (opened k.graph) k.calls) }

unfoldable pub hall_sheets_outcome : HallReading → Outcome
hall_sheets_outcome hall_unread = hall_outcome hall_unread
hall_sheets_outcome (in_catalogue K r) = hall_outcome (in_catalogue K r)
hall_sheets_outcome (hall_stopped q n) = hall_outcome (hall_stopped q n)
hall_sheets_outcome (in_calls K) = record { code = 0; report = hall_sheets 1 (hall_after K.limit (fresh_desks (graphs K)) K.calls) }

unfoldable pub sheets_of : Limits → List ℕ → Outcome
sheets_of limits file = sheets_outcome limits (parse limits file)

unfoldable pub sheets_of_hall : List ℕ → Outcome
sheets_of_hall file = hall_sheets_outcome (parse_hall file)

-- ---- what it leaves: the lent output has 122,880 bytes, "enough for every sale"; a shorter one is 8, tested first, and nothing is written
pub record Printed (o : Outcome) (old new : List ℕ) (code written : ℕ) : Type 0 where
  pub code_is : code ≡ o.code
  pub output : Written o.report old new written

pub record NotPrinted (old new : List ℕ) (code written : ℕ) : Type 0 where
  pub code_is : code ≡ 8
  pub nothing : written ≡ 0
  pub kept : new ≡ old

abbrev pub Prints : Bool → Outcome → (old new : List ℕ) → (code written : ℕ) → Type 0
Prints false o old new code written = NotPrinted old new code written
Prints true o old new code written = Printed o old new code written

abbrev pub SheetsServe : Limits → List ℕ → (old new : List ℕ) → (code written : ℕ) → Type 0
SheetsServe limits file old new code written = Prints (leb 122880 (length old)) (sheets_of limits file) old new code written

abbrev pub HallSheetsServe : List ℕ → (old new : List ℕ) → (code written : ℕ) → Type 0
HallSheetsServe file old new code written = Prints (leb 122880 (length old)) (sheets_of_hall file) old new code written
