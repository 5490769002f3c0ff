-- Demand 1 in a hall (M-112), "a refused call changes nothing", as a statement about lent memory: what stands of each catalogue after a refused call line is
-- what stood before it, and call lines with or without the refused ones among them leave the same in every set of tables, in every entry. Rests on
-- HallDemand. Assumes nothing.
use Rattle.std.specs.Prelude.{ℕ, zero, suc, ◌≤◌, ◌≡◌, true, List, [], ◌∷◌, length, take, drop}
use Rattle.model.specs.Catalogue.{Hypergraph}
use Rattle.model.specs.Sale.{Sale}
use Rattle.model.specs.Report.{refusal}
use Rattle.model.specs.Memory.{Tables}
use Rattle.model.specs.Demand.{Standing, Stands}
use Rattle.model.specs.Hall.{Led, led_turn, led_to, hall_answers, fresh_desks}
use Rattle.model.specs.HallText.{HallBook, in_calls, graphs, parse_hall}
use Rattle.model.specs.HallDemand.{Numbered, EachSays, HallMemory, long_hall, HallServes}

-- ---- a list of call lines without its refused ones
-- l before the list, where q is no refusal
unfoldable pub unless_led : ℕ → Led → List Led → List Led
unless_led zero l ls = l ∷ ls
unless_led (suc q) l ls = ls

-- the call lines of a list that are accepted, from the desks on, each by the desks that the one before it left
unfoldable pub accepted_led_from : ℕ → List Sale → List Led → List Led
accepted_led_from limit ds [] = []
accepted_led_from limit ds (l ∷ ls) = unless_led (refusal (led_turn limit ds l).answer) l (accepted_led_from limit (led_to limit ds l) ls)

-- a list from loading on without its refused call lines
abbrev pub accepted_led : ℕ → List Hypergraph → List Led → List Led
accepted_led limit hs calls = accepted_led_from limit (fresh_desks hs) calls

-- ---- what is the same
-- the closing reports in an output with so many bytes written: what stands past the answers' lines
abbrev pub closings_in : ℕ → List Hypergraph → List Led → List ℕ → ℕ → List ℕ
closings_in limit hs calls output written = drop (length (hall_answers limit (fresh_desks hs) calls)) (take written output)

-- every entry of every set of tables, and the closing reports with their totals
pub record SameHall (limit : ℕ) (hs : List Hypergraph) (calls calls' : List Led) (new new' : HallMemory) (written written' : ℕ) : Type 0 where
  pub sets : (c : ℕ) → 1 ≤ c → new'.sets c ≡ new.sets c
  pub closings : closings_in limit hs calls' new'.output written' ≡ closings_in limit hs calls new.output written

-- ---- the statement
pub record RefusedChangeNothingInHall : Type 0 where
  -- what stands of each catalogue after a refused call line, of whichever catalogue, is what stood of it before
  pub call-leaves : (limit : ℕ) (old : ℕ → Tables) (ds : List Sale) (l : Led) (x y : ℕ → Standing)
      → EachSays (λ c a z. Stands (old c) a z) ds x → EachSays (λ c a z. Stands (old c) a z) (led_to limit ds l) y
      → 1 ≤ refusal (led_turn limit ds l).answer → (c : ℕ) → Numbered (length ds) c → y c ≡ x c
  -- two files of the same limit and catalogues whose call lines, without the refused ones, are the same: two calls of the hall's entry on equal lent memory
  pub files :
      (file file' : List ℕ) (K K' : HallBook) (old new new' : HallMemory) (code written code' written' : ℕ)
      → parse_hall file ≡ in_calls K → parse_hall file' ≡ in_calls K' → long_hall old ≡ true
      → K'.limit ≡ K.limit → graphs K' ≡ graphs K → accepted_led K.limit (graphs K) K'.calls ≡ accepted_led K.limit (graphs K) K.calls
      → HallServes file old new code written → HallServes file' old new' code' written'
      → SameHall K.limit (graphs K) K.calls K'.calls new new' written written'
