-- The lent output of 122,880 bytes is enough for the sheets of every sale and every hall (sheets-fit, hall-sheets-fit), and what holds of a sheet holds of
-- all that an accepted file prints (file-sheets, hall-file-sheets). Rests on Holds and hall_guarantees. Assumes nothing.
use Prim.Native.Nat.{ℕ, zero, suc, ◌+◌, ◌-◌, ◌*◌, ◌≤◌, ◌<◌}
use native.Mathlib.Omega.{arith}
use Rattle.std.specs.Prelude.{◌≡◌, true, get_or}
use Rattle.std.proofs.Math.Path.{refl}
use Rattle.std.proofs.Common.{sym, ap, ◌∙◌, subst}
use mathlib.Core.List.{List, [], ◌∷◌, ◌++◌}
use Rattle.std.proofs.Math.ListN.{length, length-append}
use Rattle.laws.specs.Fold.{sum_over, All, all_map}
use Rattle.model.specs.Catalogue.{Limits, main_limits, Net, Hypergraph, vertices, in_sale}
use Rattle.model.specs.Measure.{connectivity}
use Rattle.model.specs.Machine.{State}
use Rattle.model.specs.Sale.{Sale, opened, marks_in}
use Rattle.model.specs.Grammar.{bytes, Book, Reading, unread, reading, stopped, parse}
use Rattle.model.specs.Report.{digits, row}
use Rattle.model.specs.Engine.{after, outcome}
use Rattle.model.specs.Hall.{no_desk, desk_of, marks, hall_after, fresh_desks}
use Rattle.model.specs.HallText.{HallBook, HallReading, hall_unread, in_catalogue, in_calls, hall_stopped, graphs, parse_hall, hall_outcome}
use Rattle.model.specs.HallDemand.{Numbered, AllLed}
use Rattle.model.specs.Sheets.{At, ats, at_rows, sheet_rows, sheets, hall_sheets, SheetsHold, sheets_outcome, hall_sheets_outcome, sheets_of, sheets_of_hall}
use Rattle.guarantees.specs.Numbers.{digits_le}
use Rattle.guarantees.specs.Clumps.{Within}
use Rattle.guarantees.specs.Calls.{Legal}
use Rattle.guarantees.specs.Ranges.{Few, Ranges}
use Rattle.guarantees.specs.AnswerBounds.{vertices-in, blocks-in}
use Rattle.guarantees.specs.Reached.{Valid, reached}
use Rattle.guarantees.specs.ReportFits.{row-length, visited-in}
use Rattle.guarantees.specs.Refusals.{refused-in, no_le}
use Rattle.hall_guarantees.specs.Limit.{HallFine, hall-fine}
use Rattle.hall_guarantees.specs.Loading.{Opened, hall-opens, hall-start, fresh-length}
use Rattle.hall_guarantees.specs.Half.{hall-length}
use Rattle.hall_guarantees.specs.Fits.{graphs-length, all_of, hall-refused-in}
use Rattle.sheet_guarantees.specs.Holds.{Told, ats-told, stand-in, lines-le, sheets-hold}

-- ---- lines with a lead of at most two bytes
at-rows-le : (lead : List ℕ) (l : List At) → length lead ≤ 2 → All l (λ x. (x.session ≤ 16) × (x.lot ≤ 1024)) → length (at_rows lead l) ≤ 13 * length l
unfolding at_rows sum_over bytes
at-rows-le lead [] two a = omega arith
at-rows-le lead (x ∷ l) two a = omega (
  arith,
  length-append (lead ++ row "AT" (digits x.session ∷ digits x.lot ∷ [])) (at_rows lead l),
  length-append lead (row "AT" (digits x.session ∷ digits x.lot ∷ [])),
  row-length "AT" (digits x.session ∷ digits x.lot ∷ []),
  digits_le 1 x.session (omega (arith, a.0.0)),
  digits_le 3 x.lot (omega (arith, a.0.1)),
  at-rows-le lead l two a.1,
)

module _ (limits : Limits) (small : limits.vertex_limit ≤ 1024) (narrow : limits.block_limit ≤ 16) (a : Sale) (k : Valid limits a) (lead : List ℕ) (two : length lead ≤ 2) where
  sheet-rows-le : (i : ℕ) (es : List Net) → i + length es ≤ 1025 → All es (Within (vertices a.graph)) → All es (λ e. All e.pins (λ x. in_sale a.graph x ≡ true))
      → length (sheet_rows lead a.graph a.state i es) ≤ 16 * length es + 13 * sum_over es (λ e. length e.pins)
  unfolding sheet_rows sum_over bytes
  sheet-rows-le i [] l w t = omega arith
  sheet-rows-le i (e ∷ es) l w t =
      let h : Hypergraph = a.graph in
      let s : State = a.state in
      let first : List ℕ = row "SHEET" (digits i ∷ digits (connectivity h s.stack s.block e) ∷ []) in
      omega (
        arith,
        length-append (lead ++ first ++ at_rows lead (ats h s e)) (sheet_rows lead h s (suc i) es),
        length-append (lead ++ first) (at_rows lead (ats h s e)),
        length-append lead first,
        two,
        row-length "SHEET" (digits i ∷ digits (connectivity h s.stack s.block e) ∷ []),
        digits_le 3 i (omega (arith, l)),
        digits_le 1 (connectivity h s.stack s.block e) (omega (arith, visited-in limits small narrow h k.ranges s e)),
        at-rows-le lead (ats h s e) two (all_map (ats h s e) (Told h s k.held.legal e w.0 t.0) _ (λ x r. (omega (arith, r.1, (stand-in h s k.held.legal e w.0 t.0 x.lot r.0).1, blocks-in limits small narrow h k.ranges), omega (arith, r.2, vertices-in limits small narrow h k.ranges))) (ats-told h s k.held.legal e w.0 t.0)),
        lines-le h s k.held.legal e w.0 t.0,
        sheet-rows-le (suc i) es (omega arith) w.1 t.1,
      )

  pub sheets-le : length (sheets lead a) ≤ 16 * length a.graph.nets + 13 * marks_in a.graph
  unfolding sheets marks_in
  sheets-le = sheet-rows-le 1 a.graph.nets (omega (arith, k.ranges.nets-high)) k.ranges.loaded.nets-in k.ranges.loaded.nets-sale

hall-sheets-le : (c : ℕ) (ds : List Sale) → c + length ds ≤ 9 → All ds (Valid main_limits) → length (hall_sheets c ds) ≤ 16 * sum_over ds (λ a. length a.graph.nets) + 13 * marks ds
unfolding hall_sheets sum_over marks
hall-sheets-le c [] l k = omega arith
hall-sheets-le c (a ∷ ds) l k = omega (
  arith,
  length-append (sheets (digits c ++ (44 ∷ [])) a) (hall_sheets (suc c) ds),
  sheets-le main_limits (omega arith) (omega arith) a k.0 (digits c ++ (44 ∷ [])) (omega (arith, length-append (digits c) (44 ∷ []), digits_le 0 c (omega (arith, l)))),
  hall-sheets-le (suc c) ds (omega arith) k.1,
)

-- ---- a sale's file
module _ (limits : Limits) (small : limits.vertex_limit ≤ 1024) (narrow : limits.block_limit ≤ 16) (few : Few limits) (file : List ℕ) where
  left-valid : (k : Book) → parse limits file ≡ reading k → Valid limits (after limits (opened k.graph) k.calls)
  left-valid k e = reached limits few k.graph (record { file = file; book = k; loads = e; graph_is = refl }) k.calls

  pub file-sheets : (k : Book) → parse limits file ≡ reading k → SheetsHold (after limits (opened k.graph) k.calls)
  file-sheets k e = sheets-hold limits _ (left-valid k e)

  pub sheets-fit : length (sheets_of limits file).report ≤ 122880
  unfolding sheets_of sheets_outcome outcome marks_in
  sheets-fit = go (parse limits file) refl
    where
      go : (r : Reading) → parse limits file ≡ r → length (sheets_outcome limits r).report ≤ 122880
      go unread e = omega (arith, no_le limits 2 1 (omega arith) (omega arith))
      go (stopped q n) e = let b = refused-in limits file q n e in omega (arith, no_le limits q n (omega (arith, b.1)) b.2)
      go (reading k) e =
          let t = left-valid k e in
          omega (arith, sheets-le limits small narrow (after limits (opened k.graph) k.calls) t [] (omega arith), t.ranges.nets-high, t.ranges.marks-high)

-- ---- a hall's file
module _ (file : List ℕ) (K : HallBook) (e : parse_hall file ≡ in_calls K) where
  abbrev pub ended : List Sale
  ended = hall_after K.limit (fresh_desks (graphs K)) K.calls

  pub ended-fine : HallFine K.limit ended × (length ended ≡ K.announced)
  ended-fine =
      let g = hall-opens file K e in
      let m : length (fresh_desks (graphs K)) ≡ K.announced = fresh-length (graphs K) ∙ graphs-length K.books ∙ g.all_there in
      (hall-fine K.limit (fresh_desks (graphs K)) K.calls (subst (λ (i : ℕ). AllLed i K.calls) (sym m) g.leads) (hall-start K g), hall-length K.limit (fresh_desks (graphs K)) K.calls ∙ m)

  pub hall-file-sheets : (c : ℕ) → Numbered K.announced c → SheetsHold (desk_of ended c)
  hall-file-sheets c n = sheets-hold main_limits _ (ended-fine.0.valid (c - 1) (omega (arith, n.0, n.1, ended-fine.1)))

  hall-run-le : length (hall_sheets 1 ended) ≤ 122880
  hall-run-le = omega (
    arith,
    hall-sheets-le 1 ended (omega (arith, ended-fine.1, (hall-opens file K e).announced.few)) (all_of (Valid main_limits) ended no_desk ended-fine.0.valid),
    ended-fine.0.nets-few,
    ended-fine.0.marks-few,
  )

pub hall-sheets-fit : (file : List ℕ) → length (sheets_of_hall file).report ≤ 122880
unfolding sheets_of_hall hall_sheets_outcome hall_outcome
hall-sheets-fit file = go (parse_hall file) refl
  where
    go : (r : HallReading) → parse_hall file ≡ r → length (hall_sheets_outcome r).report ≤ 122880
    go hall_unread e = omega (arith, no_le main_limits 2 1 (omega arith) (omega arith))
    go (in_catalogue K r) e = omega (arith, no_le main_limits 2 1 (omega arith) (omega arith))
    go (hall_stopped q n) e = let b = hall-refused-in file q n e in omega (arith, no_le main_limits q n (omega (arith, b.1)) b.2)
    go (in_calls K) e = hall-run-le file K e
