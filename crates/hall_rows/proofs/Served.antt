-- From the promise of the hall's entry to that of the sheets: what is printed of a hall that was turned down, and of an accepted one. Rests on Left, on
-- hall_guarantees and on sheet_guarantees.
use Prim.Native.Nat.{ℕ, zero, suc, ◌-◌, ◌<◌, ◌≤◌}
use native.Mathlib.Omega.{arith}
use mathlib.Core.Path.{◌≡◌, refl, sym, ap, ◌∙◌, subst}
use mathlib.Core.Bool.{Bool, true, ◌&&◌}
use mathlib.Core.List.{List}
use lib.Dec.{leb}
use lib.ListN.{length, get_or, take}
use Rattle.laws.specs.Choice.{and_left, and_right}
use Rattle.model.specs.Catalogue.{main_limits}
use Rattle.model.specs.Sale.{Sale}
use Rattle.model.specs.Engine.{Outcome}
use Rattle.model.specs.Memory.{Tables, long_tables, Holds}
use Rattle.model.specs.Hall.{no_desk, desk_of, hall_after, fresh_desks}
use Rattle.model.specs.HallText.{HallBook, HallReading, hall_unread, in_catalogue, in_calls, hall_stopped, graphs, parse_hall, hall_outcome}
use Rattle.model.specs.HallDemand.{long_hall, HallLeft, SetsLeft}
use Rattle.model.specs.Sheets.{hall_sheets, hall_sheets_outcome, sheets_of_hall, Printed}
use Rattle.guarantees.specs.Reached.{Valid}
use Rattle.hall_guarantees.specs.Loading.{hall-opens}
use Rattle.hall_guarantees.specs.Fits.{graphs-length, hall-refused-in}
use Rattle.sheet_guarantees.specs.Fits.{ended-fine, hall-sheets-fit}
use Rattle.fields.specs.Wrote.{Wrote}
use Rattle.sheet_rows.proofs.Promise.{long-is, ended-lots}
use Rattle.sheet_rows.proofs.Printed.{report-in, report-is, prints}
use Rattle.hall_rows.specs.Desks.{HallEnded, Catalogues}
use Rattle.hall_rows.specs.Left.{LeftByHall}

-- the file was accepted
record ReadAs (file : List ℕ) : Type 0 where
  book : HallBook
  reads : parse_hall file ≡ in_calls book

module _ {file : List ℕ} {code bytes : ℕ} {report : List ℕ} {blocks aboves pins firsts sizes visited : List (List ℕ)} (l : LeftByHall file code bytes report blocks aboves pins firsts sizes visited) where
  abbrev told : Outcome
  told = hall_outcome (parse_hall file)

  pub line-in : bytes ≤ length report
  line-in = omega (arith, report-in l.worked.output, ap length l.report-is)

  -- ---- a hall turned down
  told_same : (code ≡ 0 → ⊥) → sheets_of_hall file ≡ told
  unfolding sheets_of_hall hall_sheets_outcome hall_outcome
  told_same q = go (parse_hall file) l.worked.code_is
    where
      go : (r : HallReading) → code ≡ (hall_outcome r).code → hall_sheets_outcome r ≡ hall_outcome r
      go hall_unread e = refl
      go (in_catalogue K r) e = refl
      go (hall_stopped p n) e = refl
      go (in_calls K) e = absurd (q e)

  pub line-fits : (room : ℕ) → 122880 ≤ room → (code ≡ 0 → ⊥) → bytes ≤ room
  line-fits room m q = omega (arith, m, l.worked.output.bytes, ap (λ (o : Outcome). length o.report) (told_same q), hall-sheets-fit file)

  pub turned_down : (code ≡ 0 → ⊥) → {old new : List ℕ} {end : ℕ} → Wrote old new 0 (take bytes report) end → Printed (sheets_of_hall file) old new code end
  turned_down q = prints (sheets_of_hall file) (l.worked.code_is ∙ ap (λ (o : Outcome). o.code) (sym (told_same q)))
      (ap (take bytes) (sym l.report-is) ∙ report-is l.worked.output ∙ ap (λ (o : Outcome). o.report) (sym (told_same q)))

  -- ---- no set is short
  abbrev all : ℕ → Bool
  all d = long_tables main_limits (l.old.sets d)

  abbrev out : Bool
  out = leb 60000 (length l.old.output)

  first_three : (out && all 1 && all 2 && all 3) ≡ true
  unfolding long_hall
  first_three = and_left (out && all 1 && all 2 && all 3) (all 4) l.long

  first_two : (out && all 1 && all 2) ≡ true
  first_two = and_left (out && all 1 && all 2) (all 3) first_three

  set_long : (c : ℕ) → c < 4 → all (suc c) ≡ true
  unfolding long_hall
  set_long zero k = and_right out (all 1) (and_left (out && all 1) (all 2) first_two)
  set_long (suc zero) k = and_right (out && all 1) (all 2) first_two
  set_long (suc (suc zero)) k = and_right (out && all 1 && all 2) (all 3) first_three
  set_long (suc (suc (suc zero))) k = and_right (out && all 1 && all 2 && all 3) (all 4) l.long
  set_long (suc (suc (suc (suc c)))) k = absurd (omega arith)

  -- ---- an accepted hall
  module _ (q : code ≡ 0) where
    read_as : ReadAs file
    unfolding hall_outcome
    read_as = go (parse_hall file) refl l.worked.code_is
      where
        go : (r : HallReading) → parse_hall file ≡ r → code ≡ (hall_outcome r).code → ReadAs file
        go hall_unread e c = absurd (omega (arith, q, c))
        go (in_catalogue K r) e c = absurd (omega (arith, q, c))
        go (hall_stopped p n) e c = absurd (omega (arith, q, c, (hall-refused-in file p n e).0))
        go (in_calls K) e c = record { book = K; reads = e }

    abbrev K : HallBook
    K = read_as.book

    pub desks : List Sale
    desks = hall_after K.limit (fresh_desks (graphs K)) K.calls

    sets-left : SetsLeft K l.old.sets l.new.sets
    sets-left = subst (λ (r : HallReading). HallLeft r l.old.sets l.new.sets) read_as.reads l.worked.tables

    valid : (c : ℕ) → c < length desks → Valid main_limits (get_or desks c no_desk)
    unfolding desks
    valid = (ended-fine file K read_as.reads).0.valid

    counted : length desks ≡ K.announced
    unfolding desks
    counted = (ended-fine file K read_as.reads).1

    graphs-are : length (graphs K) ≡ K.announced
    graphs-are = graphs-length K.books ∙ (hall-opens file K read_as.reads).all_there

    pub desks-few : length desks ≤ 4
    desks-few = omega (arith, counted, (hall-opens file K read_as.reads).announced.few)

    holds : (c : ℕ) → c < length desks → Holds (get_or desks c no_desk) (l.old.sets (suc c)) (l.new.sets (suc c))
    unfolding desks
    holds c k =
        let down : suc c - 1 ≡ c = omega arith in
        let stood = (sets-left.demand.stands (suc c) (omega arith, omega arith)).tables in
        subst (λ (a : Sale). Holds a (l.old.sets (suc c)) (l.new.sets (suc c))) (ap (λ (x : ℕ). get_or desks x no_desk) down)
        (subst (Holds (desk_of desks (suc c)) (l.old.sets (suc c))) (sym (sets-left.told (suc c) (omega arith, omega (arith, counted, graphs-are)))) stood)

    pub hall-ended : HallEnded desks blocks aboves pins firsts sizes visited
    hall-ended c k =
        let few : c < 4 = omega (arith, desks-few) in
        let y = l.arrays c few in
        record {
          promised = record {
            limits = main_limits;
            few = omega arith;
            narrow = omega arith;
            valid = valid c k;
            old = l.old.sets (suc c);
            new = l.new.sets (suc c);
            long = set_long c few;
            holds = holds c k;
            lots-are = refl;
            buyers-are = refl;
            blocks-are = y.blocks-are;
            aboves-are = y.aboves-are;
            pins-are = y.pins-are;
            firsts-are = y.firsts-are;
            sizes-are = y.sizes-are;
            visited-are = y.visited-are;
          };
          aboves-blank = l.aboves-blank c few;
          firsts-blank = l.firsts-blank c few;
        }

    -- a set without a catalogue keeps what it held
    pub hall-counted : Catalogues (length desks) aboves
    hall-counted = record {
      fits = omega (arith, desks-few, l.four);
      used = λ c k. (ended-lots (hall-ended c k)).used 0 (omega (arith, (valid c k).ranges.vertices-low));
      past = λ c k u.
          let few : c < 4 = omega (arith, l.four) in
          ap (λ (t : List ℕ). get_or t 0 0) (sym (l.arrays c few).aboves-are)
          ∙ ap (λ (t : Tables). get_or t.aboves 0 0) (sets-left.kept (suc c) (omega (arith, counted, graphs-are)))
          ∙ l.aboves-blank c few 0 (omega (arith, (long-is main_limits (l.old.sets (suc c)) (set_long c few)).aboves));
    }

    told-sheets : sheets_of_hall file ≡ record { code = 0; report = hall_sheets 1 desks }
    unfolding sheets_of_hall hall_sheets_outcome desks
    told-sheets = ap hall_sheets_outcome read_as.reads

    pub sheets-in : (room : ℕ) → 122880 ≤ room → length (hall_sheets 1 desks) ≤ room
    sheets-in room m = omega (arith, m, ap (λ (o : Outcome). length o.report) told-sheets, hall-sheets-fit file)

    pub served : {old new : List ℕ} {end : ℕ} → Wrote old new 0 (hall_sheets 1 desks) end → Printed (sheets_of_hall file) old new 0 end
    served = prints (sheets_of_hall file) (ap (λ (o : Outcome). o.code) (sym told-sheets)) (ap (λ (o : Outcome). o.report) (sym told-sheets))
