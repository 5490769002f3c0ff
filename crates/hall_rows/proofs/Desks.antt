-- Sheets of catalogues, one after another, and the lead. Rests on fields' laws of written text.
use Prim.Native.Nat.{ℕ, zero, suc, ◌+◌, ◌<◌, ◌≤◌}
use native.Mathlib.Omega.{arith}
use native.Mathlib.Decide.{dec_lt}
use native.Mathlib.Numerals.{add-one}
use mathlib.Core.Path.{◌≡◌, refl, sym, ap, ◌∙◌}
use mathlib.Core.List.{List, [], ◌∷◌, ◌++◌}
use lib.ListN.{length, get_or, drop}
use lib.Seq.{drop-cons}
use Rattle.model.specs.Report.{digits}
use Rattle.model.specs.Sale.{Sale}
use Rattle.model.specs.Hall.{no_desk}
use Rattle.model.specs.Sheets.{sheets, hall_sheets}
use Rattle.text.proofs.Digits.{digits-small}
use Rattle.fields.specs.Wrote.{Wrote, Remains}
use Rattle.fields.proofs.Laws.{remains-room, remains-more}
use Rattle.hall_rows.specs.Desks.{Catalogues}

-- ---- the lead
pub lead_is : (c d : ℕ) → c < 9 → d ≡ 49 + c → digits (c + 1) ++ (44 ∷ []) ≡ d ∷ 44 ∷ []
lead_is c d l e =
    let same : 48 + (c + 1) ≡ d = omega (arith, e) in
    ap (λ (t : List ℕ). t ++ (44 ∷ [])) (digits-small (c + 1) (omega arith)) ∙ ap (λ (x : ℕ). x ∷ 44 ∷ []) same

-- ---- how many catalogues there are: a search from the start
module _ {count : ℕ} {aboves : List (List ℕ)} (u : Catalogues count aboves) (c : ℕ) (k : c ≤ count) where
  pub count-found : get_or (get_or aboves c []) 0 0 ≡ 65535 → c ≡ count
  count-found q = go (dec_lt c count)
    where
      go : Dec (c < count) → c ≡ count
      go (yes m) = absurd (omega (arith, u.used c m))
      go (no m) = omega arith

  pub count-more : c < length aboves → (get_or (get_or aboves c []) 0 0 ≡ 65535 → ⊥) → c + 1 ≤ count
  count-more long q = go (dec_lt c count)
    where
      go : Dec (c < count) → c + 1 ≤ count
      go (yes m) = omega arith
      go (no m) = absurd (q (u.past c (omega arith) long))

  pub count-all : length aboves ≤ c → c ≡ count
  count-all long = omega (arith, u.fits)

-- ---- the catalogues
drop-end : (l : List Sale) (i : ℕ) → length l ≤ i → drop i l ≡ []
drop-end [] zero k = refl
drop-end [] (suc i) k = refl
drop-end (x ∷ l) zero k = absurd (omega arith)
drop-end (x ∷ l) (suc i) k = drop-end l i (omega arith)

module _ (ds : List Sale) where
  abbrev pub text : ℕ → List ℕ
  text c = sheets (digits (c + 1) ++ (44 ∷ [])) (get_or ds c no_desk)

  step : (c : ℕ) → c < length ds → hall_sheets (c + 1) (drop c ds) ≡ text c ++ hall_sheets (c + 1 + 1) (drop (c + 1) ds)
  unfolding hall_sheets
  step c k =
      let cut : drop c ds ≡ get_or ds c no_desk ∷ drop (c + 1) ds = drop-cons ds c no_desk k ∙ ap (λ (j : ℕ). get_or ds c no_desk ∷ drop j ds) (sym (add-one c)) in
      ap (hall_sheets (c + 1)) cut ∙ ap (λ (j : ℕ). text c ++ hall_sheets j (drop (c + 1) ds)) (sym (add-one (c + 1)))

  pub desks-end : (c : ℕ) → length ds ≤ c → hall_sheets (c + 1) (drop c ds) ≡ []
  unfolding hall_sheets
  desks-end c k = ap (hall_sheets (c + 1)) (drop-end ds c k)

  module _ (c : ℕ) (k : c < length ds) {l : List ℕ} {at : ℕ} {all u : List ℕ} {q : ℕ} (room : at + length all ≤ length l) (w : Remains l at all u q (hall_sheets (c + 1) (drop c ds))) where
    pub desks-room : q + length (text c) ≤ length u
    desks-room = remains-room room (text c) (hall_sheets (c + 1 + 1) (drop (c + 1) ds)) (rw (step c k) at w)

    pub desks-more : {u' : List ℕ} {r : ℕ} → Wrote u u' q (text c) r → Remains l at all u' r (hall_sheets (c + 1 + 1) (drop (c + 1) ds))
    desks-more x = remains-more room (text c) (hall_sheets (c + 1 + 1) (drop (c + 1) ds)) (rw (step c k) at w) x
